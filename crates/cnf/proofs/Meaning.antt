-- The call is right: what it answers, and that the words that it leaves in the buffer translate the circuit.
-- Assumes nothing.
use Prim.Native.Nat.{ℕ, ◌≤◌, ◌<◌}
use native.Mathlib.Omega.{arith}
use mathlib.Core.Path.{◌≡◌, refl, sym, ap, ◌∙◌}
use mathlib.Core.Bool.{Bool, true, false, cond}
use mathlib.Core.List.{List}
use lib.ListN.{length, take, drop}
use lib.Seq.{take-append_seam, drop-append_seam}
use lib.Dec.{eqb, leb}
use borrow.Author.Tests.{eqb-true, leb-true, leb-false, le-leb, lt-leb}
use Rattle.edge.specs.declared.answer.Given.{Given}
use Rattle.edge.specs.Answers.{done, no_room, told, or_else, value_or}
use Rattle.edge.proofs.Answers.{none_of_two, goes_past}
use Rattle.rows.specs.Rows.{AllRows}
use Rattle.graph.specs.Graph.{Lent, Sized}
use Rattle.graph.specs.Check.{check_call}
use Rattle.graph.specs.WellFormed.{WellFormed}
use Rattle.graph.proofs.WellFormed.{exact}
use Rattle.graph.proofs.Exactly.{room_answers, check_answers, names_refused, own_answers}
use Rattle.root_marks.specs.Roots.{roots_of}
use Rattle.std.specs.Prelude.{Result}
use Rattle.edge.specs.declared.answer.Refusal.{Refusal}
use Rattle.gate_clauses.specs.Shapes.{words}
use Rattle.cnf.specs.Clauses.{cnf_of}
use Rattle.cnf.specs.Decode.{decoded}
use Rattle.cnf.specs.Call.{cnf_answer, CnfSeen, cnf_seen, written_over, cnf_call}
use Rattle.cnf.specs.Meaning.{Translated, CnfLent, CnfRight}
use Rattle.cnf.proofs.Decoding.{decoded_words, clauses_few}
use Rattle.cnf.proofs.Sound.{translates}

-- the check of a graph never answers 5
check_not_5 : (g : Lent) (marks : List ℕ) → (check_call g marks).given.number ≡ 5 → ⊥
check_not_5 g marks e = omega (arith, ap (λ (t : Given). t.number) ((exact g marks).refuses unsized))
  where
    unsized : Sized g (length marks) → ⊥
    unsized s = omega (arith, (exact g marks).refuses_row s no_rows)
      where
        not_well : WellFormed g → ⊥
        not_well w = omega (arith, ap (λ (t : Given). t.number) ((exact g marks).accepts s w))

        no_rows : AllRows g.rows g.counts.rows → ⊥
        no_rows r = omega (arith, (exact g marks).refuses_entry s r not_well)

module _ (g : Lent) (shortcuts : Bool) (clauses marks : List ℕ) where
  abbrev ws : List ℕ
  ws = words (cnf_of shortcuts g)

  abbrev checked : Given
  checked = (check_call g marks).given

  abbrev roomy : Given
  roomy = cond (leb (length ws) (length clauses)) done no_room

  answer : (cnf_call g shortcuts clauses marks).given ≡ or_else checked roomy
  unfolding cnf_call cnf_answer
  answer = refl

  -- ---- what it answers
  has_room_lem : roomy.number ≡ 0 → length ws ≤ length clauses
  has_room_lem = go (leb (length ws) (length clauses)) refl
    where
      go : (t : Bool) → leb (length ws) (length clauses) ≡ t → (cond t done no_room).number ≡ 0 → length ws ≤ length clauses
      go true e z = leb-true _ _ e
      go false e z = absurd (omega arith)

  lacks_room : roomy.number ≡ 5 → length clauses < length ws
  lacks_room = go (leb (length ws) (length clauses)) refl
    where
      go : (t : Bool) → leb (length ws) (length clauses) ≡ t → (cond t done no_room).number ≡ 5 → length clauses < length ws
      go true e z = absurd (omega arith)
      go false e z = leb-false _ _ e

  accepted : (cnf_call g shortcuts clauses marks).given.number ≡ 0 → CnfLent g shortcuts clauses marks
  accepted z =
      let t = none_of_two checked roomy (ap (λ (s : Given). s.number) (sym answer) ∙ z) in
      let u = (exact g marks).accepted t.0 in
      record { sized = u.0; well_formed = u.1; room = has_room_lem t.1 }

  -- a right graph passes the check
  passed : Sized g (length marks) → WellFormed g → (cnf_call g shortcuts clauses marks).given ≡ roomy
  passed s w = answer ∙ goes_past checked roomy (ap (λ (t : Given). t.number) ((exact g marks).accepts s w))

  accepts : CnfLent g shortcuts clauses marks → (cnf_call g shortcuts clauses marks).given ≡ done
  accepts c = passed c.sized c.well_formed ∙ rw (le-leb (length ws) (length clauses) c.room)

  refuses : Sized g (length marks) → WellFormed g → length clauses < length ws → (cnf_call g shortcuts clauses marks).given ≡ no_room
  refuses s w l = passed s w ∙ rw (lt-leb (length ws) (length clauses) l)

  refused : (cnf_call g shortcuts clauses marks).given.number ≡ 5 → Sized g (length marks) × WellFormed g × (length clauses < length ws)
  unfolding or_else
  refused z = go (eqb checked.number 0) refl (ap (λ (s : Given). s.number) (sym answer) ∙ z)
    where
      go : (t : Bool) → eqb checked.number 0 ≡ t → (cond t roomy checked).number ≡ 5 → Sized g (length marks) × WellFormed g × (length clauses < length ws)
      go true e z = let u = (exact g marks).accepted (eqb-true _ _ e) in (u.0, u.1, lacks_room z)
      go false e z = absurd (check_not_5 g marks z)

  -- ---- what it writes
  module _ (r : Result ℕ Refusal) (after marks' : List ℕ) (seen : cnf_seen r after marks' ≡ cnf_call g shortcuts clauses marks) (z : (told r).number ≡ 0) where
    lent_right : CnfLent g shortcuts clauses marks
    lent_right = accepted (ap (λ (s : CnfSeen). s.given.number) (sym seen) ∙ z)

    counted : value_or 0 r ≡ length ws
    unfolding cnf_call
    counted = ap (λ (s : CnfSeen). s.words) seen ∙ rw (accepts lent_right)

    written : after ≡ written_over ws clauses
    unfolding cnf_call
    written = ap (λ (s : CnfSeen). s.clauses) seen ∙ rw (accepts lent_right)

    in_buffer : decoded (take (value_or 0 r) after) ≡ cnf_of shortcuts g
    in_buffer = rw (counted, written, take-append_seam ws (drop (length ws) clauses)) (decoded_words (cnf_of shortcuts g))

    translated : Translated g clauses (value_or 0 r) after
    translated =
        record {
          translates = rw in_buffer (translates shortcuts g (length marks) lent_right.sized lent_right.well_formed);
          few = rw counted (clauses_few shortcuts g.rows g.counts.rows (roots_of g));
          fits = rw counted lent_right.room;
          beyond = rw (counted, written) (drop-append_seam ws (drop (length ws) clauses));
        }

  pub cnf_right : CnfRight g shortcuts clauses marks
  cnf_right =
      record {
        accepts = accepts;
        accepted = accepted;
        answers = unfold cnf_call cnf_answer in own_answers true g marks (record { given = cnf_answer g shortcuts (length clauses) marks; marks = (check_call g marks).marks })
            (room_answers (names_refused g) (leb (length ws) (length clauses)) (check_answers g marks));
        refuses = refuses;
        refused = refused;
        translates = translated;
      }
