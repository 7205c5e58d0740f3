-- `unroll` is right: done exactly where it can be, and then a frame is added.
-- Assumes nothing.
use Prim.Native.Nat.{ℕ, ◌≤◌}
use native.Mathlib.Omega.{arith}
use mathlib.Core.Path.{◌≡◌, refl, sym, ap, ◌∙◌}
use mathlib.Core.Bool.{Bool, true, false, cond}
use mathlib.Core.Logic.{inl, inr, ⊎_elim}
use mathlib.Core.List.{List}
use lib.ListN.{length}
use borrow.Author.Tests.{eq-eqb, ne_eqb}
use Rattle.edge.specs.declared.answer.Given.{Given}
use Rattle.edge.specs.Answers.{done, bad_argument, no_room, or_else}
use Rattle.edge.proofs.Answers.{stops_here, goes_past, none_of_two}
use Rattle.edge.proofs.Tests.{false_true}
use Rattle.graph.specs.Graph.{Lent}
use Rattle.graph.specs.Stages.{Names}
use Rattle.graph.specs.Check.{stages}
use Rattle.graph.specs.WellFormed.{WellFormed}
use Rattle.two_graphs.specs.Pair.{SizedTwo, check_two_call}
use Rattle.graph.specs.Exactly.{Exactly, all_right, wrong_sizes, faulty, wrong_argument, full}
use Rattle.two_graphs.specs.Exactly.{FaultOfTwo, AnswersTwo}
use Rattle.graph.proofs.WellFormed.{row_or_entry}
use Rattle.two_graphs.proofs.Pair.{exact_two}
use Rattle.graph.proofs.Exactly.{argument_answers, room_answers}
use Rattle.two_graphs.proofs.Exactly.{two_refused, check_two_answers}
use Rattle.output.specs.Room.{Room}
use Rattle.output.proofs.Fitting.{roomy, room_true}
use Rattle.frame.specs.Frame.{framed, frame_fits}
use Rattle.frame.specs.Call.{SameStart}
use Rattle.frame.specs.Steps.{FrameRoom}
use Rattle.frame.proofs.Forming.{frame_ready_again}
use Rattle.frame.proofs.Meaning.{frame_added}
use Rattle.unroll.specs.Unroll.{same_start, unroll_checked, unroll_answer, unroll_call}
use Rattle.unroll.specs.Meaning.{TwoGraphs, UnrollLent, UnrollRight}
use Rattle.unroll.proofs.Starting.{start_same, same_start_lem}
use Rattle.unroll.proofs.Call.{checked_ready}

-- a number that names a fault is 2 or 3
fault_small : (a b : Lent) (p : Given) → FaultOfTwo a b p → p.number ≤ 3
fault_small a b p (inl names) = small a names
  where
    small : (g : Lent) → Names (stages g) p → p.number ≤ 3
    small g names = ⊎_elim (λ t. omega (arith, t.0)) (λ t. omega (arith, t.0)) (row_or_entry g names)
fault_small a b p (inr second) = ⊎_elim (λ t. omega (arith, t.0)) (λ t. omega (arith, t.0)) (row_or_entry b second.1)

-- ---- the answer, stage by stage
module _ (a b : Lent) (marks : List ℕ) where
  abbrev checks : Given
  checks = (check_two_call a b marks).given

  abbrev start : Given
  start = cond (same_start a b) done bad_argument

  abbrev room : Given
  room = cond (frame_fits a b) done no_room

  answer : unroll_answer a b marks ≡ or_else (or_else checks start) room
  unfolding unroll_answer unroll_checked
  answer = refl

  -- the two tests
  is_start : start.number ≡ 0 → same_start a b ≡ true
  is_start z = go (same_start a b) refl z
    where
      go : (t : Bool) → same_start a b ≡ t → (cond t done bad_argument).number ≡ 0 → same_start a b ≡ true
      go true e z = e
      go false e z = absurd (omega arith)

  is_room : room.number ≡ 0 → frame_fits a b ≡ true
  is_room z = go (frame_fits a b) refl z
    where
      go : (t : Bool) → frame_fits a b ≡ t → (cond t done no_room).number ≡ 0 → frame_fits a b ≡ true
      go true e z = e
      go false e z = absurd (omega arith)

  fits_room : frame_fits a b ≡ true → Room a (framed a b).counts
  unfolding frame_fits
  fits_room e = roomy a (framed a b).counts e

  room_fits : Room a (framed a b).counts → frame_fits a b ≡ true
  unfolding frame_fits
  room_fits s = room_true a (framed a b).counts s

  passes : TwoGraphs a b (length marks) → checks ≡ done
  passes t = (exact_two a b marks).accepts t.sized t.target t.from

  passed : checks.number ≡ 0 → TwoGraphs a b (length marks)
  passed z = let s = (exact_two a b marks).accepted z in record { sized = s.0; target = s.1; from = s.2 }

  -- what a test that fails says
  not_start : (SameStart a b → ⊥) → same_start a b ≡ false
  not_start n = go (same_start a b) refl
    where
      go : (t : Bool) → same_start a b ≡ t → t ≡ false
      go true e = absurd (n (start_same a b e))
      go false e = refl

  not_room : (Room a (framed a b).counts → ⊥) → frame_fits a b ≡ false
  not_room n = go (frame_fits a b) refl
    where
      go : (t : Bool) → frame_fits a b ≡ t → t ≡ false
      go true e = absurd (n (fits_room e))
      go false e = refl

  -- ---- done
  accepts : UnrollLent a b (length marks) → unroll_answer a b marks ≡ done
  accepts l =
      answer ∙ rw (passes l.graphs, same_start_lem a b l.start, room_fits l.room)
      (ap (λ (g : Given). or_else g done) (goes_past done done refl) ∙ goes_past done done refl)

  accepted : (unroll_answer a b marks).number ≡ 0 → UnrollLent a b (length marks)
  accepted z =
      let t = none_of_two (or_else checks start) room (ap (λ (g : Given). g.number) (sym answer) ∙ z) in
      let u = none_of_two checks start t.0 in
      record { graphs = passed u.0; start = start_same a b (is_start u.1); room = fits_room (is_room t.1) }

  frame_room : (unroll_answer a b marks).number ≡ 0 → FrameRoom a b (length marks)
  unfolding unroll_answer
  frame_room z =
      let t = none_of_two (unroll_checked a b marks).given room z in
      record { ready = checked_ready a b marks t.0; room = fits_room (is_room t.1) }

  written : (unroll_answer a b marks).number ≡ 0 → (unroll_call a b marks).graph ≡ framed a b
  unfolding unroll_call
  written z = rw (eq-eqb (unroll_answer a b marks).number 0 z)

  refused : ((unroll_answer a b marks).number ≡ 0 → ⊥) → (unroll_call a b marks).graph ≡ a
  unfolding unroll_call
  refused n = rw (ne_eqb (unroll_answer a b marks).number 0 n)

  given : (unroll_call a b marks).given ≡ unroll_answer a b marks
  unfolding unroll_call
  given = refl

  number : (unroll_call a b marks).given.number ≡ (unroll_answer a b marks).number
  number = ap (λ (g : Given). g.number) given

  -- ---- 4
  refuses_start : TwoGraphs a b (length marks) → (SameStart a b → ⊥) → unroll_answer a b marks ≡ bad_argument
  refuses_start t n =
      answer ∙ rw (passes t, not_start n)
      (ap (λ (g : Given). or_else g room) (goes_past done bad_argument refl) ∙ stops_here bad_argument room (λ (e : ◌≡◌ {A = ℕ} 4 0). omega arith))

  is_exactly : AnswersTwo (same_start a b) (frame_fits a b) a b marks (unroll_answer a b marks) (unroll_checked a b marks).marks
  unfolding unroll_answer unroll_checked
  is_exactly = room_answers (two_refused a b) (frame_fits a b) (argument_answers (two_refused a b) (same_start a b) (check_two_answers a b marks))

  -- the case of an answer
  abbrev Case : Given → Type 0
  Case = Exactly (SizedTwo a b (length marks)) (WellFormed a × WellFormed b) (FaultOfTwo a b) (same_start a b) (frame_fits a b)

  refused_start : (unroll_answer a b marks).number ≡ 4 → TwoGraphs a b (length marks) × (SameStart a b → ⊥)
  refused_start z = go is_exactly.exactly z
    where
      go : {p : Given} → Case p → p.number ≡ 4 → TwoGraphs a b (length marks) × (SameStart a b → ⊥)
      go (all_right s f h r) z = absurd (omega arith)
      go (wrong_sizes w) z = absurd (omega arith)
      go (faulty {p} s n x) z = absurd (omega (arith, z, fault_small a b p x))
      go (wrong_argument s f h) z = (record { sized = s; target = f.0; from = f.1 }, λ t. false_true (sym h ∙ same_start_lem a b t))
      go (full s f h r) z = absurd (omega arith)

  -- ---- 5
  refuses_room : TwoGraphs a b (length marks) → SameStart a b → (Room a (framed a b).counts → ⊥) → unroll_answer a b marks ≡ no_room
  refuses_room t s n =
      answer ∙ rw (passes t, same_start_lem a b s, not_room n)
      (ap (λ (g : Given). or_else g no_room) (goes_past done done refl) ∙ goes_past done no_room refl)

  refused_room : (unroll_answer a b marks).number ≡ 5 → TwoGraphs a b (length marks) × SameStart a b × (Room a (framed a b).counts → ⊥)
  refused_room z = go is_exactly.exactly z
    where
      go : {p : Given} → Case p → p.number ≡ 5 → TwoGraphs a b (length marks) × SameStart a b × (Room a (framed a b).counts → ⊥)
      go (all_right s f h r) z = absurd (omega arith)
      go (wrong_sizes w) z = absurd (omega arith)
      go (faulty {p} s n x) z = absurd (omega (arith, z, fault_small a b p x))
      go (wrong_argument s f h) z = absurd (omega arith)
      go (full s f h r) z = (record { sized = s; target = f.0; from = f.1 }, start_same a b h, λ t. false_true (sym r ∙ room_fits t))

  pub unroll_right : UnrollRight a b marks
  unroll_right =
      record {
        accepts = λ l. number ∙ ap (λ (g : Given). g.number) (accepts l);
        accepted = λ z. accepted (sym number ∙ z);
        added = λ z. let k = sym number ∙ z in rw (written k) (frame_added a b (length marks) (frame_room k));
        again = λ z. let k = sym number ∙ z in rw (written k) (frame_ready_again a b (length marks) (frame_room k));
        refused = λ n. refused (λ z. n (number ∙ z));
        answers = unfold unroll_call in is_exactly;
        refuses_start = λ t n. given ∙ refuses_start t n;
        refused_start = λ z. refused_start (sym number ∙ z);
        refuses_room = λ t s n. given ∙ refuses_room t s n;
        refused_room = λ z. refused_room (sym number ∙ z);
      }
