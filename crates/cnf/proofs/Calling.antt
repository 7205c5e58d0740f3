-- Laws of the call: its steps, and what it answers and writes.
-- Assumes nothing.
use Prim.Native.Nat.{ℕ, ◌+◌, ◌-◌, ◌*◌, ◌≤◌}
use native.Mathlib.Omega.{arith}
use mathlib.Core.Path.{◌≡◌, refl, sym, ap, ◌∙◌}
use mathlib.Core.Bool.{Bool, true, false, cond, not}
use mathlib.Core.List.{List, [], ◌∷◌, ◌++◌}
use lib.ListN.{length, take, drop, replicate, take-append-drop, length-append, length-replicate}
use lib.Seq.{sets, sets-eq, take_at}
use lib.Dec.{leb}
use borrow.Author.Tests.{le-leb, leb-true, not-true, not-false}
use Rattle.std.specs.Prelude.{Ok, Err}
use Rattle.edge.specs.declared.answer.Refusal.{Refusal}
use Rattle.edge.specs.declared.answer.Refusal.TheVariants.{NoRoom}
use Rattle.edge.specs.Answers.{done, no_room, or_else}
use Rattle.edge.proofs.Answers.{not_done, goes_past}
use Rattle.rows.specs.Sizes.{max_rows}
use Rattle.rows.specs.Rows.{gate_at}
use Rattle.graph.specs.Graph.{Lent, Sized}
use Rattle.graph.specs.Count.{gates_below}
use Rattle.graph.specs.Check.{CheckSeen, check_seen, check_call, cleared}
use Rattle.graph.specs.WellFormed.{WellFormed}
use Rattle.graph.proofs.WellFormed.{exact}
use Rattle.graph.proofs.Counting.{count_within}
use Rattle.root_marks.specs.Marking.{mark_edges}
use Rattle.root_marks.specs.Steps.{RootsFit}
use Rattle.root_marks.specs.Roots.{roots_of}
use Rattle.root_marks.proofs.Flagging.{cleared_all}
use Rattle.root_marks.proofs.Marking.{edges_long}
use Rattle.root_marks.proofs.Roots.{roots_known}
use Rattle.gate_clauses.specs.Shapes.{unit, words, WrittenIfRoom}
use Rattle.cnf.specs.Clauses.{walk, clauses_in, cnf_of}
use Rattle.cnf.specs.Call.{cnf_answer, cnf_seen, written_over, cnf_call}
use Rattle.cnf.specs.Steps.{ClausesReady}
use Rattle.gate_clauses.proofs.Writing.{sets_both}
use Rattle.cnf.proofs.Decoding.{clauses_few, clauses_most}

-- a run of stores from the start
pub sets_over : (l ws : List ℕ) → length ws ≤ length l → sets l 0 ws ≡ written_over ws l
sets_over l ws h = sets-eq ws l 0 (omega arith) ∙ (let e : 0 + length ws ≡ length ws = omega arith in ap (λ (n : ℕ). ws ++ drop n l) e)

-- ---- the steps: the roots are marked, the walk is made, the marks are cleared
module _ (shortcuts : Bool) (rows roots marks : List ℕ) (r : ClausesReady rows (length marks) roots marks) {marked : List ℕ} (p : marked ≡ mark_edges roots marks) where
  pub marked_long : length marked ≡ length marks
  marked_long = ap length p ∙ edges_long roots marks

  started : marked ≡ mark_edges roots (replicate (length marks) 0)
  started = p ∙ ap (mark_edges roots) r.clear

  -- the words after the unit clause
  rest : List ℕ
  rest = words (walk shortcuts rows (length marked) marked)

  whole : words (clauses_in shortcuts rows (length marks) roots) ≡ 1 ∷ (1 ∷ rest)
  unfolding rest clauses_in words
  whole = rw (marked_long, started)

  pub number : {n : ℕ} → n ≡ 2 + length (words (walk shortcuts rows (length marked) marked)) → n ≡ length (words (clauses_in shortcuts rows (length marks) roots))
  unfolding rest
  number e = omega (arith, e, ap length whole)

  pub written : (clauses : List ℕ) {one two : List ℕ} → WrittenIfRoom clauses 0 (words (unit ∷ [])) one → length one ≡ length clauses
      → WrittenIfRoom one 2 (words (walk shortcuts rows (length marked) marked)) two
      → WrittenIfRoom clauses 0 (words (clauses_in shortcuts rows (length marks) roots)) two
  unfolding rest words
  written clauses a l b h =
      let n : length (words (clauses_in shortcuts rows (length marks) roots)) ≡ 2 + length rest = omega (arith, ap length whole) in
      b (omega (arith, n, l, h)) ∙ (rw (a (omega (arith, n, h))) (sym (sets_both clauses (1 ∷ 1 ∷ []) rest 0)) ∙ ap (sets clauses 0) (sym whole))

  -- the marks are as before
  pub back : (walked : List ℕ) {after : List ℕ} → length walked ≡ length marked → after ≡ cleared (length walked) walked → after ≡ marks
  back walked l e = e ∙ (cleared_all walked (length walked) refl ∙ (ap (λ (n : ℕ). replicate n 0) (l ∙ marked_long) ∙ sym r.clear))

-- ---- where there is room for the most that there can be, there is room
module _ (shortcuts : Bool) (rows roots marks : List ℕ) (room : ℕ) where
  pub room_for_most : ClausesReady rows (length marks) roots marks → 2 + 16 * (length marks - 1) ≤ room → true ≡ leb (length (words (clauses_in shortcuts rows (length marks) roots))) room
  room_for_most r l = sym (le-leb (length (words (clauses_in shortcuts rows (length marks) roots))) room (omega (arith, l, clauses_most shortcuts rows (length marks) roots r.some_row)))

  pub room_for_gates : {gates : ℕ} → gates ≡ gates_below rows (length marks) → 2 + 16 * gates ≤ room → true ≡ leb (length (words (clauses_in shortcuts rows (length marks) roots))) room
  room_for_gates e l = sym (le-leb (length (words (clauses_in shortcuts rows (length marks) roots))) room (omega (arith, e, l, clauses_few shortcuts rows (length marks) roots)))

-- the words for so many gates can be counted
pub gates_few : (rows : List ℕ) {used gates : ℕ} → gates ≡ gates_below rows used → used ≤ max_rows → gates ≤ max_rows
gates_few rows {used} e few = omega (arith, e, few, count_within (gate_at rows) used)

-- ---- the call, where the check has left the marks `after`
module _ (g : Lent) (shortcuts : Bool) (clauses marks : List ℕ) {after : List ℕ} where
  pub cnf_refused : (f : Refusal) → check_seen (Err f) after ≡ check_call g marks → cnf_seen (Err f) clauses after ≡ cnf_call g shortcuts clauses marks
  unfolding cnf_call cnf_answer or_else
  cnf_refused f seen = rw (← seen, not_done f, not_done f) refl

  module _ (seen : check_seen (Ok tt) after ≡ check_call g marks) where
    kept : after ≡ (check_call g marks).marks
    kept = ap (λ (s : CheckSeen). s.marks) seen

    zero_number : (check_call g marks).given.number ≡ 0
    zero_number = rw (← seen) refl

    right : Sized g (length marks) × WellFormed g
    right = (exact g marks).accepted zero_number

    abbrev used : ℕ
    used = g.counts.rows

    after_cleared : after ≡ cleared used marks
    after_cleared = kept ∙ (exact g marks).clear (λ (o : (check_call g marks).given.number ≡ 1). absurd (omega (arith, zero_number)))

    part_zero : take used after ≡ replicate used 0
    part_zero = rw after_cleared (take_at (replicate used 0) (drop used marks) used (length-replicate used 0))

    -- the marks of the used rows are lent on as a part
    pub part_long : length (take used after) ≡ used
    part_long = ap length part_zero ∙ length-replicate used 0

    pub marks_long : used ≤ length after
    marks_long = rw after_cleared (rw (length-append (replicate used 0) (drop used marks), length-replicate {A = ℕ} used 0) (omega arith))

    pub roots_fit : RootsFit g
    roots_fit = (roots_known g (length marks) right.0 right.1).fit

    pub ready : ClausesReady g.rows (length (take used after)) (roots_of g) (take used after)
    ready =
        let s = right.0 in
        rw part_long
        (record {
          some_row = s.rows.some;
          rows_there = omega (arith, s.rows.fit.within);
          rows_few = omega (arith, s.rows.fit.within, s.rows.fit.limited);
          roots_used = (roots_known g (length marks) s right.1).used;
          clear = part_zero;
        })

    -- the part comes back as it was, so that the marks are as the check left them
    module _ {part : List ℕ} (same : part ≡ take used after) where
      abbrev again : List ℕ
      again = part ++ drop used after

      put_back : again ≡ after
      put_back = rw same (take-append-drop used after)

      pub again_part : length (take used again) ≡ used
      again_part = rw put_back part_long

      pub again_long : used ≤ length again
      again_long = rw put_back marks_long

      pub again_ready : ClausesReady g.rows (length (take used again)) (roots_of g) (take used again)
      again_ready = rw put_back ready

      abbrev ws : List ℕ
      ws = words (cnf_of shortcuts g)

      answer_is : cnf_answer g shortcuts (length clauses) marks ≡ cond (leb (length ws) (length clauses)) done no_room
      unfolding cnf_answer
      answer_is = goes_past (check_call g marks).given (cond (leb (length ws) (length clauses)) done no_room) zero_number

      -- f says whether there is room
      module _ {f : Bool} (asked : f ≡ leb (length (words (clauses_in shortcuts g.rows (length (take used after)) (roots_of g)))) (length clauses)) where
        fits_is : leb (length ws) (length clauses) ≡ f
        fits_is = sym (rw part_long at asked)

        pub cnf_short : not f ≡ true → cnf_seen (Err NoRoom) clauses again ≡ cnf_call g shortcuts clauses marks
        unfolding cnf_call
        cnf_short l = rw (put_back, answer_is, fits_is, not-true f l, kept)

        pub cnf_done : not f ≡ false → {n : ℕ} {part' out : List ℕ} → n ≡ length (words (clauses_in shortcuts g.rows (length (take used again)) (roots_of g)))
            → part' ≡ take used again → WrittenIfRoom clauses 0 (words (clauses_in shortcuts g.rows (length (take used again)) (roots_of g))) out
            → cnf_seen (Ok n) out (part' ++ drop used again) ≡ cnf_call g shortcuts clauses marks
        unfolding cnf_call
        cnf_done l e p w =
            let room : length ws ≤ length clauses = leb-true (length ws) (length clauses) (fits_is ∙ not-false f l) in
            let all : WrittenIfRoom clauses 0 ws _ = rw again_part at w in
            rw (answer_is, fits_is, not-false f l, all (omega (arith, room)), sets_over clauses ws room, e, again_part, p, take-append-drop used again, put_back, kept)
