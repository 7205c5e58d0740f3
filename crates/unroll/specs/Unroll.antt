-- What `unroll` answers and writes.
-- Assumes nothing.
use Rattle.std.specs.Prelude.{ℕ, ◌*◌, ◌≡◌, List, Bool, cond, ◌&&◌, get_or, leb, eqb, is_none}
use Rattle.edge.specs.declared.answer.Given.{Given}
use Rattle.edge.specs.Answers.{done, bad_argument, no_room, or_else}
use Rattle.rows.specs.Reading.{if_done}
use Rattle.graph.specs.declared.Counts.{Counts}
use Rattle.graph.specs.Search.{first_bad}
use Rattle.graph.specs.Latches.{latch_at}
use Rattle.graph.specs.Graph.{Lent}
use Rattle.graph.specs.Check.{CheckSeen}
use Rattle.two_graphs.specs.Pair.{check_two_call}
use Rattle.renumber.specs.Seen.{Rebuilt, RebuiltSeen, rebuilt_seen, SameRebuilt, rebuilt_determined}
use Rattle.frame.specs.Frame.{framed, frame_fits}

-- "asks that the target's first rows equal `from`'s used rows": word by word
abbrev pub same_word : List ℕ → List ℕ → ℕ → Bool
same_word x y k = eqb (get_or x k 0) (get_or y k 0)

-- "and that both have the same latch inputs in order"
abbrev pub same_latch : List ℕ → List ℕ → ℕ → Bool
same_latch x y j = eqb (latch_at x j).input (latch_at y j).input

-- the target has no fewer used rows and as many latches, and all of these are the same
unfoldable pub start_is : List ℕ → List ℕ → Counts → List ℕ → List ℕ → Counts → Bool
start_is rows latches n rows2 latches2 m =
    (leb m.rows n.rows && eqb n.latches m.latches)
    && (is_none (first_bad (same_word rows rows2) 0 (2 * m.rows)) && is_none (first_bad (same_latch latches latches2) 0 m.latches))

abbrev pub same_start : Lent → Lent → Bool
same_start a b = start_is a.rows a.latches a.counts b.rows b.latches b.counts

-- the marks, and the answer but for 5: 1 for both, 2 and 3 of the first, then of the second; "else 4"
unfoldable pub unroll_checked : Lent → Lent → List ℕ → CheckSeen
unroll_checked a b marks =
    record {
      given = or_else (check_two_call a b marks).given (cond (same_start a b) done bad_argument);
      marks = (check_two_call a b marks).marks;
    }

-- then 5, where "rows, list entries .. still free are fewer than the call needs"
unfoldable pub unroll_answer : Lent → Lent → List ℕ → Given
unroll_answer a b marks = or_else (unroll_checked a b marks).given (cond (frame_fits a b) done no_room)

-- "A refusal changes no row, list, output or state", and the counts come back as given
unfoldable pub unroll_call : Lent → Lent → List ℕ → RebuiltSeen
unroll_call a b marks =
    record { given = unroll_answer a b marks; graph = if_done (unroll_answer a b marks) (framed a b) a; marks = (unroll_checked a b marks).marks }

-- any two results that the promise allows are equal: the answer, every lent word with the counts, and the marks
pub unroll_determined : (a b : Lent) (marks : List ℕ) (r s : Rebuilt) (x y : Lent) (m n : List ℕ)
    → rebuilt_seen r x m ≡ unroll_call a b marks → rebuilt_seen s y n ≡ unroll_call a b marks → SameRebuilt r x m s y n
unroll_determined a b = rebuilt_determined (unroll_call a b)
