-- Keeping some of many things: each is written at the next place.
-- Assumes nothing.
use Rattle.std.specs.Prelude.{ℕ, zero, suc, List, Bool, cond, not, ◌||◌, length, get_or, set, eqb}
use Rattle.graph.specs.declared.Counts.{Counts}
use Rattle.graph.specs.Count.{count_below}
use Rattle.output.specs.Writing.{written}
use Rattle.renumber.specs.Renumber.{by}

-- of things 0 to n - 1 those that are kept, in order; `put out k i` is `out` with thing i at place k
unfoldable pub kept_written : (ℕ → Bool) → (List ℕ → ℕ → ℕ → List ℕ) → List ℕ → ℕ → List ℕ
kept_written kept put out zero = out
kept_written kept put out (suc i) = cond (kept i) (put (kept_written kept put out i) (count_below kept i) i) (kept_written kept put out i)

-- the word of thing i
abbrev pub word_put : (ℕ → ℕ) → List ℕ → ℕ → ℕ → List ℕ
word_put word out k i = set out k (word i)

-- ---- rows, by their flags
abbrev pub kept_row : List ℕ → ℕ → Bool
kept_row flags i = eqb (get_or flags i 0) 1

-- the new number of a kept row: how many kept rows stand below it; 0 of another row
unfoldable pub kept_id : List ℕ → ℕ → ℕ
kept_id flags i = cond (kept_row flags i) (count_below (kept_row flags) i) 0

-- all of them
abbrev pub new_ids : List ℕ → List ℕ
new_ids flags = written flags 0 (kept_id flags) (length flags)

-- ---- rows, by their new numbers: row 0 is kept, and is the only kept row whose number is 0
unfoldable pub numbered : List ℕ → ℕ → Bool
numbered map i = eqb i 0 || not (eqb (by map i) 0)

-- ---- counts
-- an input that is a kept row
abbrev pub kept_input : (ℕ → Bool) → List ℕ → ℕ → Bool
kept_input kept inputs j = kept (get_or inputs j 0)

-- the counts of the result, of so many rows and inputs
unfoldable pub with_kept : ℕ → ℕ → Counts → Counts
with_kept rows inputs n =
    record { rows = rows; inputs = inputs; latches = n.latches; constraints = n.constraints; bads = n.bads; outputs = n.outputs; sets = n.sets; edges = n.edges; fairness = n.fairness }

-- of the rows that are flagged: kept rows and inputs, and "no latch is dropped", nor an entry of another list
abbrev pub kept_counts : List ℕ → List ℕ → Counts → Counts
kept_counts flags inputs n = with_kept (count_below (kept_row flags) n.rows) (count_below (kept_input (kept_row flags) inputs) n.inputs) n
