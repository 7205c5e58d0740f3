-- The latch table: "a latch is input (a leaf's id), next (an edge), init (an edge, or 4294967295 for none)".
-- Assumes nothing.
use Rattle.std.specs.Prelude.{ℕ, zero, suc, ◌+◌, ◌*◌, ◌/◌, List, [], ◌∷◌, ◌++◌, length, get_or, set}
use Rattle.rows.specs.Rows.{none}
use Rattle.graph.specs.declared.latch.Latch.{Latch}

-- how many words a latch has
abbrev pub latch_words : ℕ
latch_words = 3

abbrev pub latches_lent : List ℕ → ℕ
latches_lent latches = length latches / latch_words

-- a new latch
abbrev pub latch : ℕ → ℕ → ℕ → Latch
latch input next init = record { input = input; next = next; init = init }

-- the latch with another input and other edges: whatever else a latch has stays
abbrev pub with_edges : Latch → ℕ → ℕ → ℕ → Latch
with_edges l input next init = record { input = input; next = next; init = init }

abbrev pub with_next : Latch → ℕ → Latch
with_next l next = with_edges l l.input next l.init

abbrev pub without_init : Latch → Latch
without_init l = with_edges l l.input l.next none

abbrev pub latch_at : List ℕ → ℕ → Latch
latch_at latches i =
    record { input = get_or latches (latch_words * i) 0; next = get_or latches (latch_words * i + 1) 0; init = get_or latches (latch_words * i + 2) 0 }

-- latch i is written: its words stand where `latch_at` reads them
unfoldable pub latch_set : List ℕ → ℕ → Latch → List ℕ
latch_set latches i l =
    set (set (set latches (latch_words * i) l.input) (latch_words * i + 1) l.next) (latch_words * i + 2) l.init

-- the inputs of the first n latches
unfoldable pub latch_inputs : List ℕ → ℕ → List ℕ
latch_inputs latches zero = []
latch_inputs latches (suc n) = latch_inputs latches n ++ ((latch_at latches n).input ∷ [])
