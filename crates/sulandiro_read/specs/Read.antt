-- What a caller in C sees of a call that reads a graph: the lists that it was lent to write, and the answer with what comes with it as words.
-- Assumes nothing.
use Rattle.std.specs.Prelude.{ℕ, List, [], ◌∷◌, ◌≡◌}
use Rattle.graph.specs.Check.{CheckSeen}
use Rattle.cone.specs.Call.{ConeSeen}
use Rattle.coi.specs.Call.{CoiSeen}
use Rattle.ternary.specs.Calls.{RunSeen, StepSeen, ValueSeen}
use Rattle.cnf.specs.Call.{CnfSeen}
use Rattle.sulandiro_words.specs.Told.{Handed, Shown, shown_of, shown_determined}

abbrev pub check_read : CheckSeen → Handed
check_read s = record { given = s.given; words = []; lists = s.marks ∷ [] }

abbrev pub cone_read : ConeSeen → Handed
cone_read s = record { given = s.given; words = []; lists = s.flags ∷ s.marks ∷ [] }

abbrev pub coi_read : CoiSeen → Handed
coi_read s = record { given = s.given; words = []; lists = s.flags ∷ s.marks ∷ s.stack ∷ [] }

abbrev pub run_read : RunSeen → Handed
run_read s = record { given = s.given; words = []; lists = s.values ∷ s.marks ∷ [] }

abbrev pub step_read : StepSeen → Handed
step_read s = record { given = s.given; words = []; lists = s.state ∷ s.values ∷ s.marks ∷ [] }

abbrev pub value_read : ValueSeen → Handed
value_read s = record { given = s.given; words = s.value ∷ []; lists = [] }

-- how many words of clauses were written
abbrev pub cnf_read : CnfSeen → Handed
cnf_read s = record { given = s.given; words = s.words ∷ []; lists = s.clauses ∷ s.marks ∷ [] }

-- any two results that a promise of these calls allows are equal: every list, and what is told
pub read_determined : (h : Handed) (before : List ℕ) (a b : Shown) → a ≡ shown_of h before → b ≡ shown_of h before → (a.lists ≡ b.lists) × (a.told ≡ b.told)
read_determined h before = shown_determined (shown_of h before)
