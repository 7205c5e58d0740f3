-- Flat calls made through tables of latch records: "The latch table is a lent slice of latch records".
-- Assumes nothing.
use Rattle.std.specs.Prelude.{ℕ, ◌≡◌, refl, cond, ◌&&◌, List, ltb, Result}
use Rattle.std.proofs.Common.{ap}
use Rattle.edge.specs.declared.answer.Refusal.{Refusal}
use Rattle.edge.specs.Answers.{done, bad_argument, bad_sizes, determined, told_injective}
use Rattle.graph.specs.Check.{CheckSeen, check_seen}
use Rattle.graph.specs.Graph.{Lent}
use Rattle.graph.specs.declared.latch.Latch.{Latch}
use Rattle.graph.specs.Latches.{latch_at}
use Rattle.renumber.specs.Seen.{Rebuilt, RebuiltSeen, rebuilt_seen, SameRebuilt, rebuilt_determined}
use Rattle.frame.specs.Map.{next_set}
use Rattle.records.specs.Table.{wiped, no_latch, with_next}
use Rattle.records.specs.Local.{EntrySeen, entry_seen, table_size, full, holds, entry_determined}
use Rattle.records.specs.Pairing.{PairSeen, pair_seen}
use Rattle.records.specs.Working.{Worked, worked}
use Rattle.record_unroll.specs.Tables.{on_full}

-- ---- one record: its next written, and it is read again
-- 1 where the latches do not fill a table, 4 where there is no record i; then the latches are untouched
unfoldable pub entry_call : List ℕ → ℕ → ℕ → EntrySeen
entry_call latches i next =
    cond (full latches)
    (cond (ltb i table_size)
    (record { found = record { given = done; latch = with_next (latch_at latches i) next }; latches = next_set latches i next })
    (record { found = record { given = bad_argument; latch = no_latch }; latches = latches }))
    (record { found = record { given = bad_sizes; latch = no_latch }; latches = latches })

-- ---- a call that reads one graph
-- 1, with nothing touched, where the latches do not fill a table or the work words have no room for one; else the flat call itself, and the work words are zero over a table
unfoldable pub on_table : {S : Type 0} → List ℕ → List ℕ → (List ℕ → S) → S → Worked S
on_table latches words call refused = cond (full latches) (worked (cond (holds words) (call latches) refused) (wiped table_size words)) (worked refused words)

-- ---- a call on two graphs
-- 1, with nothing touched, where the latches of either graph do not fill a table
unfoldable pub on_tables : {S : Type 0} → List ℕ → List ℕ → List ℕ → List ℕ → (List ℕ → List ℕ → S) → (List ℕ → S) → PairSeen S
on_tables latches words latches2 words2 call refused =
    cond (full latches && full latches2) (on_full latches words latches2 words2 call refused) (pair_seen (refused latches) words words2)

-- ---- any two results that a promise allows are equal
pub set_next_determined : (latches : List ℕ) (i next : ℕ) (r s : Result Latch Refusal) (x y : List ℕ) → entry_seen r x ≡ entry_call latches i next → entry_seen s y ≡ entry_call latches i next
    → (r ≡ s) × (x ≡ y)
set_next_determined latches i next = entry_determined (λ (l : List ℕ). entry_call l i next) latches

pub check_determined : (latches words : List ℕ) (call : List ℕ → CheckSeen) (refused : CheckSeen) (r s : Result Unit Refusal) (m n x y : List ℕ)
    → worked (check_seen r m) x ≡ on_table latches words call refused → worked (check_seen s n) y ≡ on_table latches words call refused → (r ≡ s) × (m ≡ n) × (x ≡ y)
check_determined latches words call refused r s m n x y p q =
    let e = determined (on_table latches words call) refused (worked (check_seen r m) x) (worked (check_seen s n) y) p q in (
      told_injective r s (ap (λ (z : Worked CheckSeen). z.seen.given) e),
      ap (λ (z : Worked CheckSeen). z.seen.marks) e,
      ap (λ (z : Worked CheckSeen). z.words) e,
    )

-- the answer, every word with the counts, the marks and the work words
pub unroll_determined : (latches words latches2 words2 : List ℕ) (call : List ℕ → List ℕ → RebuiltSeen) (refused : List ℕ → RebuiltSeen) (r s : Rebuilt) (g h : Lent) (m n v w x y : List ℕ)
    → pair_seen (rebuilt_seen r g m) v x ≡ on_tables latches words latches2 words2 call refused → pair_seen (rebuilt_seen s h n) w y ≡ on_tables latches words latches2 words2 call refused
    → SameRebuilt r g m s h n × (v ≡ w) × (x ≡ y)
unroll_determined latches words latches2 words2 call refused r s g h m n v w x y p q =
    let e = determined (on_tables latches words latches2 words2 call) refused (pair_seen (rebuilt_seen r g m) v x) (pair_seen (rebuilt_seen s h n) w y) p q in (
      rebuilt_determined (λ (z : RebuiltSeen). z) (rebuilt_seen s h n) r s g h m n (ap (λ (z : PairSeen RebuiltSeen). z.seen) e) refl,
      ap (λ (z : PairSeen RebuiltSeen). z.words) e,
      ap (λ (z : PairSeen RebuiltSeen). z.words2) e,
    )
