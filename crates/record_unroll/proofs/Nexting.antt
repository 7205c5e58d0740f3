-- Of the target's latches `unroll` changes the nexts alone.
-- Assumes nothing.
use Prim.Native.Nat.{ℕ, zero, suc, ◌+◌, ◌*◌}
use native.Mathlib.Omega.{arith}
use mathlib.Core.Path.{◌≡◌, refl, sym, ap, subst, ◌∙◌}
use mathlib.Core.Bool.{Bool, true, false, cond}
use mathlib.Core.List.{List}
use lib.ListN.{get_or, set}
use lib.Seq.{get_or-set_other, set-get_or}
use lib.Dec.{eqb}
use Rattle.graph.specs.Latches.{latch_words, latch_at, latch_set}
use Rattle.graph.specs.Graph.{Lent}
use Rattle.frame.specs.Map.{mapped, next_set, nexts_set, lists_grown}
use Rattle.frame.specs.Frame.{framed, frame_between}
use Rattle.unroll.specs.Unroll.{unroll_answer, unroll_call}
use Rattle.records.specs.Table.{take_next}
use Rattle.records.specs.Calling.{NextsAlone}

-- another next is one store
as_store : (x : List ℕ) (i v : ℕ) → next_set x i v ≡ set x (latch_words * i + 1) v
unfolding next_set latch_set
as_store x i v =
    let y : List ℕ = set x (latch_words * i + 1) v in
    ap (λ (z : List ℕ). set (set z (latch_words * i + 1) v) (latch_words * i + 2) (get_or x (latch_words * i + 2) 0)) (set-get_or x (latch_words * i) 0)
    ∙ (ap (set y (latch_words * i + 2)) (sym (get_or-set_other x (latch_words * i + 1) (latch_words * i + 2) v 0 (λ (e : latch_words * i + 2 ≡ latch_words * i + 1). absurd (omega arith))))
    ∙ set-get_or y (latch_words * i + 2) 0)

-- at the words of inputs and inits nothing is stored
one_alone : (x : List ℕ) (i v : ℕ) → NextsAlone x (next_set x i v)
one_alone x i v =
    subst (NextsAlone x) (sym (as_store x i v))
    (λ j. let y : List ℕ = set x (latch_words * i + 1) v in let e : get_or y (latch_words * j) 0 ≡ get_or x (latch_words * j) 0 = get_or-set_other x (latch_words * i + 1) (latch_words * j) v 0
    (λ (h : latch_words * j ≡ latch_words * i + 1). absurd (omega arith)) in let f : get_or y (latch_words * j + 2) 0 ≡ get_or x (latch_words * j + 2) 0 = get_or-set_other x (latch_words * i + 1)
    (latch_words * j + 2) v 0 (λ (h : latch_words * j + 2 ≡ latch_words * i + 1). absurd (omega arith)) in λ k. record { input = sym e k; next = (latch_at y j).next; init = sym f k })

all_alone : (map latches from : List ℕ) (n : ℕ) → NextsAlone latches (nexts_set map latches from n)
unfolding nexts_set
all_alone map latches from zero j = refl
all_alone map latches from (suc n) j =
    let x : List ℕ = nexts_set map latches from n in
    let v : ℕ = mapped map (latch_at from n).next in
    ap (λ l. take_next l (latch_at (next_set x n v) j)) (all_alone map latches from n j) ∙ one_alone x n v j

pub unroll_alone : (a b : Lent) (marks : List ℕ) → NextsAlone a.latches (unroll_call a b marks).graph.latches
unfolding unroll_call framed lists_grown
unroll_alone a b marks = by_test (eqb (unroll_answer a b marks).number 0)
  where
    by_test : (t : Bool) → NextsAlone a.latches (cond t (framed a b) a).latches
    by_test true = all_alone (frame_between a b).map a.latches b.latches b.counts.latches
    by_test false = λ j. refl
