-- Laws of numbering and counting kept rows.
-- Assumes nothing.
use Prim.Native.Nat.{ℕ, zero, suc, ◌+◌, ◌≤◌, ◌<◌}
use native.Mathlib.Omega.{arith}
use native.Mathlib.Numerals.{add-one}
use mathlib.Core.Path.{◌≡◌, refl, sym, ap, ◌∙◌}
use mathlib.Core.Bool.{Bool, true, false, cond, not, ◌||◌}
use mathlib.Core.Logic.{◌⊎◌, inl, inr, ⊎_elim}
use mathlib.Core.List.{List}
use lib.ListN.{length, get_or, set, take}
use lib.Seq.{set-get_or}
use Rattle.std.specs.Prelude.{count_by}
use Rattle.std.proofs.lemmas.List.Sums.{count_by_more_yes, count_by_more_no}
use lib.Dec.{eqb}
use borrow.Author.Tests.{eq-eqb, ne_eqb}
use Rattle.edge.proofs.Tests.{lt_or_le}
use Rattle.rows.specs.Sizes.{max_rows}
use Rattle.root_marks.specs.Flags.{Flagged, Flags}
use Rattle.graph.specs.Count.{count_below}
use Rattle.output.specs.Writing.{written}
use Rattle.renumber.specs.Renumber.{by}
use Rattle.renumber.specs.Steps.{MarksHold, Small}
use Rattle.graph.proofs.Counting.{count_taken, count_left, count_within, count_past, count_same}
use Rattle.output.proofs.Writing.{written_length, written_turn, written_after, written_at_lem}
use Rattle.kept_rows.specs.Keeping.{kept_row, kept_id, new_ids, numbered, kept_input}

-- ---- the loop that numbers, before row i
pub record Numbering (flags : List ℕ) (i : ℕ) (now : List ℕ) (k : ℕ) : Type 0 where
  pub count : k ≡ count_below (kept_row flags) i
  pub is : now ≡ written flags 0 (kept_id flags) i

pub number_start : (flags : List ℕ) → Numbering flags 0 flags 0
unfolding count_below written
number_start flags = record { count = refl; is = refl }

module _ (flags : List ℕ) (i : ℕ) {now : List ℕ} {k : ℕ} (n : Numbering flags i now k) where
  -- row i still has its flag
  flag_still : get_or now i 0 ≡ get_or flags i 0
  flag_still = ap (λ (l : List ℕ). get_or l i 0) n.is ∙ written_after flags 0 (kept_id flags) i i (omega arith)

  put : {v : ℕ} → v ≡ kept_id flags i → set now i v ≡ written flags 0 (kept_id flags) (i + 1)
  put {v} q = let z : 0 + i ≡ i = omega arith in ap (λ (x : ℕ). set now x v) (sym z) ∙ written_turn flags 0 (kept_id flags) i n.is q

  flag_kept : get_or now i 0 ≡ 1 → kept_row flags i ≡ true
  flag_kept h = eq-eqb (get_or flags i 0) 1 (sym flag_still ∙ h)

  flag_dropped : (get_or now i 0 ≡ 1 → ⊥) → kept_row flags i ≡ false
  flag_dropped h = ne_eqb (get_or flags i 0) 1 (λ (o : get_or flags i 0 ≡ 1). h (flag_still ∙ o))

  pub number_taken : {after : List ℕ} {k' : ℕ} → get_or now i 0 ≡ 1 → after ≡ set now i k → k' ≡ k + 1 → Numbering flags (i + 1) after k'
  unfolding kept_id
  number_taken h q e =
      record {
        count = count_taken (kept_row flags) i n.count (flag_kept h) e;
        is = q ∙ put (rw (flag_kept h) n.count);
      }

  pub number_left : {used : ℕ} {after : List ℕ} {k' : ℕ} → Flags used flags → (get_or now i 0 ≡ 1 → ⊥) → after ≡ now → k' ≡ k → Numbering flags (i + 1) after k'
  unfolding kept_id
  number_left b h q e =
      let z : get_or flags i 0 ≡ 0 = ⊎_elim (λ (z : get_or flags i 0 ≡ 0). z) (λ (o : Flagged flags i). absurd (h (flag_still ∙ o))) (b.bits i) in
      record {
        count = count_left (kept_row flags) i n.count (flag_dropped h) e;
        is = q ∙ (sym (set-get_or now i 0) ∙ put (flag_still ∙ (z ∙ rw (flag_dropped h))));
      }

-- ---- the numbers tell which rows are kept
module _ (flags : List ℕ) (first : Flagged flags 0) where
  -- a kept row behind row 0 has a number that is not 0
  number_some : (i : ℕ) → 0 < i → kept_row flags i ≡ true → kept_id flags i ≡ 0 → ⊥
  unfolding kept_id
  number_some i l t e =
      let p : count_below (kept_row flags) i ≡ 0 = rw t at e in
      omega (arith, count_past (kept_row flags) i 0 l (eq-eqb (get_or flags 0 0) 1 first))

  number_none : (i : ℕ) → kept_row flags i ≡ false → kept_id flags i ≡ 0
  unfolding kept_id
  number_none i t = rw t

  pub numbered_kept : (map : List ℕ) (used : ℕ) → MarksHold used (kept_id flags) map → (i : ℕ) → i < used → numbered map i ≡ kept_row flags i
  unfolding numbered
  numbered_kept map used h i l = go (kept_row flags i) refl (lt_or_le 0 i)
    where
      go : (t : Bool) → kept_row flags i ≡ t → (0 < i) ⊎ (i ≤ 0) → eqb i 0 || not (eqb (by map i) 0) ≡ t
      go t e (inr z) = let q : i ≡ 0 = omega arith in rw (eq-eqb i 0 q) (sym (eq-eqb (get_or flags 0 0) 1 first) ∙ (ap (kept_row flags) (sym q) ∙ e))
      go true e (inl z) = let d : by map i ≡ 0 → ⊥ = λ (o : by map i ≡ 0). number_some i z e (sym (h i l) ∙ o) in rw (ne_eqb i 0 (λ (o : i ≡ 0). absurd (omega arith)), ne_eqb (by map i) 0 d)
      go false e (inl z) = rw (ne_eqb i 0 (λ (o : i ≡ 0). absurd (omega arith)), eq-eqb (by map i) 0 (h i l ∙ number_none i e))

  pub ids_hold : MarksHold (length flags) (kept_id flags) (new_ids flags)
  ids_hold i l = let z : 0 + i ≡ i = omega arith in ap (λ (k : ℕ). get_or (new_ids flags) k 0) (sym z) ∙ written_at_lem flags 0 (kept_id flags) (length flags) i (omega arith) l

  pub ids_long : length (new_ids flags) ≡ length flags
  ids_long = written_length flags 0 (kept_id flags) (length flags)

  -- new numbers are small
  pub ids_small : (used : ℕ) → used ≤ max_rows → Small used (kept_id flags)
  unfolding kept_id
  ids_small used s i l = go (kept_row flags i)
    where
      go : (t : Bool) → cond t (count_below (kept_row flags) i) 0 ≤ max_rows
      go true = omega (arith, count_within (kept_row flags) i)
      go false = omega arith

  -- kept inputs, by the numbers
  pub inputs_kept_lem : (map : List ℕ) (used : ℕ) → MarksHold used (kept_id flags) map → (inputs : List ℕ) (n : ℕ) → ((j : ℕ) → j < n → get_or inputs j 0 < used)
      → count_below (kept_input (numbered map) inputs) n ≡ count_below (kept_input (kept_row flags) inputs) n
  inputs_kept_lem map used h inputs n u = count_same (kept_input (numbered map) inputs) (kept_input (kept_row flags) inputs) n (λ j l. numbered_kept map used h (get_or inputs j 0) (u j l))

-- counted one by one
pub counted_by : (kept : ℕ → Bool) (list : List ℕ) (n : ℕ) → n ≤ length list → count_by kept (take n list) ≡ count_below (kept_input kept list) n
unfolding count_below
counted_by kept list zero h = refl
counted_by kept list (suc n) h =
    ap (λ (k : ℕ). count_by kept (take k list)) (sym (add-one n)) ∙ one (kept (get_or list n 0)) refl (counted_by kept list n (omega arith))
  where
    one : (t : Bool) → kept (get_or list n 0) ≡ t → count_by kept (take n list) ≡ count_below (kept_input kept list) n
        → count_by kept (take (n + 1) list) ≡ cond t (count_below (kept_input kept list) n + 1) (count_below (kept_input kept list) n)
    one true e k = count_by_more_yes kept list n 0 (omega arith) e ∙ ap (λ (c : ℕ). c + 1) k
    one false e k = count_by_more_no kept list n 0 (omega arith) e ∙ k
