-- A flat call through tables of records is the flat call on the words.
-- Assumes nothing.
use Prim.Native.Nat.{ℕ}
use mathlib.Core.Path.{◌≡◌, ap, ◌∙◌}
use mathlib.Core.Bool.{cond, ◌&&◌}
use mathlib.Core.List.{List}
use lib.ListN.{length}
use lib.Dec.{leb}
use Rattle.graph.specs.declared.latch.Latch.{Latch}
use Rattle.graph.specs.Latches.{latches_lent}
use Rattle.records.specs.Table.{words_of, laid_out, wiped}
use Rattle.records.specs.Local.{table_size, held}
use Rattle.records.specs.Pairing.{pair_seen, on_both_records}
use Rattle.records.proofs.Local.{Fills, held_words, held_length, written}
use Rattle.record_unroll.specs.Tables.{on_full}

module _ {S : Type 0} (call : List ℕ → List ℕ → S) (refused : List ℕ → S) (latches words latches2 words2 : List ℕ) where
  -- the promise on the records that the words hold
  pub on_held : Fills latches → Fills latches2 → on_both_records (held latches) words (held latches2) words2 call refused ≡ on_full latches words latches2 words2 call refused
  unfolding on_both_records on_full
  on_held f g =
      let n = held_length latches f in
      let m = held_length latches2 g in
      let x = held_words latches f in
      let y = held_words latches2 g in
      λ j. pair_seen (cond (leb (n j) (latches_lent words) && leb (m j) (latches_lent words2)) (call (x j) (y j)) (refused (x j))) (wiped (n j) words) (wiped (m j) words2)

  -- read into the tables t and t2, called, and the records t' written back
  pub through : (seen : List ℕ → S) → Fills latches → Fills latches2 → (t t2 t' : List Latch) → t ≡ held latches → t2 ≡ held latches2 → length t' ≡ table_size → (latches' words' words2' : List ℕ)
      → pair_seen (seen (words_of t')) words' words2' ≡ on_both_records t words t2 words2 call refused → latches' ≡ laid_out t' latches
      → pair_seen (seen latches') words' words2' ≡ on_full latches words latches2 words2 call refused
  through seen f g t t2 t' e e2 n latches' words' words2' called back =
      ap (λ (l : List ℕ). pair_seen (seen l) words' words2') (back ∙ written latches f t' n)
      ∙ (called ∙ ((λ j. on_both_records (e j) words (e2 j) words2 call refused) ∙ on_held f g))
