-- A local table of records: what is read into it, and what is written back of it.
-- Assumes nothing.
use Prim.Native.Nat.{ℕ, ◌*◌, ◌/◌}
use mathlib.Core.Path.{◌≡◌, refl, sym, ap, ◌∙◌}
use mathlib.Core.Bool.{Bool, true, false, cond}
use mathlib.Core.List.{List, ◌++◌, append-nil}
use lib.ListN.{length, take, drop, take-append-drop}
use lib.Seq.{take-length, drop-length}
use lib.Dec.{eqb, leb}
use Rattle.std.specs.Prelude.{Result, Err, IsErrAnd}
use Rattle.std.proofs.lemmas.Bool.{false≢true}
use Rattle.edge.specs.declared.answer.Given.{Given}
use Rattle.graph.specs.declared.latch.Latch.{Latch}
use Rattle.graph.specs.Latches.{latch_words, latches_lent}
use Rattle.records.specs.Table.{words_of, room_for, all_taken, back, laid_out, no_latch}
use Rattle.edge.specs.declared.answer.Refusal.{Refusal}
use Rattle.edge.specs.Answers.{done, bad_argument, refused}
use Rattle.edge.proofs.Answers.{handed_on, not_done}
use Rattle.records.specs.Entries.{TableSeen, there, found_seen, latch_call, table_seen, next_call}
use Rattle.records.specs.Local.{table_size, empty, held, entry_seen, next_through}
use Rattle.records.proofs.Meaning.{all_back, back_kept}
use Rattle.records.proofs.Nexting.{back_length}

-- the words fill a table
abbrev pub Fills : List ℕ → Type 0
Fills words = length words ≡ latch_words * table_size

-- ---- the records that such words hold
module _ (words : List ℕ) (fills : Fills words) where
  has_room_lem : room_for empty words ≡ true
  has_room_lem = ap (λ (k : ℕ). leb table_size (k / latch_words)) fills

  pub held_words : words_of (held words) ≡ words
  held_words = all_back empty words has_room_lem ∙ (ap (λ (k : ℕ). take k words) (sym fills) ∙ take-length words)

  pub held_length : length (held words) ≡ table_size
  unfolding back
  held_length = rw has_room_lem (back_length all_taken words 0 empty)

  -- as many records written over them: their words are all that there is
  pub written : (t : List Latch) → length t ≡ table_size → laid_out t words ≡ words_of t
  unfolding laid_out
  written t n =
      (λ j. cond (leb (n j) (fills j / latch_words)) (words_of t ++ drop (latch_words * n j) words) words)
      ∙ (ap (λ (k : ℕ). words_of t ++ drop k words) (sym fills) ∙ (ap (λ (z : List ℕ). words_of t ++ z) (drop-length words) ∙ append-nil (words_of t)))

-- ---- read into a table
-- read into the table t, its next written, and read and written back of the table u
pub next_right : (latches : List ℕ) (i next : ℕ) (t u : List Latch) (a : Result Unit Refusal) (r : Result Latch Refusal) (after : List ℕ) → t ≡ held latches → table_seen a u ≡ next_call t i next
    → found_seen r ≡ latch_call u i → after ≡ laid_out u latches → entry_seen r after ≡ next_through latches i next
unfolding next_through
next_right latches i next t u a r after e set found laid =
    let same : u ≡ (next_call (held latches) i next).table = ap (λ (z : TableSeen). z.table) set ∙ ap (λ (z : List Latch). (next_call z i next).table) e in
    (λ j. record { found = found j; latches = laid j }) ∙ ap (λ (z : List Latch). record { found = latch_call z i; latches = laid_out z latches }) same

-- a table that is written back as it was read changes nothing
laid_back : (words : List ℕ) → laid_out (held words) words ≡ words
unfolding laid_out
laid_back words = (λ j. cond (leb (n j) (latches_lent words)) (words_of (held words) ++ drop (latch_words * n j) words) words) ∙ go (room_for empty words) refl
  where
    n : length (held words) ≡ table_size
    n = back_kept all_taken empty words

    go : (b : Bool) → room_for empty words ≡ b → cond b (words_of (held words) ++ drop (latch_words * table_size) words) words ≡ words
    go true e = ap (λ (z : List ℕ). z ++ drop (latch_words * table_size) words) (all_back empty words e) ∙ take-append-drop (latch_words * table_size) words
    go false e = refl

-- where there is no record i, nothing is written
pub next_refused : (latches : List ℕ) (i next : ℕ) (t u : List Latch) (f : Refusal) → t ≡ held latches → table_seen (Err f) u ≡ next_call t i next
    → (r : Result Latch Refusal) → IsErrAnd r (λ e. e ≡ f) → entry_seen r latches ≡ next_through latches i next
unfolding next_through next_call latch_call
next_refused latches i next t u f e set r h = go (there (held latches) i) refl
  where
    told_is : refused f ≡ (next_call (held latches) i next).given
    told_is = ap (λ (z : TableSeen). z.given) set ∙ ap (λ z. (next_call z i next).given) e

    go : (b : Bool) → there (held latches) i ≡ b → entry_seen r latches ≡ next_through latches i next
    go true k =
        let d : refused f ≡ done = rw k at told_is in
        absurd (false≢true (sym (not_done f) ∙ ap (λ (z : Given). eqb z.number 0) d))
    go false k =
        let g : refused f ≡ bad_argument = rw k at told_is in
        ap (λ q. entry_seen q latches) (handed_on r f h) ∙ ((λ j. record { found = record { given = g j; latch = no_latch }; latches = sym (laid_back latches) j }) ∙ rw (k, k) refl)
