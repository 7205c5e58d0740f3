-- The counts lent in place: "The builder's counts are one record that constructors change in place".
-- Assumes nothing.
use Rattle.std.specs.Prelude.{ℕ, ◌≡◌, refl, List, Result, Ok, Err}
use Rattle.std.proofs.Common.{sym, ap, ◌∙◌}
use Rattle.edge.specs.declared.answer.Refusal.{Refusal}
use Rattle.edge.specs.Answers.{told, value_or, answer_known, determined}
use Rattle.graph.specs.declared.Counts.{Counts}
use Rattle.build_leaves.specs.declared.calls.Added.{Added}
use Rattle.build_leaves.specs.Calls.{Seen, added_or, added_seen}
use Rattle.build_leaves.specs.Leaves.{new_input_call, add_input_call}
use Rattle.build_latches.specs.Latches.{new_latch_call, add_latch_call}

-- what a constructor answers, with the counts that it leaves in the record: it is what the call by value answers, which is promised for both
abbrev pub added : Result ℕ Refusal → Counts → Result Added Refusal
added (Ok id) counts = Ok (record { counts = counts; id = id })
added (Err refusal) counts = Err refusal

-- the answer, the id and the counts are known by that
told_added : (r : Result ℕ Refusal) (c : Counts) → told (added r c) ≡ told r
told_added (Ok id) c = refl
told_added (Err refusal) c = refl

id_added : (r : Result ℕ Refusal) (c : Counts) → (added_or c (added r c)).id ≡ value_or 0 r
id_added (Ok id) c = refl
id_added (Err refusal) c = refl

counts_added : (r : Result ℕ Refusal) (c : Counts) → (added_or c (added r c)).counts ≡ c
counts_added (Ok id) c = refl
counts_added (Err refusal) c = refl

-- two answers, each with the record, the rows and the list that are left
abbrev pub SameListed : Result ℕ Refusal → Counts → List ℕ → List ℕ → Result ℕ Refusal → Counts → List ℕ → List ℕ → Type 0
SameListed r c x v s d y w = (r ≡ s) × (c ≡ d) × (x ≡ y) × (v ≡ w)

in_place_determined : {L : Type 0} (call : L → Seen) (l : L) (r s : Result ℕ Refusal) (c d : Counts) (x y v w : List ℕ) → added_seen c (added r c) x v ≡ call l → added_seen d (added s d) y w ≡ call l
    → SameListed r c x v s d y w
in_place_determined call l r s c d x y v w p q =
    let t = determined call l (added_seen c (added r c) x v) (added_seen d (added s d) y w) p q in (
      answer_known 0 r s (sym (told_added r c) ∙ (ap (λ (z : Seen). z.given) t ∙ told_added s d)) (sym (id_added r c) ∙ (ap (λ (z : Seen). z.left.made) t ∙ id_added s d)),
      sym (counts_added r c) ∙ (ap (λ (z : Seen). z.left.counts) t ∙ counts_added s d),
      ap (λ (z : Seen). z.left.rows) t,
      ap (λ (z : Seen). z.left.list) t,
    )

-- any two results that a promise allows are equal, call by call: the answer, the id, the record and the lists
pub new_input_determined : (rows inputs : List ℕ) (n : Counts) (r s : Result ℕ Refusal) (c d : Counts) (x y v w : List ℕ) → added_seen c (added r c) x v ≡ new_input_call rows inputs n
    → added_seen d (added s d) y w ≡ new_input_call rows inputs n → SameListed r c x v s d y w
new_input_determined rows inputs n = in_place_determined (new_input_call rows inputs) n

pub add_input_determined : (rows inputs : List ℕ) (n : Counts) (id : ℕ) (r s : Result ℕ Refusal) (c d : Counts) (x y v w : List ℕ) → added_seen c (added r c) x v ≡ add_input_call rows inputs n id
    → added_seen d (added s d) y w ≡ add_input_call rows inputs n id → SameListed r c x v s d y w
add_input_determined rows inputs n id = in_place_determined (add_input_call rows inputs n) id

pub new_latch_determined : (rows latches : List ℕ) (n : Counts) (next init : ℕ) (r s : Result ℕ Refusal) (c d : Counts) (x y v w : List ℕ)
    → added_seen c (added r c) x v ≡ new_latch_call rows latches n next init → added_seen d (added s d) y w ≡ new_latch_call rows latches n next init → SameListed r c x v s d y w
new_latch_determined rows latches n next init = in_place_determined (new_latch_call rows latches n next) init

pub add_latch_determined : (rows latches : List ℕ) (n : Counts) (id next init : ℕ) (r s : Result ℕ Refusal) (c d : Counts) (x y v w : List ℕ)
    → added_seen c (added r c) x v ≡ add_latch_call rows latches n id next init → added_seen d (added s d) y w ≡ add_latch_call rows latches n id next init → SameListed r c x v s d y w
add_latch_determined rows latches n id next init = in_place_determined (add_latch_call rows latches n id next) init
