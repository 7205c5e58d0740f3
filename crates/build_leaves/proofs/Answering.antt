-- Laws of the answers of constructors.
-- Assumes nothing.
use Prim.Native.Nat.{ℕ}
use mathlib.Core.Path.{◌≡◌, refl, sym, ap, ◌∙◌}
use mathlib.Core.Bool.{Bool, true, false, cond}
use mathlib.Core.List.{List, []}
use lib.Dec.{eqb}
use borrow.Author.Tests.{eq-eqb}
use Rattle.edge.specs.declared.answer.Given.{Given}
use Rattle.edge.specs.declared.answer.Refusal.{Refusal}
use Rattle.edge.specs.Answers.{done, bad_sizes, bad_argument, no_room, refused, told}
use Rattle.edge.proofs.Answers.{handed_on, not_done}
use Rattle.edge.proofs.Tests.{false_true}
use Rattle.graph.specs.declared.Counts.{Counts}
use Rattle.std.specs.Prelude.{Result, Ok, Err, IsOk, IsErrAnd}
use Rattle.build_leaves.specs.declared.calls.Built.{Built}
use Rattle.build_leaves.specs.declared.calls.Added.{Added}
use Rattle.build_leaves.specs.Calls.{constructor_answer, Left, left, Seen, call_of, built_seen, added_seen}

-- ---- what an answer tells
module _ (sizes good room : Bool) where
  pub all_three : eqb (constructor_answer sizes good room).number 0 ≡ true → (sizes ≡ true) × (good ≡ true) × (room ≡ true)
  unfolding constructor_answer
  all_three = go sizes good room
    where
      go : (s g r : Bool) → eqb (cond s (cond g (cond r done no_room) bad_argument) bad_sizes).number 0 ≡ true → (s ≡ true) × (g ≡ true) × (r ≡ true)
      go true true true h = (refl, refl, refl)
      go true true false h = absurd (false_true h)
      go true false r h = absurd (false_true h)
      go false g r h = absurd (false_true h)

-- what is known where a call may go on
pub goes_on : {g : Given} (r : Result Unit Refusal) → told r ≡ g → IsOk r → eqb g.number 0 ≡ true
goes_on (Ok x) p ok = rw (← p)
goes_on (Err f) p ok = absurd (false_true ok)

-- the room is asked last, so an answer that is not done hangs on the rest alone
pub asked_first : (sizes good room : Bool) → eqb (constructor_answer sizes good true).number 0 ≡ false → constructor_answer sizes good true ≡ constructor_answer sizes good room
unfolding constructor_answer
asked_first true true room h = absurd (false_true (sym h))
asked_first true false room h = refl
asked_first false good room h = refl

pub asked_last : (sizes good room : Bool) → eqb (constructor_answer sizes good true).number 0 ≡ true → constructor_answer sizes good room ≡ cond room done no_room
unfolding constructor_answer
asked_last sizes good room h = let t = all_three sizes good true h in rw (t.0, t.1)

-- ---- a call that answers g
abbrev pub seen : Given → Left → Seen
seen t l = record { given = t; left = l }

module _ (rows list : List ℕ) (counts : Counts) (after : Left) {g : Given} where
  pub call_refused : (f : Refusal) → refused f ≡ g → seen (refused f) (left rows list counts 0) ≡ call_of g rows list counts after
  unfolding call_of
  call_refused f p = rw (← p, not_done f)

  pub call_done : done ≡ g → (l : Left) → l ≡ after → seen done l ≡ call_of g rows list counts after
  unfolding call_of
  call_done p l e = rw (← p, e)

  -- a refusal that is handed on
  pub add_refused : (f : Refusal) → refused f ≡ g → (r : Result Added Refusal) → IsErrAnd r (λ e. e ≡ f) → added_seen counts r rows list ≡ call_of g rows list counts after
  add_refused f p r h = ap (λ (r : Result Added Refusal). added_seen counts r rows list) (handed_on r f h) ∙ call_refused f p

pub build_refused : (rows : List ℕ) (counts : Counts) (after : Left) {g : Given} (f : Refusal) → refused f ≡ g → (r : Result Built Refusal) → IsErrAnd r (λ e. e ≡ f)
    → built_seen counts r rows ≡ call_of g rows [] counts after
build_refused rows counts after f p r h = ap (λ (r : Result Built Refusal). built_seen counts r rows) (handed_on r f h) ∙ call_refused rows [] counts after f p

-- what a call that was done leaves
pub call_left : (g : Given) (rows list : List ℕ) (counts : Counts) (after : Left) → (call_of g rows list counts after).given.number ≡ 0 → (call_of g rows list counts after).left ≡ after
unfolding call_of
call_left g rows list counts after z = rw (eq-eqb g.number 0 z)
