-- The number and the place of each answer, as the table of document 01 has them.
-- Assumes nothing.
use Rattle.std.specs.Prelude.{ℕ, Bool, cond, ◌≡◌, refl, eqb, Result, Ok, Err}
use Rattle.std.proofs.Common.{sym, ap₂, ◌∙◌}
use Rattle.edge.specs.declared.answer.List.{List as Column}
use Rattle.edge.specs.declared.answer.List.TheVariants.{Inputs, Latches, Constraints, Bads, Outputs, Justice, Fairness}
use Rattle.edge.specs.declared.answer.Refusal.{Refusal}
use Rattle.edge.specs.declared.answer.Refusal.TheVariants.{BadSizes, BadRow, BadEntry, BadArgument, NoRoom}
use Rattle.edge.specs.declared.answer.Given.{Given}

-- the number; the place: a row or a list, an index, a second index
abbrev pub given : ℕ → ℕ → ℕ → ℕ → Given
given n p i s = record { number = n; place = p; index = i; second = s }

-- 0: done
abbrev pub done : Given
done = given 0 0 0 0

-- 1: sizes
abbrev pub bad_sizes : Given
bad_sizes = given 1 0 0 0

-- 4: an argument is wrong for the call
abbrev pub bad_argument : Given
bad_argument = given 4 0 0 0

-- 5: too little room
abbrev pub no_room : Given
no_room = given 5 0 0 0

-- "Lists are numbered 1 to 7"
abbrev pub number_of : Column → ℕ
number_of Inputs = 1
number_of Latches = 2
number_of Constraints = 3
number_of Bads = 4
number_of Outputs = 5
number_of Justice = 6
number_of Fairness = 7

-- a list is known by its number
pub list_of : ℕ → Column
list_of n =
    cond (eqb n 1) Inputs
    (cond (eqb n 2) Latches
    (cond (eqb n 3) Constraints
    (cond (eqb n 4) Bads
    (cond (eqb n 5) Outputs
    (cond (eqb n 6) Justice Fairness)))))

pub list_numbered : (l : Column) → list_of (number_of l) ≡ l
unfolding list_of
list_numbered Inputs = refl
list_numbered Latches = refl
list_numbered Constraints = refl
list_numbered Bads = refl
list_numbered Outputs = refl
list_numbered Justice = refl
list_numbered Fairness = refl

-- 2 has the row as its place, 3 the list, the index and the second index
abbrev pub refused : Refusal → Given
refused BadSizes = bad_sizes
refused (BadRow row) = given 2 row 0 0
refused (BadEntry list index second) = given 3 list index second
refused BadArgument = bad_argument
refused NoRoom = no_room

abbrev pub told : {T : Type 0} → Result T Refusal → Given
told (Ok _) = done
told (Err r) = refused r

-- what comes with an answer, where it is done
abbrev pub value_or : {T : Type 0} → T → Result T Refusal → T
value_or nothing (Ok x) = x
value_or nothing (Err _) = nothing

-- the answer is known by its number and place, and by what comes with it
answer_of : {T : Type 0} → T → Given → Result T Refusal
answer_of x t =
    cond (eqb t.number 0) (Ok x)
    (cond (eqb t.number 1) (Err BadSizes)
    (cond (eqb t.number 2) (Err (BadRow t.place))
    (cond (eqb t.number 3) (Err (BadEntry t.place t.index t.second))
    (cond (eqb t.number 4) (Err BadArgument) (Err NoRoom)))))

answer_told_lem : {T : Type 0} (nothing : T) (r : Result T Refusal) → answer_of (value_or nothing r) (told r) ≡ r
unfolding answer_of
answer_told_lem nothing (Ok x) = refl
answer_told_lem nothing (Err BadSizes) = refl
answer_told_lem nothing (Err (BadRow i)) = refl
answer_told_lem nothing (Err (BadEntry l i s)) = refl
answer_told_lem nothing (Err BadArgument) = refl
answer_told_lem nothing (Err NoRoom) = refl

pub answer_known : {T : Type 0} (nothing : T) (r s : Result T Refusal) → told r ≡ told s → value_or nothing r ≡ value_or nothing s → r ≡ s
answer_known nothing r s e f = sym (answer_told_lem nothing r) ∙ (ap₂ answer_of f e ∙ answer_told_lem nothing s)

pub told_injective : (r s : Result Unit Refusal) → told r ≡ told s → r ≡ s
told_injective r s e = answer_known tt r s e refl

-- the first answer, unless it is done: then the second
unfoldable pub or_else : Given → Given → Given
or_else g h = cond (eqb g.number 0) h g

-- A promise that is one equation, `seen ≡ f lent`, determines what is seen.
pub determined : {L S : Type 0} (f : L → S) (l : L) (r s : S) → r ≡ f l → s ≡ f l → r ≡ s
determined f l r s p q = p ∙ sym q

pub told_determined : (a : Result Unit Refusal) (r s : Given) → r ≡ told a → s ≡ told a → r ≡ s
told_determined = determined (λ (a : Result Unit Refusal). told a)

pub is_done_determined : (a : Result Unit Refusal) (r s : Bool) → r ≡ eqb (told a).number 0 → s ≡ eqb (told a).number 0 → r ≡ s
is_done_determined = determined (λ (a : Result Unit Refusal). eqb (told a).number 0)
