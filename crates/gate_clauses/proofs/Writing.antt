-- Laws of stores in a run, and of the words of clauses.
-- Assumes nothing.
use Prim.Native.Nat.{ℕ, zero, suc, ◌+◌, ◌*◌, ◌≤◌, ◌<◌}
use native.Mathlib.Omega.{arith}
use native.Mathlib.Nat.{add-zero}
use native.Mathlib.Numerals.{add-one}
use mathlib.Core.Path.{◌≡◌, refl, sym, ap, ◌∙◌}
use mathlib.Core.List.{List, [], ◌∷◌, ◌++◌, map}
use lib.ListN.{length, get_or, set, drop, drop_of_length-le, get_or-map, length-append, length-map}
use lib.Seq.{sets, drop-cons}
use Rattle.edge.specs.Edges.{complement}
use Rattle.gate_clauses.specs.declared.Shape.{Shape}
use Rattle.gate_clauses.specs.declared.Shape.TheVariants.{Unwritten, Plain, Xor, Ite}
use Rattle.gate_clauses.specs.Shapes.{clauses_of, unit, words, WrittenIfRoom}

pub sets_both : (l xs ys : List ℕ) (i : ℕ) → sets l i (xs ++ ys) ≡ sets (sets l i xs) (i + length xs) ys
sets_both l [] ys i = rw add-zero
sets_both l (x ∷ xs) ys i = sets_both (set l i x) xs ys (suc i) ∙ ap (λ (k : ℕ). sets (sets (set l i x) (suc i) xs) k ys) (omega arith)

-- ---- no room for k words: nothing is asked
pub no_room_lem : (before : List ℕ) (at : ℕ) (ws : List ℕ) {after : List ℕ} {k : ℕ} → length ws ≡ k → length before < at + k → WrittenIfRoom before at ws after
no_room_lem before at ws e l = λ r. absurd (omega (arith, e, l, r))

-- ---- one clause
pub unit_long : length (words (unit ∷ [])) ≡ 2
unfolding words
unit_long = refl

pub put_unit : (l : List ℕ) → sets l 0 (1 ∷ 1 ∷ []) ≡ sets l 0 (words (unit ∷ []))
unfolding words
put_unit l = refl

-- the words of a list from j on, by what is left of it
module _ (l xs : List ℕ) (j i : ℕ) where
  pub left_turn : i < length xs → sets (set l (j + i) (get_or xs i 0)) (j + (i + 1)) (drop (i + 1) xs) ≡ sets l (j + i) (drop i xs)
  left_turn h =
      let k : j + (i + 1) ≡ suc (j + i) = omega arith in
      rw (drop-cons xs i 0 h, k, add-one) refl

  pub left_end : length xs ≤ i → sets l (j + i) (drop i xs) ≡ l
  left_end h = rw (drop_of_length-le xs h) refl

-- ---- clauses one after the other: c is written, and the others follow
next : (l : List ℕ) {o : List ℕ} (c : List ℕ) (cs : List (List ℕ)) (i j k : ℕ) → length c ≡ k → j ≡ i + suc k → o ≡ sets l i (k ∷ c) → sets o j (words cs) ≡ sets l i (words (c ∷ cs))
unfolding words
next l c cs i j k p q e = rw (e, q, ← p) (sym (sets_both l (length c ∷ c) (words cs) i))

last : (o : List ℕ) (j : ℕ) → o ≡ sets o j (words [])
unfolding words
last o j = refl

-- four clauses of three literals, by what is left of them
three_at : (cs : List (List ℕ)) (z : List ℕ) (i : ℕ) → map length cs ≡ 3 ∷ 3 ∷ 3 ∷ 3 ∷ [] → i < length cs → length (get_or cs i z) ≡ 3
three_at cs z i h l = rw (← get_or-map length cs i z, h) (go i (omega (arith, l, ap length h, length-map cs length)))
  where
    go : (k : ℕ) → k < 4 → get_or (3 ∷ 3 ∷ 3 ∷ 3 ∷ []) k (length z) ≡ 3
    go zero m = refl
    go (suc zero) m = refl
    go (suc (suc zero)) m = refl
    go (suc (suc (suc zero))) m = refl
    go (suc (suc (suc (suc k)))) m = absurd (omega arith)

pub is_four : (cs : List (List ℕ)) → map length cs ≡ 3 ∷ 3 ∷ 3 ∷ 3 ∷ [] → length cs ≡ 4
is_four cs h = sym (length-map cs length) ∙ ap length h

module _ (l : List ℕ) (cs : List (List ℕ)) (z : List ℕ) (h : map length cs ≡ 3 ∷ 3 ∷ 3 ∷ 3 ∷ []) (j i : ℕ) where
  pub four_turn : {o : List ℕ} → i < 4 → o ≡ sets l (j + 4 * i) (3 ∷ get_or cs i z) → sets o (j + 4 * (i + 1)) (words (drop (i + 1) cs)) ≡ sets l (j + 4 * i) (words (drop i cs))
  four_turn k e =
      let n : i < length cs = omega (arith, is_four cs h) in
      rw (drop-cons cs i z n, add-one) (next l (get_or cs i z) (drop (suc i) cs) (j + 4 * i) (j + 4 * suc i) 3 (three_at cs z i h n) (omega arith) e)

  pub four_end : 4 ≤ i → sets l (j + 4 * i) (words (drop i cs)) ≡ l
  unfolding words
  four_end k = let n : length cs ≤ i = omega (arith, is_four cs h) in rw (drop_of_length-le cs n) refl

pub four_long : (cs : List (List ℕ)) → map length cs ≡ 3 ∷ 3 ∷ 3 ∷ 3 ∷ [] → length (words cs) ≡ 16
unfolding words
four_long [] h = cc
four_long (a ∷ []) h = cc
four_long (a ∷ b ∷ []) h = cc
four_long (a ∷ b ∷ c ∷ []) h = cc
four_long (a ∷ b ∷ c ∷ d ∷ []) h =
    let p : length a ≡ 3 = cc in
    let q : length b ≡ 3 = cc in
    let r : length c ≡ 3 = cc in
    let s : length d ≡ 3 = cc in
    rw (length-append, length-append, length-append, length-append) (omega (arith, p, q, r, s))
four_long (a ∷ b ∷ c ∷ d ∷ e ∷ cs) h = cc

pub put_plain : (l o₁ o₂ o₃ : List ℕ) (at g a b : ℕ) {ng na nb : ℕ} → ng ≡ complement g → na ≡ complement a → nb ≡ complement b
    → o₁ ≡ sets l at (2 ∷ ng ∷ a ∷ []) → o₂ ≡ sets o₁ (at + 3) (2 ∷ ng ∷ b ∷ []) → o₃ ≡ sets o₂ (at + 6) (3 ∷ g ∷ na ∷ nb ∷ [])
    → o₃ ≡ sets l at (words (clauses_of g (Plain a b)))
unfolding clauses_of
put_plain l o₁ o₂ o₃ at g a b pg pa pb r s t =
    last o₃ (at + 10)
    ∙ (next o₂ (g ∷ complement a ∷ complement b ∷ []) [] (at + 6) (at + 10) 3 refl (omega arith) (rw (← pa, ← pb) t)
    ∙ (next o₁ (complement g ∷ b ∷ []) ((g ∷ complement a ∷ complement b ∷ []) ∷ []) (at + 3) (at + 6) 2 refl (omega arith) (rw (← pg) s)
    ∙ next l (complement g ∷ a ∷ []) ((complement g ∷ b ∷ []) ∷ (g ∷ complement a ∷ complement b ∷ []) ∷ []) at (at + 3) 2 refl (omega arith) (rw (← pg) r)))

-- ---- four clauses of three literals
pub xor_four : (g a b : ℕ) {ng na nb : ℕ} → ng ≡ complement g → na ≡ complement a → nb ≡ complement b
    → ◌≡◌ {A = List (List ℕ)} ((ng ∷ a ∷ b ∷ []) ∷ (ng ∷ na ∷ nb ∷ []) ∷ (g ∷ na ∷ b ∷ []) ∷ (g ∷ a ∷ nb ∷ []) ∷ []) (clauses_of g (Xor a b))
unfolding clauses_of
xor_four g a b p q r = rw (p, q, r)

pub ite_four : (g c t e : ℕ) {ng nc nt ne : ℕ} → ng ≡ complement g → nc ≡ complement c → nt ≡ complement t → ne ≡ complement e
    → ◌≡◌ {A = List (List ℕ)} ((ng ∷ nc ∷ t ∷ []) ∷ (ng ∷ c ∷ e ∷ []) ∷ (g ∷ nc ∷ nt ∷ []) ∷ (g ∷ c ∷ ne ∷ []) ∷ []) (clauses_of g (Ite c t e))
unfolding clauses_of
ite_four g c t e p q r s = rw (p, q, r, s)

pub threes_xor : (g a b : ℕ) {cs : List (List ℕ)} → cs ≡ clauses_of g (Xor a b) → map length cs ≡ 3 ∷ 3 ∷ 3 ∷ 3 ∷ []
unfolding clauses_of
threes_xor g a b e = rw e

pub threes_ite : (g c t e : ℕ) {cs : List (List ℕ)} → cs ≡ clauses_of g (Ite c t e) → map length cs ≡ 3 ∷ 3 ∷ 3 ∷ 3 ∷ []
unfolding clauses_of
threes_ite g c t e q = rw q

-- ---- a match on a shape
module _ (g : ℕ) {s : Shape} where
  pub size_unwritten : s ≡ Unwritten → length (words (clauses_of g s)) ≡ 0
  unfolding words clauses_of
  size_unwritten e = rw e

  pub size_plain : (a b : ℕ) → s ≡ Plain a b → length (words (clauses_of g s)) ≡ 10
  unfolding words clauses_of
  size_plain a b e = rw e

  pub size_xor : (a b : ℕ) → s ≡ Xor a b → length (words (clauses_of g s)) ≡ 16
  unfolding words clauses_of
  size_xor a b e = rw e

  pub size_ite : (c t e : ℕ) → s ≡ Ite c t e → length (words (clauses_of g s)) ≡ 16
  unfolding words clauses_of
  size_ite c t e q = rw q

  pub put_none : (l : List ℕ) (at : ℕ) → s ≡ Unwritten → WrittenIfRoom l at (words (clauses_of g s)) l
  unfolding words clauses_of
  put_none l at e = rw e (λ _. refl)

  pub put_same : (l : List ℕ) (at : ℕ) {o : List ℕ} {s' : Shape} {cs : List (List ℕ)} → s ≡ s' → cs ≡ clauses_of g s' → WrittenIfRoom l at (words cs) o → WrittenIfRoom l at (words (clauses_of g s)) o
  put_same l at e p q = rw (e, ← p) q

  pub behind_none : (at : ℕ) → s ≡ Unwritten → at ≡ at + length (words (clauses_of g s))
  behind_none at e = omega (arith, size_unwritten e)
