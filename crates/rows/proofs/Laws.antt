-- Laws of sizes, rows and reading.
-- Assumes nothing.
use Prim.Native.Nat.{ℕ, ◌+◌, ◌*◌, ◌/◌, ◌≤◌, ◌<◌}
use native.Mathlib.Omega.{arith}
use mathlib.Core.Path.{◌≡◌, refl, sym, ◌∙◌}
use mathlib.Core.List.{List}
use mathlib.Core.Bool.{Bool, true, false, cond, ◌&&◌, ◌||◌}
use lib.ListN.{length}
use lib.Dec.{ltb, leb}
use borrow.Author.Tests.{lt-ltb, le-ltb, ltb-true, ltb-false, leb-true, leb-false}
use Rattle.edge.specs.Answers.{done, bad_sizes, bad_argument}
use Rattle.edge.proofs.Tests.{both}
use Rattle.edge.proofs.Answers.{none_of_two}
use Rattle.rows.specs.Sizes.{fits, Fit, rows_lent, rows_fit, RowsFit, max_rows}
use Rattle.rows.specs.Rows.{is_gate, larger}
use Rattle.rows.specs.Reading.{row_read, gate_read}

-- ---- sizes
pub fit : (count room limit : ℕ) → fits count room limit ≡ true → Fit count room limit
unfolding fits
fit count room limit h =
    let t = both {a = leb count room} {b = leb room limit} h in
    record { within = leb-true count room t.0; limited = leb-true room limit t.1 }

pub rows_fit_lem : (used : ℕ) (rows : List ℕ) → rows_fit used rows ≡ true → RowsFit used rows
unfolding rows_fit
rows_fit_lem used rows h =
    let t = both {a = ltb 0 used} {b = fits used (rows_lent rows) max_rows} h in
    record { some = ltb-true 0 used t.0; fit = fit used (rows_lent rows) max_rows t.1 }

-- ---- a code is below 2·i exactly if its id is below i
pub id_below : (a i : ℕ) → ltb (a / 2) i ≡ ltb a (2 * i)
id_below a i = go (ltb (a / 2) i) refl
  where
    go : (t : Bool) → ltb (a / 2) i ≡ t → t ≡ ltb a (2 * i)
    go true h = let l = ltb-true (a / 2) i h in let m : a < 2 * i = omega arith in sym (lt-ltb a (2 * i) m)
    go false h = let l = ltb-false (a / 2) i h in let m : 2 * i ≤ a = omega arith in sym (le-ltb a (2 * i) m)

-- both words are below k exactly if the larger one is
pub larger_below : (a b k : ℕ) → ltb (larger a b) k ≡ (ltb a k && ltb b k)
unfolding larger
larger_below a b k = go (leb a b) refl (ltb a k) refl (ltb b k) refl
  where
    go : (s : Bool) → leb a b ≡ s → (t : Bool) → ltb a k ≡ t → (u : Bool) → ltb b k ≡ u → ltb (cond s b a) k ≡ (t && u)
    go true p true q u r = r
    go true p false q true r =
        let x = leb-true a b p in let y = ltb-true b k r in let z = ltb-false a k q in absurd (omega arith)
    go true p false q false r = r
    go false p true q true r = q
    go false p true q false r =
        let x = leb-false a b p in let y = ltb-true a k q in let z = ltb-false b k r in absurd (omega arith)
    go false p false q u r = q

pub gate_by_larger : (i a b : ℕ) {w : ℕ} → w ≡ larger a b → is_gate i a b ≡ ltb (w / 2) i
unfolding is_gate
gate_by_larger i a b p = rw p (sym (id_below (larger a b) i ∙ larger_below a b (2 * i)))

-- a row is asked for as a gate first
pub gate_first : (f l : Bool) → (f || l || true) ≡ true
gate_first true l = refl
gate_first false true = refl
gate_first false false = refl

pub gate_else : (f l : Bool) → (f || l || false) ≡ (f || l)
gate_else true l = refl
gate_else false true = refl
gate_else false false = refl

-- the edges of a gate go to rows below it
pub gate_below : (i a b : ℕ) → is_gate i a b ≡ true → (a / 2 < i) × (b / 2 < i)
unfolding is_gate
gate_below i a b h =
    let t = both {a = ltb a (2 * i)} {b = ltb b (2 * i)} h in
    let l = ltb-true a (2 * i) t.0 in
    let m = ltb-true b (2 * i) t.1 in
    (omega arith, omega arith)

-- ---- where reading is not refused, both words are there
pub row_there : (rows : List ℕ) (used id : ℕ) → (row_read rows used id).number ≡ 0 → 2 * id + 1 < length rows
unfolding row_read
row_there rows used id = go (rows_fit used rows) (ltb id used) refl refl
  where
    go : (s t : Bool) → rows_fit used rows ≡ s → ltb id used ≡ t → (cond s (cond t done bad_argument) bad_sizes).number ≡ 0 → 2 * id + 1 < length rows
    go true true e f z = let l = ltb-true id used f in let r = rows_fit_lem used rows e in omega (arith, r.fit.within)
    go true false e f z = absurd (omega arith)
    go false t e f z = absurd (omega arith)

pub gate_there : (rows : List ℕ) (used id : ℕ) → (gate_read rows used id).number ≡ 0 → 2 * id + 1 < length rows
unfolding gate_read
gate_there rows used id z = row_there rows used id (none_of_two (row_read rows used id) _ z).0
