-- Clauses read back from their words are the clauses; and how many words there are.
-- Assumes nothing.
use Prim.Native.Nat.{ℕ, zero, suc, ◌+◌, ◌-◌, ◌*◌, ◌≤◌, ◌<◌}
use native.Mathlib.Omega.{arith}
use mathlib.Core.Bool.{Bool, true, false, cond, ◌&&◌}
use mathlib.Core.Path.{◌≡◌, refl, sym, ap, ap₂, ◌∙◌}
use mathlib.Core.List.{List, [], ◌∷◌, ◌++◌, append_assoc}
use lib.ListN.{length, get_or, replicate, length-append}
use lib.Seq.{take-append_seam, drop-append_seam}
use lib.Dec.{eqb}
use Rattle.rows.specs.Rows.{word0, word1, gate_at}
use Rattle.rows.proofs.Laws.{gate_below}
use Rattle.root_marks.specs.Marking.{mark_edges}
use Rattle.gate_clauses.specs.declared.Shape.{Shape}
use Rattle.gate_clauses.specs.declared.Shape.TheVariants.{Unwritten, Plain, Xor, Ite}
use Rattle.gate_clauses.specs.Shapes.{shape_of, operands, clauses_of, words}
use Rattle.cnf.specs.Clauses.{written_at, walk, clauses_in}
use Rattle.cnf.specs.Decode.{first_clauses, decoded}
use Rattle.graph.specs.Count.{count_below, gates_below}

-- ---- back from the words
read_back : (n : ℕ) (cs : List (List ℕ)) → length cs ≤ n → first_clauses n (words cs) ≡ cs
unfolding first_clauses words
read_back zero [] l = refl
read_back zero (c ∷ cs) l = absurd (omega arith)
read_back (suc n) [] l = refl
read_back (suc n) (c ∷ cs) l = ap₂ ◌∷◌ (take-append_seam c (words cs)) (ap (first_clauses n) (drop-append_seam c (words cs)) ∙ read_back n cs (omega arith))

a_word_each : (cs : List (List ℕ)) → length cs ≤ length (words cs)
unfolding words
a_word_each [] = omega arith
a_word_each (c ∷ cs) = omega (arith, a_word_each cs, length-append c (words cs))

pub decoded_words : (cs : List (List ℕ)) → decoded (words cs) ≡ cs
decoded_words cs = read_back (length (words cs)) cs (a_word_each cs)

-- ---- how many words
pub words_both : (cs ds : List (List ℕ)) → words (cs ++ ds) ≡ words cs ++ words ds
unfolding words
words_both [] ds = refl
words_both (c ∷ cs) ds = ap (λ (ws : List ℕ). length c ∷ ws) (rw (words_both cs ds) (sym (append_assoc c (words cs) (words ds))))

-- a gate's clauses are at most 16 words
pub at_most_16 : (g : ℕ) (s : Shape) → length (words (clauses_of g s)) ≤ 16
unfolding words clauses_of
at_most_16 g Unwritten = omega arith
at_most_16 g (Plain a b) = omega arith
at_most_16 g (Xor a b) = omega arith
at_most_16 g (Ite c t e) = omega arith

row_few :
    (shortcuts : Bool) (rows : List ℕ) (i : ℕ) (marks : List ℕ) → length (words (clauses_of (2 * i) (written_at shortcuts rows i marks))) + 16 * gates_below rows i ≤ 16 * gates_below rows
    (suc i)
unfolding written_at count_below
row_few shortcuts rows i marks = go (eqb (get_or marks i 0) 1) (gate_at rows i)
  where
    s : Shape
    s = shape_of shortcuts rows (word0 rows i) (word1 rows i)

    go : (m g : Bool) → length (words (clauses_of (2 * i) (cond (m && g) s Unwritten))) + 16 * gates_below rows i ≤ 16 * cond g (gates_below rows i + 1) (gates_below rows i)
    go true true = omega (arith, at_most_16 (2 * i) s)
    go true false = unfold words clauses_of in omega arith
    go false true = unfold words clauses_of in omega arith
    go false false = unfold words clauses_of in omega arith

pub walk_few : (shortcuts : Bool) (rows : List ℕ) (n : ℕ) (marks : List ℕ) → length (words (walk shortcuts rows n marks)) ≤ 16 * gates_below rows n
unfolding walk
walk_few shortcuts rows zero marks = unfold words in omega arith
walk_few shortcuts rows (suc i) marks =
    let s = written_at shortcuts rows i marks in
    rw (words_both, length-append) (omega (arith, row_few shortcuts rows i marks, walk_few shortcuts rows i (mark_edges (operands s) marks)))

pub clauses_few : (shortcuts : Bool) (rows : List ℕ) (used : ℕ) (roots : List ℕ) → length (words (clauses_in shortcuts rows used roots)) ≤ 2 + 16 * gates_below rows used
unfolding clauses_in words
clauses_few shortcuts rows used roots = omega (arith, walk_few shortcuts rows used (mark_edges roots (replicate used 0)))

-- ---- row 0 is no gate
row_0 : (rows : List ℕ) → gate_at rows 0 ≡ false
row_0 rows = go (gate_at rows 0) refl
  where
    go : (t : Bool) → gate_at rows 0 ≡ t → t ≡ false
    go true e = let l = gate_below 0 (word0 rows 0) (word1 rows 0) e in absurd (omega (arith, l.0))
    go false e = refl

gates_below_lem : (rows : List ℕ) (n : ℕ) → gates_below rows (suc n) ≤ n
unfolding count_below
gates_below_lem rows zero = rw (row_0 rows) (omega arith)
gates_below_lem rows (suc n) = go (gate_at rows (suc n)) (gates_below_lem rows n)
  where
    go : (t : Bool) → gates_below rows (suc n) ≤ n → cond t (gates_below rows (suc n) + 1) (gates_below rows (suc n)) ≤ suc n
    go true h = omega arith
    go false h = omega arith

pub clauses_most : (shortcuts : Bool) (rows : List ℕ) (used : ℕ) (roots : List ℕ) → 0 < used → length (words (clauses_in shortcuts rows used roots)) ≤ 2 + 16 * (used - 1)
clauses_most shortcuts rows zero roots l = absurd (omega arith)
clauses_most shortcuts rows (suc n) roots l = omega (arith, clauses_few shortcuts rows (suc n) roots, gates_below_lem rows n)
