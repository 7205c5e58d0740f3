-- The table as one list of words, which the program reads.
-- Assumes nothing.
use Rattle.std.specs.Prelude.{ℕ, List, [], ◌∷◌, ◌++◌, cond, ◌≡◌, length}
use Rattle.edge.specs.Answers.{determined}
use Rattle.sulandiro_words.specs.Words.{given_words, count_words}
use Rattle.gate_clauses.specs.Shapes.{words}
use Rattle.marked.specs.Cases.{Call, new_and, new_eq, simulate, clauses, reencode, unroll, lists_of, Case}
use Rattle.marked.specs.Table.{table}

-- the call's number in oracle/FORMAT.md
abbrev number_of : Call → ℕ
number_of (new_and rows n a b) = 51
number_of (new_eq rows n a b) = 59
number_of (simulate g input state values marks) = 90
number_of (clauses g shortcuts buffer marks) = 100
number_of (reencode g out marks) = 71
number_of (unroll target from marks) = 80

-- the arguments that are no lists: the counts first
abbrev scalars_of : Call → List ℕ
scalars_of (new_and rows n a b) = count_words n ++ (a ∷ b ∷ [])
scalars_of (new_eq rows n a b) = count_words n ++ (a ∷ b ∷ [])
scalars_of (simulate g input state values marks) = count_words g.counts
scalars_of (clauses g shortcuts buffer marks) = count_words g.counts ++ (cond shortcuts 1 0 ∷ [])
scalars_of (reencode g out marks) = count_words g.counts
scalars_of (unroll target from marks) = count_words target.counts ++ count_words from.counts

-- the lists, in the order of the call's parameters
abbrev lent_to : Call → List (List ℕ)
lent_to (new_and rows n a b) = rows ∷ []
lent_to (new_eq rows n a b) = rows ∷ []
lent_to (simulate g input state values marks) = lists_of g ++ (input ∷ state ∷ values ∷ marks ∷ [])
lent_to (clauses g shortcuts buffer marks) = lists_of g ++ (buffer ∷ marks ∷ [])
lent_to (reencode g out marks) = lists_of g ++ (lists_of out ++ (marks ∷ []))
lent_to (unroll target from marks) = lists_of target ++ (lists_of from ++ (marks ∷ []))

-- a case as lists: its mark, its call and how many lists are lent; the scalars; the lists lent; then what is to be seen: the answer, the numbers, the lists
abbrev parts_of : Case → List (List ℕ)
parts_of c =
    (c.mark ∷ number_of c.call ∷ length (lent_to c.call) ∷ [])
    ∷ scalars_of c.call
    ∷ (lent_to c.call ++ (given_words c.expected.given ∷ c.expected.numbers ∷ c.expected.lists))

-- each case, and in it each list, has its length before it, as a clause has
abbrev rows_of : List Case → List (List ℕ)
rows_of [] = []
rows_of (c ∷ cs) = words (parts_of c) ∷ rows_of cs

unfoldable pub encoded : List Case → List ℕ
encoded cs = words (rows_of cs)

-- any two results that the promise of `words` allows are equal
pub words_determined : (r s : List ℕ) → r ≡ encoded table → s ≡ encoded table → r ≡ s
words_determined = determined encoded table
