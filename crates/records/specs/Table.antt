-- The latch table as records: "The latch table is a lent slice of latch records".
-- Assumes nothing.
use Rattle.std.specs.Prelude.{ℕ, suc, ◌*◌, ◌≡◌, refl, Bool, cond, List, [], ◌∷◌, ◌++◌, length, take, drop, leb}
use Rattle.std.proofs.Common.{sym, ap, ◌∙◌}
use Rattle.edge.specs.Answers.{determined}
use Rattle.graph.specs.declared.latch.Latch.{Latch}
use Rattle.graph.specs.Latches.{latch_words, latches_lent, latch_at}
use Rattle.graph.specs.Check.{cleared}

-- ---- the words that the records hold: "flat words of the same layout"
abbrev pub words_of : List Latch → List ℕ
words_of [] = []
words_of (l ∷ t) = l.input ∷ (l.next ∷ (l.init ∷ words_of t))

-- the records that words hold, three words each; fewer than three words hold none
abbrev records_in : List ℕ → List Latch
records_in [] = []
records_in (a ∷ []) = []
records_in (a ∷ (b ∷ [])) = []
records_in (a ∷ (b ∷ (c ∷ words))) = record { input = a; next = b; init = c } ∷ records_in words

records_in_words : (t : List Latch) → records_in (words_of t) ≡ t
records_in_words [] = refl
records_in_words (l ∷ t) = ap (λ (z : List Latch). l ∷ z) (records_in_words t)

-- two tables with the same words are the same
pub same_table : (t u : List Latch) → words_of t ≡ words_of u → t ≡ u
same_table t u e = sym (records_in_words t) ∙ (ap records_in e ∙ records_in_words u)

-- the words have room for every record
abbrev pub room_for : List Latch → List ℕ → Bool
room_for t words = leb (length t) (latches_lent words)

-- the first n latches of work words, and the words behind them
abbrev pub front : ℕ → List ℕ → List ℕ
front n words = take (latch_words * n) words

abbrev pub behind : ℕ → List ℕ → List ℕ
behind n words = drop (latch_words * n) words

-- the records' words in front, the others as they were; words with too little room stay
unfoldable pub laid_out : List Latch → List ℕ → List ℕ
laid_out t words = cond (room_for t words) (words_of t ++ behind (length t) words) words

-- work words are zero over the first n latches, where there are so many; else untouched
unfoldable pub wiped : ℕ → List ℕ → List ℕ
wiped n words = cond (leb n (latches_lent words)) (cleared (latch_words * n) words) words

-- ---- the way back
-- what stands past the end
abbrev pub no_latch : Latch
no_latch = record { input = 0; next = 0; init = 0 }

abbrev pub with_next : Latch → ℕ → Latch
with_next l n = record { input = l.input; next = n; init = l.init }

-- what becomes of a record: the next of the words' latch alone, or all of it
abbrev pub take_next : Latch → Latch → Latch
take_next old new = with_next old new.next

abbrev pub all_taken : Latch → Latch → Latch
all_taken old new = new

-- record i takes latch i of the words, from the i-th on
abbrev pub back_from : (Latch → Latch → Latch) → ℕ → List Latch → List ℕ → List Latch
back_from take i [] words = []
back_from take i (l ∷ t) words = take l (latch_at words i) ∷ back_from take (suc i) t words

-- where the words have a latch for every record; else the records stay
unfoldable pub back : (Latch → Latch → Latch) → List Latch → List ℕ → List Latch
back take t words = cond (room_for t words) (back_from take 0 t words) t

abbrev pub nexts_back : List Latch → List ℕ → List Latch
nexts_back = back take_next

abbrev pub records_back : List Latch → List ℕ → List Latch
records_back = back all_taken

-- ---- any two results that a promise allows are equal
pub to_words_determined : (t : List Latch) (words x y : List ℕ) → x ≡ laid_out t words → y ≡ laid_out t words → x ≡ y
to_words_determined t = determined (laid_out t)

pub nexts_back_determined : (t : List Latch) (words : List ℕ) (x y : List Latch) → x ≡ nexts_back t words → y ≡ nexts_back t words → x ≡ y
nexts_back_determined t = determined (nexts_back t)

pub records_back_determined : (t : List Latch) (words : List ℕ) (x y : List Latch) → x ≡ records_back t words → y ≡ records_back t words → x ≡ y
records_back_determined t = determined (records_back t)

pub wipe_determined : (n : ℕ) (words x y : List ℕ) → x ≡ wiped n words → y ≡ wiped n words → x ≡ y
wipe_determined n = determined (wiped n)
