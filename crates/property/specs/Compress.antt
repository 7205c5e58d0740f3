-- What `compress_property` answers and writes: it "leaves one bad, the or of all (constant false if there were none), and hands back the old list".
-- Assumes nothing.
use Rattle.std.specs.Prelude.{ℕ, ◌≡◌, List, Bool, true, false, ◌&&◌, length, set, take, ltb, leb}
use Rattle.rows.specs.Sizes.{max_entries, rows_lent}
use Rattle.rows.specs.Reading.{if_done}
use Rattle.graph.specs.declared.Counts.{Counts}
use Rattle.graph.specs.Graph.{Lent, lent}
use Rattle.graph.specs.Check.{CheckSeen}
use Rattle.gates.specs.Gates.{State}
use Rattle.gates.specs.Lists.{list_of}
use Rattle.renumber.specs.Seen.{Rebuilt, ListedSeen, listed_seen, SameListed, listed_determined}
use Rattle.output.specs.Copying.{copied}
use Rattle.property.specs.Checking.{change_checked}

-- the used bads
abbrev pub bads_of : Lent → List ℕ
bads_of g = take g.counts.bads g.bads

-- "the or of all (constant false if there were none)", as `new_ors_node` builds it
unfoldable pub or_of : Lent → State
or_of g = list_of false true g.rows g.counts.rows (bads_of g)

-- so many rows, and one bad
unfoldable pub one_bad : Counts → ℕ → Counts
one_bad n used =
    record {
      rows = used;
      inputs = n.inputs;
      latches = n.latches;
      constraints = n.constraints;
      bads = 1;
      outputs = n.outputs;
      sets = n.sets;
      edges = n.edges;
      fairness = n.fairness;
    }

-- "leaves one bad": the old words past it stay
unfoldable pub compressed : Lent → Lent
compressed g =
    let s = or_of g in
    lent s.rows g.inputs g.latches g.constraints (set g.bads 0 s.edge) g.outputs g.ends g.edges g.fairness (one_bad g.counts s.used)

-- "hands back the old list": `old` is the room for it, and its words past the bads stay
abbrev pub handed_back : Lent → List ℕ → List ℕ
handed_back g old = copied old g.bads g.counts.bads

-- room for the rows of the or, for the one bad, also where there was none, and for the old list
unfoldable pub compress_room : Lent → List ℕ → Bool
compress_room g old = leb (or_of g).used (rows_lent g.rows) && ltb 0 (length g.bads) && leb g.counts.bads (length old)

-- the answer, and the marks: the room for the old list is a list too, so it has the limit of lists
unfoldable pub compress_checked : Lent → List ℕ → List ℕ → CheckSeen
compress_checked g old marks = change_checked (leb (length old) max_entries) (compress_room g old) g marks

-- "A refusal changes no row, list, output or state", and the counts come back as given
unfoldable pub compress_call : Lent → List ℕ → List ℕ → ListedSeen
compress_call g old marks =
    let seen = compress_checked g old marks in
    record { given = seen.given; graph = if_done seen.given (compressed g) g; old = if_done seen.given (handed_back g old) old; marks = seen.marks }

-- any two results that the promise allows are equal: the answer, every lent word with the counts, the old list and the marks
pub compress_determined : (g : Lent) (old marks : List ℕ) (r s : Rebuilt) (x y : Lent) (o p m n : List ℕ)
    → listed_seen r x o m ≡ compress_call g old marks → listed_seen s y p n ≡ compress_call g old marks → SameListed r x o m s y p n
compress_determined g old = listed_determined (compress_call g old)
