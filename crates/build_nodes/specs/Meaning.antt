-- What the edges that were made mean, by the rules of the AIGER paper.
-- Assumes nothing.
use Rattle.std.specs.Prelude.{ℕ, ◌<◌, ◌≡◌, Bool, true, false, cond, not, ◌&&◌, ◌||◌, List}
use Rattle.edge.specs.Edges.{id_of}
use Rattle.edge.specs.Meaning.{edge_value}
use Rattle.rows.specs.Value.{value}
use Rattle.graph.specs.declared.Counts.{Counts}
use Rattle.gates.specs.Meaning.{all_true, any_true}
use Rattle.build_leaves.specs.Calls.{Left, Seen}
use Rattle.build_leaves.specs.Meaning.{Keeps}
use Rattle.build_nodes.specs.Nodes.{list_call, pair_call, imply_call, eq_call}

-- ---- an edge that was made: `of` tells its value by the values of the edges that were there
abbrev pub Of : Type 0
Of = (ℕ → Bool) → Bool

pub record Means (rows : List ℕ) (used : ℕ) (after : Left) (of : Of) : Type 0 where
  pub keeps : Keeps rows used after
  pub edge : id_of after.made < after.counts.rows
  pub means : (leaf : ℕ → Bool) → edge_value (value after.rows leaf) after.made ≡ of (edge_value (value rows leaf))

-- where a call is done, what it made means `of`
abbrev pub Done : List ℕ → Counts → Seen → Of → Type 0
Done rows counts s of = s.given.number ≡ 0 → Means rows counts.rows s.left of

-- the constructors that make an edge, each folding or not
pub record Nodes (rows : List ℕ) (n : Counts) : Type 0 where
  pub ands : (trivial : Bool) (es : List ℕ) → Done rows n (list_call trivial false rows n es) (λ (v : ℕ → Bool). all_true v es)
  pub ors : (trivial : Bool) (es : List ℕ) → Done rows n (list_call trivial true rows n es) (λ (v : ℕ → Bool). any_true v es)
  pub and : (trivial : Bool) (a b : ℕ) → Done rows n (pair_call trivial false rows n a b) (λ (v : ℕ → Bool). v a && v b)
  pub or : (trivial : Bool) (a b : ℕ) → Done rows n (pair_call trivial true rows n a b) (λ (v : ℕ → Bool). v a || v b)
  pub imply : (a b : ℕ) → Done rows n (imply_call rows n a b) (λ (v : ℕ → Bool). not (v a) || v b)
  pub eq : (a b : ℕ) → Done rows n (eq_call rows n a b) (λ (v : ℕ → Bool). cond (v a) (v b) (not (v b)))
