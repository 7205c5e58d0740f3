-- What only the proofs need: what a step asks of its caller, and what its functions count on the way.
-- Assumes nothing.
use Rattle.std.specs.Prelude.{ℕ, List, true, length, ◌≡◌}
use Rattle.std.specs.Fn.{Shared}
use denote.Ref.{MutBor}
use Rattle.edge.specs.declared.answer.Given.{Given}
use Rattle.gates.specs.declared.Grown.{Grown}
use Rattle.gates.specs.Gates.{State, state_of}
use Rattle.build_leaves.specs.Calls.{constructor_answer}
use Rattle.build_nodes.specs.Nodes.{all_used, gate_sizes}

-- 1 and 4, before the need is counted
abbrev pub gate_asked : List ℕ → ℕ → List ℕ → Given
gate_asked rows used es = constructor_answer (gate_sizes rows used es) (all_used used es) true

-- what steps build on the rows that they are lent: they change no length, and how much they take hangs on no row
pub record Total (of : List ℕ → State) : Type 0 where
  pub long : (x : List ℕ) → length (of x).rows ≡ length x
  pub need : (x y : List ℕ) → (of x).used ≡ (of y).used

-- each call of the steps builds what `of` gives on the rows that it is lent
abbrev pub Builds : {F : Type 0} → Shared F (MutBor (List ℕ) × Unit {0}) (Grown × (MutBor (List ℕ) × Unit {0})) → F → (List ℕ → State) → Type 0
Builds g f of = (p q : MutBor (List ℕ)) (r : Grown) → g.post f (p, tt) (r, (q, tt)) → state_of q.now r ≡ of p.now
