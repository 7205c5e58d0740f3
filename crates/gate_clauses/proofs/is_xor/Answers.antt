-- `gate_clauses::is_xor` meets its contract.
use Rattle.gate_clauses.specs.Shapes.{is_xor}
use Rattle.gate_clauses.proofs.is_xor.Goals as goal

pub returns : goal.returns
unfolding is_xor
returns c = rw (c.not.ensures, c.not-2.ensures, c.node_id.ensures, c.node_id-2.ensures)
