-- `gate_clauses::recognised` meets its contract.
use Rattle.gate_clauses.proofs.Recognising.{xor_first, then_ite}
use Rattle.gate_clauses.proofs.recognised.Goals as goal

pub returns-then-is_xor : goal.returns-then-is_xor
returns-then-is_xor c = let a = c.args in xor_first a.plain a.a a.b a.c a.d c.is_xor.ensures c.if-is_xor.true

pub returns : goal.returns
returns c = let a = c.args in then_ite a.plain a.a a.b a.c a.d c.is_xor.ensures c.if-is_xor.false c.pairing.ensures
