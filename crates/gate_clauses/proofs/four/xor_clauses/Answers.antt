-- `gate_clauses::four::xor_clauses` meets its contract.
use Rattle.gate_clauses.proofs.Writing.{xor_four}
use Rattle.gate_clauses.proofs.four.xor_clauses.Goals as goal

pub returns : goal.returns
returns c =
    xor_four c.args.g c.args.a c.args.b c.not-ng.ensures c.not-na.ensures
    c.not-nb.ensures
