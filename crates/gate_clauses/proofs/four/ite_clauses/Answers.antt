-- `gate_clauses::four::ite_clauses` meets its contract.
use Rattle.gate_clauses.proofs.Writing.{ite_four}
use Rattle.gate_clauses.proofs.four.ite_clauses.Goals as goal

pub returns : goal.returns
returns c =
    ite_four c.args.g c.args.c c.args.t c.args.e c.not-ng.ensures c.not-nc.ensures c.not-nt.ensures
    c.not-ne.ensures
