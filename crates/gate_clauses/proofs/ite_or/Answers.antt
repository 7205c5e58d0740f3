-- `gate_clauses::ite_or` meets its contract.
use Rattle.gate_clauses.proofs.Recognising.{ite_not, ite_is}
use Rattle.gate_clauses.proofs.ite_or.Goals as goal

pub returns-then-i-j : goal.returns-then-i-j
returns-then-i-j c =
    ite_not c.args.plain c.args.c c.args.t c.args.e c.node_id-i.ensures c.node_id-j.ensures
    c.node_id-k.ensures c.if-i-j.true

pub returns : goal.returns
returns c =
    ite_is c.args.plain c.args.c c.args.t c.args.e c.node_id-i.ensures c.node_id-j.ensures
    c.node_id-k.ensures c.if-i-j.false
