-- `cnf::walk::mark_operands` meets its contract.
use Rattle.cnf.proofs.Walking.{no_operands, two_operands, ite_operands, mark_none}
use Rattle.cnf.proofs.walk.mark_operands.Goals as goal

pub mark_edges-requires : goal.mark_edges-requires
mark_edges-requires c = rw (← ite_operands _ _ _ _ c.in-Ite.is) c.requires

pub mark_edges-requires-in-Plain : goal.mark_edges-requires-in-Plain
mark_edges-requires-in-Plain c = rw (← two_operands _ _ _ c.in-Plain.is) c.requires

pub returns-in-Unwritten : goal.returns-in-Unwritten
returns-in-Unwritten c = mark_none _ _ (no_operands _ c.in-Unwritten.is)

pub returns-in-Plain : goal.returns-in-Plain
returns-in-Plain c = rw (two_operands _ _ _ c.in-Plain.is) c.mark_edges-in-Plain.ensures

pub returns-in-Ite : goal.returns-in-Ite
returns-in-Ite c = rw (ite_operands _ _ _ _ c.in-Ite.is) c.mark_edges.ensures
