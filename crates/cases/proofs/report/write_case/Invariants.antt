use lib.ListN.{length}
use Rattle.cases.proofs.report.write_case.Given as goal

abbrev pub decreases-loop-rest : goal.decreases-loop-rest
decreases-loop-rest g l = length l.rest
