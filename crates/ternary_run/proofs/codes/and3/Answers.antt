-- `ternary_run::codes::and3` meets its contract.
use Rattle.ternary_run.proofs.Coding.{table_rule}
use Rattle.ternary_run.proofs.codes.and3.Goals as goal

pub returns : goal.returns
returns c = table_rule c.args.a c.args.b c.requires.0 c.requires.1
