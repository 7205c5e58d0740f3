-- `ternary_run::codes::all_codes` meets its contract.
use mathlib.Core.Path.{◌∙◌}
use lib.Dec.{leb}
use Rattle.std.proofs.Common.{rules, tests}
use Rattle.std.proofs.lemmas.Iterator.{YieldsList-from_slice}
use Rattle.std.proofs.lemmas.Iterator.Search.{all_from_yields_List}
use Rattle.ternary_run.proofs.Coding.{codes_listed}
use Rattle.ternary_run.proofs.codes.all_codes.Goals as goal

pub returns : goal.returns
returns c =
    all_from_yields_List (λ x. leb x 2) _ _ c.all.result c.all.ensures.ran (YieldsList-from_slice c.args.list.now cc) (λ x b q k. search (rules, tests))
    ∙ codes_listed c.args.list.now
