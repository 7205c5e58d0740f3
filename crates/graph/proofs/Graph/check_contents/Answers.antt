-- `graph::Graph::check_contents` meets its contract.
use native.Mathlib.Omega.{arith}
use mathlib.Core.Path.{ap, ◌∙◌}
use lib.ListN.{length, drop}
use Rattle.graph.specs.Graph.{lent_of, Sized}
use Rattle.graph.proofs.Marked.{marks_none, cleared_again}
use Rattle.graph.proofs.Checked.{sized}
use Rattle.graph.proofs.Graph.check_contents.Goals as goal
use Rattle.graph.proofs.Graph.check_contents.Goals.{Start}

-- what the sizes of the graph give
known : (c : Start) → Sized (lent_of c.args.self.now) (length c.args.marks.now)
known c = sized (lent_of c.args.self.now) (length c.args.marks.now) c.requires

pub clear-requires : goal.clear-requires
clear-requires c = (known (goal.at.clear-requires c).Start).marked

pub check_stages-answer-requires : goal.check_stages-answer-requires
check_stages-answer-requires c = record { sized = rw c.clear.auto.marks (known (goal.at.check_stages-answer-requires c).Start); marks = rw c.clear.ensures (marks_none _ _) }

pub clear-requires-2 : goal.clear-requires-2
clear-requires-2 c = omega (arith, (known (goal.at.clear-requires-2 c).Start).marked)

pub returns : goal.returns
returns c =
    record {
      result_value = c.check_stages-answer.ensures.result_value;
      marks_after = c.clear-2.ensures ∙ cleared_again c.args.self.now.counts.rows c.args.marks.now _
          (c.check_stages-answer.ensures.marks_unchanged ∙ ap (drop c.args.self.now.counts.rows) c.clear.ensures);
    }
