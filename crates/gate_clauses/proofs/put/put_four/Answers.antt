-- `gate_clauses::put::put_four` meets its contract.
use mathlib.Core.Path.{refl, sym, ◌∙◌}
use mathlib.Core.List.{[]}
use borrow.Author.Rules.{rules}
use Rattle.gate_clauses.specs.Shapes.{words}
use Rattle.gate_clauses.proofs.Writing.{no_room_lem, four_long, four_turn, four_end}
use Rattle.gate_clauses.proofs.put.put_four.Goals as goal

pub returns-then-clauses-end : goal.returns-then-clauses-end
returns-then-clauses-end c = let a = c.args in record { place = refl; written = no_room_lem a.clauses.now a.at (words a.four) (four_long a.four c.requires.four_value) c.if-clauses-end.true }

pub loop-i-preserved : goal.loop-i-preserved
loop-i-preserved c = (search rules, four_turn _ _ _ c.requires.four_value c.args.at c.loop-i.i c.loop-i-test.true c.put_clause.ensures ∙ c.loop-i.invariant.1)

pub returns : goal.returns
returns c =
    record { place = refl; written = λ _. sym (four_end _ c.args.four [] c.requires.four_value c.args.at c.loop-i.i c.loop-i-test.false) ∙ c.loop-i.invariant.1 }
