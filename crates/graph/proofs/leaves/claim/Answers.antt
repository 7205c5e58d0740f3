-- `graph::leaves::claim` meets its contract.
use mathlib.Core.Path.{refl, sym}
use borrow.Author.Tests.{lt-ltb, le-ltb}
use Rattle.graph.specs.Steps.{unmarked_leaf}
use Rattle.graph.proofs.leaves.claim.Goals as goal

pub returns-then-graph-i : goal.returns-then-graph-i
unfolding unmarked_leaf
returns-then-graph-i c = record { value = simp (le-ltb _ _ c.if-graph-i.true); marks_after = refl }

pub returns-then-is_leaf-marks : goal.returns-then-is_leaf-marks
unfolding unmarked_leaf
returns-then-is_leaf-marks c = record { value = rw (lt-ltb _ _ c.if-graph-i.false, ← c.is_leaf.ensures) (sym c.if-is_leaf-marks.true); marks_after = refl }

pub returns : goal.returns
unfolding unmarked_leaf
returns c = record { value = rw (lt-ltb _ _ c.if-graph-i.false, ← c.is_leaf.ensures) (sym c.if-is_leaf-marks.false); marks_after = refl }
