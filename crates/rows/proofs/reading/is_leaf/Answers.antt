-- `rows::reading::is_leaf` meets its contract.
use mathlib.Core.Path.{refl, sym}
use Rattle.edge.proofs.Answers.{handed_on, not_done}
use Rattle.rows.specs.Reading.{is_leaf_call}
use Rattle.rows.proofs.reading.is_leaf.Goals as goal

pub returns-in_err-a : goal.returns-in_err-a
unfolding is_leaf_call
returns-in_err-a c = rw (handed_on _ _ c.from_residual.ensures.1, sym c.in_err-a.ensures.answer, not_done c.in_err-a.field-0.0) refl

pub returns : goal.returns
unfolding is_leaf_call
returns c = rw (sym c.in_ok-a.ensures.answer, c.is_leaf.ensures, c.in_ok-a.ensures.words.0, c.in_ok-a.ensures.words.1) refl
