-- `rows::reading::fanin` meets its contract.
use mathlib.Core.Path.{◌≡◌, refl, sym, ◌∙◌}
use mathlib.Core.Bool.{true, false}
use Rattle.edge.proofs.Answers.{handed_on, not_done}
use Rattle.edge.specs.Answers.{or_else, refused}
use Rattle.rows.specs.Rows.{gate_at}
use Rattle.rows.specs.Reading.{gate_read, fanin_call}
use Rattle.rows.proofs.reading.fanin.Goals as goal

pub returns-in_err-a : goal.returns-in_err-a
unfolding fanin_call
returns-in_err-a c =
    let f = c.in_err-a.field-0.0 in
    let stopped : gate_read c.args.rows.now c.args.used c.args.id ≡ refused f =
    unfold gate_read or_else in rw (sym c.in_err-a.ensures.answer, not_done f) refl in
    rw (handed_on _ _ c.from_residual.ensures.1, stopped, not_done f) refl

pub returns-then-is_gate : goal.returns-then-is_gate
unfolding fanin_call gate_read or_else
returns-then-is_gate c =
    let words = c.in_ok-a.ensures.words in
    let gate : gate_at c.args.rows.now c.args.id ≡ true = rw (← words.0, ← words.1) (sym c.is_gate.ensures ∙ c.if-is_gate.true) in
    rw (sym c.in_ok-a.ensures.answer, gate, words.0, words.1) refl

pub returns-else-is_gate : goal.returns-else-is_gate
unfolding fanin_call gate_read or_else
returns-else-is_gate c =
    let words = c.in_ok-a.ensures.words in
    let gate : gate_at c.args.rows.now c.args.id ≡ false = rw (← words.0, ← words.1) (sym c.is_gate.ensures ∙ c.if-is_gate.false) in
    rw (sym c.in_ok-a.ensures.answer, gate) refl
