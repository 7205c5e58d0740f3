-- `ternary_run::run::place_inputs` meets its contract.
use Prim.Native.Nat.{◌+◌}
use native.Mathlib.Omega.{arith}
use mathlib.Core.Path.{◌≡◌, refl, sym, ap, ◌∙◌}
use mathlib.Core.List.{[], ◌∷◌, ◌++◌}
use lib.ListN.{length, drop, length-append}
use borrow.Author.Rules.{rules}
use Rattle.ternary_run.specs.Run.{placed, input_row}
use Rattle.ternary_run.proofs.Running.{next_of, placed_next}
use Rattle.ternary_run.proofs.run.place_inputs.Goals as goal

pub loop-x-init : goal.loop-x-init
unfolding placed
loop-x-init c = (search rules, refl, search rules, search rules, refl)

pub loop-x-preserved : goal.loop-x-preserved
loop-x-preserved c =
    let k = length c.loop-x.yielded in
    let more : length (c.loop-x.yielded ++ ((c.in-Some.x, c.in-Some.code) ∷ [])) ≡ k + 1 = length-append c.loop-x.yielded ((c.in-Some.x, c.in-Some.code) ∷ []) in
    let row = next_of c.args.inputs.now k _ _ (sym c.loop-x.invariant.2 ∙ c.in-Some.ensures.steps.0) in
    let code = next_of c.args.input.now k _ _ (sym c.loop-x.invariant.3 ∙ c.in-Some.ensures.steps.1) in (
      omega (arith, row.within, more),
      search rules,
      row.left ∙ ap (λ n. drop n c.args.inputs.now) (sym more),
      code.left ∙ ap (λ n. drop n c.args.input.now) (sym more),
      placed_next (input_row c.args.inputs.now) c.args.input.now c.loop-x.yielded (c.in-Some.x, c.in-Some.code) c.args.values.now _ _ c.loop-x.invariant.4 row.is code.is,
    )
