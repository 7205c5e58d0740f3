-- `edge::map` meets its contract.
use native.Mathlib.Omega.{arith}
use mathlib.Core.Path.{◌≡◌, refl, sym, ap, ◌∙◌}
use mathlib.Core.Bool.{true, false}
use lib.Dec.{ltb}
use lib.ListN.{length, get_or}
use Rattle.std.specs.Option.{unwrap_or, option_map}
use Rattle.std.proofs.lemmas.Result.{err_from_is_err_and}
use Rattle.edge.specs.declared.answer.Refusal.TheVariants.{BadArgument}
use Rattle.edge.specs.Edges.{id_of, map_call}
use Rattle.edge.proofs.map.Goals as goal

pub returns-in_err-id : goal.returns-in_err-id
unfolding map_call
returns-in_err-id c =
    let p = err_from_is_err_and c.from_residual.result c.from_residual.ensures.1 in
    let beyond : ltb (id_of c.args.e) (length c.args.map.now) ≡ false = rw (← c.node_id.ensures) (sym c.get.ensures.lookup.0 ∙ sym c.in_err-id.ensures.variant) in
    let why : c.in_err-id.field-0.0 ≡ BadArgument = grind arith in
    rw (p.1, p.2, beyond, why) refl

pub returns : goal.returns
unfolding map_call
returns c =
    let there : ltb (id_of c.args.e) (length c.args.map.now) ≡ true = rw (← c.node_id.ensures) (sym c.get.ensures.lookup.0 ∙ sym c.in_ok-id.ensures.variant) in
    let read : c.in_ok-id.id.now ≡ get_or c.args.map.now (id_of c.args.e) 0 = rw (← c.node_id.ensures)
    (ap (λ o. unwrap_or (option_map (λ x. x.now) o) 0) (sym c.in_ok-id.ensures.ok_part) ∙ c.get.ensures.lookup.4 (search arith) 0) in
    rw (there, ← read, ← c.compl.ensures) c.new.ensures
