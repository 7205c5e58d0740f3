-- `records::table::latch_at` meets its contract.
use native.Mathlib.Nat.{le_refl}
use mathlib.Core.Path.{ap, ◌∙◌}
use Rattle.std.specs.Option.{ok_or}
use Rattle.edge.specs.declared.answer.Refusal.TheVariants.{BadArgument}
use Rattle.records.specs.Entries.{found_seen}
use Rattle.records.specs.Table.{no_latch}
use Rattle.records.proofs.Entries.{latch_found}
use Rattle.records.proofs.table.latch_at.Goals as goal

pub returns : goal.returns
returns c =
    ap found_seen c.ok_or.ensures.value ∙ (ap (λ o. found_seen (ok_or o BadArgument)) c.copied.ensures
    ∙ latch_found c.args.table.now c.args.i _ c.get.ensures.lookup.0 (c.get.ensures.lookup.4 (le_refl c.args.i) no_latch))
