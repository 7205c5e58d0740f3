-- `frame::map::start_map` meets its contract.
use lib.ListN.{length}
use native.Mathlib.Nat.{le_antisymm}
use mathlib.Core.Path.{refl}
use Rattle.frame.specs.Map.{nexts_mapped}
use Rattle.frame.proofs.Mapping.{nexts_mapped_turn, started}
use borrow.Author.Rules.{rules}
use Rattle.frame.proofs.map.start_map.Goals as goal

pub loop-j-init : goal.loop-j-init
unfolding nexts_mapped
loop-j-init c = (search rules, refl, refl)

pub loop-j-preserved : goal.loop-j-preserved
loop-j-preserved c = (
  search rules,
  search rules,
  nexts_mapped_turn c.args.target.now.latches.now _ c.loop-j.j
      c.loop-j.invariant.2 c.latch_at-l.ensures,
)

pub returns : goal.returns
returns c =
    started c.args.target.now.latches.now (length c.args.map.now) c.loop-j.invariant.2 (c.fill.ensures.after (λ y e. e))
    (le_antisymm c.loop-j.invariant.0 c.loop-j-test.false)
