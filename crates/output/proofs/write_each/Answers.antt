-- `output::write_each` meets its contract.
use native.Mathlib.Omega.{arith}
use mathlib.Core.Path.{◌≡◌, refl}
use lib.ListN.{length}
use Rattle.output.specs.Writing.{written, each_of}
use Rattle.output.proofs.Writing.{written_turn}
use Rattle.output.proofs.write_each.Goals as goal

pub loop-j-init : goal.loop-j-init
unfolding written
loop-j-init g c of gives = refl

pub loop-j-preserved : goal.loop-j-preserved
loop-j-preserved g c of gives =
    written_turn c.args.out.now c.args.at (each_of of c.args.list.now) c.loop-j.j (c.loop-j.invariant of gives) (gives _ _ c.f.ensures)

pub returns : goal.returns
returns g c of gives =
    let all : c.loop-j.j ≡ length c.args.list.now = omega arith in
    rw all at (c.loop-j.invariant of gives)
