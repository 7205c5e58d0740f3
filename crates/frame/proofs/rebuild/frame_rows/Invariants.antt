use Prim.Native.Nat.{◌+◌, ◌-◌, ◌≤◌}
use mathlib.Core.Path.{◌≡◌}
use lib.ListN.{length}
use Rattle.frame.specs.Frame.{frame, frame_rows}
use Rattle.frame.proofs.rebuild.frame_rows.Given as goal

abbrev pub invariant-loop-i : goal.invariant-loop-i
invariant-loop-i l =
    let s = l.reached in
    let o = l.initial.reached in
    (l.i ≤ l.i-end) × (s.used ≤ o.used + l.i) × (s.inputs ≤ o.inputs + l.i) × (length l.map ≡ length l.initial.map) × (length l.rows ≡ length l.initial.rows) ×
    (length l.inputs ≡ length l.initial.inputs) ×
    (frame_rows l.from l.i (l.i-end - l.i) (frame l.rows s.used l.inputs s.inputs l.map) ≡ frame_rows l.from 0 l.i-end
    (frame l.initial.rows o.used l.initial.inputs o.inputs l.initial.map))

abbrev pub decreases-loop-i : goal.decreases-loop-i
decreases-loop-i l = l.i-end - l.i
