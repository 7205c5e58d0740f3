use Rattle.std.proofs.Common.{◌≡◌}
use Rattle.records.proofs.Nexting.{sofar}
use Rattle.records.specs.Table.{take_next}
use Rattle.records.proofs.words.nexts_back.Given as goal

abbrev pub invariant-loop-i : goal.invariant-loop-i
invariant-loop-i l = l.table ≡ sofar take_next l.words l.initial.table l.i
