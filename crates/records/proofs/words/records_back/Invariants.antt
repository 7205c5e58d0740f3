use Rattle.std.proofs.Common.{◌≡◌}
use Rattle.records.proofs.Nexting.{sofar}
use Rattle.records.specs.Table.{all_taken}
use Rattle.records.proofs.words.records_back.Given as goal

abbrev pub invariant-loop-i : goal.invariant-loop-i
invariant-loop-i l = l.table ≡ sofar all_taken l.words l.initial.table l.i
