use Rattle.std.proofs.Common.{◌≡◌}
use Rattle.records.proofs.Laying.{sofar}
use Rattle.records.proofs.words.to_words.Given as goal

abbrev pub invariant-loop-i : goal.invariant-loop-i
invariant-loop-i l = l.words ≡ sofar l.table l.initial.words l.i
