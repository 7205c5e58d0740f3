-- Document 01: "M1 to M13 are proved together, one statement over a single table".
-- Assumes nothing.
use Rattle.marked.specs.Cases.{EachHolds}
use Rattle.marked.specs.Table.{table}

-- M1 to M13 hold, together
abbrev pub EveryCaseHolds : Type 0
EveryCaseHolds = EachHolds table
