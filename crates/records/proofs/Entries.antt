-- A record that is read, or is not there.
-- Assumes nothing.
use Prim.Native.Nat.{ℕ}
use mathlib.Core.Path.{◌≡◌, refl, sym}
use mathlib.Core.List.{List}
use lib.ListN.{length, get_or}
use lib.Dec.{ltb}
use Rattle.std.specs.Prelude.{Option, Some, None, unwrap_or, is_some}
use Rattle.std.specs.Option.{ok_or, option_map, option_copied}
use Rattle.std.proofs.Common.{Bor}
use Rattle.edge.specs.declared.answer.Refusal.TheVariants.{BadArgument}
use Rattle.graph.specs.declared.latch.Latch.{Latch}
use Rattle.records.specs.Table.{no_latch}
use Rattle.records.specs.Entries.{found_seen, latch_call}

-- `get`, with 4 for a record that is not there
pub latch_found : (t : List Latch) (i : ℕ) (o : Option (Bor Latch)) → is_some o ≡ ltb i (length t) → unwrap_or (option_map (λ x. x.now) o) no_latch ≡ get_or t i no_latch
    → found_seen (ok_or (option_copied o) BadArgument) ≡ latch_call t i
unfolding latch_call
latch_found t i (Some l) e f = rw (sym e, sym f) refl
latch_found t i None e f = rw (sym e) refl
