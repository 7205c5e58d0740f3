-- What only the proofs need: what a step asks of its caller, and what its functions count on the way.
-- Assumes nothing.
use Rattle.std.specs.Prelude.{ℕ, ◌≤◌, ◌<◌, zero, suc, ◌+◌, ◌*◌, ◌≡◌, List, Bool, true, false, ◌||◌, length, set, take}
use Rattle.rows.specs.Sizes.{max_rows, max_entries}
use Rattle.gates.specs.Gates.{state}
use Rattle.gates.specs.Steps.{step_limit}
use Rattle.gates.specs.Lists.{list_of}
use Rattle.output.specs.Copying.{copied}
use Rattle.output.specs.Steps.{WordsFit}
use Rattle.graph.specs.declared.latch.Latch.{Latch}
use Rattle.graph.specs.Latches.{latch_words, latch_at}
use Rattle.property.specs.declared.gate_init.Gated.{Gated}
use Rattle.property.specs.GateInit.{is_gated, Gating, gating, Part, none_gated}

-- ---- what the steps rest on
-- the or of n bads can be built
pub record OrReady (used : ℕ) (bads : List ℕ) (n : ℕ) : Type 0 where
  pub few : used ≤ max_rows
  pub limited : n ≤ max_entries
  pub has : n ≤ length bads

-- and there is room for the one bad and for the old list
pub record CompressReady (used : ℕ) (bads : List ℕ) (n : ℕ) (old : List ℕ) : Type 0 where
  pub or : OrReady used bads n
  pub copy : WordsFit old bads n
  pub one : 0 < length bads

-- what is left of rows, bads and the room for the old list
pub record Compressing (rows : List ℕ) (used : ℕ) (bads : List ℕ) (n : ℕ) (old rows' bads' old' : List ℕ) (used' : ℕ) : Type 0 where
  pub edge : ℕ
  pub built : state rows' used' edge ≡ list_of false true rows used (take n bads)
  pub left : bads' ≡ set bads 0 edge
  pub back : old' ≡ copied old bads n

-- is there such a latch among the first n?
unfoldable pub any_gated : List ℕ → ℕ → Bool
any_gated latches zero = false
any_gated latches (suc n) = any_gated latches n || is_gated (latch_at latches n)

abbrev pub gating_of : List ℕ → List ℕ → Gated → Gating
gating_of rows constraints r = gating rows r.used constraints r.count

-- ---- what the steps rest on: every code is a word
pub record ConstraintReady (used new : ℕ) (l : Latch) : Type 0 where
  pub few : used + 3 ≤ step_limit
  pub row : new ≤ max_rows
  pub input : l.input ≤ max_rows

pub record StepReady (used new : ℕ) (l : Latch) (count : ℕ) : Type 0 where
  pub constraint : ConstraintReady used new l
  pub more : count ≤ 2 * max_entries

pub record StepsReady (used new : ℕ) (latches : List ℕ) (n count : ℕ) : Type 0 where
  pub few : used ≤ max_rows + 1
  pub row : new ≤ max_rows
  pub limited : n ≤ max_entries
  pub has : latch_words * n ≤ length latches
  pub inputs : (j : ℕ) → j < n → (latch_at latches j).input ≤ max_rows
  pub more : count ≤ max_entries

-- and there is a place for the new latch, where one is made
pub record GateReady (p : Part) : Type 0 where
  pub rows : p.counts.rows ≤ max_rows
  pub steps : StepsReady (p.counts.rows + 1) p.counts.rows p.latches p.counts.latches p.counts.constraints
  pub room : none_gated p ≡ false → latch_words * (p.counts.latches + 1) ≤ length p.latches
