-- Laws of numbering the kept rows, step by step.
-- Assumes nothing.
use Prim.Native.Nat.{ℕ, ◌≤◌, ◌<◌}
use native.Mathlib.Omega.{arith}
use mathlib.Core.Path.{◌≡◌, sym, ap, ◌∙◌}
use mathlib.Core.List.{List}
use lib.ListN.{length, get_or, take}
use Rattle.std.proofs.lemmas.List.{get_or-take, length-take-le}
use Rattle.rows.specs.Sizes.{max_rows}
use Rattle.graph.specs.declared.Counts.{Counts}
use Rattle.graph.specs.Graph.{Lent}
use Rattle.root_marks.specs.Flags.{Flagged, Flags}
use Rattle.graph.specs.Count.{count_below}
use Rattle.renumber.specs.Steps.{MarksHold}
use Rattle.kept_rows.specs.Kept.{kept_cone}
use Rattle.kept_rows.specs.Keeping.{kept_row, kept_id, new_ids, numbered, kept_input, with_kept, kept_counts}
use Rattle.kept_rows.specs.Steps.{FlagsReady, IdsThere}
use Rattle.kept_rows.proofs.Flagging.{marks_long, cone_flags, cone_zero}
use Rattle.kept_rows.proofs.Numbering.{ids_hold, inputs_kept_lem}

-- ---- the numbers
module _ (g : Lent) (marks : List ℕ) (r : FlagsReady g marks) where
  abbrev cone : List ℕ
  cone = kept_cone g

  abbrev n : Counts
  n = g.counts

  module _ {flags : List ℕ} (p : flags ≡ cone) where
    flags_long : length flags ≡ n.rows
    flags_long = ap length p ∙ (cone_flags g marks r).long

    pub number_needs : (length flags ≤ max_rows) × Flags (length flags) flags
    number_needs = (omega (arith, flags_long, r.small), rw flags_long (rw p (cone_flags g marks r)))

    module _ {ids : List ℕ} (q : ids ≡ new_ids flags) where
      first : Flagged flags 0
      first = rw p (cone_zero g marks r)

      module _ (inputs : List ℕ) (there : IdsThere marks inputs n.inputs) where
        pub counted :
            {k j : ℕ} {s : Counts} → k ≡ count_below (kept_row flags) (length flags) → j ≡ count_below (kept_input (numbered ids) inputs) n.inputs → s ≡ with_kept k j n → s ≡ kept_counts cone
            inputs n
        counted {k} {j} {s} a b e =
            let h : MarksHold (length flags) (kept_id flags) ids = rw q (ids_hold flags first) in
            let u : (i : ℕ) → i < n.inputs → get_or inputs i 0 < length flags = λ i l.
            let t : i < length (take n.inputs inputs) = omega (arith, length-take-le n.inputs inputs there.has) in
            rw (flags_long ∙ sym (marks_long g marks r)) (rw (get_or-take n.inputs inputs i 0 l) at (there.there i 0 t)) in
            let k' : k ≡ count_below (kept_row cone) n.rows = a ∙ (ap (count_below (kept_row flags)) flags_long ∙ ap (λ (f : List ℕ). count_below (kept_row f) n.rows) p) in
            let j' : j ≡ count_below (kept_input (kept_row cone) inputs) n.inputs = b ∙
            (inputs_kept_lem flags first ids (length flags) h inputs n.inputs u ∙ ap (λ (f : List ℕ). count_below (kept_input (kept_row f) inputs) n.inputs) p) in
            e ∙ rw (k', j')
