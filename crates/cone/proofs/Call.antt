-- Laws of the call: what it answers and writes.
-- Assumes nothing.
use Prim.Native.Nat.{ℕ, ◌*◌, ◌≤◌}
use native.Mathlib.Omega.{arith}
use mathlib.Core.Path.{◌≡◌, refl, ap, ◌∙◌}
use mathlib.Core.Bool.{Bool, true, false, ◌&&◌}
use mathlib.Core.List.{List, ◌++◌}
use lib.ListN.{length, take, drop}
use lib.Seq.{length-take-le}
use lib.Dec.{leb}
use borrow.Author.Tests.{leb-true}
use Rattle.std.specs.Prelude.{Result, Ok, Err}
use Rattle.std.specs.List.{list_all}
use Rattle.edge.specs.declared.answer.Refusal.{Refusal}
use Rattle.edge.proofs.Tests.{both}
use Rattle.edge.proofs.Answers.{not_done}
use Rattle.rows.specs.Sizes.{max_entries}
use Rattle.graph.specs.Leaves.{used_edge}
use Rattle.graph.specs.Graph.{Lent}
use Rattle.graph.specs.Check.{check_seen}
use Rattle.root_marks.specs.Arguments.{every, args_call}
use Rattle.cone.specs.Cone.{cone_of}
use Rattle.cone.specs.Call.{cone_room, cone_checked, cone_seen, cone_call}
use Rattle.root_marks.proofs.Arguments.{Accepted, args_accepted, every_all}

abbrev pub ConeAccepted : Lent → List ℕ → ℕ → ℕ → Type 0
ConeAccepted g roots flags marks = Accepted (cone_room g roots flags) (every (used_edge g.counts.rows) roots) g marks

pub cone_accepted : (g : Lent) (roots : List ℕ) (flags : ℕ) (marks : List ℕ) → (cone_checked g roots flags marks).given.number ≡ 0 → ConeAccepted g roots flags (length marks)
unfolding cone_checked
cone_accepted g roots flags marks = args_accepted (cone_room g roots flags) (every (used_edge g.counts.rows) roots) g marks

-- the sizes of the call's own slices
pub own_sizes : (g : Lent) (roots : List ℕ) (flags : ℕ) → cone_room g roots flags ≡ true → (g.counts.rows ≤ flags) × (length roots ≤ max_entries)
own_sizes g roots flags h =
    let t = both {a = leb g.counts.rows flags} {b = leb (length roots) max_entries} h in
    (leb-true _ _ t.0, leb-true _ _ t.1)

-- what the flags are written from, where the call is accepted
pub record ConeReady (g : Lent) (roots flags : List ℕ) : Type 0 where
  pub long : g.counts.rows ≤ length flags
  pub part : length (take g.counts.rows flags) ≡ g.counts.rows
  pub rows : 2 * length (take g.counts.rows flags) ≤ length g.rows
  pub used : every (used_edge (length (take g.counts.rows flags))) roots ≡ true

-- where there is no room, the roots are not asked
only_roomy : (room good : Bool) (g : Lent) (marks : List ℕ) → args_call room (room && good) g marks ≡ args_call room good g marks
unfolding args_call
only_roomy true good g marks = refl
only_roomy false good g marks = refl

-- `after` are the marks
module _ (g : Lent) (roots flags marks : List ℕ) {after : List ℕ} where
  -- the call asks the library's `list_all` of the roots
  pub as_checked : {good : Bool} (r : Result Unit Refusal) → good ≡ list_all (used_edge g.counts.rows) roots
      → check_seen r after ≡ args_call (cone_room g roots (length flags)) good g marks → check_seen r after ≡ cone_checked g roots (length flags) marks
  unfolding cone_checked
  as_checked r e seen = seen ∙ ap (λ (b : Bool). args_call (cone_room g roots (length flags)) b g marks) (e ∙ every_all (used_edge g.counts.rows) roots)

  -- and asks it where there is room
  pub roomy_checked : {good : Bool} (r : Result Unit Refusal) → good ≡ (cone_room g roots (length flags) && list_all (used_edge g.counts.rows) roots)
      → check_seen r after ≡ args_call (cone_room g roots (length flags)) good g marks → check_seen r after ≡ cone_checked g roots (length flags) marks
  roomy_checked r e seen = as_checked r refl (seen ∙ ap (λ (b : Bool). args_call (cone_room g roots (length flags)) b g marks) e ∙ only_roomy _ _ g marks)

  pub cone_refused : (f : Refusal) → check_seen (Err f) after ≡ cone_checked g roots (length flags) marks → cone_seen (Err f) flags after ≡ cone_call g roots flags marks
  unfolding cone_call
  cone_refused f seen = rw (← seen, not_done f) refl

  module _ (seen : check_seen (Ok tt) after ≡ cone_checked g roots (length flags) marks) where
    pub ready : ConeReady g roots flags
    ready =
        let t = cone_accepted g roots (length flags) marks (rw (← seen) refl) in
        let l = (own_sizes g roots (length flags) t.roomy).0 in
        let e = length-take-le g.counts.rows flags l in
        record { long = l; part = e; rows = omega (arith, t.sized.rows.fit.within); used = rw e t.all_good }

    pub cone_done : {part : List ℕ} → part ≡ cone_of g.rows (length (take g.counts.rows flags)) roots → cone_seen (Ok tt) (part ++ drop g.counts.rows flags) after ≡ cone_call g roots flags marks
    unfolding cone_call
    cone_done w = rw (← seen, w, ready.part) refl
