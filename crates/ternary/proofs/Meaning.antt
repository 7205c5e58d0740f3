-- What is known is right: in one run, and frame by frame.
-- Assumes nothing.
use Prim.Native.Nat.{ℕ, zero, suc, ◌≤◌, ◌<◌}
use native.Mathlib.Omega.{arith}
use mathlib.Core.Path.{◌≡◌, refl, sym, ap, ap₂, ◌∙◌}
use mathlib.Core.Bool.{Bool, true, false, cond, not, ◌&&◌}
use mathlib.Core.Logic.{inl, inr}
use mathlib.Core.List.{List}
use lib.ListN.{get_or, length, drop, replicate, length-append, length-drop, length-replicate}
use lib.Dec.{eqb}
use lib.Seq.{drop_at}
use Rattle.edge.specs.Edges.{id_of, is_complemented}
use Rattle.edge.specs.Meaning.{edge_value}
use Rattle.edge.proofs.Tests.{false_true}
use Rattle.rows.specs.Sizes.{max_rows}
use Rattle.rows.specs.Rows.{word0, word1, is_gate, leaf_at, gate_at}
use Rattle.rows.specs.Value.{value, InCone}
use Rattle.rows.specs.Value.InCone.{here, by0, by1}
use Rattle.rows.proofs.Laws.{gate_below}
use Rattle.rows.proofs.Value.{value_gate, value_zero, value_leaf, cone_below}
use Rattle.graph.specs.Latches.{latch_at}
use Rattle.graph.specs.Graph.{Lent, Sized}
use Rattle.graph.specs.WellFormed.{WellFormed}
use Rattle.ternary_run.specs.Codes.{unknown, and3, not3, edge3, Codes}
use Rattle.ternary_run.specs.Run.{placed, input_row, latch_row, next_row, row3, rows3, codes_of, run, next, state_at}
use Rattle.ternary.specs.Rules.{Listed}
use Rattle.ternary.specs.Meaning.{code_of, Agrees, Known, NoOrphan, Chosen, Means, Trace, AllKnown, Frames, truths, Traced, Whole, M7, RunRight, Steps, Inputs}
use Rattle.ternary_run.proofs.Running.{nexts_at, leaves_codes, rows_codes, nexts_long}
use Rattle.ternary.proofs.Rules.{obeys, leaf_codes, run_gate, run_other, row_kind, listed_later, leaf_has, leaf_listed, blank_later, leaf_zero}
use Rattle.edge.specs.Answers.{done}
use Rattle.graph.specs.Check.{cleared}
use Rattle.ternary.specs.Calls.{written, StepSeen, step_call, step_calls, Accepted}
use Rattle.ternary_run.proofs.Coding.{edge_code}
use Rattle.ternary.proofs.Answering.{accepts, accepted, answers, run_long}

-- ---- a relation of codes and truth values that and and not keep holds of every row, where it holds of the rows in its cone that are no gates
module _ (R : ℕ → Bool → Type 0) (and-R : (a b : ℕ) (p q : Bool) → R a p → R b q → R (and3 a b) (p && q)) (not-R : (a : ℕ) (p : Bool) → R a p → R (not3 a) (not p)) where
  edge_keeps : (codes : List ℕ) (v : ℕ → Bool) (e : ℕ) → R (get_or codes (id_of e) 0) (v (id_of e)) → R (edge3 codes e) (edge_value v e)
  unfolding edge3 edge_value
  edge_keeps codes v e r = go (is_complemented e)
    where
      go : (t : Bool) → R (cond t (not3 (get_or codes (id_of e) 0)) (get_or codes (id_of e) 0)) (cond t (not (v (id_of e))) (v (id_of e)))
      go true = not-R _ _ r
      go false = r

  module _ (g : Lent) (input state : List ℕ) (leaf : ℕ → Bool) where
    row_keeps : (n i : ℕ) → i < n → i < g.counts.rows
        → ((j : ℕ) → InCone g.rows j i → j < g.counts.rows → gate_at g.rows j ≡ false → R (get_or (leaf_codes g input state) j 0) (value g.rows leaf j))
        → R (get_or (run g input state) i 0) (value g.rows leaf i)
    row_keeps zero i k l leaves = absurd (omega arith)
    row_keeps (suc n) i k l leaves = go (gate_at g.rows i) refl (row_keeps n)
      where
        go :
            (t : Bool) → gate_at g.rows i ≡ t →
            ((i : ℕ) → i < n → i < g.counts.rows →
            ((j : ℕ) → InCone g.rows j i → j < g.counts.rows → gate_at g.rows j ≡ false → R (get_or (leaf_codes g input state) j 0) (value g.rows leaf j)) → R
            (get_or (run g input state) i 0) (value g.rows leaf i)) → R (get_or (run g input state) i 0) (value g.rows leaf i)
        go true h below =
            let t = gate_below i (word0 g.rows i) (word1 g.rows i) h in
            let a = edge_keeps (run g input state) (value g.rows leaf) (word0 g.rows i)
            (below (id_of (word0 g.rows i)) (omega (arith, t.0)) (omega (arith, t.0)) (λ j c. leaves j (by0 h c))) in
            let b = edge_keeps (run g input state) (value g.rows leaf) (word1 g.rows i)
            (below (id_of (word1 g.rows i)) (omega (arith, t.1)) (omega (arith, t.1)) (λ j c. leaves j (by1 h c))) in
            rw (run_gate g input state i l h, value_gate g.rows leaf i h) (and-R _ _ _ _ a b)
        go false h below = rw (run_other g input state i l h) (leaves i here l h)

-- ---- and and not keep what agrees
and_unknown : (p q : Bool) → Agrees (and3 unknown (code_of q)) (p && q)
unfolding and3
and_unknown p true = inl refl
and_unknown true false = inr refl
and_unknown false false = inr refl

unknown_and : (p q : Bool) → Agrees (and3 (code_of p) unknown) (p && q)
unfolding and3
unknown_and true q = inl refl
unknown_and false q = inr refl

and_known : (p q : Bool) → and3 (code_of p) (code_of q) ≡ code_of (p && q)
unfolding and3
and_known true true = refl
and_known true false = refl
and_known false true = refl
and_known false false = refl

not_known : (p : Bool) → not3 (code_of p) ≡ code_of (not p)
unfolding not3
not_known true = refl
not_known false = refl

and_agrees : (a b : ℕ) (p q : Bool) → Agrees a p → Agrees b q → Agrees (and3 a b) (p && q)
unfolding and3
and_agrees a b p q (inl x) (inl y) = inl (rw (x, y))
and_agrees a b p q (inl x) (inr y) = rw (x, y) (and_unknown p q)
and_agrees a b p q (inr x) (inl y) = rw (x, y) (unknown_and p q)
and_agrees a b p q (inr x) (inr y) = inr (rw (x, y) (and_known p q))

not_agrees : (a : ℕ) (p : Bool) → Agrees a p → Agrees (not3 a) (not p)
unfolding not3
not_agrees a p (inl x) = inl (rw x)
not_agrees a p (inr x) = inr (rw x (not_known p))

-- and what is known
abbrev Is : ℕ → Bool → Type 0
Is c b = c ≡ code_of b

and_is : (a b : ℕ) (p q : Bool) → Is a p → Is b q → Is (and3 a b) (p && q)
and_is a b p q x y = rw (x, y) (and_known p q)

not_is : (a : ℕ) (p : Bool) → Is a p → Is (not3 a) (not p)
not_is a p x = rw x (not_known p)

agrees_is : (c : ℕ) (b : Bool) → Agrees c b → c < 2 → Is c b
agrees_is c b (inl x) l = absurd (omega arith)
agrees_is c b (inr x) l = x

is_known : (c : ℕ) (b : Bool) → Is c b → c < 2
is_known c true x = omega arith
is_known c false x = omega arith

known_is : (c : ℕ) → c < 2 → Is c (eqb c 1)
known_is zero l = refl
known_is (suc zero) l = refl
known_is (suc (suc c)) l = absurd (omega arith)

is_one : (b : Bool) → eqb (code_of b) 1 ≡ b
is_one true = refl
is_one false = refl

-- ---- one run
module _ (g : Lent) (m : ℕ) (size : Sized g m) (w : WellFormed g) where
  limit : g.counts.rows ≤ max_rows
  limit = omega (arith, size.rows.fit.within, size.rows.fit.limited)

  module _ (input state : List ℕ) (leaf : ℕ → Bool) (chosen : Chosen g input state leaf) where
    zero_is : Is (get_or (leaf_codes g input state) 0 0) (value g.rows leaf 0)
    zero_is = leaf_zero g m size w input state ∙ sym (ap code_of (value_zero g.rows leaf))

    leaf_agrees : (j : ℕ) → j < g.counts.rows → leaf_at g.rows j ≡ true → Agrees (get_or (leaf_codes g input state) j 0) (value g.rows leaf j)
    leaf_agrees j l h =
        rw (value_leaf g.rows g.counts.rows leaf limit j l h)
        (leaf_has g m size w input state (λ (c : ℕ). Agrees c (leaf j)) j (λ i k e. rw (← e) (chosen.inputs i k)) (λ i k e. rw (← e) (chosen.latches i k))
        (inl (blank_later g m size w input state j l (listed_later g m size w j h))))

    other_agrees : (j : ℕ) → j < g.counts.rows → gate_at g.rows j ≡ false → Agrees (get_or (leaf_codes g input state) j 0) (value g.rows leaf j)
    other_agrees j l f =
        row_kind g m size w (Agrees (get_or (leaf_codes g input state) j 0) (value g.rows leaf j)) j l (λ (e : j ≡ 0). rw e (inr zero_is)) (leaf_agrees j l) (λ h. absurd (false_true (sym f ∙ h)))

    sound : (i : ℕ) → i < g.counts.rows → Agrees (get_or (run g input state) i 0) (value g.rows leaf i)
    sound i l = row_keeps Agrees and_agrees not_agrees g input state leaf (suc i) i (omega arith) l (λ j _. other_agrees j)

    module _ (inputs : Known g.counts.inputs input) (states : Known g.counts.latches state) where
      other_is : (j : ℕ) → j < g.counts.rows → gate_at g.rows j ≡ false → (leaf_at g.rows j ≡ true → Listed g j) → Is (get_or (leaf_codes g input state) j 0) (value g.rows leaf j)
      other_is j l f listed =
          row_kind g m size w (Is (get_or (leaf_codes g input state) j 0) (value g.rows leaf j)) j l (λ (e : j ≡ 0). rw e zero_is)
          (λ h. agrees_is (get_or (leaf_codes g input state) j 0) (value g.rows leaf j) (leaf_agrees j l h)
          (leaf_listed g m size w input state (λ (c : ℕ). c < 2) j l (listed h) (λ i k _. inputs i k) (λ i k _. states i k))) (λ h. absurd (false_true (sym f ∙ h)))

      exactly : (i : ℕ) → i < g.counts.rows → NoOrphan g i → Is (get_or (run g input state) i 0) (value g.rows leaf i)
      exactly i l whole = row_keeps Is and_is not_is g input state leaf (suc i) i (omega arith) l (λ j c k f. other_is j k f (whole j c))

    pub means : Means g input state leaf
    means =
        record {
          sound = sound;
          sound_next = λ i l. rw (nexts_at g.latches (run g input state) g.counts.latches i l)
              (edge_keeps Agrees and_agrees not_agrees (run g input state) (value g.rows leaf) (latch_at g.latches i).next (sound (next_row g.latches i) (w.nexts i l)));
          exact = exactly;
          exact_next = λ p q i l whole. nexts_at g.latches (run g input state) g.counts.latches i l ∙ edge_keeps Is and_is not_is (run g input state) (value g.rows leaf)
              (latch_at g.latches i).next (exactly p q (next_row g.latches i) (w.nexts i l) whole);
        }

  -- ---- frame by frame
  module _ (input : ℕ → List ℕ) (state : List ℕ) (leaf : ℕ → ℕ → Bool) (trace : Trace g input state leaf) where
    abbrev Agreeing : ℕ → Type 0
    Agreeing k = (i : ℕ) → i < g.counts.latches → Agrees (get_or (state_at g input state k) i 0) (leaf k (latch_row g.latches i))

    frame_means : (k : ℕ) → Agreeing k → Means g (input k) (state_at g input state k) (leaf k)
    frame_means k s = means (input k) (state_at g input state k) (leaf k) (record { inputs = trace.inputs k; latches = s })

    sound_state : (k : ℕ) → Agreeing k
    unfolding state_at
    sound_state zero i l = trace.start i l
    sound_state (suc k) i l = rw (trace.steps k i l) ((frame_means k (sound_state k)).sound_next i l)

    module _ (all : AllKnown g input state) where
      exact_state : (k i : ℕ) → i < g.counts.latches → Is (get_or (state_at g input state k) i 0) (leaf k (latch_row g.latches i))
      unfolding state_at
      exact_state zero i l = agrees_is (get_or state i 0) (leaf 0 (latch_row g.latches i)) (trace.start i l) (all.start i l)
      exact_state (suc k) i l =
          rw (trace.steps k i l)
          ((frame_means k (sound_state k)).exact_next (all.inputs k) (λ j h. is_known _ (leaf k (latch_row g.latches j)) (exact_state k j h)) i l (all.nexts i l))

    pub frames : Frames g input state leaf
    frames =
        record {
          sound = λ k. (frame_means k (sound_state k)).sound;
          sound_state = sound_state;
          exact = λ all k. (frame_means k (sound_state k)).exact (all.inputs k) (λ j h. is_known _ (leaf k (latch_row g.latches j)) (exact_state all k j h));
          exact_state = exact_state;
        }

  -- ---- where all is known, the frames are a trace
  module _ (input : ℕ → List ℕ) (state : List ℕ) (all : AllKnown g input state) where
    abbrev leaf : ℕ → ℕ → Bool
    leaf = truths g input state

    told_inputs : (k i : ℕ) → i < g.counts.inputs → Agrees (get_or (input k) i 0) (leaf k (input_row g.inputs i))
    told_inputs k i l = inr (rw ((obeys g m size w (input k) (state_at g input state k)).obeys.inputs i l) (known_is (get_or (input k) i 0) (all.inputs k i l)))

    told_latches : (k : ℕ) → Known g.counts.latches (state_at g input state k) → (i : ℕ) → i < g.counts.latches → Agrees (get_or (state_at g input state k) i 0) (leaf k (latch_row g.latches i))
    told_latches k s i l = inr (rw ((obeys g m size w (input k) (state_at g input state k)).obeys.latches i l) (known_is (get_or (state_at g input state k) i 0) (s i l)))

    step_is : (k : ℕ) → Known g.counts.latches (state_at g input state k) → (i : ℕ) → i < g.counts.latches
        → get_or (state_at g input state (suc k)) i 0 ≡ code_of (edge_value (value g.rows (leaf k)) (latch_at g.latches i).next)
    unfolding state_at
    step_is k s i l =
        (means (input k) (state_at g input state k) (leaf k) (record { inputs = told_inputs k; latches = told_latches k s })).exact_next (all.inputs k) s i l (all.nexts i l)

    states_known : (k : ℕ) → Known g.counts.latches (state_at g input state k)
    unfolding state_at
    states_known zero i l = all.start i l
    states_known (suc k) i l = is_known _ (edge_value (value g.rows (leaf k)) (latch_at g.latches i).next) (step_is k (states_known k) i l)

    told_start : (i : ℕ) → i < g.counts.latches → Agrees (get_or state i 0) (leaf 0 (latch_row g.latches i))
    unfolding state_at
    told_start = told_latches 0 all.start

    step_leaf : (k i : ℕ) → i < g.counts.latches → leaf (suc k) (latch_row g.latches i) ≡ edge_value (value g.rows (leaf k)) (latch_at g.latches i).next
    step_leaf k i l =
        ap (λ (c : ℕ). eqb c 1) ((obeys g m size w (input (suc k)) (state_at g input state (suc k))).obeys.latches i l ∙ step_is k (states_known k) i l)
        ∙ is_one (edge_value (value g.rows (leaf k)) (latch_at g.latches i).next)

  pub traced : (input : ℕ → List ℕ) (state : List ℕ) → Traced g input state
  traced input state =
      record {
        traces = λ all. record { inputs = told_inputs input state all; start = told_start input state all; steps = step_leaf input state all };
      }

pub whole : (g : Lent) → Whole g
whole g = record { hangs = λ all i l j c h. all j (omega (arith, cone_below g.rows j c)) h }

-- ---- M7
and_turned : (codes : List ℕ) → get_or codes 1 0 ≡ unknown → and3 (edge3 codes 2) (edge3 codes 3) ≡ unknown
unfolding and3 edge3 not3
and_turned codes e = rw e

pub m7_unknown : M7
unfolding codes_of rows3 row3 placed and3 edge3 not3 is_gate
m7_unknown =
    record {
      table = refl;
      any_graph = λ g input state i l h a b e. run_gate g input state i l h ∙
          (ap₂ (λ (x y : ℕ). and3 (edge3 (run g input state) x) (edge3 (run g input state) y)) a b ∙ and_turned (run g input state) e);
    }

-- ---- call after call: the steps run the frames
pub run_right : (g : Lent) (input state values marks : List ℕ) → RunRight g input state values marks
run_right g input state values marks =
    record {
      accepted = accepted g input state values marks;
      accepts = accepts g input state values marks;
      answers = answers g input state values marks;
      step_answers = unfold step_call in answers g input state values marks;
    }

-- ---- what a step leaves is good for the next
module _ (g : Lent) (input state values marks : List ℕ) (a : Accepted g input state values marks) where
  run_codes : Codes g.counts.rows (run g input state)
  unfolding codes_of
  run_codes = rows_codes g.rows (leaf_codes g input state) g.counts.rows (leaves_codes g.inputs g.latches g.counts input state a.input_codes a.state_codes)

  next_codes : Codes g.counts.latches (next g input state)
  next_codes i l =
      rw (nexts_at g.latches (run g input state) g.counts.latches i l) (edge_code (run g input state) (latch_at g.latches i).next (run_codes _ (a.formed.nexts i l)))

  written_long : length (written g input state values) ≡ length values
  written_long = simp (length-append, run_long g input state, length-drop) (omega (arith, a.room))

  cleared_long : length (cleared g.counts.rows marks) ≡ length marks
  cleared_long = simp (length-append, length-replicate {A = ℕ} g.counts.rows 0, length-drop) (omega (arith, a.sized.marked))

  step_goes : step_call g input state values marks ≡ record { given = done; state = next g input state; values = written g input state values; marks = cleared g.counts.rows marks }
  unfolding step_call
  step_goes = rw (accepts g input state values marks a)

  next_accepted : (input' : List ℕ) → length input' ≡ g.counts.inputs → Codes g.counts.inputs input'
      → Accepted g input' (next g input state) (written g input state values) (cleared g.counts.rows marks)
  next_accepted input' long codes =
      record {
        sized = rw cleared_long a.sized;
        room = rw written_long a.room;
        formed = a.formed;
        input_long = long;
        state_long = nexts_long g.latches (run g input state) g.counts.latches;
        input_codes = codes;
        state_codes = next_codes;
      }

-- ---- the calls
module _ (g : Lent) (input : ℕ → List ℕ) (state values marks : List ℕ) (good : Inputs g input) (first : Accepted g (input 0) state values marks) where
  abbrev after : ℕ → StepSeen
  after k = step_calls g input state values marks k

  all_accepted : (k : ℕ) → Accepted g (input k) (after k).state (after k).values (after k).marks
  unfolding step_calls
  all_accepted zero = first
  all_accepted (suc k) =
      let a = all_accepted k in
      rw (step_goes g (input k) (after k).state (after k).values (after k).marks a)
      (next_accepted g (input k) (after k).state (after k).values (after k).marks a (input (suc k)) (good.long (suc k)) (good.codes (suc k)))

  one_more :
      (k : ℕ) → after (suc k) ≡ record
      { given = done; state = next g (input k) (after k).state; values = written g (input k) (after k).state (after k).values; marks = cleared g.counts.rows (after k).marks }
  unfolding step_calls
  one_more k = step_goes g (input k) (after k).state (after k).values (after k).marks (all_accepted k)

  all_done : (k : ℕ) → (after k).given ≡ done
  unfolding step_calls
  all_done zero = refl
  all_done (suc k) = ap (λ (s : StepSeen). s.given) (one_more k)

  states : (k : ℕ) → (after k).state ≡ state_at g input state k
  unfolding step_calls state_at
  states zero = refl
  states (suc k) = ap (λ (s : StepSeen). s.state) (one_more k) ∙ ap (next g (input k)) (states k)

  -- beyond the used rows nothing changes
  beyond : (k : ℕ) → drop g.counts.rows (after k).values ≡ drop g.counts.rows values
  unfolding step_calls
  beyond zero = refl
  beyond (suc k) =
      ap (λ (s : StepSeen). drop g.counts.rows s.values) (one_more k)
      ∙ (drop_at (run g (input k) (after k).state) (drop g.counts.rows (after k).values) g.counts.rows (run_long g (input k) (after k).state) ∙ beyond k)

  beyond_marks : (k : ℕ) → drop g.counts.rows (after k).marks ≡ drop g.counts.rows marks
  unfolding step_calls
  beyond_marks zero = refl
  beyond_marks (suc k) =
      ap (λ (s : StepSeen). drop g.counts.rows s.marks) (one_more k)
      ∙ (drop_at (replicate g.counts.rows 0) (drop g.counts.rows (after k).marks) g.counts.rows (length-replicate {A = ℕ} g.counts.rows 0) ∙ beyond_marks k)

  pub steps : Steps g input state values marks
  steps =
      record {
        given = all_done;
        states = states;
        values_after = λ k. ap (λ (s : StepSeen). s.values) (one_more k) ∙ rw (states k, beyond k);
        marks_after = λ k. ap (λ (s : StepSeen). s.marks) (one_more k) ∙ rw (beyond_marks k);
      }
