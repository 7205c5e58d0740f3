-- Laws of the calls: what is answered and written in each case.
-- Assumes nothing.
use Prim.Native.Nat.{ℕ, ◌≤◌, ◌<◌}
use native.Mathlib.Omega.{arith}
use mathlib.Core.Path.{◌≡◌, refl, sym, ap, subst, ◌∙◌}
use mathlib.Core.Bool.{Bool, true, false, cond, ◌&&◌, ◌||◌}
use mathlib.Core.List.{List, ◌++◌, append-nil}
use lib.ListN.{length, get_or, drop, length-append, drop_of_length-le}
use lib.Dec.{eqb, ltb, leb}
use borrow.Author.Tests.{ltb-true, ltb-false, lt-ltb, le-ltb, leb-true, le-leb, lt-leb, eqb-true, eqb-false, eq-eqb}
use Rattle.std.specs.Prelude.{Result, Ok, Err}
use Rattle.edge.specs.declared.answer.Refusal.{Refusal}
use Rattle.edge.specs.declared.answer.Refusal.TheVariants.{BadSizes, BadArgument}
use Rattle.edge.specs.declared.answer.Given.{Given}
use Rattle.edge.specs.Answers.{done, bad_sizes, bad_argument, told, or_else}
use Rattle.edge.specs.Edges.{id_of}
use Rattle.edge.proofs.Answers.{stops_here}
use Rattle.edge.proofs.Tests.{both, false_true}
use Rattle.rows.specs.Reading.{if_done}
use Rattle.graph.specs.Leaves.{used_edge}
use Rattle.graph.specs.Graph.{Lent, sizes_right}
use Rattle.graph.specs.Check.{CheckSeen, check_seen, check_call, contents, cleared}
use Rattle.graph.specs.Exactly.{Answers}
use Rattle.graph.proofs.WellFormed.{exact}
use Rattle.graph.proofs.Exactly.{argument_answers, check_answers, names_refused, own_answers}
use Rattle.ternary_run.specs.Codes.{edge3, Codes, all_codes}
use Rattle.ternary_run.specs.Run.{leaves, codes_of, run, next, nexts, next_row}
use Rattle.ternary_run.specs.Steps.{Within, RunReady}
use Rattle.ternary.specs.Calls.{Accepted, arguments_right, simulate_answer, written, RunSeen, run_seen, run_call, step_seen, step_call, ValueSeen, value_given, value_call}
use Rattle.ternary_run.proofs.Coding.{codes_all, all_codes_lem}
use Rattle.ternary_run.proofs.Running.{rows_long, nexts_front}

-- ---- the value of an edge
abbrev value_refused : Given → ValueSeen
value_refused t = record { given = t; value = 0 }

module _ (values : List ℕ) (used : ℕ) where
  room : (a b : Bool) → eqb used 0 ≡ a → ltb (length values) used ≡ b → a || b ≡ false → ltb 0 used && leb used (length values) ≡ true
  room true b p q h = absurd (false_true (sym h))
  room false true p q h = absurd (false_true (sym h))
  room false false p q h =
      let n = eqb-false used 0 p in
      let z : 0 < used = omega arith in
      rw (lt-ltb 0 used z, le-leb used (length values) (ltb-false _ _ q))

  no_room_lem : (a b : Bool) → eqb used 0 ≡ a → ltb (length values) used ≡ b → a || b ≡ true → ltb 0 used && leb used (length values) ≡ false
  no_room_lem true b p q h = let z = eqb-true used 0 p in rw z
  no_room_lem false true p q h =
      let n = eqb-false used 0 p in
      let z : 0 < used = omega arith in
      rw (lt-ltb 0 used z, lt-leb used (length values) (ltb-true _ _ q))
  no_room_lem false false p q h = absurd (false_true h)

  pub value_room : eqb used 0 || ltb (length values) used ≡ false → used ≤ length values
  value_room h = leb-true _ _ (both {a = ltb 0 used} (room (eqb used 0) (ltb (length values) used) refl refl h)).1

  module _ (e : ℕ) where
    -- the row of a used edge has a byte
    pub value_at : eqb used 0 || ltb (length values) used ≡ false → used_edge used e ≡ true → id_of e < length values
    value_at h u = omega (arith, value_room h, ltb-true (id_of e) used u)

    pub value_sizes : eqb used 0 || ltb (length values) used ≡ true → value_refused bad_sizes ≡ value_call values used e
    unfolding value_call value_given
    value_sizes h = rw (no_room_lem (eqb used 0) (ltb (length values) used) refl refl h)

    module _ (h : eqb used 0 || ltb (length values) used ≡ false) where
      pub value_unused : used_edge used e ≡ false → value_refused bad_argument ≡ value_call values used e
      unfolding value_call value_given
      value_unused u = rw (room (eqb used 0) (ltb (length values) used) refl refl h, u)

      module _ (u : used_edge used e ≡ true) where
        pub value_code : 2 < get_or values (id_of e) 0 → value_refused bad_argument ≡ value_call values used e
        unfolding value_call value_given
        value_code l =
            let m : 3 ≤ get_or values (id_of e) 0 = omega arith in
            rw (room (eqb used 0) (ltb (length values) used) refl refl h, u, le-ltb _ _ m)

        pub value_done : get_or values (id_of e) 0 ≤ 2 → (v : ℕ) → v ≡ edge3 values e → record { given = done; value = v } ≡ value_call values used e
        unfolding value_call value_given
        value_done l v q =
            let m : get_or values (id_of e) 0 < 3 = omega arith in
            rw (room (eqb used 0) (ltb (length values) used) refl refl h, u, lt-ltb _ _ m, q)

-- ---- the run
-- where the arguments are right
record Arguments (g : Lent) (input state : List ℕ) : Type 0 where
  input_long : length input ≡ g.counts.inputs
  state_long : length state ≡ g.counts.latches
  input_codes : Codes g.counts.inputs input
  state_codes : Codes g.counts.latches state

right_arguments : (g : Lent) (input state : List ℕ) → arguments_right g.counts.inputs g.counts.latches input state ≡ true → Arguments g input state
unfolding arguments_right
right_arguments g input state h =
    let a = both {b = all_codes state} h in
    let b = both {b = all_codes input} a.0 in
    let c = both {a = eqb (length input) g.counts.inputs} {b = eqb (length state) g.counts.latches} b.0 in
    let i = eqb-true _ _ c.0 in
    let s = eqb-true _ _ c.1 in
    record {
      input_long = i;
      state_long = s;
      input_codes = rw (← i) (codes_all input b.1);
      state_codes = rw (← s) (codes_all state a.1);
    }

arguments_right_lem : (g : Lent) (input state : List ℕ) → Arguments g input state → arguments_right g.counts.inputs g.counts.latches input state ≡ true
unfolding arguments_right
arguments_right_lem g input state a =
    let i : all_codes input ≡ true = all_codes_lem input (rw a.input_long a.input_codes) in
    let s : all_codes state ≡ true = all_codes_lem state (rw a.state_long a.state_codes) in
    rw (eq-eqb _ _ a.input_long, eq-eqb _ _ a.state_long, i, s)

-- a graph that the check takes
record Checked (g : Lent) (marks : List ℕ) : Type 0 where
  sizes : sizes_right g (length marks) ≡ true
  clean : (contents g).number ≡ 0
  after : (check_call g marks).marks ≡ cleared g.counts.rows marks

module _ (g : Lent) (marks : List ℕ) where
  abbrev seen_right : CheckSeen
  seen_right = record { given = contents g; marks = cleared g.counts.rows marks }

  abbrev seen_wrong : CheckSeen
  seen_wrong = record { given = bad_sizes; marks = marks }

  checked : (check_call g marks).given.number ≡ 0 → Checked g marks
  unfolding check_call
  checked z = go (sizes_right g (length marks)) refl z
    where
      go : (t : Bool) → sizes_right g (length marks) ≡ t → (cond t seen_right seen_wrong).given.number ≡ 0 → Checked g marks
      go true e z = record { sizes = e; clean = z; after = rw e }
      go false e z = absurd (omega arith)

  check_zero : sizes_right g (length marks) ≡ true → (contents g).number ≡ 0 → (check_call g marks).given.number ≡ 0
  unfolding check_call
  check_zero e z = rw e z

accept : (g : Lent) (input state values marks : List ℕ) → g.counts.rows ≤ length values → (check_call g marks).given.number ≡ 0
    → arguments_right g.counts.inputs g.counts.latches input state ≡ true → Accepted g input state values marks
accept g input state values marks room z a =
    let t = (exact g marks).accepted z in
    let u = right_arguments g input state a in
    record {
      sized = t.0;
      room = room;
      formed = t.1;
      input_long = u.input_long;
      state_long = u.state_long;
      input_codes = u.input_codes;
      state_codes = u.state_codes;
    }

module _ (g : Lent) (input state values marks : List ℕ) where
  abbrev ran : RunSeen
  ran = record { given = simulate_answer g input state; values = if_done (simulate_answer g input state) (written g input state values) values; marks = cleared g.counts.rows marks }

  abbrev unsized : RunSeen
  unsized = record { given = bad_sizes; values = values; marks = marks }

  -- 1: values too short
  pub run_short : length values < g.counts.rows → run_seen (Err BadSizes) values marks ≡ run_call g input state values marks
  unfolding run_call
  run_short l = rw (lt-leb _ _ l)

  module _ (room : g.counts.rows ≤ length values) (r : Result Unit Refusal) (after : List ℕ) (seen : check_seen r after ≡ check_call g marks) where
    -- what the check refuses
    pub run_refused : eqb (told r).number 0 ≡ false → run_seen r values after ≡ run_call g input state values marks
    unfolding run_call check_call simulate_answer or_else
    run_refused n = rw (le-leb _ _ room) (go (sizes_right g (length marks)) seen)
      where
        go : (t : Bool) → check_seen r after ≡ cond t (seen_right g marks) (seen_wrong g marks) → run_seen r values after ≡ cond t ran unsized
        go true e =
            let p : told r ≡ contents g = ap (λ (x : CheckSeen). x.given) e in
            let q : after ≡ cleared g.counts.rows marks = ap (λ (x : CheckSeen). x.marks) e in
            let z : eqb (contents g).number 0 ≡ false = ap (λ (x : Given). eqb x.number 0) (sym p) ∙ n in
            rw (q, z, z, p)
        go false e =
            let p : told r ≡ bad_sizes = ap (λ (x : CheckSeen). x.given) e in
            let q : after ≡ marks = ap (λ (x : CheckSeen). x.marks) e in
            rw (q, p)

    module _ (d : eqb (told r).number 0 ≡ true) where
      number_zero : (check_call g marks).given.number ≡ 0
      number_zero = ap (λ (x : CheckSeen). x.given.number) (sym seen) ∙ eqb-true _ _ d

      after_cleared : after ≡ cleared g.counts.rows marks
      after_cleared = ap (λ (x : CheckSeen). x.marks) seen ∙ (checked g marks number_zero).after

      -- 4
      pub run_argument : arguments_right g.counts.inputs g.counts.latches input state ≡ false → run_seen (Err BadArgument) values after ≡ run_call g input state values marks
      unfolding run_call simulate_answer or_else
      run_argument n =
          let c = checked g marks number_zero in
          rw (le-leb _ _ room, c.sizes, after_cleared, eq-eqb _ _ c.clean, n)

      module _ (a : arguments_right g.counts.inputs g.counts.latches input state ≡ true) where
        pub run_done : (values' : List ℕ) → values' ≡ written g input state values → run_seen (Ok tt) values' after ≡ run_call g input state values marks
        unfolding run_call simulate_answer or_else
        run_done values' w =
            let c = checked g marks number_zero in
            rw (w, le-leb _ _ room, c.sizes, after_cleared, eq-eqb _ _ c.clean, a)

        pub run_accepted : Accepted g input state values marks
        run_accepted = accept g input state values marks room number_zero a

-- ---- done exactly where everything is as it must be
module _ (g : Lent) (input state values marks : List ℕ) where
  pub ready : Accepted g input state values marks → RunReady g input state values
  ready a =
      let s = a.sized in
      record {
        some = s.rows.some;
        rows_lent_lem = omega (arith, s.rows.fit.within);
        inputs_lent = s.inputs.within;
        latches_lent_lem = omega (arith, s.latches.within);
        values_lent = a.room;
        input_rows = λ i l. (a.formed.inputs i l).0;
        latch_rows = λ i l. (a.formed.latches i l).0;
        input_long = a.input_long;
        state_long = a.state_long;
        input_codes = a.input_codes;
        state_codes = a.state_codes;
      }

  pub accepts : Accepted g input state values marks → run_call g input state values marks ≡ record { given = done; values = written g input state values; marks = cleared g.counts.rows marks }
  unfolding run_call simulate_answer or_else
  accepts a =
      let z : (check_call g marks).given.number ≡ 0 = ap (λ (x : Given). x.number) ((exact g marks).accepts a.sized a.formed) in
      let c = checked g marks z in
      let r = arguments_right_lem g input state (record { input_long = a.input_long; state_long = a.state_long; input_codes = a.input_codes; state_codes = a.state_codes }) in
      rw (le-leb _ _ a.room, c.sizes, eq-eqb _ _ c.clean, r)

  pub accepted : (run_call g input state values marks).given.number ≡ 0 → Accepted g input state values marks
  unfolding run_call simulate_answer or_else
  accepted =
      go (leb g.counts.rows (length values)) (sizes_right g (length marks)) (eqb (contents g).number 0) (arguments_right g.counts.inputs g.counts.latches input state) refl refl
      refl refl
    where
      go :
          (s t k h : Bool) → leb g.counts.rows (length values) ≡ s → sizes_right g (length marks) ≡ t → eqb (contents g).number 0 ≡ k → arguments_right g.counts.inputs
          g.counts.latches input state ≡ h → (cond (s && t)
          (record {
            given = cond k (cond h done bad_argument) (contents g);
            values = if_done (cond k (cond h done bad_argument) (contents g)) (written g input state values) values;
            marks = cleared g.counts.rows marks;
          }) (unsized g input state values marks)).given.number ≡ 0 → Accepted g input state values marks
      go true true true true p q e a z = accept g input state values marks (leb-true _ _ p) (check_zero g marks q (eqb-true _ _ e)) a
      go true true true false p q e a z = absurd (omega arith)
      go true true false h p q e a z = absurd (eqb-false _ _ e z)
      go true false k h p q e a z = absurd (omega arith)
      go false t k h p q e a z = absurd (omega arith)

-- ---- each answer exactly in its case, and the marks
module _ (g : Lent) (input state values marks : List ℕ) where
  abbrev own : Bool
  own = leb g.counts.rows (length values)

  abbrev good : Bool
  good = arguments_right g.counts.inputs g.counts.latches input state

  -- the call's sizes are its own and the graph's, one after the other
  as_checked :
      (o t : Bool) → cond {A = CheckSeen} (o && t) (record { given = simulate_answer g input state; marks = cleared g.counts.rows marks }) (record { given = bad_sizes; marks = marks }) ≡ cond
      {A = CheckSeen} o
      (record {
        given = or_else (cond {A = CheckSeen} t (record { given = contents g; marks = cleared g.counts.rows marks }) (record { given = bad_sizes; marks = marks })).given
            (cond good done bad_argument);
        marks = (cond {A = CheckSeen} t (record { given = contents g; marks = cleared g.counts.rows marks }) (record { given = bad_sizes; marks = marks })).marks;
      })
      (record { given = bad_sizes; marks = marks })
  unfolding simulate_answer
  as_checked true true = refl
  as_checked true false = ap (λ (t : Given). record { given = t; marks = marks }) (sym (stops_here bad_sizes (cond good done bad_argument) (λ (z : ◌≡◌ {A = ℕ} 1 0). omega arith)))
  as_checked false t = refl

  run_seen_lem : record { given = (run_call g input state values marks).given; marks = (run_call g input state values marks).marks }
      ≡ cond {A = CheckSeen} own (record { given = or_else (check_call g marks).given (cond good done bad_argument); marks = (check_call g marks).marks }) (record { given = bad_sizes; marks = marks })
  unfolding run_call check_call
  run_seen_lem = go (own && sizes_right g (length marks)) ∙ as_checked own (sizes_right g (length marks))
    where
      run : Bool → RunSeen
      run t =
          cond t
          (record { given = simulate_answer g input state; values = if_done (simulate_answer g input state) (written g input state values) values; marks = cleared g.counts.rows marks })
          (record { given = bad_sizes; values = values; marks = marks })

      go : (t : Bool) → record { given = (run t).given; marks = (run t).marks }
          ≡ cond {A = CheckSeen} t (record { given = simulate_answer g input state; marks = cleared g.counts.rows marks }) (record { given = bad_sizes; marks = marks })
      go true = refl
      go false = refl

  pub answers : Answers own good true g marks (run_call g input state values marks).given (run_call g input state values marks).marks
  answers =
      let a = own_answers own g marks (record { given = or_else (check_call g marks).given (cond good done bad_argument); marks = (check_call g marks).marks })
      (argument_answers (names_refused g) good (check_answers g marks)) in
      subst (λ (s : CheckSeen). Answers own good true g marks s.given s.marks) (sym run_seen_lem) a

-- ---- the step
pub run_long : (g : Lent) (input state : List ℕ) → length (run g input state) ≡ g.counts.rows
unfolding codes_of
run_long g input state = rows_long g.rows (leaves g.inputs g.latches g.counts input state) g.counts.rows

module _ (g : Lent) (input state values marks : List ℕ) (r : Result Unit Refusal) (values' marks' : List ℕ) (seen : run_seen r values' marks' ≡ run_call g input state values marks) where
  pub step_refused : eqb (told r).number 0 ≡ false → step_seen r state values' marks' ≡ step_call g input state values marks
  unfolding step_call
  step_refused n = rw (← seen, n)

  module _ (d : eqb (told r).number 0 ≡ true) where
    pub step_accepted : Accepted g input state values marks
    step_accepted = accepted g input state values marks (ap (λ (x : RunSeen). x.given.number) (sym seen) ∙ eqb-true _ _ d)

    step_values : values' ≡ written g input state values
    step_values = ap (λ (x : RunSeen). x.values) (seen ∙ accepts g input state values marks step_accepted)

    -- each next's row has a value
    pub step_within : Within (next_row g.latches) g.counts.latches (length values')
    step_within i l =
        let h = step_accepted.formed.nexts i l in
        rw (step_values, length-append (run g input state) (drop g.counts.rows values), run_long g input state) (omega arith)

    step_next : nexts g.latches values' g.counts.latches ++ drop g.counts.latches state ≡ next g input state
    step_next =
        let h : length state ≤ g.counts.latches = omega (arith, step_accepted.state_long) in
        let n = nexts_front g.latches (run g input state) (drop g.counts.rows values) g.counts.latches (λ i l. rw (run_long g input state) (step_accepted.formed.nexts i l)) in
        rw (step_values, n, drop_of_length-le state h) (append-nil (next g input state))

    pub step_done : (state' : List ℕ) → state' ≡ nexts g.latches values' g.counts.latches ++ drop g.counts.latches state
        → step_seen r state' values' marks' ≡ step_call g input state values marks
    unfolding step_call
    step_done state' e = rw (← seen, d, e ∙ step_next)
