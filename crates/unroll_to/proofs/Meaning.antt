-- `unroll_to` is right.
-- Assumes nothing.
use Prim.Native.Nat.{ℕ, zero, suc, ◌+◌, ◌≤◌, ◌<◌}
use native.Mathlib.Omega.{arith}
use mathlib.Core.Path.{◌≡◌, refl, sym, ap, ◌∙◌}
use mathlib.Core.Bool.{Bool, true, false, cond, ◌&&◌}
use mathlib.Core.Logic.{⊎_elim}
use mathlib.Core.List.{List}
use lib.ListN.{length}
use lib.Dec.{eqb, ltb, leb}
use borrow.Author.Tests.{eq-eqb, ne_eqb, eqb-true, eqb-false, le-leb, leb-true, lt-ltb, le-ltb, lt-leb}
use Rattle.edge.specs.declared.answer.Given.{Given}
use Rattle.edge.specs.Answers.{done, no_room, or_else}
use Rattle.edge.proofs.Tests.{lt_or_le, false_true}
use Rattle.graph.specs.Graph.{Lent}
use Rattle.graph.proofs.Exactly.{names_refused, room_answers}
use Rattle.root_marks.proofs.Arguments.{args_answers}
use Rattle.output.specs.Room.{room_in, limits, has_room, Room}
use Rattle.output.proofs.Fitting.{limited, limits_true, roomy, room_true}
use Rattle.output.specs.Copying.{copy_of}
use Rattle.output.specs.Asking.{asked_in}
use Rattle.output.proofs.Copying.{is_copy}
use Rattle.output.proofs.Asking.{asked_accepted, asked_accepts}
use Rattle.frame.specs.Frame.{framed, frame_fits}
use Rattle.frame.specs.Call.{FrameReady}
use Rattle.frame.specs.Meaning.{FrameAdded}
use Rattle.frame.proofs.Meaning.{frame_added}
use Rattle.unroll.specs.Unroll.{unroll_answer, unroll_call}
use Rattle.unroll.specs.Meaning.{TwoGraphs}
use Rattle.unroll.proofs.Call.{covered}
use Rattle.unroll.proofs.Meaning.{unroll_right}
use Rattle.unroll_to.specs.Frames.{Frames, frames, frames_on, unrolled}
use Rattle.unroll_to.specs.Call.{max_frames, unroll_asked, Ran, ran, frames_answer, frames_ran, emptied, unroll_ran, unroll_to_call}
use Rattle.unroll_to.specs.Meaning.{after_frames, Standing, SingleFrames, UnrollLent, Unrolls, all_fit, UnrollToRight}
use Rattle.unroll_to.proofs.Going.{ready_again}
use Rattle.unroll_to.proofs.Starting.{frame_ready}

-- ---- frames, one after the other
-- the first frame, then k more
one_first : (b a : Lent) (k : ℕ) → after_frames b k (framed a b) ≡ after_frames b (suc k) a
unfolding after_frames
one_first b a zero = refl
one_first b a (suc k) = ap (λ (x : Lent). framed x b) (one_first b a k)

-- s has `count` of n frames more than j
record More (b a : Lent) (n j : ℕ) (s : Frames) : Type 0 where
  count : ℕ
  finished : s.finished ≡ j + count
  standing : Standing b a n count s.graph

more_step : (b : Lent) (n : ℕ) (a : Lent) (j : ℕ) (t : Bool) → frame_fits a b ≡ t → More b (framed a b) n (j + 1) (frames_on b n (frames (j + 1) (framed a b)))
    → More b a (suc n) j (cond t (frames_on b n (frames (j + 1) (framed a b))) (frames j a))
unfolding after_frames
more_step b n a j false e h =
    record { count = 0; finished = omega arith; standing = record { within = omega arith; frames = refl; fit = λ k l. absurd (omega arith); full = λ l. e } }
more_step b n a j true e h =
    record {
      count = suc h.count;
      finished = omega (arith, h.finished);
      standing = record {
        within = omega (arith, h.standing.within);
        frames = h.standing.frames ∙ one_first b a h.count;
        fit = fit;
        full = λ l. ap (λ (x : Lent). frame_fits x b) (sym (one_first b a h.count)) ∙ h.standing.full (omega arith);
      };
    }
  where
    fit : (k : ℕ) → k < suc h.count → frame_fits (after_frames b k a) b ≡ true
    fit zero l = e
    fit (suc k) l = ap (λ (x : Lent). frame_fits x b) (sym (one_first b a k)) ∙ h.standing.fit k (omega arith)

more : (b : Lent) (n : ℕ) (a : Lent) (j : ℕ) → More b a n j (frames_on b n (frames j a))
unfolding frames_on after_frames
more b zero a j =
    record { count = 0; finished = omega arith; standing = record { within = omega arith; frames = refl; fit = λ k l. absurd (omega arith); full = λ l. absurd (omega arith) } }
more b (suc n) a j = more_step b n a j (frame_fits a b) refl (more b n (framed a b) (j + 1))

ready_after : (b a : Lent) (marks : ℕ) → FrameReady a b marks → (k : ℕ) → ((i : ℕ) → i < k → frame_fits (after_frames b i a) b ≡ true) → FrameReady (after_frames b k a) b marks
unfolding after_frames
ready_after b a marks r zero fit = r
ready_after b a marks r (suc k) fit = ready_again (after_frames b k a) b marks (ready_after b a marks r k (λ i l. fit i (omega arith))) (fit k (omega arith))

-- ---- each as a single `unroll`
module _ (a b : Lent) (m : ℕ) (r : FrameReady a b m) (marks : List ℕ) (l : a.counts.rows ≤ length marks) where
  graphs : TwoGraphs a b (length marks)
  graphs =
      record {
        sized = record { first = covered a r.target l; second = covered b r.from (omega (arith, r.start.more)) };
        target = r.target_formed;
        from = r.from_formed;
      }

  adds_one : frame_fits a b ≡ true → (unroll_call a b marks).graph ≡ framed a b
  unfolding frame_fits unroll_call
  adds_one f =
      let z = (unroll_right a b marks).accepts (record { graphs = graphs; start = r.start; room = roomy a (framed a b).counts f }) in
      rw (eq-eqb (unroll_answer a b marks).number 0 z)

  adds_none : frame_fits a b ≡ false → (unroll_call a b marks).given ≡ no_room
  unfolding frame_fits
  adds_none f = (unroll_right a b marks).refuses_room graphs r.start (λ room. false_true (sym f ∙ room_true a (framed a b).counts room))

single : (b a : Lent) (m n finished : ℕ) (graph : Lent) → FrameReady a b m → Standing b a n finished graph → SingleFrames b a n finished
unfolding after_frames
single b a m n finished graph r t =
    record {
      adds = λ k l marks c. adds_one (after_frames b k a) b m (ready_after b a m r k (λ i j. t.fit i (omega arith))) marks c (t.fit k l);
      no_more = λ l marks c. adds_none (after_frames b finished a) b m (ready_after b a m r finished t.fit) marks c (t.full l);
    }

added : (b a : Lent) (m n finished : ℕ) (graph : Lent) → FrameReady a b m → Standing b a n finished graph → (k : ℕ) → k < finished → FrameAdded (after_frames b k a) b (after_frames b (suc k) a)
unfolding after_frames frame_fits
added b a m n finished graph r t k l =
    frame_added (after_frames b k a) b m (record { ready = ready_after b a m r k (λ i j. t.fit i (omega arith)); room = roomy (after_frames b k a) (framed (after_frames b k a) b).counts (t.fit k l) })

-- ---- the call
module _ (g out : Lent) (n : ℕ) (marks : List ℕ) where
  abbrev asked : Given
  asked = (unroll_asked g (room_in out) n marks).given

  abbrev seen : Ran
  seen = (unroll_to_call g out n marks).ran

  abbrev copy : Lent
  copy = copy_of g.counts g out

  abbrev s : Frames
  s = unrolled g out n

  -- ---- what is lent
  asked_right : UnrollLent g out n marks → asked ≡ done
  asked_right l =
      asked_accepts (leb n max_frames) g (room_in out) marks
      (record { roomy = limits_true out l.limited; all_good = le-leb n max_frames l.few; sized = l.sized; well_formed = l.well_formed })

  right_asked : asked.number ≡ 0 → UnrollLent g out n marks
  right_asked z =
      let a = asked_accepted (leb n max_frames) g (room_in out) marks z in
      record { limited = limited out a.roomy; sized = a.sized; well_formed = a.well_formed; few = leb-true n max_frames a.all_good }

  number : UnrollLent g out n marks → eqb asked.number 0 ≡ true
  number l = eq-eqb asked.number 0 (ap (λ (t : Given). t.number) (asked_right l))

  seen_right_lem : UnrollLent g out n marks → seen ≡ unroll_ran g out n
  unfolding unroll_to_call
  seen_right_lem l = rw (number l)

  seen_wrong_lem : (asked.number ≡ 0 → ⊥) → seen ≡ ran asked 0 out
  unfolding unroll_to_call
  seen_wrong_lem h = rw (ne_eqb asked.number 0 h)

  -- ---- the copy fits
  seen_room : UnrollLent g out n marks → Room out g.counts → seen ≡ frames_ran n s
  unfolding unroll_ran
  seen_room l r = seen_right_lem l ∙ rw (room_true out g.counts r)

  counted : s.finished ≡ (more g n copy 0).count
  counted = omega (arith, (more g n copy 0).finished)

  is_standing : Standing g copy n s.finished s.graph
  is_standing = rw counted (more g n copy 0).standing

  all_done : s.finished ≡ n → frames_answer s.finished n ≡ done
  unfolding frames_answer
  all_done e = rw (le-ltb s.finished n (omega arith))

  some_missed : s.finished < n → frames_answer s.finished n ≡ no_room
  unfolding frames_answer
  some_missed l = rw (lt-ltb s.finished n l)

  unrolls : UnrollLent g out n marks → Room out g.counts → Unrolls g out n marks seen
  unrolls l r =
      let t = is_standing in
      let f = frame_ready g out (length marks) l.sized l.well_formed r l.limited in
      rw (seen_room l r)
      (record {
        standing = t;
        single = single g copy (length marks) n s.finished s.graph f t;
        copy = is_copy g.counts g out r;
        each = added g copy (length marks) n s.finished s.graph f t;
        all = all_done;
        some = some_missed;
        ready = rw t.frames (ready_after g copy (length marks) f s.finished t.fit);
      })

  -- ---- it does not
  no_room_lem : (Room out g.counts → ⊥) → has_room out g.counts ≡ false
  no_room_lem h = go (has_room out g.counts) refl
    where
      go : (t : Bool) → has_room out g.counts ≡ t → t ≡ false
      go true e = absurd (h (roomy out g.counts e))
      go false e = refl

  no_copy : UnrollLent g out n marks → (Room out g.counts → ⊥) → seen ≡ ran no_room 0 (emptied out)
  unfolding unroll_ran
  no_copy l h = seen_right_lem l ∙ rw (no_room_lem h)

  -- ---- done
  finished_all : (frames_answer s.finished n).number ≡ 0 → s.finished ≡ n
  finished_all z =
      ⊎_elim
      (λ (l : s.finished < n). absurd (omega (arith, z, ap (λ (t : Given). t.number) (some_missed l))))
      (λ (l : n ≤ s.finished). omega (arith, is_standing.within))
      (lt_or_le s.finished n)

  accepted : seen.given.number ≡ 0 → UnrollLent g out n marks × Room out g.counts × (seen.finished ≡ n)
  accepted z = go (eqb asked.number 0) refl
    where
      fits : (l : UnrollLent g out n marks) (t : Bool) → has_room out g.counts ≡ t → UnrollLent g out n marks × Room out g.counts × (seen.finished ≡ n)
      fits l true e =
          let r = roomy out g.counts e in
          let q = seen_room l r in
          (l, r, ap (λ (x : Ran). x.finished) q ∙ finished_all (ap (λ (x : Ran). x.given.number) (sym q) ∙ z))
      fits l false e =
          let q : seen ≡ ran no_room 0 (emptied out) = seen_right_lem l ∙ (unfold unroll_ran in rw e) in
          absurd (omega (arith, z, ap (λ (x : Ran). x.given.number) q))

      go : (t : Bool) → eqb asked.number 0 ≡ t → UnrollLent g out n marks × Room out g.counts × (seen.finished ≡ n)
      go true e = let l = right_asked (eqb-true _ _ e) in fits l (has_room out g.counts) refl
      go false e =
          let h = eqb-false asked.number 0 e in
          absurd (h (ap (λ (x : Ran). x.given.number) (sym (seen_wrong_lem h)) ∙ z))

  -- ---- the answer: 5 stands for the copy and the frames together
  full_or_done : (unroll_ran g out n).given ≡ cond (all_fit g out n) done no_room
  unfolding unroll_ran frames_answer
  full_or_done = by_copy (has_room out g.counts)
    where
      by_frames : cond (ltb s.finished n) no_room done ≡ cond (leb n s.finished) done no_room
      by_frames =
          ⊎_elim
          (λ (l : s.finished < n). rw (lt-ltb s.finished n l, lt-leb n s.finished l))
          (λ (l : n ≤ s.finished). rw (le-ltb s.finished n l, le-leb n s.finished l))
          (lt_or_le s.finished n)

      by_copy : (t : Bool) → (cond t (frames_ran n s) (ran no_room 0 (emptied out))).given ≡ cond (t && leb n s.finished) done no_room
      by_copy true = by_frames
      by_copy false = refl

  answer : seen.given ≡ or_else asked (cond (all_fit g out n) done no_room)
  unfolding unroll_to_call or_else
  answer = go (eqb asked.number 0)
    where
      go : (t : Bool) → (cond t (unroll_ran g out n) (ran asked 0 out)).given ≡ cond t (cond (all_fit g out n) done no_room) asked
      go true = full_or_done
      go false = refl

  pub unroll_to_right : UnrollToRight g out n marks
  unroll_to_right =
      record {
        unrolls = unrolls;
        no_copy = λ l h. let q = no_copy l h in (ap (λ (x : Ran). x.given) q, ap (λ (x : Ran). x.finished) q, ap (λ (x : Ran). x.graph) q);
        accepted = accepted;
        refused = λ h. let q = seen_wrong_lem (λ z. h (right_asked z)) in (ap (λ (x : Ran). x.finished) q, ap (λ (x : Ran). x.graph) q);
        answers = rw answer (unfold unroll_to_call asked_in in room_answers (names_refused g) (all_fit g out n) (args_answers (limits out) (leb n max_frames) g marks));
      }
