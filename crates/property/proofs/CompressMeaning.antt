-- `compress_property` is right.
-- Assumes nothing.
use Prim.Native.Nat.{ℕ, ◌≤◌, ◌<◌}
use native.Mathlib.Omega.{arith}
use mathlib.Core.Path.{◌≡◌, refl}
use mathlib.Core.Bool.{true, false}
use mathlib.Core.List.{List, []}
use lib.ListN.{length, get_or, set, length-set}
use lib.Seq.{get_or-set_same, get_or-set_other, get_or-take, length-take-le}
use lib.Dec.{leb}
use borrow.Author.Tests.{eq-eqb, ne_eqb, lt-ltb, le-leb}
use Rattle.edge.specs.Edges.{complement, constant_of}
use Rattle.edge.proofs.Tests.{both_true}
use Rattle.rows.specs.Sizes.{max_entries, rows_lent}
use Rattle.rows.specs.Rows.{AllRows}
use Rattle.graph.specs.Graph.{Lent, Sized}
use Rattle.graph.specs.WellFormed.{WellFormed}
use Rattle.build_leaves.specs.Calls.{counted}
use Rattle.gates.specs.Gates.{State}
use Rattle.gates.specs.Lists.{list_of, all_of}
use Rattle.gates.specs.Meaning.{AllUsed, Grows}
use Rattle.gates.proofs.Growing.{list_grows}
use Rattle.gates.proofs.Meaning.{grows_value, list_value}
use Rattle.build_leaves.proofs.Keeping.{keeps}
use Rattle.build_leaves.proofs.Graphs.{rows_stay}
use Rattle.output.specs.Meaning.{Front}
use Rattle.output.proofs.Copying.{front}
use Rattle.property.specs.Compress.{bads_of, or_of, one_bad, compressed, handed_back, compress_room, compress_checked, compress_call}
use Rattle.property.specs.CompressMeaning.{CompressLent, OneBad, CompressRight}
use Rattle.property.proofs.Answering.{Accepted, change_answers, change_accepts}
use Rattle.property.proofs.Compressing.{lent_right, compress_accepted}

-- ---- what is lent, as tests
module _ (g : Lent) (old : List ℕ) (marks : ℕ) where
  right_lent : CompressLent g old marks → Accepted (leb (length old) max_entries) (compress_room g old) g marks
  unfolding compress_room
  right_lent l =
      record {
        limited = le-leb (length old) max_entries l.limited;
        sized = l.sized;
        well_formed = l.well_formed;
        has_room = both_true
            (both_true (le-leb (or_of g).used (rows_lent g.rows) l.rows) (lt-ltb 0 (length g.bads) l.one))
            (le-leb g.counts.bads (length old) l.back);
      }

-- ---- the one bad
module _ (g : Lent) (old : List ℕ) (marks : ℕ) (l : CompressLent g old marks) where
  abbrev s : State
  s = or_of g

  bads_long : length (bads_of g) ≡ g.counts.bads
  bads_long = length-take-le g.counts.bads g.bads l.sized.bads.within

  bads_used : AllUsed g.counts.rows (bads_of g)
  bads_used i k =
      let m : i < g.counts.bads = omega (arith, bads_long) in
      rw (get_or-take g.counts.bads g.bads i 0 m) (l.well_formed.bads i m)

  grows : Grows g.rows g.counts.rows s
  unfolding or_of
  grows = list_grows false true g.rows g.counts.rows (bads_of g) l.sized.rows.some bads_used l.rows

  good : AllRows s.rows s.used
  unfolding counted
  good = (keeps g.rows g.counts s grows l.rows [] g.counts.inputs g.counts.latches 0).good l.well_formed.rows

  first : get_or (set g.bads 0 s.edge) 0 0 ≡ s.edge
  first = get_or-set_same g.bads 0 s.edge 0 l.one

  no_bad : g.counts.bads ≡ 0 → s.edge ≡ constant_of false
  unfolding or_of list_of all_of complement
  no_bad z = rw z

  stays : WellFormed (compressed g)
  unfolding compressed one_bad counted
  stays =
      let w = rows_stay g l.well_formed s.rows s.used grows.more grows.kept good in
      record {
        rows = w.rows;
        inputs = w.inputs;
        latches = w.latches;
        once = w.once;
        nexts = w.nexts;
        inits = w.inits;
        constraints = w.constraints;
        bads = λ i k. let e : i ≡ 0 = omega arith in rw (e, first) grows.edge;
        outputs = w.outputs;
        edges = w.edges;
        fairness = w.fairness;
        ends = w.ends;
        last = w.last;
        no_sets = w.no_sets;
      }

  sized : (m : ℕ) → (compressed g).counts.rows ≤ m → Sized (compressed g) m
  unfolding compressed one_bad
  sized m k =
      let z = l.sized in
      let b : length (set g.bads 0 s.edge) ≡ length g.bads = length-set g.bads 0 s.edge in
      record {
        rows = record {
          some = omega (arith, z.rows.some, grows.more);
          fit = record { within = rw grows.long l.rows; limited = rw grows.long z.rows.fit.limited };
        };
        marked = k;
        inputs = z.inputs;
        latches = z.latches;
        constraints = z.constraints;
        bads = record { within = omega (arith, l.one); limited = omega (arith, z.bads.limited) };
        outputs = z.outputs;
        ends = z.ends;
        edges = z.edges;
        fairness = z.fairness;
      }

  one_bad_lem : OneBad g (compressed g)
  unfolding compressed one_bad or_of
  one_bad_lem =
      record {
        kept = record { more = grows.more; words = grows.kept; values = grows_value g.rows g.counts.rows s grows };
        counts = refl;
        bad = λ leaf. rw first (list_value false true g.rows g.counts.rows (bads_of g) leaf l.sized.rows.some bads_used l.rows);
        no_bad = λ z. rw first (no_bad z);
        past = λ j k. get_or-set_other g.bads 0 j s.edge 0 (λ (e : j ≡ 0). absurd (omega arith));
        others = refl;
        sized = sized;
        well_formed = stays;
      }

  handed_back_lem : Front g.counts.bads g.bads old (handed_back g old)
  handed_back_lem = front old g.bads g.counts.bads l.back

module _ (g : Lent) (old marks : List ℕ) where
  accepted : (compress_call g old marks).given.number ≡ 0 → CompressLent g old (length marks)
  unfolding compress_call
  accepted z = lent_right g old (length marks) (compress_accepted g old marks z)

  pub compress_right : CompressRight g old marks
  unfolding compress_call compress_checked
  compress_right =
      record {
        accepts = λ l. change_accepts (leb (length old) max_entries) (compress_room g old) g marks (right_lent g old (length marks) l);
        accepted = λ z. accepted z;
        answers = change_answers (leb (length old) max_entries) (compress_room g old) g marks;
        compresses = λ z. rw (eq-eqb (compress_checked g old marks).given.number 0 z) (one_bad_lem g old (length marks) (accepted z));
        hands_back = λ z. rw (eq-eqb (compress_checked g old marks).given.number 0 z) (handed_back_lem g old (length marks) (accepted z));
        refused = λ n. (rw (ne_eqb (compress_checked g old marks).given.number 0 n), rw (ne_eqb (compress_checked g old marks).given.number 0 n));
      }
