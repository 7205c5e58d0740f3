-- Laws of a copy.
-- Assumes nothing.
use Prim.Native.Nat.{ℕ, zero, suc, ◌+◌, ◌*◌, ◌≤◌}
use native.Mathlib.Omega.{arith}
use mathlib.Core.Path.{◌≡◌, refl}
use mathlib.Core.List.{List, [], ◌∷◌, ◌++◌}
use lib.ListN.{length, get_or, set, take, drop}
use lib.Seq.{take-suc, drop-cons, set-append_seam}
use Rattle.std.proofs.lemmas.List.{length-take-le, append_assoc}
use Rattle.graph.specs.declared.Counts.{Counts}
use Rattle.graph.specs.Latches.{latch_words}
use Rattle.graph.specs.Graph.{Lent, lent}
use Rattle.output.specs.Writing.{written}
use Rattle.output.proofs.Writing.{written_length, written_at_lem, written_after}
use Rattle.output.specs.Room.{Room}
use Rattle.output.specs.Copying.{words_of, copied, copy_of}
use Rattle.output.specs.Meaning.{Front, IsCopy}

-- ---- a list
module _ (out list : List ℕ) where
  -- word after word, it is the list's front before the rest
  pub copied_whole : (n : ℕ) → n ≤ length list → n ≤ length out → take n list ++ drop n out ≡ copied out list n
  unfolding copied written
  copied_whole zero h r = refl
  copied_whole (suc n) h r =
      let e : take n list ++ drop n out ≡ written out 0 (words_of list) n = copied_whole n (omega arith) (omega arith) in
      let z : 0 + n ≡ n = omega arith in
      let long : length (take n list) ≡ n = length-take-le n list (omega arith) in
      rw (← e, z) (turn long)
    where
      turn : length (take n list) ≡ n → take (suc n) list ++ drop (suc n) out ≡ set (take n list ++ drop n out) n (get_or list n 0)
      turn long =
          let seam : set (take n list ++ (get_or out n 0 ∷ drop (suc n) out)) n (get_or list n 0) ≡ take n list ++ (get_or list n 0 ∷ drop (suc n) out) =
          rw long at (set-append_seam (take n list) (get_or out n 0) (drop (suc n) out) (get_or list n 0)) in
          rw (drop-cons out n 0 (omega arith), seam, take-suc list n 0 (omega arith), append_assoc (take n list) (get_or list n 0 ∷ []) (drop (suc n) out)) refl

  -- what it holds
  pub front : (n : ℕ) → n ≤ length out → Front n list out (copied out list n)
  unfolding copied
  front n r =
      record {
        long = written_length out 0 (words_of list) n;
        same = λ k l. let z : 0 + k ≡ k = omega arith in let t : get_or (written out 0 (words_of list) n) (0 + k) 0 ≡ get_or list k 0 = written_at_lem out 0 (words_of list) n k (omega arith) l in rw
            z at t;
        rest = λ k l. written_after out 0 (words_of list) n k (omega arith);
      }

-- ---- a graph
pub all_copied : (n : Counts) (g out : Lent) {a b c d e f h i j : List ℕ}
    → a ≡ copied out.rows g.rows (2 * n.rows) → b ≡ copied out.inputs g.inputs n.inputs
    → c ≡ copied out.latches g.latches (latch_words * n.latches) → d ≡ copied out.constraints g.constraints n.constraints
    → e ≡ copied out.bads g.bads n.bads → f ≡ copied out.outputs g.outputs n.outputs
    → h ≡ copied out.ends g.ends n.sets → i ≡ copied out.edges g.edges n.edges → j ≡ copied out.fairness g.fairness n.fairness
    → lent a b c d e f h i j n ≡ copy_of n g out
unfolding copy_of
all_copied n g out p q r s t u v w x = rw (p, q, r, s, t, u, v, w, x)

pub is_copy : (n : Counts) (g out : Lent) → Room out n → IsCopy n g out (copy_of n g out)
unfolding copy_of
is_copy n g out r =
    record {
      counts = refl;
      rows = front out.rows g.rows (2 * n.rows) (omega (arith, r.rows));
      inputs = front out.inputs g.inputs n.inputs r.inputs;
      latches = front out.latches g.latches (latch_words * n.latches) (omega (arith, r.latches));
      constraints = front out.constraints g.constraints n.constraints r.constraints;
      bads = front out.bads g.bads n.bads r.bads;
      outputs = front out.outputs g.outputs n.outputs r.outputs;
      ends = front out.ends g.ends n.sets r.ends;
      edges = front out.edges g.edges n.edges r.edges;
      fairness = front out.fairness g.fairness n.fairness r.fairness;
    }
