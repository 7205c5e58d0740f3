-- A flat call through tables of records is the flat call on the words.
-- Assumes nothing.
use Prim.Native.Nat.{ℕ, ◌*◌, ◌≤◌, ◌<◌}
use mathlib.Core.Path.{◌≡◌, sym, ap, ◌∙◌}
use mathlib.Core.Bool.{Bool, true, cond}
use mathlib.Core.List.{List}
use mathlib.Core.Logic.{⊎_elim}
use lib.ListN.{length, get_or, set, length-set}
use lib.Seq.{get_or-set_same}
use lib.Dec.{leb}
use borrow.Author.Tests.{eq-eqb, ne_eqb, eqb-true, lt-ltb, le-ltb}
use Rattle.edge.specs.Answers.{done, bad_argument, bad_sizes}
use Rattle.edge.proofs.Tests.{lt_or_le}
use Rattle.graph.specs.declared.latch.Latch.{Latch}
use Rattle.graph.specs.Latches.{latch_words, latches_lent, latch_at, latch_set}
use Rattle.frame.specs.Map.{next_set}
use Rattle.records.specs.Table.{words_of, wiped, no_latch, with_next}
use Rattle.records.specs.Entries.{TableSeen, latch_call, next_call}
use Rattle.records.specs.Local.{EntrySeen, table_size, held, full, holds, next_through}
use Rattle.records.specs.Pairing.{PairSeen, pair_seen}
use Rattle.records.specs.Working.{worked, on_records}
use Rattle.records.proofs.Laying.{latch_of_words, words_set}
use Rattle.records.proofs.Local.{Fills, held_words, held_length, written}
use Rattle.record_unroll.specs.Tables.{on_full}
use Rattle.record_unroll.proofs.Bridging.{on_held}
use Rattle.record_bridge.specs.Bridge.{entry_call, on_table, on_tables}
use Rattle.record_bridge.specs.Meaning.{EntryRight, ReadRight, BridgeRight}

-- ---- one record
-- read where it was written
read_set : (t : List Latch) (i : ℕ) (l : Latch) → i < length t → latch_call (set t i l) i ≡ record { given = done; latch = l }
unfolding latch_call
read_set t i l h = rw (length-set, lt-ltb i (length t) h, get_or-set_same t i l no_latch h)

read_past : (t : List Latch) (i : ℕ) → length t ≤ i → latch_call t i ≡ record { given = bad_argument; latch = no_latch }
unfolding latch_call
read_past t i h = rw (le-ltb i (length t) h)

module _ (latches : List ℕ) (i next : ℕ) where
  pub entry_not_full : (Fills latches → ⊥) → record { found = record { given = bad_sizes; latch = no_latch }; latches = latches } ≡ entry_call latches i next
  unfolding entry_call
  entry_not_full f = rw (ne_eqb (length latches) (latch_words * table_size) f)

  module _ (fills : Fills latches) where
    abbrev table : List Latch
    table = held latches

    abbrev new : Latch
    new = with_next (get_or table i no_latch) next

    -- the table after `set_next`
    abbrev after : List Latch
    after = (next_call table i next).table

    -- by whether there is a record i
    abbrev Table : Bool → TableSeen
    Table b = cond b (record { given = done; table = set table i new }) (record { given = bad_argument; table = table })

    after_there : i < table_size → after ≡ set table i new
    unfolding next_call
    after_there h = let k : i < length table = rw (held_length latches fills) h in ap (λ (b : Bool). (Table b).table) (lt-ltb i (length table) k)

    after_past : table_size ≤ i → after ≡ table
    unfolding next_call
    after_past h = let k : length table ≤ i = rw (held_length latches fills) h in ap (λ (b : Bool). (Table b).table) (le-ltb i (length table) k)

    -- record i is latch i of the words
    same : get_or table i no_latch ≡ latch_at latches i
    same = sym (latch_of_words table i) ∙ ap (λ (z : List ℕ). latch_at z i) (held_words latches fills)

    there : i < table_size → record { found = latch_call after i; latches = words_of after } ≡ entry_call latches i next
    unfolding entry_call next_set
    there h =
        let k : i < length table = rw (held_length latches fills) h in
        let whole : EntrySeen = record { found = record { given = done; latch = with_next (latch_at latches i) next }; latches = latch_set latches i (with_next (latch_at latches i) next) } in
        let is : whole ≡ entry_call latches i next = rw (eq-eqb (length latches) (latch_words * table_size) fills, lt-ltb i table_size h) in
        ap (λ (t : List Latch). record { found = latch_call t i; latches = words_of t }) (after_there h)
        ∙ ((λ j. record { found = read_set table i new k j; latches = words_set table i new j })
        ∙ ((λ j. record { found = record { given = done; latch = with_next (same j) next }; latches = latch_set (held_words latches fills j) i (with_next (same j) next) }) ∙ is))

    past : table_size ≤ i → record { found = latch_call after i; latches = words_of after } ≡ entry_call latches i next
    unfolding entry_call
    past h =
        let k : length table ≤ i = rw (held_length latches fills) h in
        let whole : EntrySeen = record { found = record { given = bad_argument; latch = no_latch }; latches = latches } in
        let is : whole ≡ entry_call latches i next = rw (eq-eqb (length latches) (latch_words * table_size) fills, le-ltb i table_size h) in
        ap (λ (t : List Latch). record { found = latch_call t i; latches = words_of t }) (after_past h) ∙ ((λ j. record { found = read_past table i k j; latches = held_words latches fills j }) ∙ is)

    entry_is : record { found = latch_call after i; latches = words_of after } ≡ entry_call latches i next
    entry_is = ⊎_elim there past (lt_or_le i table_size)

    after_length : length after ≡ table_size
    after_length =
        ⊎_elim (λ (h : i < table_size). ap length (after_there h) ∙ (length-set table i new ∙ held_length latches fills))
        (λ (h : table_size ≤ i). ap length (after_past h) ∙ held_length latches fills) (lt_or_le i table_size)

    pub entry_full : next_through latches i next ≡ entry_call latches i next
    unfolding next_through
    entry_full = ap (λ (z : List ℕ). record { found = latch_call after i; latches = z }) (written latches fills after after_length) ∙ entry_is

pub entry_right : (latches : List ℕ) (i next : ℕ) (fills : full latches ≡ true) → EntryRight latches i next fills
entry_right latches i next fills =
    let e = sym (entry_is latches i next (eqb-true (length latches) (latch_words * table_size) fills)) in
    record { read = ap (λ (z : EntrySeen). z.found) e; left = ap (λ (z : EntrySeen). z.latches) e }

-- ---- a call that reads one graph
module _ {S : Type 0} (call : List ℕ → S) (refused : S) (latches words : List ℕ) where
  pub not_full : (Fills latches → ⊥) → worked refused words ≡ on_table latches words call refused
  unfolding on_table
  not_full f = rw (ne_eqb (length latches) (latch_words * table_size) f)

  pub one_full : Fills latches → on_records (held latches) words call refused ≡ on_table latches words call refused
  unfolding on_records on_table
  one_full f =
      let n = held_length latches f in
      (λ j. worked (cond (leb (n j) (latches_lent words)) (call (held_words latches f j)) refused) (wiped (n j) words))
      ∙ rw (eq-eqb (length latches) (latch_words * table_size) f)

  read_flat : Fills latches → holds words ≡ true → (on_table latches words call refused).seen ≡ call latches
  unfolding on_table
  read_flat f e = rw (eq-eqb (length latches) (latch_words * table_size) f, e)

  pub read_right : (fills : full latches ≡ true) → ReadRight call refused latches words fills
  read_right fills = let f = eqb-true (length latches) (latch_words * table_size) fills in record { records = sym (one_full f); flat = read_flat f }

-- ---- a call on two graphs
module _ {S : Type 0} (call : List ℕ → List ℕ → S) (refused : List ℕ → S) (latches words latches2 words2 : List ℕ) where
  pub first_not_full : (Fills latches → ⊥) → pair_seen (refused latches) words words2 ≡ on_tables latches words latches2 words2 call refused
  unfolding on_tables
  first_not_full f = rw (ne_eqb (length latches) (latch_words * table_size) f)

  pub second_not_full : Fills latches → (Fills latches2 → ⊥) → pair_seen (refused latches) words words2 ≡ on_tables latches words latches2 words2 call refused
  unfolding on_tables
  second_not_full e f = rw (eq-eqb (length latches) (latch_words * table_size) e, ne_eqb (length latches2) (latch_words * table_size) f)

  pub both_full : Fills latches → Fills latches2 → on_full latches words latches2 words2 call refused ≡ on_tables latches words latches2 words2 call refused
  unfolding on_tables
  both_full e f = rw (eq-eqb (length latches) (latch_words * table_size) e, eq-eqb (length latches2) (latch_words * table_size) f)

  both_flat : holds words ≡ true → holds words2 ≡ true → (on_full latches words latches2 words2 call refused).seen ≡ call latches latches2
  unfolding on_full
  both_flat e f = rw (e, f)

  pub bridge_right : (fills : full latches ≡ true) (fills2 : full latches2 ≡ true) → BridgeRight call refused latches words latches2 words2 fills fills2
  bridge_right fills fills2 =
      let e : Fills latches = eqb-true (length latches) (latch_words * table_size) fills in
      let f : Fills latches2 = eqb-true (length latches2) (latch_words * table_size) fills2 in
      record {
        records = sym (both_full e f) ∙ sym (on_held call refused latches words latches2 words2 e f);
        flat = λ g h. ap (λ (p : PairSeen S). p.seen) (sym (both_full e f)) ∙ both_flat g h;
      }
