-- `gate_clauses::put::put_shape` meets its contract.
use native.Mathlib.Omega.{arith}
use mathlib.Core.Path.{refl}
use Rattle.gate_clauses.proofs.Writing.{size_plain, size_xor, size_ite, threes_xor, threes_ite, put_none, put_same, behind_none}
use Rattle.gate_clauses.proofs.put.put_shape.Goals as goal

pub put_four-requires : goal.put_four-requires
put_four-requires c = record { at_le_place_limit = c.requires; four_value = threes_xor c.args.g _ _ c.xor_clauses.ensures }

pub put_four-requires-in-Ite : goal.put_four-requires-in-Ite
put_four-requires-in-Ite c = record { at_le_place_limit = c.requires; four_value = threes_ite c.args.g _ _ _ c.ite_clauses.ensures }

pub returns-in-Unwritten : goal.returns-in-Unwritten
returns-in-Unwritten c = let a = c.args in record { place = behind_none a.g a.at c.in-Unwritten.is; written = put_none a.g a.clauses.now a.at c.in-Unwritten.is }

pub returns-in-Plain : goal.returns-in-Plain
returns-in-Plain c =
    let a = c.args in
    record { place = omega (arith, c.put_plain.ensures.place, size_plain a.g _ _ c.in-Plain.is); written = put_same a.g a.clauses.now a.at c.in-Plain.is refl c.put_plain.ensures.written }

pub returns-in-Xor : goal.returns-in-Xor
returns-in-Xor c =
    let a = c.args in
    record
    { place = omega (arith, c.put_four.ensures.place, size_xor a.g _ _ c.in-Xor.is); written = put_same a.g a.clauses.now a.at c.in-Xor.is c.xor_clauses.ensures c.put_four.ensures.written }

pub returns-in-Ite : goal.returns-in-Ite
returns-in-Ite c =
    let a = c.args in
    record {
      place = omega (arith, c.put_four-in-Ite.ensures.place, size_ite a.g _ _ _ c.in-Ite.is);
      written = put_same a.g a.clauses.now a.at c.in-Ite.is c.ite_clauses.ensures c.put_four-in-Ite.ensures.written;
    }
