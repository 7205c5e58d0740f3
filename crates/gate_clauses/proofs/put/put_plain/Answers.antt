-- `gate_clauses::put::put_plain` meets its contract.
use Rattle.gate_clauses.specs.declared.Shape.TheVariants.{Plain}
use Rattle.gate_clauses.specs.Shapes.{clauses_of, words}
use Rattle.gate_clauses.proofs.Writing.{no_room_lem, size_plain, put_plain}
use mathlib.Core.Path.{refl}
use Rattle.gate_clauses.proofs.put.put_plain.Goals as goal

pub returns-then-clauses-end : goal.returns-then-clauses-end
returns-then-clauses-end c =
    let a = c.args in
    record { place = refl; written = no_room_lem a.clauses.now a.at (words (clauses_of a.g (Plain a.a a.b))) (size_plain a.g a.a a.b refl) c.if-clauses-end.true }

pub returns : goal.returns
returns c =
    let a = c.args in record {
      place = refl;
      written = λ _. put_plain a.clauses.now c.put_clause.new.clauses c.put_clause-2.new.clauses c.put_clause-3.new.clauses a.at a.g a.a a.b c.not-ng.ensures
          c.not-na.ensures c.not-nb.ensures c.put_clause.ensures c.put_clause-2.ensures c.put_clause-3.ensures;
    }
