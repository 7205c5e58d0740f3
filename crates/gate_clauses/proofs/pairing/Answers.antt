-- `gate_clauses::pairing` meets its contract.
use Rattle.gate_clauses.proofs.Recognising.{equal, unequal, pairs₁, pairs₂, pairs₃, pairs₄, pairs_not}
use Rattle.gate_clauses.proofs.pairing.Goals as goal

pub returns-then-a-not : goal.returns-then-a-not
returns-then-a-not c =
    let a = c.args in
    pairs₁ a.plain a.a a.b a.c a.d (equal a.a a.c c.not.ensures c.if-a-not.true) c.not-then-a-not.ensures
    c.not-then-a-not-2.ensures c.ite_or.ensures

pub returns-then-a-not-2 : goal.returns-then-a-not-2
returns-then-a-not-2 c =
    let a = c.args in
    pairs₂ a.plain a.a a.b a.c a.d (unequal a.a a.c c.not.ensures c.if-a-not.false)
    (equal a.a a.d c.not-2.ensures c.if-a-not-2.true) c.not-then-a-not-2-2.ensures c.not-then-a-not-2-3.ensures c.ite_or-then-a-not-2.ensures

pub returns-then-b-not : goal.returns-then-b-not
returns-then-b-not c =
    let a = c.args in
    pairs₃ a.plain a.a a.b a.c a.d (unequal a.a a.c c.not.ensures c.if-a-not.false) (unequal a.a a.d c.not-2.ensures c.if-a-not-2.false)
    (equal a.b a.c c.not-3.ensures c.if-b-not.true) c.not-then-b-not.ensures c.not-then-b-not-2.ensures c.ite_or-then-b-not.ensures

pub returns-then-b-not-2 : goal.returns-then-b-not-2
returns-then-b-not-2 c =
    let a = c.args in
    pairs₄ a.plain a.a a.b a.c a.d (unequal a.a a.c c.not.ensures c.if-a-not.false) (unequal a.a a.d c.not-2.ensures c.if-a-not-2.false)
    (unequal a.b a.c c.not-3.ensures c.if-b-not.false) (equal a.b a.d c.not-4.ensures c.if-b-not-2.true)
    c.not-then-b-not-2-2.ensures c.not-then-b-not-2-3.ensures c.ite_or-then-b-not-2.ensures

pub returns : goal.returns
returns c =
    let a = c.args in
    pairs_not a.plain a.a a.b a.c a.d (unequal a.a a.c c.not.ensures c.if-a-not.false) (unequal a.a a.d c.not-2.ensures c.if-a-not-2.false)
    (unequal a.b a.c c.not-3.ensures c.if-b-not.false) (unequal a.b a.d c.not-4.ensures c.if-b-not-2.false)
