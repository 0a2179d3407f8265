-- `instance_decode::begins_with` meets its contract: the parts are tested in pairs (`Begins`). Assumes nothing.
use Rattle.std.proofs.Common.{ℕ, eqb, length, sym, ◌∙◌, arith, rules, tests}
use borrow.Author.Tests.{lt-leb}
use Rattle.std.proofs.lemmas.Iterator.{YieldsList-from_slice, YieldsList-from_zip}
use Rattle.std.proofs.lemmas.Iterator.Search.{all_from_yields_List}
use Rattle.instance_decode.proofs.Begins.{begins-each, begins-short}
use Rattle.instance_decode.proofs.begins_with.Goals as goal

pub returns-then-front-oid : goal.returns-then-front-oid
returns-then-front-oid c =
    let s = c.args in
    all_from_yields_List (λ (q : ℕ × ℕ). eqb q.0 q.1) c.all.new.self _ c.all.result c.all.ensures.ran
    (YieldsList-from_zip (YieldsList-from_slice s.front.now cc) (YieldsList-from_slice s.oid.now cc)) (λ x b q k. search (rules, tests))
    ∙ begins-each s.front.now s.oid.now (omega (arith, c.if-front-oid.true))

pub returns-else-front-oid : goal.returns-else-front-oid
returns-else-front-oid c =
    let s = c.args in
    rw (lt-leb (length s.front.now) (length s.oid.now) c.if-front-oid.false) (sym (begins-short s.front.now s.oid.now c.if-front-oid.false))
