-- `rows_quick::access_rest_fits` meets its contract: false tells nothing, and where the tests hold the fields have no fault (`Legal`).
-- Assumes nothing.
use mathlib.Core.Path.{refl}
use Rattle.numbers.proofs.Bools.{clash}
use Rattle.rows_quick.proofs.Legal.{joined, access-rest-legal}
use Rattle.rows_quick.proofs.access_rest_fits.Goals as goal

pub returns-then-n-a : goal.returns-then-n-a
returns-then-n-a c = λ t. clash t refl

pub returns-then-n-b : goal.returns-then-n-b
returns-then-n-b c = λ t. clash t refl

pub returns : goal.returns
unfolding joined
returns c =
    let s = c.args in
    λ t.
    access-rest-legal s.row.now s.key _ _ _ _
    c.byte_at-exact.ensures.value c.byte_at-read.ensures.value c.byte_at-write.ensures.value c.byte_at-notify.ensures.value
    (rw (← c.within.ensures, ← c.within-2.ensures, ← c.within-3.ensures, ← c.within-4.ensures, ← c.ends_well.ensures) t)
