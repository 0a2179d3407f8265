-- `instance_encode::is_listed` meets its contract: a table lists the columns in its range (`Encoded`). Assumes nothing.
use Rattle.std.proofs.Common.{◌≡◌, ℕ, ◌+◌, ◌&&◌, leb, ltb, sym, ap, ◌∙◌, arith}
use Rattle.std.specs.Ordering.{nat_cmp, is_le, is_lt}
use Rattle.std.proofs.lemmas.Bool.Decides.{nat_tests}
use lib.Dec.{eqb}
use Rattle.numbers.specs.Lists.{any}
use Rattle.instance_encode.proofs.Encoded.{counted-within}
use Rattle.instance_encode.proofs.is_listed.Goals as goal

within : (a x b : ℕ) → is_le (nat_cmp a x) && is_lt (nat_cmp x b) ≡ leb a x && ltb x b
within a x b = grind (arith, nat_tests)

pub returns : goal.returns
returns c =
    let k = c.columns_of-c in
    let x = c.args.column in
    c.contains.ensures.value ∙ rw c.from-first.ensures (within k.result.first x (k.result.first + k.result.count))
    ∙ sym (counted-within x k.result.first k.result.count)
    ∙ ap (any (eqb x)) k.ensures.listed
