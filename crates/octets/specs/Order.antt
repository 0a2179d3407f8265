-- How two lists of octets stand to each other, as the code answers it. Assumes nothing.
use Rattle.std.specs.Prelude.{cond, List, ℕ}
use Rattle.numbers.specs.Order.{same, before}
use Rattle.std.specs.declared.cmp.Ordering.{Ordering}
use Rattle.std.specs.declared.cmp.Ordering.TheVariants.{Less, Equal, Greater}

unfoldable pub order : List ℕ → List ℕ → Ordering
order a b = cond (before a b) Less (cond (same a b) Equal Greater)
