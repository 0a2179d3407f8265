-- Where the key of a row ends, by the counts of its names and of its subtree. Assumes nothing.
use mathlib.Core.Path.{◌≡◌, ap, ◌∙◌}
use mathlib.Core.List.{List}
use Prim.Native.Nat.{ℕ, ◌+◌, ◌*◌}
use native.Mathlib.Omega.{arith}
use lib.ListN.{drop, get_or}
use Rattle.rows.specs.declared.Table.TheVariants.{Context, Mapping, Access, View}
use Rattle.rows.specs.Fields.{span}
use Rattle.rows.specs.Rows.{key_fields}
use Rattle.numbers.proofs.BigEndian.{get_d_front}
use Rattle.decision_steps.proofs.Layouts.{past, past_subtree}

module _ (row : List ℕ) where
  pub context-end : past row 0 ≡ span (key_fields Context) row
  unfolding span key_fields
  context-end = omega arith

  pub mapping-end : past row 4 ≡ span (key_fields Mapping) row
  unfolding span key_fields
  mapping-end = omega (arith, get_d_front row 4)

  -- the count at a place that two sums name
  count_at : (i j : ℕ) → i ≡ j → get_or (drop i row) 0 0 ≡ get_or row j 0
  count_at i j e = ap (λ n. get_or (drop n row) 0 0) e ∙ get_d_front row j

  pub access-end : (p : ℕ) → p ≡ past row 0 → past row p + 5 ≡ span (key_fields Access) row
  unfolding span key_fields
  access-end p e = omega (arith, count_at (1 + get_or row 0 0 * 1) p (omega arith))

  pub view-end : (s : ℕ) → s ≡ past row 0 → past_subtree row s ≡ span (key_fields View) row
  unfolding span key_fields
  view-end s e = omega (arith, count_at (1 + get_or row 0 0 * 1) s (omega arith))
