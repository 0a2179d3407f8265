-- Counts within document 01's limits: each test of `within_limits` is one count's, and together they are so many rows at most.
-- Assumes nothing.
use mathlib.Core.Path.{◌≡◌}
use mathlib.Core.Bool.{true, ◌&&◌}
use Prim.Native.Nat.{ℕ, ◌+◌, ◌≤◌}
use native.Mathlib.Omega.{arith}
use lib.Dec.{leb}
use borrow.Author.Tests.{le-leb, leb-true}
use Rattle.numbers.proofs.Bools.{and_left, and_right}
use Rattle.rows.specs.declared.Table.TheVariants.{Context, Mapping, Access, View}
use Rattle.rows.specs.Rows.{limit}
use Rattle.image_layout.specs.Layout.{within_limits, most_rows}

module _ (c m a v : ℕ) where
  pub within-limits : c ≤ limit Context → m ≤ limit Mapping → a ≤ limit Access → v ≤ limit View → within_limits c m a v ≡ true
  within-limits p q r s = rw (le-leb c (limit Context) p, le-leb m (limit Mapping) q, le-leb a (limit Access) r, le-leb v (limit View) s)

  module _ (h : within_limits c m a v ≡ true) where
    pub limits-within : (c ≤ limit Context) × (m ≤ limit Mapping) × (a ≤ limit Access) × (v ≤ limit View)
    limits-within =
        let x = leb c (limit Context) in
        let y = leb m (limit Mapping) in
        let z = leb a (limit Access) in
        let p = and_left (x && y && z) (leb v (limit View)) h in
        let q = and_left (x && y) z p in (
          leb-true c (limit Context) (and_left x y q),
          leb-true m (limit Mapping) (and_right x y q),
          leb-true a (limit Access) (and_right (x && y) z p),
          leb-true v (limit View) (and_right (x && y && z) (leb v (limit View)) h),
        )

    pub few : c + m + a + v ≤ most_rows
    few = let l = limits-within in omega arith
