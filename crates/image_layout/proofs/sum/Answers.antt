use mathlib.Core.Path.{◌≡◌, refl, ap}
use mathlib.Core.List.{List}
use Prim.Native.Nat.{ℕ, ◌+◌, ◌*◌, ◌<◌}
use native.Mathlib.Omega.{arith}
use lib.ListN.{drop}
use Rattle.image_layout.specs.Layout.{pair, pairs, total}
use Rattle.image_layout.proofs.Walks.{pairs_next, pairs-over}
use Rattle.image_layout.proofs.sum.Goals as goal

-- the sum so far with the next number and those behind it
next : (w : List ℕ) (at n i s : ℕ) {l : ℕ} → i < n → l ≡ pair (drop (at + 2 * i) w)
    → s + total (drop i (pairs n (drop at w))) ≡ total (pairs n (drop at w)) → s + l + total (drop (i + 1) (pairs n (drop at w))) ≡ total (pairs n (drop at w))
next w at n i s h e k = omega (arith, ap total (pairs_next w at n i _ _ h refl e), k)

pub overflow_add-s : goal.overflow_add-s
overflow_add-s c =
    let a = c.args in
    let l = c.loop-i in
    omega (arith, next a.w.now a.at a.n l.i l.s c.loop-i-test.true c.pair_at-s.ensures.number l.invariant, c.requires.bounded)

pub loop-i-preserved : goal.loop-i-preserved
loop-i-preserved c =
    let a = c.args in
    let l = c.loop-i in
    next a.w.now a.at a.n l.i l.s c.loop-i-test.true c.pair_at-s.ensures.number l.invariant

pub returns : goal.returns
returns c =
    let a = c.args in
    let l = c.loop-i in
    omega (arith, l.invariant, ap total (pairs-over a.n l.i (drop a.at a.w.now) c.loop-i-test.false))
