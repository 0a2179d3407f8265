use mathlib.Core.Path.{◌≡◌, refl, sym, ap, ◌∙◌}
use mathlib.Core.List.{List}
use Prim.Native.Nat.{ℕ, ◌*◌, ◌<◌}
use native.Mathlib.Omega.{arith}
use lib.ListN.{drop, get_or}
use Rattle.numbers.specs.BigEndian.{quad, number, numbers}
use Rattle.numbers.proofs.BigEndian.{length-numbers, get_or-numbers}
use Rattle.walk_alike.proofs.Alikes.{alike-none, alike_next}
use Rattle.walk_alike.proofs.same_quads.Goals as goal

pub loop-i-init : goal.loop-i-init
loop-i-init c = (omega (arith, c.min-n.ensures), (omega (arith, c.min-n.ensures), alike-none _ _))

pub overflow_cast-parts : goal.overflow_cast-parts
overflow_cast-parts c = omega (arith, c.shared_slice_known-in-loop-i-1.given c.loop-i.i)

-- a number of the list where it is read

number_at : (n i : ℕ) (v : List ℕ) → i < n → number quad (drop (4 * i) v) ≡ get_or (numbers quad n v) i 0
number_at n i v h =
    let e : 4 * i ≡ i * 4 = omega arith in
    ap (λ k. number quad (drop k v)) e ∙ sym (get_or-numbers quad n i v h)

pub loop-i-preserved : goal.loop-i-preserved
loop-i-preserved c =
    let l = c.loop-i in
    let a = l.i in
    let v = c.args in
    let inside : a < v.count = omega (arith, c.loop-i-test.true, l.invariant.0) in (
      l.invariant.0,
      (
        l.invariant.1.0,
        alike_next _ _ a _ refl l.invariant.1.1 (omega (arith, c.loop-i-test.true, l.invariant.1.0))
            (omega (arith, length-numbers quad v.count v.bytes.now))
            (c.if-parts-i.false ∙ c.quad_at.ensures.value ∙ number_at v.count a v.bytes.now inside),
      ),
    )
