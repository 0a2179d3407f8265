use mathlib.Core.Path.{◌≡◌, sym, ◌∙◌}
use mathlib.Core.List.{List}
use Prim.Native.Nat.{ℕ, ◌<◌}
use lib.ListN.{length, drop, get_or}
use Rattle.numbers.specs.Order.{before}
use native.Mathlib.Omega.{arith}
use Rattle.instance_encode.specs.Runs.{runs}
use Rattle.instance_encode.proofs.Runs.{runs-length}
use Rattle.walk_compare.proofs.Comparing.{before-short, before-less, before_more, before_same, before-end, alike-before}
use Rattle.walk_compare.proofs.is_above.Goals as goal

pub loop-i-init : goal.loop-i-init
loop-i-init c =
    let l = runs-length c.args.from c.args.quads c.args.key.now c.requires in
    (omega (arith, l), (omega (arith, l), alike-before _ _ c.same_parts-i.result c.same_parts-i.ensures))

pub returns-then-parts-i : goal.returns-then-parts-i
returns-then-parts-i c =
    let l = c.loop-i in
    let a = c.args in
    sym (l.invariant.1.1 ∙ before-short a.parts.now (runs a.from a.quads a.key.now) l.i (omega (arith, c.if-parts-i.true))
    (omega (arith, c.loop-i-test.true, l.invariant.0)))

pub overflow_cast-x : goal.overflow_cast-x
overflow_cast-x c = omega (arith, c.shared_slice_known-in-loop-i-1.given c.loop-i.i)

pub part_at-y-requires : goal.part_at-y-requires
part_at-y-requires c = record { inside = c.requires; place = omega (arith, c.loop-i-test.true, c.loop-i.invariant.1.0) }

-- where a part of each is read

-- it lies in both, and up to it they stand alike
record Reads (parts index : List ℕ) (place y : ℕ) : Type 0 where
  in_parts : place < length parts
  in_index : place < length index
  part : get_or index place 0 ≡ y
  alike : before parts index ≡ before (drop place parts) (drop place index)

pub returns-then-x-y : goal.returns-then-x-y
returns-then-x-y c =
    let reads : Reads c.args.parts.now (runs c.args.from c.args.quads c.args.key.now) c.loop-i.i c.part_at-y.result = let l = c.loop-i in record { in_parts = omega (arith, c.if-parts-i.false); in_index = omega (arith, c.loop-i-test.true, l.invariant.0); part = sym c.part_at-y.ensures; alike = l.invariant.1.1 } in
    let index : List ℕ = let a = c.args in runs a.from a.quads a.key.now in
    let place : ℕ = c.loop-i.i in
    let r = reads in
    sym (r.alike ∙ before-less c.args.parts.now index place r.in_parts r.in_index (omega (arith, r.part, c.if-x-y.true)))

pub returns-then-y-x : goal.returns-then-y-x
returns-then-y-x c =
    let reads : Reads c.args.parts.now (runs c.args.from c.args.quads c.args.key.now) c.loop-i.i c.part_at-y.result = let l = c.loop-i in record { in_parts = omega (arith, c.if-parts-i.false); in_index = omega (arith, c.loop-i-test.true, l.invariant.0); part = sym c.part_at-y.ensures; alike = l.invariant.1.1 } in
    let index : List ℕ = let a = c.args in runs a.from a.quads a.key.now in
    let place : ℕ = c.loop-i.i in
    let r = reads in
    sym (r.alike ∙ before_more c.args.parts.now index place r.in_parts r.in_index (omega (arith, r.part, c.if-y-x.true)))

pub loop-i-preserved : goal.loop-i-preserved
loop-i-preserved c =
    let reads : Reads c.args.parts.now (runs c.args.from c.args.quads c.args.key.now) c.loop-i.i c.part_at-y.result = let l = c.loop-i in record { in_parts = omega (arith, c.if-parts-i.false); in_index = omega (arith, c.loop-i-test.true, l.invariant.0); part = sym c.part_at-y.ensures; alike = l.invariant.1.1 } in
    let index : List ℕ = let a = c.args in runs a.from a.quads a.key.now in
    let place : ℕ = c.loop-i.i in
    let r = reads in
    let i = c.loop-i.invariant in (
      i.0,
      (
        i.1.0,
        r.alike ∙ before_same c.args.parts.now index place r.in_parts r.in_index
            (omega (arith, r.part, c.if-x-y.false, c.if-y-x.false)),
      ),
    )

pub returns : goal.returns
returns c =
    let l = c.loop-i in
    let a = c.args in
    sym (l.invariant.1.1 ∙ before-end a.parts.now (runs a.from a.quads a.key.now) l.i (omega (arith, c.loop-i-test.false, l.invariant.0)))
