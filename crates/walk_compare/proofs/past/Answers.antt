use mathlib.Core.Path.{◌≡◌, refl, sym, ap, ◌∙◌}
use mathlib.Core.Option.{some}
use mathlib.Core.List.{List, []}
use Prim.Native.Nat.{ℕ, ◌≤◌, ◌<◌}
use native.Mathlib.Omega.{arith}
use lib.ListN.{length, drop, get_or, drop_of_length-le}
use Rattle.std.specs.Prelude.{Some}
use Rattle.walk_compare.specs.Onward.{onward, GoesOn}
use Rattle.walk_compare.proofs.Comparing.{onward-short, onward-less, onward-more, onward-same, onward-end}
use Rattle.walk_compare.proofs.past.Goals as goal

pub loop-i-init : goal.loop-i-init
loop-i-init c = (refl, (omega arith, refl))

-- the identifier goes on from place k

goes : (o p : List ℕ) (k : ℕ) → k ≤ length o → onward o p ≡ some (drop k o) → GoesOn o p (Some k)
goes o p k h e = record { place = h; is = sym e }

-- where nothing of it is left

goes_end : (o p : List ℕ) (k : ℕ) → k ≡ length o → onward o p ≡ some [] → GoesOn o p (Some k)
goes_end o p k h e =
    let l : length o ≤ k = omega arith in
    goes o p k (omega arith) (e ∙ ap some (sym (drop_of_length-le o l)))

pub returns-then-identifier-i : goal.returns-then-identifier-i
returns-then-identifier-i c =
    let l = c.loop-i in
    let a = c.args in
    let e : length a.identifier.now ≤ l.i = omega (arith, c.if-identifier-i.true) in
    goes_end a.identifier.now a.front.now l.i (omega arith) (l.invariant.1.1 ∙ onward-short a.identifier.now a.front.now l.i e)

pub overflow_cast-x : goal.overflow_cast-x
overflow_cast-x c = omega (arith, c.shared_slice_known-in-loop-i-1.given c.loop-i.i)

pub bounds-front-i : goal.bounds-front-i
bounds-front-i c = omega (arith, c.loop-i-test.true, c.loop-i.invariant.0)

-- where a part of each is read

-- it lies in both, and up to it they go on alike
record Reads (identifier front : List ℕ) (place y : ℕ) : Type 0 where
  in_identifier : place < length identifier
  in_front : place < length front
  part : get_or front place 0 ≡ y
  alike : onward identifier front ≡ onward (drop place identifier) (drop place front)

pub returns-then-x-y : goal.returns-then-x-y
returns-then-x-y c =
    let reads : Reads c.args.identifier.now c.args.front.now c.loop-i.i c.wide-y.result = let l = c.loop-i in record { in_identifier = omega (arith, c.if-identifier-i.false); in_front = omega (arith, c.loop-i-test.true, l.invariant.0); part = sym c.wide-y.ensures.equal; alike = l.invariant.1.1 } in
    let place : ℕ = c.loop-i.i in
    let a = c.args in
    let r = reads in
    goes_end a.identifier.now a.front.now (length a.identifier.now) refl
    (r.alike ∙ onward-less a.identifier.now a.front.now place r.in_identifier r.in_front (omega (arith, r.part, c.if-x-y.true)))

pub returns-then-y-x : goal.returns-then-y-x
returns-then-y-x c =
    let reads : Reads c.args.identifier.now c.args.front.now c.loop-i.i c.wide-y.result = let l = c.loop-i in record { in_identifier = omega (arith, c.if-identifier-i.false); in_front = omega (arith, c.loop-i-test.true, l.invariant.0); part = sym c.wide-y.ensures.equal; alike = l.invariant.1.1 } in
    let place : ℕ = c.loop-i.i in
    let a = c.args in
    let r = reads in
    record {
      place = tt;
      is = sym (r.alike ∙ onward-more a.identifier.now a.front.now place r.in_identifier r.in_front
          (omega (arith, r.part, c.if-y-x.true)));
    }

pub loop-i-preserved : goal.loop-i-preserved
loop-i-preserved c =
    let reads : Reads c.args.identifier.now c.args.front.now c.loop-i.i c.wide-y.result = let l = c.loop-i in record { in_identifier = omega (arith, c.if-identifier-i.false); in_front = omega (arith, c.loop-i-test.true, l.invariant.0); part = sym c.wide-y.ensures.equal; alike = l.invariant.1.1 } in
    let place : ℕ = c.loop-i.i in
    let a = c.args in
    let r = reads in (
      refl,
      (
        omega (arith, r.in_identifier),
        r.alike ∙ onward-same a.identifier.now a.front.now place r.in_identifier r.in_front
            (omega (arith, r.part, c.if-x-y.false, c.if-y-x.false)),
      ),
    )

pub returns : goal.returns
returns c =
    let l = c.loop-i in
    let a = c.args in
    let e : length a.front.now ≤ l.i = omega (arith, c.loop-i-test.false, l.invariant.0) in
    goes a.identifier.now a.front.now l.i l.invariant.1.0 (l.invariant.1.1 ∙ onward-end a.identifier.now a.front.now l.i e)
