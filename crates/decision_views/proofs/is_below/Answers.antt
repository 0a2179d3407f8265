use mathlib.Core.Path.{◌≡◌, refl, sym, ◌∙◌}
use mathlib.Core.Bool.{Bool}
use mathlib.Core.List.{List}
use Prim.Native.Nat.{ℕ, ◌+◌, ◌*◌}
use lib.Dec.{eqb}
use lib.ListN.{drop}
use native.Mathlib.Omega.{arith}
use Rattle.numbers.specs.BigEndian.{number, quad}
use Rattle.decision_steps.specs.Decision.{agrees}
use Rattle.decision_steps.specs.Bytes.{identifier}
use Rattle.decision_steps.proofs.Identifiers.{length-identifier}
use Rattle.decision_views.proofs.Agreement.{agrees-short, agrees-end, agrees-same, agrees_masked, agrees-differ, agrees-skip, agrees-part}
use Rattle.decision_views.proofs.is_below.Goals as goal
use Rattle.decision_views.proofs.is_below.Goals.{then-not-same_four-2+else-mask_bit-2, else-not-same_four-2}

-- the numbers that were compared are those at m
at-part : (s v : List ℕ) {k : ℕ} {r b : Bool} (m : ℕ) → r ≡ eqb (number quad (drop k s)) (number quad (drop k v)) → r ≡ b → k ≡ m
    → eqb (number quad (drop m s)) (number quad (drop m v)) ≡ b
at-part s v m d t e = rw (← e) (sym d ∙ t)

pub returns-then-variable-n : goal.returns-then-variable-n
returns-then-variable-n c = sym (agrees-short _ 0 _ _ (omega (arith, length-identifier c.args.subtree.now, length-identifier c.args.variable.now)))

pub returns-then-mask_bit : goal.returns-then-mask_bit
returns-then-mask_bit c =
    let d = sym c.same_four.ensures ∙ c.if-not-same_four.true in
    sym (agrees-part _ _ _ _ (omega arith) (omega arith) (omega arith) d (sym c.mask_bit.ensures ∙ c.if-mask_bit.true))

pub skip-first-requires : goal.skip-first-requires
skip-first-requires c = record { begun = omega arith; first = omega arith; second = omega arith; known = refl }

pub loop-i-init : goal.loop-i-init
loop-i-init c = agrees-skip _ _ _ c.skip-first.result (omega arith) (omega arith) c.skip-first.ensures.equal

pub returns-then-mask_bit-2 : goal.returns-then-mask_bit-2
returns-then-mask_bit-2 c =
    let l = c.loop-i in
    let d = at-part c.args.subtree.now c.args.variable.now (4 * l.i) c.same_four-in-loop-i.ensures c.if-not-same_four-2.true (omega arith) in
    sym (l.invariant ∙ agrees-differ _ _ _ l.i (4 * l.i) (omega arith) (omega arith) d (sym c.mask_bit-then-not-same_four-2.ensures ∙ c.if-mask_bit-2.true))

pub loop-i-preserved : goal.loop-i-preserved
loop-i-preserved c =
    let l = c.loop-i in
    let turn : agrees c.args.mask.now l.i (identifier (drop (4 * l.i) c.args.subtree.now)) (identifier (drop (4 * l.i) c.args.variable.now))
    ≡ agrees c.args.mask.now (l.i + 1) (identifier (drop (4 * l.i + 4) c.args.subtree.now)) (identifier (drop (4 * l.i + 4) c.args.variable.now)) =
    elim c.if-not-same_four-2.branch [
      | then-not-same_four-2+else-mask_bit-2 w ↦
          agrees_masked _ _ _ l.i (4 * l.i) (omega arith) (omega arith) (sym w.mask_bit-then-not-same_four-2.ensures ∙ w.if-mask_bit-2.false)
      | else-not-same_four-2 w ↦
          agrees-same _ _ _ l.i (4 * l.i) (omega arith) (omega arith) (at-part c.args.subtree.now c.args.variable.now (4 * l.i) c.same_four-in-loop-i.ensures w.if-not-same_four-2.false (omega arith))
    ] in
    let e : 4 * (l.i + 1) ≡ 4 * l.i + 4 = omega arith in
    rw e (l.invariant ∙ turn)

pub returns : goal.returns
returns c =
    let l = c.loop-i in
    sym (l.invariant ∙ agrees-end _ _ _ l.i (4 * l.i) (omega arith))
