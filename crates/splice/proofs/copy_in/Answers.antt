use mathlib.Core.Path.{◌≡◌, refl, ap, ◌∙◌}
use mathlib.Core.List.{List}
use Prim.Native.Nat.{ℕ}
use native.Mathlib.Numerals.{add-one}
use native.Mathlib.Omega.{arith}
use lib.ListN.{length, set, get_or, length-set}
use lib.Seq.{paste, paste-zero, paste-suc}
use Rattle.std.proofs.lemmas.Grind.{common_steps}
use Rattle.splice.proofs.copy_in.Goals as goal

-- the octet that is stored is the one that stands there
stored : (w : List ℕ) (at : ℕ) {x : ℕ} (y : ℕ) {r : List ℕ} → x ≡ y → set w at y ≡ r → set w at x ≡ r
stored w at y e h = rw e h

pub loop-i-init : goal.loop-i-init
loop-i-init c = (paste-zero _ c.args.at c.args.new.now, refl)

pub loop-i-preserved : goal.loop-i-preserved
loop-i-preserved c =
    let l = c.loop-i in
    let s = c.args in
    let next = paste-suc {A = ℕ} s.w.now s.at s.new.now l.i 0 (omega arith) (omega arith) in
    (rw (l.invariant.0, add-one) (stored _ _ (get_or s.new.now l.i 0) (grind (arith, common_steps)) next), simp length-set l.invariant.1)

pub returns : goal.returns
returns c =
    let s = c.args in
    let e : c.loop-i.i ≡ length s.new.now = omega arith in
    c.loop-i.invariant.0 ∙ ap (paste s.w.now s.at s.new.now) e
