-- `line_fields::number_in` meets its contract: the first of what the slot holds, or 0 where it holds nothing. Assumes nothing.
use mathlib.Core.Path.{◌≡◌, sym, ap, ◌∙◌}
use Prim.Native.Nat.{◌+◌, ◌-◌}
use native.Mathlib.Omega.{arith}
use lib.ListN.{drop, get_or}
use lib.Seq.{get_or-take, get_or-drop}
use Rattle.line_fields.proofs.number_in.Goals as goal

pub returns-then-from-s : goal.returns-then-from-s
returns-then-from-s c =
    let s = c.args in
    let w = s.parts.now in
    let e : s.s.from + 0 ≡ s.s.from = omega arith in
    sym (get_or-take (s.s.end - s.s.from) (drop s.s.from w) 0 0 (omega arith) ∙ get_or-drop s.s.from w 0 0 ∙ ap (λ i. get_or w i 0) e)

pub returns : goal.returns
returns c = let s = c.args in let e : s.s.end - s.s.from ≡ 0 = omega arith in rw e
