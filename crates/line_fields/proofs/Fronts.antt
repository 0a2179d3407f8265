-- A part of a list's front holds what it held where the front stays. Assumes nothing.
use mathlib.Core.Path.{◌≡◌, sym, ap, ◌∙◌}
use mathlib.Core.List.{List}
use Prim.Native.Nat.{ℕ, ◌+◌, ◌-◌, ◌≤◌}
use native.Mathlib.Omega.{arith}
use lib.Dec.{ltb}
use lib.ListN.{length, take, drop, drop_of_length-le}
use lib.Seq.{length-take-le, take-take, take-nil, take_all, take-add, drop_at}
use borrow.Author.Tests.{ltb-true, ltb-false}
use Rattle.numbers.proofs.Bools.{split as by}
use Rattle.text_words.specs.Words.{between}

pub between-drop : (from end : ℕ) (w : List ℕ) → from ≤ end → between from end w ≡ drop from (take end w)
between-drop from end w h =
    by (ltb (length w) from)
    (λ t.
    let l : length w ≤ from = omega (arith, ltb-true (length w) from t) in
    let m : length w ≤ end = omega arith in
    ap (take (end - from)) (drop_of_length-le w l) ∙ take-nil (end - from)
    ∙ sym (ap (drop from) (take_all end w m) ∙ drop_of_length-le w l))
    (λ f.
    let l : from ≤ length w = ltb-false (length w) from f in
    let e : end ≡ from + (end - from) = omega arith in
    sym
    (ap (drop from) (ap (λ n. take n w) e ∙ take-add from (end - from) w)
    ∙ drop_at (take from w) (take (end - from) (drop from w)) from (length-take-le from w l)))

-- a part of the front stays where the front stays
pub between-kept : (from end n : ℕ) (w after : List ℕ) → from ≤ end → end ≤ n → take n after ≡ take n w → between from end w ≡ between from end after
between-kept from end n w after f h e =
    between-drop from end w f
    ∙ ap (drop from) (sym (take-take end n w h) ∙ ap (take end) (sym e) ∙ take-take end n after h)
    ∙ sym (between-drop from end after f)
