-- The bytes of an edit among those lent, as far as they are there; and bytes that begin with others. Assumes nothing.
use mathlib.Core.Path.{◌≡◌, refl, sym, ap, ◌∙◌}
use mathlib.Core.Bool.{Bool, true, false, ◌&&◌}
use mathlib.Core.List.{List, [], ◌∷◌}
use Prim.Native.Nat.{ℕ, ◌-◌, ◌≤◌, ◌<◌, min}
use native.Mathlib.Omega.{arith}
use lib.Dec.{leb}
use lib.ListN.{length, take, drop, length-drop}
use lib.Seq.{take_all}
use borrow.Author.Tests.{leb-true, leb-false}
use Rattle.numbers.specs.Order.{same}
use Rattle.numbers.proofs.Bools.{split, is_false}
use Rattle.numbers.proofs.Orders.{same_true}
use Rattle.set_rules.specs.Handed.{bytes_in}

no_length : (xs : List ℕ) → length xs ≤ 0 → xs ≡ []
no_length [] e = refl
no_length (x ∷ xs) e = absurd (omega arith)

-- an end and a beginning that are past those of the bytes are brought back
pub clipped : (from end : ℕ) (v : List ℕ) {f e : ℕ} → e ≡ min end (length v) → f ≡ min from e → bytes_in f e v ≡ bytes_in from end v
clipped from end v {f} {e} p q =
    let d : length (drop from v) ≡ length v - from = length-drop from v in
    split (leb from e)
    (λ h.
    let i : f ≡ from = omega (arith, leb-true from e h) in
    split (leb end (length v))
    (λ k. let j : e ≡ end = omega (arith, leb-true end (length v) k) in rw (i, j))
    (λ k.
    let j : e ≡ length v = omega (arith, leb-false end (length v) k) in
    rw i (take_all (e - from) (drop from v) (omega arith) ∙ sym (take_all (end - from) (drop from v) (omega (arith, leb-false end (length v) k))))))
    (λ h.
    let i : e - f ≡ 0 = omega (arith, leb-false from e h) in
    split (leb end (length v))
    (λ k.
    let j : end - from ≡ 0 = omega (arith, leb-true end (length v) k, leb-false from e h) in
    ap (λ n. take n (drop f v)) i ∙ sym (ap (λ n. take n (drop from v)) j))
    (λ k.
    let j : drop from v ≡ [] = no_length (drop from v) (omega (arith, leb-false end (length v) k, leb-false from e h)) in
    ap (λ n. take n (drop f v)) i ∙ sym (ap (take (end - from)) j ∙ take_all (end - from) [] (omega arith))))

-- bytes that are fewer do not begin with these
pub too_few : (v key : List ℕ) → length v < length key → same (take (length key) v) key ≡ false
too_few v key h =
    is_false _ (λ e. let q : v ≡ key = sym (take_all (length key) v (omega arith)) ∙ same_true (take (length key) v) key e in omega (arith, ap length q))

pub true-and : {a : Bool} (b : Bool) → a ≡ true → b ≡ a && b
true-and b e = rw e
