-- Lists of numbers compared place by place: as long as their parts are the same, what is left of them stands to each other as they do.
-- Assumes nothing.
use mathlib.Core.Path.{◌≡◌, refl, ap, ◌∙◌}
use mathlib.Core.Bool.{true, false}
use mathlib.Core.List.{List, [], ◌∷◌}
use mathlib.Core.Option.{none, some}
use Prim.Native.Nat.{ℕ, zero, suc, ◌+◌, ◌≤◌, ◌<◌}
use native.Mathlib.Numerals.{add-one}
use lib.ListN.{length, drop, get_or, drop_of_length-le}
use lib.Seq.{drop-cons}
use borrow.Author.Tests.{lt-ltb, le-ltb, eq-eqb, ne_eqb}
use native.Mathlib.Omega.{arith}
use Rattle.numbers.specs.Order.{before}
use Rattle.numbers.proofs.Orders.{before-cons-eq, before-cons-lt, before-cons-gt}
use Rattle.walk_alike.specs.Alike.{Alike}
use Rattle.walk_alike.proofs.Alikes.{alike-fewer}
use Rattle.walk_compare.specs.Onward.{onward}

next : (v : List ℕ) (i : ℕ) → i < length v → drop i v ≡ get_or v i 0 ∷ drop (i + 1) v
next v i h = rw (add-one i) (drop-cons v i 0 h)

-- a list with nothing behind a place
before-nil : (a : List ℕ) → before a [] ≡ false
unfolding before
before-nil [] = refl
before-nil (x ∷ a) = refl

onward-nil : (a : List ℕ) → onward a [] ≡ some a
unfolding onward
onward-nil [] = refl
onward-nil (x ∷ a) = refl

module _ (a b : List ℕ) (i : ℕ) where
  pub before-end : length b ≤ i → before (drop i a) (drop i b) ≡ false
  before-end h = rw (drop_of_length-le b h) (before-nil (drop i a))

  pub onward-end : length b ≤ i → onward (drop i a) (drop i b) ≡ some (drop i a)
  onward-end h = rw (drop_of_length-le b h) (onward-nil (drop i a))

  pub before-short : length a ≤ i → i < length b → before (drop i a) (drop i b) ≡ true
  unfolding before
  before-short h k = rw (drop_of_length-le a h, next b i k)

  pub onward-short : length a ≤ i → onward (drop i a) (drop i b) ≡ some []
  unfolding onward
  onward-short h = rw (drop_of_length-le a h)

  module _ (h : i < length a) (k : i < length b) where
    pub before-less : get_or a i 0 < get_or b i 0 → before (drop i a) (drop i b) ≡ true
    before-less l = rw (next a i h, next b i k) (before-cons-lt _ _ _ _ l)

    pub before_more : get_or b i 0 < get_or a i 0 → before (drop i a) (drop i b) ≡ false
    before_more l = rw (next a i h, next b i k) (before-cons-gt _ _ _ _ l)

    pub before_same : get_or a i 0 ≡ get_or b i 0 → before (drop i a) (drop i b) ≡ before (drop (i + 1) a) (drop (i + 1) b)
    before_same e = rw (next a i h, next b i k, e) (before-cons-eq (get_or b i 0) (drop (i + 1) a) (drop (i + 1) b))

    pub onward-less : get_or a i 0 < get_or b i 0 → onward (drop i a) (drop i b) ≡ some []
    unfolding onward
    onward-less l = rw (next a i h, next b i k, lt-ltb (get_or a i 0) (get_or b i 0) l)

    pub onward-more : get_or b i 0 < get_or a i 0 → onward (drop i a) (drop i b) ≡ none
    unfolding onward
    onward-more l =
        let f : get_or b i 0 ≤ get_or a i 0 = omega arith in
        rw (next a i h, next b i k, le-ltb (get_or a i 0) (get_or b i 0) f, ne_eqb (get_or a i 0) (get_or b i 0) (λ q. omega arith))

    pub onward-same : get_or a i 0 ≡ get_or b i 0 → onward (drop i a) (drop i b) ≡ onward (drop (i + 1) a) (drop (i + 1) b)
    unfolding onward
    onward-same e =
        let f : get_or b i 0 ≤ get_or a i 0 = omega arith in
        rw (next a i h, next b i k, le-ltb (get_or a i 0) (get_or b i 0) f, eq-eqb (get_or a i 0) (get_or b i 0) e)

-- behind any number of parts that are the same
pub alike-before : (a b : List ℕ) (n : ℕ) → Alike n a b → before a b ≡ before (drop n a) (drop n b)
alike-before a b zero s = refl
alike-before a b (suc n) s =
    alike-before a b n (alike-fewer a b n (suc n) (omega arith) s)
    ∙ before_same a b n (omega (arith, s.in_first)) (omega (arith, s.in_second)) (s.same n (omega arith))
    ∙ ap (λ m. before (drop m a) (drop m b)) (add-one n)
