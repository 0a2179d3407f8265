-- Laws of `greatest` and `top`.
-- The greatest number is the one that no element exceeds and some element has (`greatest-is`).
-- Ranking by f and then, among the highest, by g is ranking once by f * k + g where g stays below k: such sums compare as their two digits do.
-- A rank of 0 or 1 keeps those that pass, if any does. Assumes nothing.
use mathlib.Core.Path.{◌≡◌, refl, sym, ap, ap₂, ◌∙◌}
use mathlib.Core.Bool.{Bool, true, false, cond, not, ◌&&◌, ◌||◌}
use mathlib.Core.List.{List, [], ◌∷◌}
use Prim.Native.Nat.{ℕ, suc, ◌+◌, ◌*◌, ◌≤◌, ◌<◌}
use native.Mathlib.Nat.{suc-mul, mul-le-mul_right}
use native.Mathlib.Omega.{arith}
use lib.Dec.{eqb, leb, ltb}
use borrow.Author.Tests.{ltb-true, ltb-false, leb-true, eqb-true, le-leb, eq-eqb, ne_eqb}
use Rattle.numbers.specs.Lists.{keep, every, any, greatest, top}
use Rattle.numbers.proofs.Bools.{split, clash, and_left, and_right, and_both, or_left, or_right, or-true, or_true_right, not-is-false, test-ext}
use Rattle.numbers.proofs.Bools.{cond-true, cond-false}
use Rattle.numbers.proofs.Orders.{Tri, tri, below, equal, above}
use Rattle.numbers.proofs.Keeps.{every-all, every-imp, every-both, every-unkept, every-top, keep-ext, keep-ext-on, keep-and, keep_all, any-imp, any-kept}
use Rattle.numbers.proofs.Keeps.{any-every}

module _ {A : Type 0} (f : A → ℕ) where
  pub greatest-le : (m : ℕ) (xs : List A) → every (λ x. leb (f x) m) xs ≡ true → greatest f xs ≤ m
  greatest-le m [] a = omega arith
  greatest-le m (x ∷ xs) a =
      let h : f x ≤ m = leb-true (f x) m (and_left _ _ a) in
      let ih : greatest f xs ≤ m = greatest-le m xs (and_right (leb (f x) m) _ a) in
      omega arith

  pub greatest-lt : (k : ℕ) (xs : List A) → 0 < k → every (λ x. ltb (f x) k) xs ≡ true → greatest f xs < k
  greatest-lt k [] h a = h
  greatest-lt k (x ∷ xs) h a =
      let l : f x < k = ltb-true (f x) k (and_left _ _ a) in
      let ih : greatest f xs < k = greatest-lt k xs h (and_right (ltb (f x) k) _ a) in
      omega arith

  pub greatest-ge : (m : ℕ) (xs : List A) → any (λ x. eqb (f x) m) xs ≡ true → m ≤ greatest f xs
  greatest-ge m [] a = clash a refl
  greatest-ge m (x ∷ xs) a =
      or-true (eqb (f x) m) _ a
      (λ e. let q : f x ≡ m = eqb-true (f x) m e in omega arith)
      (λ e. let ih : m ≤ greatest f xs = greatest-ge m xs e in omega arith)

  -- what no element exceeds and some element has
  pub greatest-is : (m : ℕ) (xs : List A) → every (λ x. leb (f x) m) xs ≡ true → any (λ x. eqb (f x) m) xs ≡ true → greatest f xs ≡ m
  greatest-is m xs a b =
      let l : greatest f xs ≤ m = greatest-le m xs a in
      let g : m ≤ greatest f xs = greatest-ge m xs b in
      omega arith

  -- no element exceeds the greatest
  pub every-greatest : (xs : List A) → every (λ x. leb (f x) (greatest f xs)) xs ≡ true
  every-greatest [] = refl
  every-greatest (x ∷ xs) =
      and_both (le-leb (f x) (greatest f (x ∷ xs)) (omega arith))
      (every-imp (λ y. leb (f y) (greatest f xs)) (λ y. leb (f y) (greatest f (x ∷ xs))) xs
      (λ y e. let h : f y ≤ greatest f xs = leb-true (f y) (greatest f xs) e in le-leb (f y) (greatest f (x ∷ xs)) (omega arith))
      (every-greatest xs))

  -- some element has it, where there is one
  any-greatest-step : (x : A) (xs : List A) → any (λ y. eqb (f y) (greatest f xs)) xs ≡ true → any (λ y. eqb (f y) (greatest f (x ∷ xs))) (x ∷ xs) ≡ true
  any-greatest-step x xs a =
      split (ltb (f x) (greatest f xs))
      (λ e. let l : f x < greatest f xs = ltb-true (f x) (greatest f xs) e in
      let m : greatest f xs ≡ greatest f (x ∷ xs) = omega arith in
      or_right (eqb (f x) (greatest f (x ∷ xs))) (ap (λ n. any (λ y. eqb (f y) n) xs) (sym m) ∙ a))
      (λ e. let l : greatest f xs ≤ f x = ltb-false (f x) (greatest f xs) e in
      or_left (any (λ y. eqb (f y) (greatest f (x ∷ xs))) xs) (eq-eqb (f x) (greatest f (x ∷ xs)) (omega arith)))

  pub any-greatest : (x : A) (xs : List A) → any (λ y. eqb (f y) (greatest f (x ∷ xs))) (x ∷ xs) ≡ true
  any-greatest x [] = or_left false (eq-eqb (f x) (greatest f (x ∷ [])) (omega arith))
  any-greatest x (y ∷ ys) = any-greatest-step x (y ∷ ys) (any-greatest y ys)

  -- an element there is, as some test tells
  any-greatest-of : (p : A → Bool) (xs : List A) → any p xs ≡ true → any (λ y. eqb (f y) (greatest f xs)) xs ≡ true
  any-greatest-of p [] e = clash e refl
  any-greatest-of p (x ∷ xs) e = any-greatest x xs

  pub any-top : (x : A) (xs : List A) → any (λ y. true) (top f (x ∷ xs)) ≡ true
  any-top x xs =
      let q : A → Bool = λ y. eqb (f y) (greatest f (x ∷ xs)) in
      any-kept q (λ y. true) (x ∷ xs) ∙ any-imp q (λ y. q y && true) (x ∷ xs) (λ y e. and_both e refl) (any-greatest x xs)

-- two digits below k each: the sum tells both
mul-step : (a b k : ℕ) → a < b → a * k + k ≤ b * k
mul-step a b k h =
    let e : suc a * k ≡ a * k + k = suc-mul a k in
    let l : suc a * k ≤ b * k = mul-le-mul_right k h in
    omega arith

digits-eqb : (a b c d k : ℕ) → b < k → d < k → eqb (a * k + b) (c * k + d) ≡ eqb a c && eqb b d
digits-eqb a b c d k hb hd = go (tri a c)
  where
    go : Tri a c → eqb (a * k + b) (c * k + d) ≡ eqb a c && eqb b d
    go (below p q h) = let l : a * k + k ≤ c * k = mul-step a c k h in rw q (ne_eqb (a * k + b) (c * k + d) (λ e. omega arith))
    go (equal p q h) =
        rw (q, h)
        (test-ext (eqb (c * k + b) (c * k + d)) (eqb b d)
        (λ e. let i : c * k + b ≡ c * k + d = eqb-true (c * k + b) (c * k + d) e in eq-eqb b d (omega arith))
        (λ e. eq-eqb (c * k + b) (c * k + d) (ap (λ n. c * k + n) (eqb-true b d e))))
    go (above p q h) = let l : c * k + k ≤ a * k = mul-step c a k h in rw q (ne_eqb (a * k + b) (c * k + d) (λ e. omega arith))

digits_le : (a b c d k : ℕ) → b < k → a ≤ c → (a ≡ c → b ≤ d) → a * k + b ≤ c * k + d
digits_le a b c d k hb h i = go (tri a c)
  where
    go : Tri a c → a * k + b ≤ c * k + d
    go (below p q l) = let m : a * k + k ≤ c * k = mul-step a c k l in omega arith
    go (equal p q e) = let m : a * k ≡ c * k = ap (λ n. n * k) e in let j : b ≤ d = i e in omega arith
    go (above p q l) = omega arith

module _ {A : Type 0} (f g : A → ℕ) (k : ℕ) where
  -- m is what f gives at most and n what g gives at most among those that have m
  module _ (m n : ℕ) where
    digits-most : (x : A) → (ltb (g x) k && leb (f x) m) && (not (eqb (f x) m) || leb (g x) n) ≡ true → leb (f x * k + g x) (m * k + n) ≡ true
    digits-most x e =
        let small : g x < k = ltb-true (g x) k (and_left (ltb (g x) k) (leb (f x) m) (and_left _ _ e)) in
        let low : f x ≤ m = leb-true (f x) m (and_right (ltb (g x) k) (leb (f x) m) (and_left _ _ e)) in
        let tie : not (eqb (f x) m) || leb (g x) n ≡ true = and_right (ltb (g x) k && leb (f x) m) _ e in
        le-leb (f x * k + g x) (m * k + n)
        (digits_le (f x) (g x) m n k small low
        (λ q. leb-true (g x) n (or_true_right (not (eqb (f x) m)) (leb (g x) n) tie (not-is-false (eq-eqb (f x) m q)))))

    digits-hit : (x : A) → eqb (f x) m && eqb (g x) n ≡ true → eqb (f x * k + g x) (m * k + n) ≡ true
    digits-hit x e =
        eq-eqb (f x * k + g x) (m * k + n)
        (ap₂ (λ u v. u * k + v) (eqb-true (f x) m (and_left _ _ e)) (eqb-true (g x) n (and_right (eqb (f x) m) _ e)))

    greatest-digits : (xs : List A) → every (λ x. ltb (g x) k) xs ≡ true → every (λ x. leb (f x) m) xs ≡ true
        → every (λ x. leb (g x) n) (keep (λ x. eqb (f x) m) xs) ≡ true → any (λ x. eqb (g x) n) (keep (λ x. eqb (f x) m) xs) ≡ true
        → greatest (λ x. f x * k + g x) xs ≡ m * k + n
    greatest-digits xs small low tie hit =
        greatest-is (λ x. f x * k + g x) (m * k + n) xs
        (every-imp _ _ xs digits-most
        (every-both _ _ xs (every-both _ _ xs small low) (every-unkept (λ x. leb (g x) n) (λ x. eqb (f x) m) xs tie)))
        (any-imp _ _ xs digits-hit (sym (any-kept (λ x. eqb (f x) m) (λ x. eqb (g x) n) xs) ∙ hit))

  -- first by f, then by g below k: once by both
  pub top-top : (xs : List A) → every (λ x. ltb (g x) k) xs ≡ true → top g (top f xs) ≡ top (λ x. f x * k + g x) xs
  top-top [] small = refl
  top-top (x ∷ xs) small =
      let m = greatest f (x ∷ xs) in
      let ys = top f (x ∷ xs) in
      let n = greatest g ys in
      let low : g x < k = ltb-true (g x) k (and_left _ _ small) in
      let nk : n < k = greatest-lt g k ys (omega arith) (every-top (λ y. ltb (g y) k) f (x ∷ xs) small) in
      let e : greatest (λ y. f y * k + g y) (x ∷ xs) ≡ m * k + n =
      greatest-digits m n (x ∷ xs) small (every-greatest f (x ∷ xs)) (every-greatest g ys) (any-greatest-of g (λ y. true) ys (any-top f x xs)) in
      keep-and (λ y. eqb (f y) m) (λ y. eqb (g y) n) (x ∷ xs)
      ∙ keep-ext-on (λ y. ltb (g y) k) (λ y. eqb (f y) m && eqb (g y) n) (λ y. eqb (f y * k + g y) (m * k + n))
      (λ y l. sym (digits-eqb (f y) (g y) m n k (ltb-true (g y) k l) nk)) (x ∷ xs) small
      ∙ ap (λ t. keep (λ y. eqb (f y * k + g y) t) (x ∷ xs)) (sym e)

-- a rank of 1 for those that pass and 0 for the others
rank-low : (b : Bool) → leb (cond b 1 0) 1 ≡ true
rank-low true = refl
rank-low false = refl

rank-one : (b : Bool) → eqb (cond b 1 0) 1 ≡ b
rank-one true = refl
rank-one false = refl

rank-zero : (b : Bool) → eqb (cond b 1 0) 0 ≡ not b
rank-zero true = refl
rank-zero false = refl

rank-none : (b : Bool) → leb (cond b 1 0) 0 ≡ not b
rank-none true = refl
rank-none false = refl

module _ {A : Type 0} where
  pub top-at : (f : A → ℕ) (m : ℕ) (xs : List A) → greatest f xs ≡ m → top f xs ≡ keep (λ x. eqb (f x) m) xs
  top-at f m xs e = ap (λ n. keep (λ x. eqb (f x) n) xs) e

  -- those that pass, if any does
  pub top_split : (p : A → Bool) (xs : List A) → top (λ x. cond (p x) 1 0) xs ≡ cond (any p xs) (keep p xs) xs
  top_split p xs = split (any p xs) passes fails
    where
      r : A → ℕ
      r = λ x. cond (p x) 1 0

      passes : any p xs ≡ true → top (λ x. cond (p x) 1 0) xs ≡ cond (any p xs) (keep p xs) xs
      passes e =
          top-at r 1 xs (greatest-is r 1 xs (every-all _ xs (λ x. rank-low (p x))) (any-imp p _ xs (λ x i. rank-one (p x) ∙ i) e))
          ∙ keep-ext _ p xs (λ x. rank-one (p x)) ∙ sym (cond-true (keep p xs) xs e)

      fails : any p xs ≡ false → top (λ x. cond (p x) 1 0) xs ≡ cond (any p xs) (keep p xs) xs
      fails e =
          let a : every (λ x. not (p x)) xs ≡ true = any-every p xs e in
          let l : greatest r xs ≤ 0 = greatest-le r 0 xs (every-imp _ _ xs (λ x i. rank-none (p x) ∙ i) a) in
          top-at r 0 xs (omega arith)
          ∙ keep_all _ xs (every-imp _ _ xs (λ x i. rank-zero (p x) ∙ i) a) ∙ sym (cond-false (keep p xs) xs e)
