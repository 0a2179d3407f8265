-- Laws of lists of numbers under `same`, `before` and `begins`.
-- Two first numbers are below, equal or above one another (`tri`), and each law goes by these three cases and by induction on the rest.
-- `same` is equality, `before` is a strict total order, and a list that begins another is what `take` gives of it. Assumes nothing.
use mathlib.Core.Path.{◌≡◌, refl, sym, ap, ap₂, ◌∙◌}
use mathlib.Core.Bool.{true, false, ◌&&◌, ◌||◌}
use mathlib.Core.List.{List, [], ◌∷◌, ◌++◌}
use Prim.Native.Nat.{ℕ, ◌≤◌, ◌<◌}
use native.Mathlib.Omega.{arith}
use lib.Dec.{eqb, ltb}
use lib.ListN.{length, take}
use borrow.Author.Tests.{ltb-true, ltb-false, eqb-true, eqb-false, lt-ltb, le-ltb, eq-eqb, ne_eqb}
use Rattle.numbers.specs.Order.{same, before, begins}
use Rattle.numbers.proofs.Bools.{split, clash, is_false, test-ext, and_left, and_right}

-- two numbers, with what the tests say of them
pub data Tri (x y : ℕ) : Type 0 where
  below : ltb x y ≡ true → eqb x y ≡ false → x < y → Tri x y
  equal : ltb x y ≡ false → eqb x y ≡ true → x ≡ y → Tri x y
  above : ltb x y ≡ false → eqb x y ≡ false → y < x → Tri x y

pub tri : (x y : ℕ) → Tri x y
tri x y =
    split (ltb x y) (λ e. let h : x < y = ltb-true x y e in below e (ne_eqb x y (λ q. omega arith)) h)
    (λ e. let h : y ≤ x = ltb-false x y e in split (eqb x y) (λ q. equal e q (eqb-true x y q))
    (λ q. above e q (omega (arith, eqb-false x y q))))

pub eqb-sym : (x y : ℕ) → eqb x y ≡ eqb y x
eqb-sym x y = test-ext _ _ (λ e. eq-eqb y x (sym (eqb-true x y e))) (λ e. eq-eqb x y (sym (eqb-true y x e)))

pub eqb_same : (x : ℕ) → eqb x x ≡ true
eqb_same x = eq-eqb x x refl

pub ltb-same : (x : ℕ) → ltb x x ≡ false
ltb-same x = le-ltb x x (omega arith)

-- same is equality
pub same_true : (a b : List ℕ) → same a b ≡ true → a ≡ b
unfolding same
same_true [] [] e = refl
same_true [] (y ∷ ys) e = clash e refl
same_true (x ∷ xs) [] e = clash e refl
same_true (x ∷ xs) (y ∷ ys) e =
    ap₂ {C = List ℕ} (λ u v. u ∷ v) (eqb-true x y (and_left _ _ e)) (same_true xs ys (and_right (eqb x y) _ e))

pub same_refl : (a : List ℕ) → same a a ≡ true
unfolding same
same_refl [] = refl
same_refl (x ∷ xs) = rw (eqb_same x) (same_refl xs)

pub same-eq : (a b : List ℕ) → a ≡ b → same a b ≡ true
same-eq a b e = rw e (same_refl b)

pub same_false : (a b : List ℕ) → same a b ≡ false → a ≡ b → ⊥
same_false a b e q = clash (same-eq a b q) e

pub same-ne : (a b : List ℕ) → (a ≡ b → ⊥) → same a b ≡ false
same-ne a b h = is_false (same a b) (λ e. h (same_true a b e))

pub same-sym : (a b : List ℕ) → same a b ≡ same b a
same-sym a b = test-ext _ _ (λ e. same-eq b a (sym (same_true a b e))) (λ e. same-eq a b (sym (same_true b a e)))

pub same_length : (a b : List ℕ) → same a b ≡ true → length a ≡ length b
same_length a b e = ap length (same_true a b e)

-- before, by the first numbers
pub before-cons-lt : (x y : ℕ) (a b : List ℕ) → x < y → before (x ∷ a) (y ∷ b) ≡ true
unfolding before
before-cons-lt x y a b h = rw (lt-ltb x y h)

pub before-cons-gt : (x y : ℕ) (a b : List ℕ) → y < x → before (x ∷ a) (y ∷ b) ≡ false
unfolding before
before-cons-gt x y a b h =
    let le : y ≤ x = omega arith in
    rw (le-ltb x y le, ne_eqb x y (λ q. omega arith))

pub before-cons-eq : (x : ℕ) (a b : List ℕ) → before (x ∷ a) (x ∷ b) ≡ before a b
unfolding before
before-cons-eq x a b = rw (ltb-same x, eqb_same x)

-- before: the first number is no greater
pub before-cons-le : (x y : ℕ) (a b : List ℕ) → before (x ∷ a) (y ∷ b) ≡ true → x ≤ y
before-cons-le x y a b e =
    split (ltb y x) (λ l. clash e (before-cons-gt x y a b (ltb-true y x l))) (λ l. ltb-false y x l)

pub same-cons : (x : ℕ) (a b : List ℕ) → same (x ∷ a) (x ∷ b) ≡ same a b
unfolding same
same-cons x a b = rw (eqb_same x)

-- a common front counts for nothing
pub before-append : (p a b : List ℕ) → before (p ++ a) (p ++ b) ≡ before a b
before-append [] a b = refl
before-append (x ∷ p) a b = before-cons-eq x (p ++ a) (p ++ b) ∙ before-append p a b

pub same-append : (p a b : List ℕ) → same (p ++ a) (p ++ b) ≡ same a b
same-append [] a b = refl
same-append (x ∷ p) a b = same-cons x (p ++ a) (p ++ b) ∙ same-append p a b

-- before is a strict total order
pub before-irrefl : (a : List ℕ) → before a a ≡ false
unfolding before
before-irrefl [] = refl
before-irrefl (x ∷ xs) = rw (ltb-same x, eqb_same x) (before-irrefl xs)

pub before-not-same : (a b : List ℕ) → before a b ≡ true → same a b ≡ false
before-not-same a b e = is_false (same a b) (λ q. clash e (rw (same_true a b q) (before-irrefl b)))

pub before-total : (a b : List ℕ) → same a b ≡ false → before a b ≡ false → before b a ≡ true
unfolding same before
before-total [] [] e l = clash refl e
before-total [] (y ∷ ys) e l = clash refl l
before-total (x ∷ xs) [] e l = refl
before-total (x ∷ xs) (y ∷ ys) e l = go (before-total xs ys) (tri x y)
  where
    go : (same xs ys ≡ false → before xs ys ≡ false → before ys xs ≡ true) → Tri x y → ltb y x || (eqb y x && before ys xs) ≡ true
    go ih (below p q h) = clash {b = true} refl (rw p at l)
    go ih (equal p q h) =
        rw (le-ltb y x (omega arith), eq-eqb y x (sym h)) (ih (rw q at e) (rw (p, q) at l))
    go ih (above p q h) = rw (lt-ltb y x h)

pub before-trans : (a b c : List ℕ) → before a b ≡ true → before b c ≡ true → before a c ≡ true
unfolding before
before-trans [] [] c p q = clash p refl
before-trans [] (y ∷ ys) [] p q = clash q refl
before-trans [] (y ∷ ys) (z ∷ zs) p q = refl
before-trans (x ∷ xs) [] c p q = clash p refl
before-trans (x ∷ xs) (y ∷ ys) [] p q = clash q refl
before-trans (x ∷ xs) (y ∷ ys) (z ∷ zs) p q = go (before-trans xs ys zs) (tri x y) (tri y z)
  where
    go : (before xs ys ≡ true → before ys zs ≡ true → before xs zs ≡ true) → Tri x y → Tri y z → ltb x z || (eqb x z && before xs zs) ≡ true
    go ih (below _ _ h) (below _ _ k) = rw (lt-ltb x z (omega arith))
    go ih (below _ _ h) (equal _ _ k) = rw (lt-ltb x z (omega arith))
    go ih (below _ _ h) (above k l m) = clash (rw (k, l) at q) refl
    go ih (equal _ _ h) (below _ _ k) = rw (lt-ltb x z (omega arith))
    go ih (equal i j h) (equal k l m) =
        rw (le-ltb x z (omega arith), eq-eqb x z (h ∙ m)) (ih (rw (i, j) at p) (rw (k, l) at q))
    go ih (equal _ _ h) (above k l m) = clash (rw (k, l) at q) refl
    go ih (above k l m) t = clash (rw (k, l) at p) refl

pub before-asym : (a b : List ℕ) → before a b ≡ true → before b a ≡ false
before-asym a b e = is_false (before b a) (λ q. clash (before-trans a b a e q) (before-irrefl a))

-- not before: the same, or after
pub before-false : {P : Type 0} (a b : List ℕ) → before a b ≡ false → (a ≡ b → P) → (before b a ≡ true → P) → P
before-false a b l f g = split (same a b) (λ e. f (same_true a b e)) (λ e. g (before-total a b e l))

-- a list that begins another is its front
pub begins-take : (p c : List ℕ) → begins p c ≡ same (take (length p) c) p
unfolding begins same
begins-take [] c = refl
begins-take (x ∷ p) [] = refl
begins-take (x ∷ p) (y ∷ c) = ap₂ (λ u v. u && v) (eqb-sym x y) (begins-take p c)

pub begins-true : (p c : List ℕ) → begins p c ≡ true → take (length p) c ≡ p
begins-true p c e = same_true _ p (sym (begins-take p c) ∙ e)

pub begins-eq : (p c : List ℕ) → take (length p) c ≡ p → begins p c ≡ true
begins-eq p c e = begins-take p c ∙ same-eq _ p e

-- two of one length that begin one list are the same
pub begins-unique : (p q c : List ℕ) → length p ≡ length q → begins p c ≡ true → begins q c ≡ true → p ≡ q
begins-unique p q c h e f = sym (begins-true p c e) ∙ ap (λ n. take n c) h ∙ begins-true q c f

pub begins-refl : (p : List ℕ) → begins p p ≡ true
unfolding begins
begins-refl [] = refl
begins-refl (x ∷ p) = rw (eqb_same x) (begins-refl p)

pub begins-append : (p a b : List ℕ) → begins (p ++ a) (p ++ b) ≡ begins a b
unfolding begins
begins-append [] a b = refl
begins-append (x ∷ p) a b = rw (eqb_same x) (begins-append p a b)

-- what begins a list is no longer than it
pub begins-length : (p c : List ℕ) → begins p c ≡ true → length p ≤ length c
unfolding begins
begins-length [] c e = omega arith
begins-length (x ∷ p) [] e = clash e refl
begins-length (x ∷ p) (y ∷ c) e = let ih : length p ≤ length c = begins-length p c (and_right (eqb x y) _ e) in omega arith
