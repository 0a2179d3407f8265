-- Of one or more elements, one that no other is ahead of: carried along the list, it gives way to each that is ahead of it. By any order in which
-- elements may stand level, such as that of their indices, forwards or backwards. Assumes nothing.
use mathlib.Core.Path.{◌≡◌, refl, sym, subst, ◌∙◌}
use mathlib.Core.Bool.{Bool, true, false, cond, not}
use mathlib.Core.List.{List, [], ◌∷◌}
use Prim.Native.Nat.{ℕ}
use Rattle.numbers.specs.Lists.{every, any, find, is_none}
use Rattle.numbers.specs.Order.{before}
use Rattle.numbers.proofs.Bools.{split, clash, is_false, and_left, and_right, and_both, or_left, or_right, or-true, not-is-true, not-is-false, not-true}
use Rattle.numbers.proofs.Orders.{before-irrefl, before-trans, before-false}

find-any : {A : Type 0} (p : A → Bool) (xs : List A) → is_none (find p xs) ≡ not (any p xs)
find-any p [] = refl
find-any p (x ∷ xs) = split (p x) (λ e. rw e) (λ e. rw e (find-any p xs))

pub record Ahead {A : Type 0} (ahead : A → A → Bool) : Type 0 where
  pub irrefl : (x : A) → ahead x x ≡ false
  pub trans : (x y z : A) → ahead x y ≡ true → ahead y z ≡ true → ahead x z ≡ true
  pub level : (x y z : A) → ahead x y ≡ false → ahead y z ≡ false → ahead x z ≡ false

-- by an index
before-level : (x y z : List ℕ) → before x y ≡ false → before y z ≡ false → before x z ≡ false
before-level x y z h k =
    is_false (before x z) (λ e.
    before-false x y h (λ q. clash (subst (λ v. before v z ≡ true) q e) k) (λ q. clash (before-trans y x z q e) k))

module _ {A : Type 0} (index : A → List ℕ) where
  pub forwards : Ahead (λ x y. before (index x) (index y))
  forwards = record {
    irrefl = λ x. before-irrefl (index x);
    trans = λ x y z. before-trans (index x) (index y) (index z);
    level = λ x y z. before-level (index x) (index y) (index z);
  }

  pub backwards : Ahead (λ x y. before (index y) (index x))
  backwards = record {
    irrefl = λ x. before-irrefl (index x);
    trans = λ x y z h k. before-trans (index z) (index y) (index x) k h;
    level = λ x y z h k. before-level (index z) (index y) (index x) k h;
  }

module _ {A : Type 0} (ahead : A → A → Bool) (o : Ahead ahead) where
  abbrev foremost : A → List A → A
  foremost x [] = x
  foremost x (y ∷ ys) = cond (ahead y x) (foremost y ys) (foremost x ys)

  -- j is not ahead of i
  abbrev clear : A → A → Bool
  clear i j = not (ahead j i)

  clear_first : (x y m : A) → ahead y x ≡ true → clear m y ≡ true → clear m x ≡ true
  clear_first x y m l h = not-is-true (is_false (ahead x m) (λ e. clash (o.trans y x m l e) (not-true _ h)))

  clear_second : (x y m : A) → ahead y x ≡ false → clear m x ≡ true → clear m y ≡ true
  clear_second x y m l h = not-is-true (o.level y x m l (not-true _ h))

  foremost-clear : (x : A) (xs : List A) → every (clear (foremost x xs)) (x ∷ xs) ≡ true
  foremost-clear x [] = and_both (not-is-true (o.irrefl x)) refl
  foremost-clear x (y ∷ ys) =
      split (ahead y x)
      (λ e.
      let ih = foremost-clear y ys in
      let q : foremost x (y ∷ ys) ≡ foremost y ys = rw e in
      subst (λ m. every (clear m) (x ∷ y ∷ ys) ≡ true) (sym q) (and_both (clear_first x y (foremost y ys) e (and_left _ _ ih)) ih))
      (λ e.
      let ih = foremost-clear x ys in
      let a : clear (foremost x ys) x ≡ true = and_left _ _ ih in
      let q : foremost x (y ∷ ys) ≡ foremost x ys = rw e in
      subst (λ m. every (clear m) (x ∷ y ∷ ys) ≡ true) (sym q) (and_both a (and_both (clear_second x y (foremost x ys) e a) (and_right (clear (foremost x ys) x) _ ih))))

  foremost-among : (p : A → Bool) (x : A) (xs : List A) → p (foremost x xs) ≡ true → any p (x ∷ xs) ≡ true
  foremost-among p x [] h = or_left false h
  foremost-among p x (y ∷ ys) h =
      split (ahead y x)
      (λ e. or_right (p x) (foremost-among p y ys (rw e at h)))
      (λ e. or-true (p x) (any p ys) (foremost-among p x ys (rw e at h)) (λ a. or_left _ a) (λ a. or_right (p x) (or_right (p y) a)))

  pub foremost-found : (x : A) (xs : List A) → is_none (find (λ i. every (λ j. not (ahead j i)) (x ∷ xs)) (x ∷ xs)) ≡ false
  foremost-found x xs =
      let p : A → Bool = λ i. every (clear i) (x ∷ xs) in
      find-any p (x ∷ xs) ∙ not-is-false (foremost-among p x xs (foremost-clear x xs))
