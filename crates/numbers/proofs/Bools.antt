-- Laws of tests: a test is true or false and not both, and what a conjunction, a disjunction and a negation say of their parts.
-- Each is by cases on the first test. Assumes nothing.
use mathlib.Core.Path.{◌≡◌, refl, sym, ◌∙◌}
use mathlib.Core.Bool.{Bool, true, false, cond, not, ◌&&◌, ◌||◌, true≢false}
pub use borrow.Author.Tests.{not-true, not-false}

-- a test with its two facts
pub split : {P : Type 0} (b : Bool) → (b ≡ true → P) → (b ≡ false → P) → P
split true f g = f refl
split false f g = g refl

-- a test is not both
pub clash {ℓ} : {P : Type ℓ} {b : Bool} → b ≡ true → b ≡ false → P
clash p q = absurd (true≢false (sym p ∙ q))

-- what is not true is false, what is not false is true
pub is_false : (b : Bool) → (b ≡ true → ⊥) → b ≡ false
is_false true h = absurd (h refl)
is_false false h = refl

pub is_true : (b : Bool) → (b ≡ false → ⊥) → b ≡ true
is_true true h = refl
is_true false h = absurd (h refl)

-- two tests that pass together are the same
pub test-ext : (a b : Bool) → (a ≡ true → b ≡ true) → (b ≡ true → a ≡ true) → a ≡ b
test-ext true b f g = sym (f refl)
test-ext false b f g = sym (is_false b (λ e. clash (g e) refl))

-- both
pub and_left : (a b : Bool) → a && b ≡ true → a ≡ true
and_left true b e = refl
and_left false b e = e

pub and_right : (a b : Bool) → a && b ≡ true → b ≡ true
and_right true b e = e
and_right false b e = clash e refl

pub and_both : {a b : Bool} → a ≡ true → b ≡ true → a && b ≡ true
and_both p q = rw (p, q)

pub and-false-left : {a : Bool} (b : Bool) → a ≡ false → a && b ≡ false
and-false-left b p = rw p

pub and-false-right : (a : Bool) {b : Bool} → b ≡ false → a && b ≡ false
and-false-right true p = p
and-false-right false p = refl

-- both does not hold: where the one does, the other does not
pub and-false : (a b : Bool) → a && b ≡ false → a ≡ true → b ≡ false
and-false true b e p = e
and-false false b e p = clash p refl

pub and-false-or : {P : Type 0} (a b : Bool) → a && b ≡ false → (a ≡ false → P) → (b ≡ false → P) → P
and-false-or true b e f g = g e
and-false-or false b e f g = f refl

pub and_assoc : (a b c : Bool) → (a && b) && c ≡ a && (b && c)
and_assoc true b c = refl
and_assoc false b c = refl

pub and_comm : (a b : Bool) → a && b ≡ b && a
and_comm true true = refl
and_comm true false = refl
and_comm false true = refl
and_comm false false = refl

-- one of them
pub or_left : {a : Bool} (b : Bool) → a ≡ true → a || b ≡ true
or_left b p = rw p

pub or_right : (a : Bool) {b : Bool} → b ≡ true → a || b ≡ true
or_right true p = refl
or_right false p = p

pub or-true : {P : Type 0} (a b : Bool) → a || b ≡ true → (a ≡ true → P) → (b ≡ true → P) → P
or-true true b e f g = f refl
or-true false b e f g = g e

pub or_true_right : (a b : Bool) → a || b ≡ true → a ≡ false → b ≡ true
or_true_right true b e p = clash refl p
or_true_right false b e p = e

pub or-true-left : (a b : Bool) → a || b ≡ true → b ≡ false → a ≡ true
or-true-left true b e p = refl
or-true-left false b e p = clash e p

-- neither
pub or-false-left : (a b : Bool) → a || b ≡ false → a ≡ false
or-false-left true b e = e
or-false-left false b e = refl

pub or-false-right : (a b : Bool) → a || b ≡ false → b ≡ false
or-false-right true b e = clash refl e
or-false-right false b e = e

pub or-neither : {a b : Bool} → a ≡ false → b ≡ false → a || b ≡ false
or-neither p q = rw (p, q)

-- not
pub not-is-true : {b : Bool} → b ≡ false → not b ≡ true
not-is-true p = rw p

pub not-is-false : {b : Bool} → b ≡ true → not b ≡ false
not-is-false p = rw p

pub not-not : (b : Bool) → not (not b) ≡ b
not-not true = refl
not-not false = refl

pub not-and : (a b : Bool) → not (a && b) ≡ not a || not b
not-and true b = refl
not-and false b = refl

pub not-or : (a b : Bool) → not (a || b) ≡ not a && not b
not-or true b = refl
not-or false b = refl

-- a choice by a test
module _ {A : Type 0} where
  pub cond-true : {b : Bool} (x y : A) → b ≡ true → cond b x y ≡ x
  cond-true x y p = rw p

  pub cond-false : {b : Bool} (x y : A) → b ≡ false → cond b x y ≡ y
  cond-false x y p = rw p

  pub cond_same : (b : Bool) (x : A) → cond b x x ≡ x
  cond_same true x = refl
  cond_same false x = refl

pub cond_map : {A B : Type 0} (f : A → B) (b : Bool) (x y : A) → f (cond b x y) ≡ cond b (f x) (f y)
cond_map f true x y = refl
cond_map f false x y = refl
