-- Laws of `order`. Lists whose fronts are the same stand to each other as what follows the fronts does, so that the first octet that differs
-- decides, or else the length; and four octets stand as the numbers do that they say, octets being below 256.
-- What each answer of `order` says of `before` comes last. Assumes nothing.
use mathlib.Core.Path.{◌≡◌, refl, sym, ap₂, ◌∙◌}
use mathlib.Core.List.{List, [], ◌∷◌, ◌++◌}
use mathlib.Core.Bool.{Bool, true, false, cond, ◌||◌}
use Prim.Native.Nat.{ℕ, ◌+◌, ◌≤◌, ◌<◌, min}
use native.Mathlib.Omega.{arith}
use lib.Dec.{ltb}
use lib.ListN.{length, take, drop, get_or, length-drop, take-append-drop, drop_of_length-le}
use lib.Seq.{drop-cons}
use borrow.Author.Tests.{lt-ltb, le-ltb, ne_eqb, ltb-true, ltb-false}
use Rattle.numbers.specs.Order.{same, before}
use Rattle.numbers.proofs.Bools.{split}
use Rattle.numbers.proofs.Orders.{Tri, tri, below, equal, above, same-append, same_refl, same_true, before-append, before-irrefl, before-total, before-cons-lt}
use Rattle.numbers.proofs.Orders.{before-cons-gt, before-cons-eq}
use Rattle.numbers.specs.BigEndian.{quad, number, Octets}
use Rattle.numbers.proofs.BigEndian.{octets-drop}
use Rattle.octets.proofs.Sames.{take_whole}
use Rattle.octets.specs.Order.{order}
use Rattle.std.specs.Ordering.{nat_cmp, MatchOrdering}
use Rattle.std.specs.Cmp.{nat_cmp_is}
use Rattle.std.specs.declared.cmp.Ordering.{Ordering}
use Rattle.std.specs.declared.cmp.Ordering.TheVariants.{Less, Equal, Greater}

not-before-nothing : (a : List ℕ) → before a [] ≡ false
unfolding before
not-before-nothing [] = refl
not-before-nothing (x ∷ xs) = refl

or-none : (p : Bool) → p || false ≡ p
or-none true = refl
or-none false = refl

-- a common front counts for nothing
pub order-append : (p a b : List ℕ) → order (p ++ a) (p ++ b) ≡ order a b
unfolding order
order-append p a b = rw (before-append p a b, same-append p a b)

pub order-drop : (a b : List ℕ) (i : ℕ) → take i a ≡ take i b → order a b ≡ order (drop i a) (drop i b)
order-drop a b i t =
    ap₂ order (sym (take-append-drop i a)) (sym (take-append-drop i b))
    ∙ rw t (order-append (take i b) (drop i a) (drop i b))

pub order-refl : (a : List ℕ) → order a a ≡ Equal
unfolding order
order-refl a = rw (before-irrefl a, same_refl a)

-- behind fronts that are the same: an octet that differs decides, or the end of a list
module _ (a b : List ℕ) (i : ℕ) (t : take i a ≡ take i b) where
  order_lt : i < length a → i < length b → get_or a i 0 < get_or b i 0 → order a b ≡ Less
  unfolding order before
  order_lt ha hb h = order-drop a b i t ∙ rw (drop-cons a i 0, drop-cons b i 0, lt-ltb _ _ h)

  order-gt : i < length a → i < length b → get_or b i 0 < get_or a i 0 → order a b ≡ Greater
  unfolding order before same
  order-gt ha hb h =
      let l : get_or b i 0 ≤ get_or a i 0 = omega arith in
      let e = ne_eqb (get_or a i 0) (get_or b i 0) (λ q. omega arith) in
      order-drop a b i t ∙ rw (drop-cons a i 0, drop-cons b i 0, le-ltb _ _ l, e)

  order-shorter : length a ≤ i → i < length b → order a b ≡ Less
  unfolding order before
  order-shorter ha hb = order-drop a b i t ∙ rw (drop_of_length-le a ha, drop-cons b i 0)

  order-longer : i < length a → length b ≤ i → order a b ≡ Greater
  unfolding order before same
  order-longer ha hb = order-drop a b i t ∙ rw (drop-cons a i 0, drop_of_length-le b hb)

  order-end : length a ≤ i → length b ≤ i → order a b ≡ Equal
  order-end ha hb = rw (take_whole a b i ha hb t) (order-refl b)

  -- so `order` answers as the numbers there stand to each other, or as the lengths do
  pub order-differ : i < length a → i < length b → (get_or a i 0 ≡ get_or b i 0 → ⊥) → nat_cmp (get_or a i 0) (get_or b i 0) ≡ order a b
  order-differ ha hb n = sym (nat_cmp_is _ _ _ (go (tri (get_or a i 0) (get_or b i 0))))
    where
      go : Tri (get_or a i 0) (get_or b i 0) → MatchOrdering (order a b) (get_or a i 0 < get_or b i 0) (get_or a i 0 ≡ get_or b i 0) (get_or b i 0 < get_or a i 0)
      go (below _ _ h) = rw (order_lt ha hb h) h
      go (above _ _ h) = rw (order-gt ha hb h) h
      go (equal _ _ h) = absurd (n h)

  pub order-ends : min (length a) (length b) ≡ i → nat_cmp (length a) (length b) ≡ order a b
  order-ends e = sym (nat_cmp_is _ _ _ (go (tri (length a) (length b))))
    where
      go : Tri (length a) (length b) → MatchOrdering (order a b) (length a < length b) (length a ≡ length b) (length b < length a)
      go (below _ _ h) = rw (order-shorter (omega arith) (omega arith)) h
      go (above _ _ h) = rw (order-longer (omega arith) (omega arith)) h
      go (equal _ _ h) = rw (order-end (omega arith) (omega arith)) h

  -- the same of `before` alone
  before-drop : before a b ≡ before (drop i a) (drop i b)
  before-drop =
      ap₂ before (sym (take-append-drop i a)) (sym (take-append-drop i b))
      ∙ rw t (before-append (take i b) (drop i a) (drop i b))

  pub before-differ : i < length a → i < length b → (get_or a i 0 ≡ get_or b i 0 → ⊥) → before a b ≡ ltb (get_or a i 0) (get_or b i 0)
  unfolding before
  before-differ ha hb n = before-drop ∙ rw (drop-cons a i 0, drop-cons b i 0, ne_eqb _ _ n) (or-none _)

  pub before-ends : i ≡ min (length a) (length b) → before a b ≡ ltb (length a) (length b)
  unfolding before
  before-ends e =
      split
      (ltb (length a) (length b))
      (λ l.
      let s : length a < length b = ltb-true _ _ l in
      let ha : length a ≤ i = omega arith in
      let hb : i < length b = omega arith in
      before-drop ∙ rw (drop_of_length-le a ha, drop-cons b i 0, l))
      (λ l.
      let s : length b ≤ length a = ltb-false _ _ l in
      let hb : length b ≤ i = omega arith in
      before-drop ∙ rw (drop_of_length-le b hb, l) (not-before-nothing (drop i a)))

-- ---- four octets as a number: such numbers stand to each other as the octets do

-- a first digit that differs decides, else the rest does
digit : (x y m n : ℕ) (u v : List ℕ) → (x < y → m < n) → (y < x → n < m) → (x ≡ y → before u v ≡ ltb m n) → before (x ∷ u) (y ∷ v) ≡ ltb m n
digit x y m n u v lower higher level = go (tri x y)
  where
    go : Tri x y → before (x ∷ u) (y ∷ v) ≡ ltb m n
    go (below _ _ h) = before-cons-lt x y u v h ∙ sym (lt-ltb m n (lower h))
    go (above _ _ h) = before-cons-gt x y u v h ∙ sym (le-ltb m n (omega (arith, higher h)))
    go (equal _ _ h) = rw h (before-cons-eq y u v ∙ level h)

four-front : (v : List ℕ) → 4 ≤ length v → v ≡ get_or v 0 0 ∷ get_or v 1 0 ∷ get_or v 2 0 ∷ get_or v 3 0 ∷ drop 4 v
four-front [] h = absurd (omega arith)
four-front (x ∷ []) h = absurd (omega arith)
four-front (x ∷ y ∷ []) h = absurd (omega arith)
four-front (x ∷ y ∷ z ∷ []) h = absurd (omega arith)
four-front (x ∷ y ∷ z ∷ u ∷ v) h = refl

before-quads : (a b c d p q r s : ℕ) (u v : List ℕ) → b < 256 → c < 256 → d < 256 → q < 256 → r < 256 → s < 256
    → let x : ℕ = number quad (a ∷ b ∷ c ∷ d ∷ []) in let y : ℕ = number quad (p ∷ q ∷ r ∷ s ∷ []) in
    (x ≡ y → ⊥) → before (a ∷ b ∷ c ∷ d ∷ u) (p ∷ q ∷ r ∷ s ∷ v) ≡ ltb x y
before-quads a b c d p q r s u v hb hc hd hq hr hs n =
    let x : ℕ = number quad (a ∷ b ∷ c ∷ d ∷ []) in
    let y : ℕ = number quad (p ∷ q ∷ r ∷ s ∷ []) in
    digit a p x y _ _ (λ h. omega arith) (λ h. omega arith)
    (λ e. digit b q x y _ _ (λ h. omega arith) (λ h. omega arith)
    (λ f. digit c r x y _ _ (λ h. omega arith) (λ h. omega arith)
    (λ g. digit d s x y _ _ (λ h. omega arith) (λ h. omega arith)
    (λ h. absurd (n (omega arith))))))

pub before-four : (a b : List ℕ) (i : ℕ) → take i a ≡ take i b → i + 4 ≤ length a → i + 4 ≤ length b → Octets a → Octets b
    → (number quad (drop i a) ≡ number quad (drop i b) → ⊥) → before a b ≡ ltb (number quad (drop i a)) (number quad (drop i b))
before-four a b i t ha hb oa ob n =
    let ka = octets-drop i a oa in
    let kb = octets-drop i b ob in
    before-drop a b i t
    ∙ ap₂ before (four-front (drop i a) (omega (arith, length-drop i a))) (four-front (drop i b) (omega (arith, length-drop i b)))
    ∙ before-quads _ _ _ _ _ _ _ _ (drop 4 (drop i a)) (drop 4 (drop i b)) (ka 1) (ka 2) (ka 3) (kb 1) (kb 2) (kb 3) n

-- what each answer says
abbrev answer : Bool → Bool → Ordering
answer p q = cond p Less (cond q Equal Greater)

answer-below : (p q : Bool) → answer p q ≡ Less → p ≡ true
answer-below true q e = refl
answer-below false true e = cc
answer-below false false e = cc

answer-equal : (p q : Bool) → answer p q ≡ Equal → q ≡ true
answer-equal true q e = let z : Less ≡ Equal = e in cc
answer-equal false true e = refl
answer-equal false false e = cc

answer-above : (p q : Bool) → answer p q ≡ Greater → (q ≡ false) × (p ≡ false)
answer-above true q e = let z : Less ≡ Greater = e in (cc, cc)
answer-above false true e = (cc, refl)
answer-above false false e = (refl, refl)

module _ (a b : List ℕ) where
  pub order_below : order a b ≡ Less → before a b ≡ true
  unfolding order
  order_below e = answer-below (before a b) (same a b) e

  pub order-equal : order a b ≡ Equal → a ≡ b
  unfolding order
  order-equal e = same_true a b (answer-equal (before a b) (same a b) e)

  pub order-above : order a b ≡ Greater → before b a ≡ true
  unfolding order
  order-above e = let n = answer-above (before a b) (same a b) e in before-total a b n.0 n.1
