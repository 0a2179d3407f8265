-- Laws of `same_four` and `same_eight`. Octets are below 256, so four are the same where the numbers are that they say.
-- Octets that are the same, one after another, make the fronts of two lists the same, so much further. Assumes nothing.
use mathlib.Core.Path.{◌≡◌, sym, ap, ap₂, ◌∙◌}
use mathlib.Core.List.{List, ◌++◌}
use mathlib.Core.Bool.{Bool, true, false, ◌&&◌}
use Prim.Native.Nat.{ℕ, ◌+◌, ◌≤◌}
use native.Mathlib.Nat.{add_assoc}
use native.Mathlib.Omega.{arith}
use lib.ListN.{length, take, drop, length-drop}
use lib.Seq.{take-add, take_all}
use borrow.Author.Tests.{eqb-true, eqb-false}
use Rattle.numbers.proofs.Bools.{test-ext, and_left, and_right}
use Rattle.numbers.specs.BigEndian.{quad, number, bytes, Octets}
use Rattle.numbers.specs.Order.{same}
use Rattle.numbers.proofs.BigEndian.{octets-drop, bytes-number}
use Rattle.numbers.proofs.Orders.{same_true, same-eq, same-ne}
use Rattle.octets.specs.Same.{same_four, same_eight}

-- fronts that are the same stay the same with 4 octets more, or 8, or 32, where those are the same
module _ (a b : List ℕ) where
  module _ (oa : Octets a) (ob : Octets b) where
    pub take-four : (i : ℕ) → i + 4 ≤ length a → i + 4 ≤ length b → take i a ≡ take i b
        → number quad (drop i a) ≡ number quad (drop i b) → take (i + 4) a ≡ take (i + 4) b
    take-four i ha hb t e =
        let bytes-a = bytes-number quad (drop i a) (octets-drop i a oa) (omega (arith, length-drop i a)) in
        let bytes-b = bytes-number quad (drop i b) (octets-drop i b ob) (omega (arith, length-drop i b)) in
        take-add i 4 a ∙ ap₂ ◌++◌ t (sym bytes-a ∙ ap (bytes quad) e ∙ bytes-b) ∙ sym (take-add i 4 b)

    pub take-eight : (i : ℕ) → i + 8 ≤ length a → i + 8 ≤ length b → take i a ≡ take i b → same_eight a b i ≡ true → take (i + 8) a ≡ take (i + 8) b
    take-eight i ha hb t e =
        let first = take-four i (omega arith) (omega arith) t (eqb-true _ _ (and_left _ _ e)) in
        rw (add_assoc) at (take-four (i + 4) (omega arith) (omega arith) first (eqb-true _ _ (and_right (same_four a b i) _ e)))

    pub take-four-eights : (i : ℕ) {p q r s : Bool} → i + 32 ≤ length a → i + 32 ≤ length b → take i a ≡ take i b
        → p ≡ same_eight a b i → q ≡ same_eight a b (i + 8) → r ≡ same_eight a b (i + 16) → s ≡ same_eight a b (i + 24) → p && q && r && s ≡ true
        → take (i + 32) a ≡ take (i + 32) b
    take-four-eights i {p} {q} {r} {s} ha hb t ep eq er es h =
        let next : (k : ℕ) → k ≤ 24 → take (i + k) a ≡ take (i + k) b → same_eight a b (i + k) ≡ true → take (i + (k + 8)) a ≡ take (i + (k + 8)) b =
        λ k l u v. rw (← add_assoc) (take-eight (i + k) (omega arith) (omega arith) u v) in
        let all : (p ≡ true) × (q ≡ true) × (r ≡ true) × (s ≡ true) = search (and_left, and_right) in
        let first = take-eight i (omega arith) (omega arith) t (sym ep ∙ all.0) in
        next 24 (omega arith) (next 16 (omega arith) (next 8 (omega arith) first (sym eq ∙ all.1)) (sym er ∙ all.2)) (sym es ∙ all.3)

  -- fronts that are the whole lists
  pub take_whole : (i : ℕ) → length a ≤ i → length b ≤ i → take i a ≡ take i b → a ≡ b
  take_whole i ha hb t = sym (take_all i a ha) ∙ t ∙ take_all i b hb

  -- fronts of all but the last four octets, which are the same, or are not
  pub same-but-four : Octets a → Octets b → (i : ℕ) → i + 4 ≡ length a → i + 4 ≡ length b → same_four a b i ≡ true
      → same (take i a) (take i b) ≡ same a b
  same-but-four oa ob i ha hb s =
      test-ext _ _
      (λ e. let f = take-four oa ob i (omega arith) (omega arith) (same_true _ _ e) (eqb-true _ _ s) in
      same-eq a b (take_whole (i + 4) (omega arith) (omega arith) f))
      (λ e. same-eq _ _ (ap (take i) (same_true a b e)))

  pub four-differ : (i : ℕ) → same_four a b i ≡ false → same a b ≡ false
  four-differ i s = same-ne a b (λ e. eqb-false _ _ s (ap (λ v. number quad (drop i v)) e))
