-- Laws of `decimal_text`. A number below 10 ^ k has k digits at most and the same ones at every limit from k on, so that its text is that
-- of its tenth and one digit more: where it fits, that of its tenth does, and the digit behind it. Assumes nothing.
use mathlib.Core.Path.{◌≡◌, sym, ap, ◌∙◌}
use mathlib.Core.List.{List, [], ◌∷◌, ◌++◌}
use Prim.Native.Nat.{ℕ, zero, suc, ◌+◌, ◌*◌, ◌/◌, ◌%◌, ◌^◌, ◌≤◌, ◌<◌}
use native.Mathlib.Nat.{pow-suc}
use native.Mathlib.Omega.{arith}
use lib.Dec.{ltb}
use lib.ListN.{length, length-append}
use borrow.Author.Tests.{ltb-false, lt-ltb, le-ltb}
use Rattle.numbers.proofs.Bools.{split}
use Rattle.text_values.specs.Texts.{digits, decimal_text, Puts}
use Rattle.text_values.proofs.Puts.{both, kept}

-- a tenth has a digit less
tenth : (n k : ℕ) → 10 ≤ n → n < 10 ^ suc k → (n / 10 < 10 ^ k) × (0 < k)
tenth n zero l h = absurd (omega arith)
tenth n (suc k) l h = let e : 10 ^ suc (suc k) ≡ 10 ^ suc k * 10 = pow-suc 10 (suc k) in (omega arith, omega arith)

-- a limit that is not met makes no difference
digits_more : (k n : ℕ) → n < 10 ^ k → 0 < k → digits (suc k) n ≡ digits k n
unfolding digits
digits_more zero n h p = absurd (omega arith)
digits_more (suc k) n h p =
    split (ltb n 10)
    (λ e. rw e)
    (λ e.
    let t = tenth n k (ltb-false n 10 e) h in
    rw e (ap (λ u. u ++ ((48 + n % 10) ∷ [])) (digits_more k (n / 10) t.0 t.1)))

pub decimal-one : (n : ℕ) → n < 10 → decimal_text n ≡ (48 + n) ∷ []
unfolding decimal_text digits
decimal-one n h = rw (lt-ltb n 10 h)

digits-next : (most n : ℕ) → 10 ≤ n → digits (suc most) n ≡ digits most (n / 10) ++ ((48 + n % 10) ∷ [])
unfolding digits
digits-next most n h = rw (le-ltb n 10 h)

pub decimal-next : (n : ℕ) → 10 ≤ n → n < 2 ^ 64 → decimal_text n ≡ decimal_text (n / 10) ++ ((48 + n % 10) ∷ [])
unfolding decimal_text
decimal-next n l h =
    digits-next 19 n l ∙ ap (λ u. u ++ ((48 + n % 10) ∷ [])) (sym (digits_more 19 (n / 10) (omega arith) (omega arith)))

-- ---- how many

digits-length : (most k n : ℕ) → n < 10 ^ k → 0 < k → length (digits most n) ≤ k
unfolding digits
digits-length zero k n h p = omega arith
digits-length (suc most) zero n h p = absurd (omega arith)
digits-length (suc most) (suc k) n h p =
    split (ltb n 10)
    (λ e. rw e (omega arith))
    (λ e.
    let t = tenth n k (ltb-false n 10 e) h in
    let ih : length (digits most (n / 10)) ≤ k = digits-length most k (n / 10) t.0 t.1 in
    rw (e, length-append) (omega arith))

digits-most : (most n : ℕ) → length (digits most n) ≤ most
unfolding digits
digits-most zero n = omega arith
digits-most (suc most) n =
    split (ltb n 10)
    (λ e. rw e (omega arith))
    (λ e. let ih : length (digits most (n / 10)) ≤ most = digits-most most (n / 10) in rw (e, length-append) (omega arith))

pub length-decimal : (n : ℕ) → length (decimal_text n) ≤ 20
unfolding decimal_text
length-decimal n = digits-most 20 n

pub length-decimal-quad : (n : ℕ) → n < 4294967296 → length (decimal_text n) ≤ 10
unfolding decimal_text
length-decimal-quad n h = digits-length 20 10 n (omega arith) (omega arith)

-- ---- the digit behind the tenth

module _ (at n : ℕ) (w : List ℕ) (l : 10 ≤ n) (h : n < 2 ^ 64) (fits : at + length (decimal_text n) ≤ length w) where
  room-both : at + (length (decimal_text (n / 10)) + 1) ≤ length w
  room-both = omega (arith, ap length (decimal-next n l h) ∙ length-append (decimal_text (n / 10)) ((48 + n % 10) ∷ []))

  pub tenth-fits : at + length (decimal_text (n / 10)) ≤ length w
  tenth-fits = omega (arith, room-both)

  module _ (r : ℕ) (after : List ℕ) (p : Puts (decimal_text (n / 10)) at w after r) where
    pub digit-fits : r + 1 ≤ length after
    digit-fits = omega (arith, room-both, p.ends, kept tenth-fits p)

    pub digit-put : (d e : ℕ) (end : List ℕ) → d ≡ 48 + n % 10 → Puts (d ∷ []) r after end e → Puts (decimal_text n) at w end e
    digit-put d e end i q =
        rw (decimal-next n l h)
        (both (decimal_text (n / 10)) ((48 + n % 10) ∷ []) (rw (decimal-next n l h) at fits) p (rw i at q))
