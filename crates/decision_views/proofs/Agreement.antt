-- Laws of `agrees`, which compares two identifiers number by number, over the bytes that say them.
-- Four octets are the same exactly where the numbers that they say are. A subtree agrees with no variable that is shorter, and otherwise as its
-- first number does and the rest do; where bytes in front are the same, as what follows their numbers does. Assumes nothing.
use mathlib.Core.Path.{◌≡◌, refl, sym, ap, ap₂, ◌∙◌}
use mathlib.Core.Bool.{true, false, not, ◌&&◌, ◌||◌}
use mathlib.Core.List.{List, [], ◌∷◌}
use Prim.Native.Nat.{ℕ, zero, suc, ◌+◌, ◌*◌, ◌/◌, ◌%◌, ◌≤◌, ◌<◌}
use native.Mathlib.Numerals.{add-one}
use native.Mathlib.Omega.{arith}
use lib.Dec.{eqb}
use lib.ListN.{length, take, drop, get_or, length-drop}
use lib.Seq.{get_or-take}
use borrow.Author.Tests.{eqb-true, eq-eqb}
use Rattle.numbers.proofs.Bools.{test-ext, and_left, and_right, and_both, and-false-right, or_right}
use Rattle.numbers.specs.BigEndian.{quad, number}
use Rattle.numbers.proofs.BigEndian.{quad-front}
use Rattle.decision_steps.specs.Decision.{mask_bit, agrees}
use Rattle.decision_steps.specs.Bytes.{identifier}
use Rattle.decision_steps.proofs.Identifiers.{identifier-none, identifier-next}

-- ---- four octets

-- four octets are the same exactly where the numbers are
abbrev four : ℕ → ℕ → ℕ → ℕ → ℕ
four a b c d = number quad (a ∷ b ∷ c ∷ d ∷ [])

quads-eqb : (a b c d p q r s : ℕ) → a < 256 → b < 256 → c < 256 → d < 256 → p < 256 → q < 256 → r < 256 → s < 256
    → eqb a p && eqb b q && eqb c r && eqb d s ≡ eqb (four a b c d) (four p q r s)
quads-eqb a b c d p q r s ha hb hc hd hp hq hr hs = test-ext _ _ octets quads
  where
    octets : eqb a p && eqb b q && eqb c r && eqb d s ≡ true → eqb (four a b c d) (four p q r s) ≡ true
    octets e =
        let all : (eqb a p ≡ true) × (eqb b q ≡ true) × (eqb c r ≡ true) × (eqb d s ≡ true) = search (and_left, and_right) in
        eq-eqb (four a b c d) (four p q r s)
        (omega (arith, eqb-true a p all.0, eqb-true b q all.1, eqb-true c r all.2, eqb-true d s all.3))

    quads : eqb (four a b c d) (four p q r s) ≡ true → eqb a p && eqb b q && eqb c r && eqb d s ≡ true
    quads e =
        let n : four a b c d ≡ four p q r s = eqb-true _ _ e in
        and_both (and_both (and_both (eq-eqb a p (omega arith)) (eq-eqb b q (omega arith))) (eq-eqb c r (omega arith))) (eq-eqb d s (omega arith))

pub quad-same : (a b : List ℕ) (i : ℕ) → ((k : ℕ) → get_or a k 0 < 256) → ((k : ℕ) → get_or b k 0 < 256)
    → eqb (get_or a i 0) (get_or b i 0) && eqb (get_or a (i + 1) 0) (get_or b (i + 1) 0)
    && eqb (get_or a (i + 2) 0) (get_or b (i + 2) 0) && eqb (get_or a (i + 3) 0) (get_or b (i + 3) 0)
    ≡ eqb (number quad (drop i a)) (number quad (drop i b))
quad-same a b i ha hb =
    quads-eqb _ _ _ _ _ _ _ _ (ha i) (ha (i + 1)) (ha (i + 2)) (ha (i + 3)) (hb i) (hb (i + 1)) (hb (i + 2)) (hb (i + 3))
    ∙ sym (ap₂ eqb (quad-front a i) (quad-front b i))

-- ---- agrees

-- a variable that is shorter
pub agrees-short : (mask : List ℕ) (i : ℕ) (ts xs : List ℕ) → length xs < length ts → agrees mask i ts xs ≡ false
unfolding agrees
agrees-short mask i [] xs h = absurd (omega arith)
agrees-short mask i (t ∷ ts) [] h = refl
agrees-short mask i (t ∷ ts) (x ∷ xs) h =
    and-false-right (not (mask_bit mask i) || eqb t x) (agrees-short mask (suc i) ts xs (omega arith))

-- the numbers at k, which are bit i's
module _ (mask s v : List ℕ) (i k : ℕ) where
  pub agrees-end : length s ≤ k → agrees mask i (identifier (drop k s)) (identifier (drop k v)) ≡ true
  unfolding agrees
  agrees-end h = rw (identifier-none (drop k s) (omega (arith, length-drop k s)))

  module _ (hs : k + 4 ≤ length s) (hv : k + 4 ≤ length v) where
    pub agrees-same : eqb (number quad (drop k s)) (number quad (drop k v)) ≡ true
        → agrees mask i (identifier (drop k s)) (identifier (drop k v)) ≡ agrees mask (i + 1) (identifier (drop (k + 4) s)) (identifier (drop (k + 4) v))
    unfolding agrees
    agrees-same e = rw (identifier-next k s hs, identifier-next k v hv, or_right (not (mask_bit mask i)) e, add-one)

    pub agrees_masked : mask_bit mask i ≡ false
        → agrees mask i (identifier (drop k s)) (identifier (drop k v)) ≡ agrees mask (i + 1) (identifier (drop (k + 4) s)) (identifier (drop (k + 4) v))
    unfolding agrees
    agrees_masked b = rw (identifier-next k s hs, identifier-next k v hv, b, add-one)

    pub agrees-differ : eqb (number quad (drop k s)) (number quad (drop k v)) ≡ false → mask_bit mask i ≡ true
        → agrees mask i (identifier (drop k s)) (identifier (drop k v)) ≡ false
    unfolding agrees
    agrees-differ e b = rw (identifier-next k s hs, identifier-next k v hv, e, b)

    agrees-rest : agrees mask (i + 1) (identifier (drop (k + 4) s)) (identifier (drop (k + 4) v)) ≡ false
        → agrees mask i (identifier (drop k s)) (identifier (drop k v)) ≡ false
    unfolding agrees
    agrees-rest e =
        rw (identifier-next k s hs, identifier-next k v hv)
        (and-false-right (not (mask_bit mask i) || eqb (number quad (drop k s)) (number quad (drop k v))) (rw add-one at e))

-- numbers in front whose bytes are the same
module _ (mask s v : List ℕ) where
  number_same : (k : ℕ) → ((j : ℕ) → j < k + 4 → get_or s j 0 ≡ get_or v j 0) → eqb (number quad (drop k s)) (number quad (drop k v)) ≡ true
  number_same k h =
      eq-eqb _ _ (quad-front s k ∙ rw (h k (omega arith), h (k + 1) (omega arith), h (k + 2) (omega arith), h (k + 3) (omega arith)) (sym (quad-front v k)))

  agrees-front : (i : ℕ) → 4 * i ≤ length s → 4 * i ≤ length v → ((j : ℕ) → j < 4 * i → get_or s j 0 ≡ get_or v j 0)
      → agrees mask 0 (identifier s) (identifier v) ≡ agrees mask i (identifier (drop (4 * i) s)) (identifier (drop (4 * i) v))
  agrees-front zero hs hv h = refl
  agrees-front (suc i) hs hv h =
      let e : 4 * suc i ≡ 4 * i + 4 = omega arith in
      agrees-front i (omega arith) (omega arith) (λ j l. h j (omega arith))
      ∙ agrees-same mask s v i (4 * i) (omega arith) (omega arith) (number_same (4 * i) (λ j l. h j (omega arith)))
      ∙ rw (e, add-one)

  -- of bytes in front that are the same, as many fours as there are
  pub agrees-skip : (r : ℕ) → r ≤ length s → r ≤ length v → take r s ≡ take r v
      → agrees mask 0 (identifier s) (identifier v) ≡ agrees mask (r / 4) (identifier (drop (4 * (r / 4)) s)) (identifier (drop (4 * (r / 4)) v))
  agrees-skip r hs hv t =
      agrees-front (r / 4) (omega arith) (omega arith)
      (λ j l. let b : j < r = omega arith in sym (get_or-take r s j 0 b) ∙ ap (λ u. get_or u j 0) t ∙ get_or-take r v j 0 b)

  -- a part that disagrees decides, wherever it stands
  agrees_from : (i : ℕ) → 4 * i ≤ length s → 4 * i ≤ length v → agrees mask i (identifier (drop (4 * i) s)) (identifier (drop (4 * i) v)) ≡ false
      → agrees mask 0 (identifier s) (identifier v) ≡ false
  agrees_from zero hs hv h = h
  agrees_from (suc i) hs hv h =
      let e : 4 * suc i ≡ 4 * i + 4 = omega arith in
      agrees_from i (omega arith) (omega arith) (agrees-rest mask s v i (4 * i) (omega arith) (omega arith) (rw (← e, add-one) h))

  pub agrees-part : (k : ℕ) → k % 4 ≡ 0 → k + 4 ≤ length s → k + 4 ≤ length v → eqb (number quad (drop k s)) (number quad (drop k v)) ≡ false
      → mask_bit mask (k / 4) ≡ true → agrees mask 0 (identifier s) (identifier v) ≡ false
  agrees-part k r hs hv d b =
      let e : 4 * (k / 4) ≡ k = omega arith in
      agrees_from (k / 4) (omega arith) (omega arith) (rw e (agrees-differ mask s v (k / 4) k hs hv d b))
