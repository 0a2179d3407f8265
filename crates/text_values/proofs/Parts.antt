-- Laws of `hex_text`, `name_text` and `dotted_text`: the text of a list from a place on is that of the element there and of the rest, and how
-- long each is at most. Assumes nothing.
use mathlib.Core.Path.{◌≡◌, refl, sym}
use mathlib.Core.List.{List, [], ◌∷◌, ◌++◌}
use Prim.Native.Nat.{ℕ, suc, ◌+◌, ◌*◌, ◌/◌, ◌%◌, ◌≤◌, ◌<◌}
use native.Mathlib.Numerals.{add-one}
use native.Mathlib.Omega.{arith}
use lib.ListN.{length, take, drop, get_or, set, length-append, drop_of_length-le}
use lib.Seq.{drop-cons, length-take-le}
use Rattle.std.proofs.Common.{take-append-drop}
use Rattle.numbers.specs.BigEndian.{quad, number}
use Rattle.decision_steps.specs.Bytes.{identifier}
use Rattle.decision_steps.proofs.Identifiers.{identifier-next}
use Rattle.text_values.specs.Texts.{decimal_text, hex_digit, octet_text, hex_text, name_text, dots_text, dotted_text, Puts}
use Rattle.text_values.proofs.Puts.{Onward, room, step, both, behind, puts-two}
use Rattle.text_values.proofs.Digits.{length-decimal-quad}

-- ---- the element at a place, and the rest

pub hex-next : (xs : List ℕ) (i : ℕ) → i < length xs → hex_text (drop i xs) ≡ octet_text (get_or xs i 0) ++ hex_text (drop (i + 1) xs)
unfolding hex_text
hex-next xs i h = rw (add-one, drop-cons xs i 0 h)

pub hex-end : (xs : List ℕ) (i : ℕ) → length xs ≤ i → hex_text (drop i xs) ≡ []
unfolding hex_text
hex-end xs i h = rw (drop_of_length-le xs h)

pub name-none : (xs : List ℕ) → length xs ≡ 0 → name_text xs ≡ 45 ∷ []
unfolding name_text
name-none [] h = refl
name-none (x ∷ xs) h = absurd (omega arith)

pub name-some : (xs : List ℕ) → (length xs ≡ 0 → ⊥) → name_text xs ≡ hex_text xs
unfolding name_text
name-some [] h = absurd (h refl)
name-some (x ∷ xs) h = refl

pub dotted-none : (xs : List ℕ) → length xs ≡ 0 → dotted_text xs ≡ 45 ∷ []
unfolding dotted_text
dotted-none [] h = refl
dotted-none (x ∷ xs) h = absurd (omega arith)

pub dotted-first : (x : ℕ) (xs rest : List ℕ) → xs ≡ x ∷ rest → dotted_text xs ≡ decimal_text x ++ dots_text rest
unfolding dotted_text
dotted-first x xs rest e = rw e

pub dots-next : (x : ℕ) (xs rest : List ℕ) → xs ≡ x ∷ rest → dots_text xs ≡ (46 ∷ decimal_text x) ++ dots_text rest
unfolding dots_text
dots-next x xs rest e = rw e

pub dots-end : (xs : List ℕ) → xs ≡ [] → dots_text xs ≡ []
unfolding dots_text
dots-end xs e = rw e

-- ---- octets put in turn

module _ {text : List ℕ} {at : ℕ} {w₀ : List ℕ} (xs : List ℕ) (i o : ℕ) (w : List ℕ) (h : i < length xs)
    (l : Onward text at w₀ (hex_text (drop i xs)) o w) where
  now-left : Onward text at w₀ (octet_text (get_or xs i 0) ++ hex_text (drop (i + 1) xs)) o w
  now-left = rw (hex-next xs i h) at l

  pub hex-room : o + 2 ≤ length w
  hex-room = room (octet_text (get_or xs i 0)) (hex_text (drop (i + 1) xs)) now-left

  pub hex-step : (a b : ℕ) → a ≡ hex_digit (get_or xs i 0 / 16) → b ≡ hex_digit (get_or xs i 0 % 16)
      → Onward text at w₀ (hex_text (drop (i + 1) xs)) (o + 2) (set (set w o a) (o + 1) b)
  hex-step a b e f =
      rw (e, f)
      (step (octet_text (get_or xs i 0)) (hex_text (drop (i + 1) xs)) now-left
      (puts-two o (hex_digit (get_or xs i 0 / 16)) (hex_digit (get_or xs i 0 % 16)) w hex-room))

-- ---- sub-identifiers put in turn

pub drop-next : (xs : List ℕ) (i : ℕ) → i < length xs → drop i xs ≡ get_or xs i 0 ∷ drop (i + 1) xs
drop-next xs i h = rw add-one (drop-cons xs i 0 h)

module _ {text : List ℕ} {at : ℕ} {w₀ : List ℕ} {x : ℕ} {xs rest : List ℕ} (e : xs ≡ x ∷ rest)
    {o : ℕ} {w : List ℕ} (l : Onward text at w₀ (dots_text xs) o w) {n : ℕ} (i : n ≡ x) where
  next-left : Onward text at w₀ ((46 ∷ decimal_text n) ++ dots_text rest) o w
  next-left = rw i (rw (dots-next x xs rest e) at l)

  pub dots-room : o + suc (length (decimal_text n)) ≤ length w
  dots-room = room (46 ∷ decimal_text n) (dots_text rest) next-left

  pub dots-step : {r : ℕ} {after : List ℕ} → Puts (46 ∷ decimal_text n) o w after r → Onward text at w₀ (dots_text rest) r after
  dots-step p = step (46 ∷ decimal_text n) (dots_text rest) next-left p

-- four bytes cut off the front say the first number
pub quad-cut : (v x rest : List ℕ) → v ≡ x ++ rest → length x ≡ 4 → identifier v ≡ number quad x ∷ identifier rest
quad-cut v [] rest e h = absurd (omega arith)
quad-cut v (a ∷ []) rest e h = absurd (omega arith)
quad-cut v (a ∷ b ∷ []) rest e h = absurd (omega arith)
quad-cut v (a ∷ b ∷ c ∷ []) rest e h = absurd (omega arith)
quad-cut v (a ∷ b ∷ c ∷ d ∷ []) rest e h = rw e (identifier-next 0 (a ∷ b ∷ c ∷ d ∷ rest) (omega arith))
quad-cut v (a ∷ b ∷ c ∷ d ∷ f ∷ xs) rest e h = absurd (omega arith)

pub quad-first : (v x : List ℕ) → x ≡ take 4 v → 4 ≤ length v → identifier v ≡ number quad x ∷ identifier (drop 4 v)
quad-first v x e h = rw e (quad-cut v (take 4 v) (drop 4 v) (sym (take-append-drop 4 v)) (length-take-le 4 v h))

-- the first and the others
module _ (at : ℕ) (w : List ℕ) {x : ℕ} {xs rest : List ℕ} (e : xs ≡ x ∷ rest)
    (h : at + length (dotted_text xs) ≤ length w) {n : ℕ} (i : n ≡ x) where
  all : dotted_text xs ≡ decimal_text n ++ dots_text rest
  all = rw i (dotted-first x xs rest e)

  fits : at + length (decimal_text n ++ dots_text rest) ≤ length w
  fits = rw all at h

  pub first-room : at + length (decimal_text n) ≤ length w
  first-room = omega (arith, fits, length-append (decimal_text n) (dots_text rest))

  module _ {r : ℕ} {after : List ℕ} (p : Puts (decimal_text n) at w after r) where
    pub rest-room : r + length (dots_text rest) ≤ length after
    rest-room = behind (decimal_text n) (dots_text rest) fits p

    pub dotted-put : {z : ℕ} {end : List ℕ} → Puts (dots_text rest) r after end z → Puts (dotted_text xs) at w end z
    dotted-put q = rw all (both (decimal_text n) (dots_text rest) fits p q)

-- ---- how long

pub length-hex : (xs : List ℕ) → length (hex_text xs) ≡ 2 * length xs
unfolding hex_text
length-hex [] = refl
length-hex (x ∷ xs) = let ih : length (hex_text xs) ≡ 2 * length xs = length-hex xs in omega arith

pub length-name : (xs : List ℕ) → length (name_text xs) ≤ 2 * length xs + 1
unfolding name_text
length-name [] = omega arith
length-name (x ∷ xs) = omega (arith, length-hex (x ∷ xs))

length-dots : (xs : List ℕ) → ((i : ℕ) → get_or xs i 0 < 4294967296) → length (dots_text xs) ≤ 11 * length xs
unfolding dots_text
length-dots [] h = omega arith
length-dots (x ∷ xs) h =
    let ih : length (dots_text xs) ≤ 11 * length xs = length-dots xs (λ i. h (suc i)) in
    omega (arith, length-append (decimal_text x) (dots_text xs), length-decimal-quad x (h 0))

pub length-dotted : (xs : List ℕ) → ((i : ℕ) → get_or xs i 0 < 4294967296) → length (dotted_text xs) ≤ 11 * length xs + 1
unfolding dotted_text
length-dotted [] h = omega arith
length-dotted (x ∷ xs) h =
    omega (arith, length-append (decimal_text x) (dots_text xs), length-decimal-quad x (h 0), length-dots xs (λ i. h (suc i)))
