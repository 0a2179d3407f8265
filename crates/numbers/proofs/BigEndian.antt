-- Laws of numbers in bytes, big-endian.
-- Bytes made of a number, or of numbers one behind the other, say them again; bytes read as numbers are the bytes made of them. The number at i
-- lies i widths behind the first. Each goes along the numbers, one width at a time. Assumes nothing.
use mathlib.Core.Path.{◌≡◌, refl, sym, ap, ◌∙◌}
use mathlib.Core.Bool.{true}
use mathlib.Core.List.{List, [], ◌∷◌, ◌++◌, append_assoc}
use Prim.Native.Nat.{ℕ, zero, suc, ◌+◌, ◌*◌, ◌/◌, ◌%◌, ◌≤◌, ◌<◌}
use native.Mathlib.Nat.{zero-mul, suc-mul, add-zero}
use native.Mathlib.Omega.{arith}
use lib.ListN.{length, take, drop, get_or, length-append, length-drop}
use lib.Seq.{get_or-drop, take-add, drop_at, drop-drop, take_at, drop-cons, drop-nil}
use lib.Dec.{ltb}
use borrow.Author.Tests.{lt-ltb, ltb-true}
use Rattle.numbers.proofs.Bools.{and_left, and_right, and_both}
use Rattle.numbers.specs.BigEndian.{Width, octet, quad, size, bound, number, bytes, numbers, bytes_of, fit, Octets}

-- ---- bytes made, then read

pub length-bytes : (w : Width) (x : ℕ) → length (bytes w x) ≡ size w
length-bytes octet x = refl
length-bytes quad x = refl

pub number-bytes : (w : Width) (x : ℕ) (r : List ℕ) → x < bound w → number w (bytes w x ++ r) ≡ x
number-bytes octet x r h = refl
number-bytes quad x r h = omega arith

pub length-bytes_of : (w : Width) (xs : List ℕ) → length (bytes_of w xs) ≡ length xs * size w
length-bytes_of w [] = sym (zero-mul (size w))
length-bytes_of w (x ∷ xs) =
    let a : length (bytes_of w xs) ≡ length xs * size w = length-bytes_of w xs in
    let b : suc (length xs) * size w ≡ length xs * size w + size w = suc-mul (length xs) (size w) in
    omega (arith, length-append (bytes w x) (bytes_of w xs), length-bytes w x)

pub numbers-bytes_of : (w : Width) (xs r : List ℕ) → fit w xs ≡ true → numbers w (length xs) (bytes_of w xs ++ r) ≡ xs
numbers-bytes_of w [] r h = refl
numbers-bytes_of w (x ∷ xs) r h =
    let u = bytes_of w xs ++ r in
    let n : number w (bytes w x ++ u) ≡ x = number-bytes w x u (ltb-true x (bound w) (and_left _ (fit w xs) h)) in
    let d : drop (size w) (bytes w x ++ u) ≡ u = drop_at (bytes w x) u (size w) (length-bytes w x) in
    let i : numbers w (length xs) u ≡ xs = numbers-bytes_of w xs r (and_right (ltb x (bound w)) (fit w xs) h) in
    ap (λ v. numbers w (suc (length xs)) v) (append_assoc (bytes w x) (bytes_of w xs) r) ∙ rw (n, d, i)

-- ---- bytes read, then made again

pub octets-drop : (n : ℕ) (v : List ℕ) → Octets v → Octets (drop n v)
octets-drop n v b i = rw (get_or-drop n v i 0) (b (n + i))

pub octets-take : (n : ℕ) (v : List ℕ) → Octets v → Octets (take n v)
octets-take zero v b i = omega arith
octets-take (suc n) [] b i = omega arith
octets-take (suc n) (x ∷ v) b zero = b 0
octets-take (suc n) (x ∷ v) b (suc i) = octets-take n v (λ j. b (suc j)) i

pub number_bound : (w : Width) (v : List ℕ) → Octets v → number w v < bound w
number_bound octet v b = b 0
number_bound quad v b = omega (arith, b 0, b 1, b 2, b 3)

pub bytes-quad : (a b c d : ℕ) → b < 256 → c < 256 → d < 256 → bytes quad (a * 16777216 + b * 65536 + c * 256 + d) ≡ a ∷ b ∷ c ∷ d ∷ []
bytes-quad a b c d k l m =
    let x : ℕ = a * 16777216 + b * 65536 + c * 256 + d in
    let p : x / 16777216 ≡ a = omega arith in
    let q : x / 65536 % 256 ≡ b = omega arith in
    let r : x / 256 % 256 ≡ c = omega arith in
    let s : x % 256 ≡ d = omega arith in
    cc

pub bytes-number : (w : Width) (v : List ℕ) → Octets v → size w ≤ length v → bytes w (number w v) ≡ take (size w) v
bytes-number octet [] b h = absurd (omega arith)
bytes-number octet (x ∷ v) b h = refl
bytes-number quad [] b h = absurd (omega arith)
bytes-number quad (x ∷ []) b h = absurd (omega arith)
bytes-number quad (x ∷ y ∷ []) b h = absurd (omega arith)
bytes-number quad (x ∷ y ∷ z ∷ []) b h = absurd (omega arith)
bytes-number quad (x ∷ y ∷ z ∷ u ∷ v) b h = bytes-quad x y z u (b 1) (b 2) (b 3)

pub length-numbers : (w : Width) (n : ℕ) (v : List ℕ) → length (numbers w n v) ≡ n
length-numbers w zero v = refl
length-numbers w (suc n) v = ap suc (length-numbers w n (drop (size w) v))

pub bytes_of-numbers : (w : Width) (n : ℕ) (v : List ℕ) → Octets v → n * size w ≤ length v → bytes_of w (numbers w n v) ≡ take (n * size w) v
bytes_of-numbers w zero v b h = rw zero-mul
bytes_of-numbers w (suc n) v b h =
    let m : suc n * size w ≡ n * size w + size w = suc-mul n (size w) in
    let k : size w + n * size w ≡ suc n * size w = omega arith in
    let e : bytes w (number w v) ≡ take (size w) v = bytes-number w v b (omega arith) in
    let u = drop (size w) v in
    let i : bytes_of w (numbers w n u) ≡ take (n * size w) u = bytes_of-numbers w n u (octets-drop (size w) v b) (omega (arith, length-drop (size w) v)) in
    rw (e, i) (sym (take-add (size w) (n * size w) v) ∙ ap (λ j. take j v) k)

pub fit-numbers : (w : Width) (n : ℕ) (v : List ℕ) → Octets v → fit w (numbers w n v) ≡ true
fit-numbers w zero v b = refl
fit-numbers w (suc n) v b =
    and_both (lt-ltb (number w v) (bound w) (number_bound w v b)) (fit-numbers w n (drop (size w) v) (octets-drop (size w) v b))

-- ---- which number lies where

module _ (row : List ℕ) (at : ℕ) where
  pub get_d_front : get_or (drop at row) 0 0 ≡ get_or row at 0
  get_d_front = get_or-drop at row 0 0 ∙ ap (λ i. get_or row i 0) (add-zero at)

  pub quad-front : number quad (drop at row) ≡ get_or row at 0 * 16777216 + get_or row (at + 1) 0 * 65536 + get_or row (at + 2) 0 * 256 + get_or row (at + 3) 0
  quad-front = rw (get_d_front, get_or-drop at row 1 0, get_or-drop at row 2 0, get_or-drop at row 3 0)

pub size-suc : (w : Width) (i : ℕ) → size w + i * size w ≡ suc i * size w
size-suc w i = let e : suc i * size w ≡ i * size w + size w = suc-mul i (size w) in omega arith

-- the number at i
pub get_or-numbers : (w : Width) (n i : ℕ) (v : List ℕ) → i < n → get_or (numbers w n v) i 0 ≡ number w (drop (i * size w) v)
get_or-numbers w zero i v h = absurd (omega arith)
get_or-numbers w (suc n) zero v h = rw (zero-mul (size w))
get_or-numbers w (suc n) (suc i) v h =
    get_or-numbers w n i (drop (size w) v) (omega arith)
    ∙ ap (number w) (drop-drop (i * size w) (size w) v ∙ ap (λ m. drop m v) (size-suc w i))

-- the bytes from those of i on
pub drop-bytes_of : (w : Width) (i : ℕ) (xs : List ℕ) → drop (i * size w) (bytes_of w xs) ≡ bytes_of w (drop i xs)
drop-bytes_of w zero xs = rw (zero-mul (size w))
drop-bytes_of w (suc i) [] = drop-nil (suc i * size w)
drop-bytes_of w (suc i) (x ∷ xs) =
    ap (λ m. drop m (bytes w x ++ bytes_of w xs)) (sym (size-suc w i))
    ∙ sym (drop-drop (i * size w) (size w) (bytes w x ++ bytes_of w xs))
    ∙ ap (drop (i * size w)) (drop_at (bytes w x) (bytes_of w xs) (size w) (length-bytes w x))
    ∙ drop-bytes_of w i xs

pub bytes-at : (w : Width) (xs : List ℕ) (i : ℕ) → i < length xs
    → take (length (bytes w (get_or xs i 0))) (drop (i * size w) (bytes_of w xs)) ≡ bytes w (get_or xs i 0)
bytes-at w xs i h = rw (drop-bytes_of w i xs, drop-cons xs i 0 h) (take_at (bytes w (get_or xs i 0)) _ _ refl)
