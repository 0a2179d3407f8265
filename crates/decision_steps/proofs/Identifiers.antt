-- Laws of `identifier`, the numbers that bytes say four by four.
-- Bytes behind those counted make no difference; the first four bytes say the first number, and the rest the others. The bytes made of numbers
-- below 2^32 say these again. Assumes nothing.
use mathlib.Core.Path.{◌≡◌, refl, sym, ap, ap₂, ◌∙◌}
use mathlib.Core.Bool.{true}
use mathlib.Core.List.{List, [], ◌∷◌, ◌++◌, append-nil}
use Prim.Native.Nat.{ℕ, zero, suc, ◌+◌, ◌*◌, ◌/◌, ◌≤◌, ◌<◌}
use native.Mathlib.Omega.{arith}
use lib.ListN.{length, take, drop, get_or, length-drop, take-append-drop}
use lib.Seq.{length-take-le, drop-drop}
use borrow.Author.Tests.{lt-ltb}
use Rattle.numbers.proofs.Bools.{and_both}
use Rattle.numbers.specs.BigEndian.{quad, number, numbers, bytes_of, fit}
use Rattle.numbers.proofs.BigEndian.{length-numbers, length-bytes_of, numbers-bytes_of}
use Rattle.decision_steps.specs.Bytes.{identifier}

numbers-front : (n : ℕ) (a b : List ℕ) → n * 4 ≤ length a → numbers quad n (a ++ b) ≡ numbers quad n a
numbers-front zero a b h = refl
numbers-front (suc n) [] b h = absurd (omega arith)
numbers-front (suc n) (x ∷ []) b h = absurd (omega arith)
numbers-front (suc n) (x ∷ y ∷ []) b h = absurd (omega arith)
numbers-front (suc n) (x ∷ y ∷ z ∷ []) b h = absurd (omega arith)
numbers-front (suc n) (x ∷ y ∷ z ∷ w ∷ a) b h = ap (λ u. number quad (x ∷ y ∷ z ∷ w ∷ []) ∷ u) (numbers-front n a b (omega arith))

-- the identifier that the first 4 * n bytes hold
pub identifier-take : (n : ℕ) (v : List ℕ) → 4 * n ≤ length v → identifier (take (4 * n) v) ≡ numbers quad n v
unfolding identifier
identifier-take n v h =
    let l : length (take (4 * n) v) ≡ 4 * n = length-take-le (4 * n) v h in
    let e : length (take (4 * n) v) / 4 ≡ n = omega arith in
    ap (λ m. numbers quad m (take (4 * n) v)) e
    ∙ sym (numbers-front n (take (4 * n) v) (drop (4 * n) v) (omega arith))
    ∙ ap (numbers quad n) (take-append-drop (4 * n) v)

pub length-identifier : (v : List ℕ) → length (identifier v) ≡ length v / 4
unfolding identifier
length-identifier v = length-numbers quad (length v / 4) v

pub identifier-none : (v : List ℕ) → length v < 4 → identifier v ≡ []
unfolding identifier
identifier-none v h = let e : length v / 4 ≡ 0 = omega arith in rw e

-- the number at k and those after it
pub identifier-next : (k : ℕ) (v : List ℕ) → k + 4 ≤ length v → identifier (drop k v) ≡ number quad (drop k v) ∷ identifier (drop (k + 4) v)
unfolding identifier
identifier-next k v h =
    let e : length (drop k v) / 4 ≡ suc (length (drop (k + 4) v) / 4) = omega (arith, length-drop k v, length-drop (k + 4) v) in
    ap (λ m. numbers quad m (drop k v)) e
    ∙ ap (λ u. number quad (drop k v) ∷ numbers quad (length (drop (k + 4) v) / 4) u) (drop-drop 4 k v)

-- ---- bytes made of numbers

fit-below : (xs : List ℕ) → ((i : ℕ) → get_or xs i 0 < 4294967296) → fit quad xs ≡ true
fit-below [] h = refl
fit-below (x ∷ xs) h = and_both (lt-ltb x 4294967296 (h 0)) (fit-below xs (λ i. h (suc i)))

pub identifier-bytes_of : (parts : List ℕ) → ((i : ℕ) → get_or parts i 0 < 4294967296) → identifier (bytes_of quad parts) ≡ parts
unfolding identifier
identifier-bytes_of parts h =
    let n : length (bytes_of quad parts) / 4 ≡ length parts = omega (arith, length-bytes_of quad parts) in
    ap₂ (numbers quad) n (sym (append-nil (bytes_of quad parts))) ∙ numbers-bytes_of quad parts [] (fit-below parts h)
