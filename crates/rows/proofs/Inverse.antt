-- A row's bytes and its fields' values are inverse to each other.
-- Bytes made of legal values have no fault and hold these values: field by field, each leaving what follows it (`made`).
-- Bytes read without fault hold legal values and are the bytes made of them: field by field, each the front that it takes
-- (`read`), so also for the first fields of a row alone (`bytes-front`, `legals-front`). Assumes nothing.
use mathlib.Core.Path.{◌≡◌, refl, sym, ap, ◌∙◌}
use mathlib.Core.Bool.{true}
use mathlib.Core.List.{List, [], ◌∷◌, ◌++◌, append-nil}
use mathlib.Core.Option.{none}
use Prim.Native.Nat.{ℕ, suc, ◌+◌, ◌*◌, ◌≤◌}
use native.Mathlib.Omega.{arith}
use lib.ListN.{length, take, drop, get_or, length-append, length-drop}
use lib.Seq.{take_all, take-add, drop_at}
use lib.Dec.{ltb}
use borrow.Author.Tests.{le-leb, lt-ltb, ltb-true}
use Rattle.numbers.proofs.Bools.{clash, and_left, and_right, and_both}
use Rattle.numbers.specs.BigEndian.{size, bound, number, bytes, numbers, bytes_of, fit, Octets}
use Rattle.numbers.proofs.BigEndian.{length-bytes, number-bytes, length-bytes_of, numbers-bytes_of, octets-drop, number_bound, bytes-number, length-numbers}
use Rattle.numbers.proofs.BigEndian.{bytes_of-numbers, fit-numbers}
use Rattle.rows.specs.Fields.{Field, sequence, integer, within, sequence_fault, integer_fault, fault, taken, value, faults, values, span, field_bytes}
use Rattle.rows.specs.Fields.{row_bytes, legal, legals}
use Rattle.rows.proofs.Sound.{sequence-range, sequence-room, integer-range, integer-room, faults-first, faults-rest, faults-end}
use Rattle.rows.proofs.Appends.{span-room, faults-append}

-- ---- bytes made, then read

pub record Made (k : Field) (x r : List ℕ) : Type 0 where
  pub sound : fault k (field_bytes k x ++ r) ≡ none
  pub holds : value k (field_bytes k x ++ r) ≡ x
  pub takes : taken k (field_bytes k x ++ r) ≡ length (field_bytes k x)

pub made : (k : Field) (x r : List ℕ) → legal k x ≡ true → Made k x r
unfolding sequence_fault integer_fault
made (sequence w lo hi) x r h =
    let i : within lo hi (length x) ≡ true = and_left _ (fit w x) h in
    let f : fit w x ≡ true = and_right (within lo hi (length x)) (fit w x) h in
    let l : length (bytes_of w x) ≡ length x * size w = length-bytes_of w x in
    let n = length (bytes_of w x ++ r) in
    let a : n ≡ length (bytes_of w x) + length r = length-append (bytes_of w x) r in
    record {
      sound = rw (lt-ltb 0 (suc n) (omega arith), i, le-leb (1 + length x * size w) (suc n) (omega arith));
      holds = numbers-bytes_of w x r f;
      takes = omega arith;
    }
made (integer w lo hi) [] r h = clash h refl
made (integer w lo hi) (x ∷ []) r h =
    let i : within lo hi x ≡ true = and_left _ (ltb x (bound w)) h in
    let n : number w (bytes w x ++ r) ≡ x = number-bytes w x r (ltb-true x (bound w) (and_right (within lo hi x) (ltb x (bound w)) h)) in
    let l : length (bytes w x ++ r) ≡ size w + length r = length-append (bytes w x) r ∙ ap (λ m. m + length r) (length-bytes w x) in
    record {
      sound = rw (l, le-leb (size w) (size w + length r) (omega arith), n, i);
      holds = ap (λ m. m ∷ []) n;
      takes = sym (length-bytes w x);
    }
made (integer w lo hi) (x ∷ y ∷ ys) r h = clash h refl

pub made-leaves : (k : Field) (x r : List ℕ) → legal k x ≡ true → drop (taken k (field_bytes k x ++ r)) (field_bytes k x ++ r) ≡ r
made-leaves k x r h = drop_at (field_bytes k x) r _ (sym (made k x r h).takes)

-- a legal row: its first field, and the others
module _ (k : Field) (ks : List Field) (x : List ℕ) (xs : List (List ℕ)) (h : legals (k ∷ ks) (x ∷ xs) ≡ true) where
  pub legals-first : legal k x ≡ true
  unfolding legals
  legals-first = and_left (legal k x) (legals ks xs) h

  pub legals-rest : legals ks xs ≡ true
  unfolding legals
  legals-rest = and_right (legal k x) (legals ks xs) h

pub legals-no-values : {P : Type 0} (k : Field) (ks : List Field) → legals (k ∷ ks) [] ≡ true → P
unfolding legals
legals-no-values k ks h = clash h refl

pub legals-no-fields : {P : Type 0} (x : List ℕ) (xs : List (List ℕ)) → legals [] (x ∷ xs) ≡ true → P
unfolding legals
legals-no-fields x xs h = clash h refl

pub faults-made : (ks : List Field) (xs : List (List ℕ)) → legals ks xs ≡ true → faults ks (row_bytes ks xs) ≡ none
unfolding faults
faults-made [] xs h = refl
faults-made (k ∷ ks) [] h = legals-no-values k ks h
faults-made (k ∷ ks) (x ∷ xs) h =
    let l = legals-first k ks x xs h in
    rw ((made k x (row_bytes ks xs) l).sound, made-leaves k x (row_bytes ks xs) l) (faults-made ks xs (legals-rest k ks x xs h))

pub values-made : (ks : List Field) (xs : List (List ℕ)) → legals ks xs ≡ true → values ks (row_bytes ks xs) ≡ xs
values-made [] [] h = refl
values-made [] (x ∷ xs) h = legals-no-fields x xs h
values-made (k ∷ ks) [] h = legals-no-values k ks h
values-made (k ∷ ks) (x ∷ xs) h =
    let l = legals-first k ks x xs h in
    rw ((made k x (row_bytes ks xs) l).holds, made-leaves k x (row_bytes ks xs) l, values-made ks xs (legals-rest k ks x xs h))

-- ---- bytes read, then made again

pub read : (k : Field) (v : List ℕ) → Octets v → fault k v ≡ none → field_bytes k (value k v) ≡ take (taken k v) v
read (sequence w lo hi) [] b h = absurd (omega (arith, sequence-room (size w) lo hi [] h))
read (sequence w lo hi) (n ∷ v) b h =
    let m : 1 + n * size w ≤ suc (length v) = sequence-room (size w) lo hi (n ∷ v) h in
    let s : 1 + n * size w ≡ suc (n * size w) = omega arith in
    let i : bytes_of w (numbers w n v) ≡ take (n * size w) v = bytes_of-numbers w n v (λ j. b (suc j)) (omega arith) in
    rw (length-numbers w n v, i, s)
read (integer w lo hi) v b h = bytes-number w v b (integer-room w lo hi v h)

pub legal-read : (k : Field) (v : List ℕ) → Octets v → fault k v ≡ none → legal k (value k v) ≡ true
legal-read (sequence w lo hi) v b h =
    and_both (ap (within lo hi) (length-numbers w (get_or v 0 0) (drop 1 v)) ∙ sequence-range (size w) lo hi v h)
    (fit-numbers w (get_or v 0 0) (drop 1 v) (octets-drop 1 v b))
legal-read (integer w lo hi) v b h =
    and_both (integer-range w lo hi v h) (lt-ltb (number w v) (bound w) (number_bound w v b))

-- the first fields of a row
pub bytes-front : (ps qs : List Field) (v : List ℕ) → Octets v → faults (ps ++ qs) v ≡ none → row_bytes ps (values ps v) ≡ take (span ps v) v
unfolding span
bytes-front [] qs v b h = refl
bytes-front (p ∷ ps) qs v b h =
    let n = taken p v in
    let u = drop n v in
    let i : row_bytes ps (values ps u) ≡ take (span ps u) u = bytes-front ps qs u (octets-drop n v b) (faults-rest p (ps ++ qs) v h) in
    rw (read p v b (faults-first p (ps ++ qs) v h), i) (sym (take-add n (span ps u) v))

pub legals-front : (ps qs : List Field) (v : List ℕ) → Octets v → faults (ps ++ qs) v ≡ none → legals ps (values ps v) ≡ true
unfolding legals
legals-front [] qs v b h = refl
legals-front (p ∷ ps) qs v b h =
    and_both (legal-read p v b (faults-first p (ps ++ qs) v h))
    (legals-front ps qs (drop (taken p v) v) (octets-drop (taken p v) v b) (faults-rest p (ps ++ qs) v h))

-- a whole row
pub span-whole : (ks : List Field) (v : List ℕ) → faults ks v ≡ none → span ks v ≡ length v
span-whole ks v h =
    let g : faults (ks ++ []) v ≡ none = rw (append-nil ks) h in
    let r : span ks v ≤ length v = span-room ks [] v g in
    omega (arith, faults-end (drop (span ks v) v) (faults-append ks [] v g), length-drop (span ks v) v)

pub bytes-again : (ks : List Field) (v : List ℕ) → Octets v → faults ks v ≡ none → row_bytes ks (values ks v) ≡ v
bytes-again ks v b h =
    bytes-front ks [] v b (rw (append-nil ks) h) ∙ take_all (span ks v) v (omega (arith, span-whole ks v h))

pub legals-read : (ks : List Field) (v : List ℕ) → Octets v → faults ks v ≡ none → legals ks (values ks v) ≡ true
legals-read ks v b h = legals-front ks [] v b (rw (append-nil ks) h)
