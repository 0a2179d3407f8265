-- The order of keys' bytes is the order of their indices.
-- Two fronts compare as two others do, whatever follows them (`Compares`): so do numbers that are led by equal counts, fronts one
-- after the other, and the four bytes of a number as the number itself, digit by digit. So a field's bytes compare as its
-- sub-identifiers, and a row's bytes as its index. Assumes nothing.
use mathlib.Core.Path.{◌≡◌, refl, sym, ap, ◌∙◌}
use mathlib.Core.Bool.{Bool, true, false, ◌&&◌, ◌||◌, and-true, and-false, or-false}
use mathlib.Core.List.{List, [], ◌∷◌, ◌++◌, append_assoc, append-nil}
use mathlib.Core.Option.{none}
use Prim.Native.Nat.{ℕ, suc, ◌/◌, ◌%◌, ◌<◌}
use native.Mathlib.Omega.{arith}
use lib.ListN.{length, take}
use lib.Dec.{eqb}
use borrow.Author.Tests.{eq-eqb, ne_eqb}
use Rattle.numbers.specs.Order.{same, before}
use Rattle.numbers.proofs.Bools.{clash, and_assoc}
use Rattle.numbers.proofs.Orders.{Tri, tri, below, equal, above, before-cons-lt, before-cons-gt, before-cons-eq, before-irrefl}
use Rattle.rows.specs.declared.Table.{Table}
use Rattle.numbers.specs.BigEndian.{Width, octet, quad, bytes, bytes_of, Octets}
use Rattle.rows.specs.Fields.{Field, sequence, integer, faults, values, span, field_bytes, row_bytes, legal, legals, index_field, index}
use Rattle.rows.specs.Rows.{key_fields, rest_fields, row_fields}
use Rattle.rows.proofs.Appends.{row-split, key-values}
use Rattle.rows.proofs.Inverse.{bytes-front, legals-front, legals-first, legals-rest, legals-no-values}

-- p and q compare as i and j, whatever follows them
pub record Compares (p q i j : List ℕ) : Type 0 where
  pub order : (a b : List ℕ) → before (p ++ a) (q ++ b) ≡ before i j || (same i j && before a b)
  pub equality : (a b : List ℕ) → same (p ++ a) (q ++ b) ≡ same i j && same a b

nothing : Compares [] [] [] []
unfolding before same
nothing = record { order = λ a b. refl; equality = λ a b. refl }

-- the first numbers, and where they are equal the rest
first : (m n : ℕ) {p q i j : List ℕ} → (m ≡ n → Compares p q i j) → Compares (m ∷ p) (n ∷ q) (m ∷ i) (n ∷ j)
unfolding before same
first m n {p} {q} {i} {j} f = go (tri m n)
  where
    go : Tri m n → Compares (m ∷ p) (n ∷ q) (m ∷ i) (n ∷ j)
    go (below l e h) = record { order = λ a b. rw l; equality = λ a b. rw e }
    go (equal l e h) = record { order = λ a b. rw (l, e) ((f h).order a b); equality = λ a b. rw e ((f h).equality a b) }
    go (above l e h) = record { order = λ a b. rw (l, e); equality = λ a b. rw e }

suc_inj : (m n : ℕ) → suc m ≡ suc n → m ≡ n
suc_inj m n e = omega arith

pub compares-self : (p q : List ℕ) → length p ≡ length q → Compares p q p q
compares-self [] [] h = nothing
compares-self [] (y ∷ q) h = absurd (omega arith)
compares-self (x ∷ p) [] h = absurd (omega arith)
compares-self (x ∷ p) (y ∷ q) h = first x y (λ e. compares-self p q (suc_inj (length p) (length q) h))

or-and-assoc : (b s c t r : Bool) → b || (s && (c || (t && r))) ≡ (b || (s && c)) || ((s && t) && r)
or-and-assoc true s c t r = refl
or-and-assoc false true c t r = refl
or-and-assoc false false c t r = refl

compares-append : {p q i j p' q' i' j' : List ℕ} → Compares p q i j → Compares i j i j → Compares p' q' i' j'
    → Compares (p ++ p') (q ++ q') (i ++ i') (j ++ j')
compares-append {p} {q} {i} {j} {p'} {q'} {i'} {j'} x y z = record {
  order = λ a b. rw (append_assoc p p' a, append_assoc q q' b, x.order (p' ++ a) (q' ++ b), z.order a b, y.order i' j', y.equality i' j')
      (or-and-assoc (before i j) (same i j) (before i' j') (same i' j') (before a b));
  equality = λ a b. rw (append_assoc p p' a, append_assoc q q' b, x.equality (p' ++ a) (q' ++ b), z.equality a b, y.equality i' j')
      (sym (and_assoc (same i j) (same i' j') (same a b)));
}

-- the same by other tests
compares-as : {p q i j k l : List ℕ} → Compares p q i j → before i j ≡ before k l → same i j ≡ same k l → Compares p q k l
compares-as x e f = record { order = λ a b. rw (← e, ← f) (x.order a b); equality = λ a b. rw (← f) (x.equality a b) }

-- h of a number is told by its digit f and by what is left, g
module _ (h f g : ℕ → ℕ) (up : (x y : ℕ) → f x < f y → h x < h y)
    (next : (x y : ℕ) → f x ≡ f y → g x < g y → h x < h y)
    (both : (x y : ℕ) → f x ≡ f y → g x ≡ g y → h x ≡ h y) where
  before-digit : (x y : ℕ) → before (f x ∷ g x ∷ []) (f y ∷ g y ∷ []) ≡ before (h x ∷ []) (h y ∷ [])
  before-digit x y = go (tri (f x) (f y)) (tri (g x) (g y))
    where
      go : Tri (f x) (f y) → Tri (g x) (g y) → before (f x ∷ g x ∷ []) (f y ∷ g y ∷ []) ≡ before (h x ∷ []) (h y ∷ [])
      go (below l e k) t = before-cons-lt (f x) (f y) _ _ k ∙ sym (before-cons-lt (h x) (h y) _ _ (up x y k))
      go (above l e k) t = before-cons-gt (f x) (f y) _ _ k ∙ sym (before-cons-gt (h x) (h y) _ _ (up y x k))
      go (equal l e k) (below n o r) =
          rw k (before-cons-eq (f y) _ _ ∙ before-cons-lt (g x) (g y) _ _ r ∙ sym (before-cons-lt (h x) (h y) _ _ (next x y k r)))
      go (equal l e k) (above n o r) =
          rw k (before-cons-eq (f y) _ _ ∙ before-cons-gt (g x) (g y) _ _ r ∙ sym (before-cons-gt (h x) (h y) _ _ (next y x (sym k) r)))
      go (equal l e k) (equal n o r) = rw (k, r, both x y k r) (before-irrefl (f y ∷ g y ∷ []) ∙ sym (before-irrefl (h y ∷ [])))

  same-digit : (x y : ℕ) → same (f x ∷ g x ∷ []) (f y ∷ g y ∷ []) ≡ same (h x ∷ []) (h y ∷ [])
  unfolding same
  same-digit x y = go (tri (f x) (f y)) (tri (g x) (g y))
    where
      go : Tri (f x) (f y) → Tri (g x) (g y) → eqb (f x) (f y) && (eqb (g x) (g y) && true) ≡ eqb (h x) (h y) && true
      go (below l e k) t = let m = up x y k in rw (e, ne_eqb (h x) (h y) (λ z. omega arith))
      go (above l e k) t = let m = up y x k in rw (e, ne_eqb (h x) (h y) (λ z. omega arith))
      go (equal l e k) (below n o r) = let m = next x y k r in rw (e, o, ne_eqb (h x) (h y) (λ z. omega arith))
      go (equal l e k) (above n o r) = let m = next y x (sym k) r in rw (e, o, ne_eqb (h x) (h y) (λ z. omega arith))
      go (equal l e k) (equal n o r) = rw (e, o, eq-eqb (h x) (h y) (both x y k r))

  digit : (x y : ℕ) {p q : List ℕ} → Compares p q (g x ∷ []) (g y ∷ []) → Compares (f x ∷ p) (f y ∷ q) (h x ∷ []) (h y ∷ [])
  digit x y c = compares-as (first (f x) (f y) (λ e. c)) (before-digit x y) (same-digit x y)

one : (x y : ℕ) → Compares (x ∷ []) (y ∷ []) (x ∷ []) (y ∷ [])
one x y = compares-self (x ∷ []) (y ∷ []) refl

-- ---- a number's bytes, numbers', a field's, a row's

compares-bytes : (w : Width) (x y : ℕ) → Compares (bytes w x) (bytes w y) (x ∷ []) (y ∷ [])
compares-bytes octet x y = one x y
compares-bytes quad x y =
    digit (λ n. n) (λ n. n / 16777216) (λ n. n % 16777216) (λ a b k. omega arith) (λ a b k l. omega arith) (λ a b k l. omega arith) x y
    (digit (λ n. n % 16777216) (λ n. n / 65536 % 256) (λ n. n % 65536) (λ a b k. omega arith) (λ a b k l. omega arith) (λ a b k l. omega arith) x y
    (digit (λ n. n % 65536) (λ n. n / 256 % 256) (λ n. n % 256) (λ a b k. omega arith) (λ a b k l. omega arith) (λ a b k l. omega arith) x y
    (one (x % 256) (y % 256))))

compares-bytes_of : (w : Width) (xs ys : List ℕ) → length xs ≡ length ys → Compares (bytes_of w xs) (bytes_of w ys) xs ys
compares-bytes_of w [] [] h = nothing
compares-bytes_of w [] (y ∷ ys) h = absurd (omega arith)
compares-bytes_of w (x ∷ xs) [] h = absurd (omega arith)
compares-bytes_of w (x ∷ xs) (y ∷ ys) h =
    compares-append (compares-bytes w x y) (one x y) (compares-bytes_of w xs ys (suc_inj (length xs) (length ys) h))

compares-field : (k : Field) (x y : List ℕ) → legal k x ≡ true → legal k y ≡ true
    → Compares (field_bytes k x) (field_bytes k y) (index_field k x) (index_field k y)
compares-field (sequence w lo hi) x y p q = first (length x) (length y) (λ e. compares-bytes_of w x y e)
compares-field (integer w lo hi) [] y p q = clash p refl
compares-field (integer w lo hi) (x ∷ z ∷ zs) y p q = clash p refl
compares-field (integer w lo hi) (x ∷ []) [] p q = clash q refl
compares-field (integer w lo hi) (x ∷ []) (y ∷ z ∷ zs) p q = clash q refl
compares-field (integer w lo hi) (x ∷ []) (y ∷ []) p q = compares-bytes w x y

compares-index : (k : Field) (x y : List ℕ) → legal k x ≡ true → legal k y ≡ true
    → Compares (index_field k x) (index_field k y) (index_field k x) (index_field k y)
compares-index (sequence w lo hi) x y p q = first (length x) (length y) (λ e. compares-self x y e)
compares-index (integer w lo hi) [] y p q = clash p refl
compares-index (integer w lo hi) (x ∷ z ∷ zs) y p q = clash p refl
compares-index (integer w lo hi) (x ∷ []) [] p q = clash q refl
compares-index (integer w lo hi) (x ∷ []) (y ∷ z ∷ zs) p q = clash q refl
compares-index (integer w lo hi) (x ∷ []) (y ∷ []) p q = one x y

pub compares-row : (ks : List Field) (xs ys : List (List ℕ)) → legals ks xs ≡ true → legals ks ys ≡ true
    → Compares (row_bytes ks xs) (row_bytes ks ys) (index ks xs) (index ks ys)
compares-row [] xs ys p q = nothing
compares-row (k ∷ ks) [] ys p q = legals-no-values k ks p
compares-row (k ∷ ks) (x ∷ xs) [] p q = legals-no-values k ks q
compares-row (k ∷ ks) (x ∷ xs) (y ∷ ys) p q =
    let a = legals-first k ks x xs p in
    let b = legals-first k ks y ys q in
    compares-append (compares-field k x y a b) (compares-index k x y a b) (compares-row ks xs ys (legals-rest k ks x xs p) (legals-rest k ks y ys q))

-- ---- what a comparison says

module _ {p q i j : List ℕ} (c : Compares p q i j) where
  -- nothing follows
  pub compares-before : before p q ≡ before i j
  unfolding before
  compares-before =
      ap (λ l. before l q) (sym (append-nil p)) ∙ ap (before (p ++ [])) (sym (append-nil q)) ∙ c.order [] []
      ∙ rw (and-false (same i j)) (or-false (before i j))

  pub compares-same : same p q ≡ same i j
  unfolding same
  compares-same =
      ap (λ l. same l q) (sym (append-nil p)) ∙ ap (same (p ++ [])) (sym (append-nil q)) ∙ c.equality [] [] ∙ and-true (same i j)

  -- anything follows fronts that differ
  pub compares-differ : (a b : List ℕ) → same i j ≡ false → before (p ++ a) (q ++ b) ≡ before i j
  compares-differ a b e = c.order a b ∙ rw e (or-false (before i j))

module _ (ks : List Field) (xs ys : List (List ℕ)) (p : legals ks xs ≡ true) (q : legals ks ys ≡ true) where
  pub before-bytes : before (row_bytes ks xs) (row_bytes ks ys) ≡ before (index ks xs) (index ks ys)
  before-bytes = compares-before (compares-row ks xs ys p q)

  pub same_bytes : same (row_bytes ks xs) (row_bytes ks ys) ≡ same (index ks xs) (index ks ys)
  same_bytes = compares-same (compares-row ks xs ys p q)

  pub before-bytes-differ : (a b : List ℕ) → same (index ks xs) (index ks ys) ≡ false
      → before (row_bytes ks xs ++ a) (row_bytes ks ys ++ b) ≡ before (index ks xs) (index ks ys)
  before-bytes-differ = compares-differ (compares-row ks xs ys p q)

-- ---- the keys of two rows without fault

pub compares-front : (ps qs : List Field) (v u : List ℕ) → Octets v → Octets u → faults (ps ++ qs) v ≡ none → faults (ps ++ qs) u ≡ none
    → Compares (take (span ps v) v) (take (span ps u) u) (index ps (values ps v)) (index ps (values ps u))
compares-front ps qs v u b d f g =
    rw (← bytes-front ps qs v b f, ← bytes-front ps qs u d g)
    (compares-row ps (values ps v) (values ps u) (legals-front ps qs v b f) (legals-front ps qs u d g))

pub compares-keys : (t : Table) (v u : List ℕ) → Octets v → Octets u → faults (row_fields t) v ≡ none → faults (row_fields t) u ≡ none
    → Compares (take (span (key_fields t) v) v) (take (span (key_fields t) u) u)
    (index (key_fields t) (values (key_fields t) v)) (index (key_fields t) (values (key_fields t) u))
compares-keys t v u b d f g =
    compares-front (key_fields t) (rest_fields t) v u b d (rw (row-split t) at f) (rw (row-split t) at g)

module _ (t : Table) (v u : List ℕ) (b : Octets v) (d : Octets u) (f : faults (row_fields t) v ≡ none) (g : faults (row_fields t) u ≡ none) where
  pub before-keys : before (take (span (key_fields t) v) v) (take (span (key_fields t) u) u)
      ≡ before (index (key_fields t) (take (length (key_fields t)) (values (row_fields t) v)))
      (index (key_fields t) (take (length (key_fields t)) (values (row_fields t) u)))
  before-keys = rw (key-values t v, key-values t u) (compares-before (compares-keys t v u b d f g))

  pub same_keys : same (take (span (key_fields t) v) v) (take (span (key_fields t) u) u)
      ≡ same (index (key_fields t) (take (length (key_fields t)) (values (row_fields t) v)))
      (index (key_fields t) (take (length (key_fields t)) (values (row_fields t) u)))
  same_keys = rw (key-values t v, key-values t u) (compares-same (compares-keys t v u b d f g))
