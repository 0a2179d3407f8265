-- What encoding answers in each case, and how long an instance is.
-- The fault is computed from the tests; where there is none the instance stands at the front. Assumes nothing.
use mathlib.Core.Path.{◌≡◌, refl, sym, ap, ◌∙◌}
use mathlib.Core.Bool.{true, false, cond}
use mathlib.Core.List.{List, [], ◌∷◌, ◌++◌, append_assoc}
use mathlib.Core.Option.{none, some}
use Prim.Native.Nat.{ℕ, ◌+◌, ◌≤◌, ◌<◌}
use native.Mathlib.Omega.{arith}
use lib.ListN.{length, drop, get_or, set, length-append}
use lib.Dec.{leb}
use borrow.Author.Tests.{le-leb, lt-leb}
use Rattle.std.specs.Prelude.{Ok, Err}
use Rattle.answers.specs.declared.Fault.{Fault}
use Rattle.answers.specs.declared.Fault.TheVariants.{OutOfRange, TooShort}
use Rattle.numbers.proofs.Bools.{and-false-right}
use Rattle.rows.specs.declared.Table.{Table}
use Rattle.rows.specs.declared.Table.TheVariants.{Context, Mapping, Access, View}
use Rattle.numbers.specs.BigEndian.{size}
use Rattle.rows.specs.Fields.{Field, sequence, integer, fault, taken, value, faults, values, index_field, index}
use Rattle.rows.specs.Rows.{key_fields, index_of}
use Rattle.numbers.proofs.BigEndian.{length-numbers}
use Rattle.rows.proofs.Sound.{within-most, sequence-range, faults-first, faults-rest}
use Rattle.instance_encode.specs.Instances.{base, instance, lists, encode_fault, Encodes}
use Rattle.numbers.specs.Laid.{laid}
use Rattle.numbers.proofs.Laid.{laid-set, laid-laid, length-laid}

pub instance-length : (t : Table) (column : ℕ) (v : List ℕ) → length (instance t column v) ≡ length (base t) + 1 + length v
instance-length t column v = omega (arith, length-append (base t) (column ∷ v))

-- ---- an instance has at most 110 parts: 12 of base and column, 33 of the view's name, 65 of its subtree

abbrev most_parts : Field → ℕ
most_parts (sequence w lo hi) = 1 + hi
most_parts (integer w lo hi) = 1

field-parts : (k : Field) (v : List ℕ) → fault k v ≡ none → length (index_field k (value k v)) ≤ most_parts k
field-parts (sequence w lo hi) v h =
    let m : get_or v 0 0 ≤ hi = within-most lo hi (get_or v 0 0) (sequence-range (size w) lo hi v h) in
    omega (arith, length-numbers w (get_or v 0 0) (drop 1 v))
field-parts (integer w lo hi) v h = omega arith

abbrev most_parts_of : List Field → ℕ
most_parts_of [] = 0
most_parts_of (k ∷ ks) = most_parts k + most_parts_of ks

index-parts : (ks : List Field) (v : List ℕ) → faults ks v ≡ none → length (index ks (values ks v)) ≤ most_parts_of ks
index-parts [] v h = omega arith
index-parts (k ∷ ks) v h =
    let u = drop (taken k v) v in
    let a : length (index_field k (value k v)) ≤ most_parts k = field-parts k v (faults-first k ks v h) in
    let b : length (index ks (values ks u)) ≤ most_parts_of ks = index-parts ks u (faults-rest k ks v h) in
    omega (arith, length-append (index_field k (value k v)) (index ks (values ks u)))

key-parts : (t : Table) → length (base t) + 1 + most_parts_of (key_fields t) ≤ 110
unfolding key_fields
key-parts Context = omega arith
key-parts Mapping = omega arith
key-parts Access = omega arith
key-parts View = omega arith

pub instance-short : (t : Table) (column : ℕ) (key : List ℕ) → faults (key_fields t) key ≡ none
    → length (instance t column (index_of t key)) ≤ 110
instance-short t column key h =
    omega (arith, instance-length t column (index_of t key), index-parts (key_fields t) key h, key-parts t)

-- ---- base, column and index laid one behind the other

pub instance-laid : (n column : ℕ) (b v w : List ℕ) → length b ≡ n → n + 1 + length v ≤ length w
    → laid (n + 1) v (set (laid 0 b w) n column) ≡ laid 0 (b ++ (column ∷ v)) w
instance-laid n column b v w l h =
    let x = column ∷ [] in
    let m : length (laid 0 b w) ≡ length w = length-laid 0 b w (omega arith) in
    let k : 0 + length b ≡ n = omega arith in
    let j : n + 1 ≡ 0 + length (b ++ x) = omega (arith, length-append b x) in
    ap (laid (n + 1) v) (laid-set n column (laid 0 b w) (omega arith) ∙ ap (λ i. laid i x (laid 0 b w)) (sym k) ∙ laid-laid 0 b x w (omega arith))
    ∙ ap (λ i. laid i v (laid 0 (b ++ x) w)) j
    ∙ laid-laid 0 (b ++ x) v w (omega arith)
    ∙ ap (λ u. laid 0 u w) (append_assoc b x v)

-- ---- the answer

module _ (t : Table) (column : ℕ) (key found : List ℕ) where
  refused : {f : Fault} → encode_fault t column key (length found) ≡ some f → Encodes t column key found found (Err f)
  refused e = record { answer_is = rw e; number_is = rw e; buffer_is = rw e }

  pub encode-unlisted : lists t column ≡ false → Encodes t column key found found (Err OutOfRange)
  unfolding encode_fault
  encode-unlisted e = refused (rw e)

  pub encode-faulty : {f : Fault} → faults (key_fields t) key ≡ some f → Encodes t column key found found (Err OutOfRange)
  unfolding encode_fault
  encode-faulty e = refused (rw (e, and-false-right (lists t column) {b = false} refl))

  module _ (l : lists t column ≡ true) (h : faults (key_fields t) key ≡ none) where
    judged : encode_fault t column key (length found) ≡ cond (leb (length (instance t column (index_of t key))) (length found)) none (some TooShort)
    unfolding encode_fault
    judged = rw (l, h)

    pub encode-short : length found < length (instance t column (index_of t key)) → Encodes t column key found found (Err TooShort)
    encode-short r = refused (judged ∙ rw (lt-leb (length (instance t column (index_of t key))) (length found) r))

    module _ (r : length (instance t column (index_of t key)) ≤ length found) where
      pub encode-accepted : encode_fault t column key (length found) ≡ none
      encode-accepted = judged ∙ rw (le-leb (length (instance t column (index_of t key))) (length found) r)

      pub encode-done :
          Encodes t column key found (instance t column (index_of t key) ++ drop (length (instance t column (index_of t key))) found)
          (Ok (length (instance t column (index_of t key))))
      encode-done = record { answer_is = rw encode-accepted; number_is = rw encode-accepted; buffer_is = rw encode-accepted }
