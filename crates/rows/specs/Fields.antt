-- The fields of a row and their bytes in a table image (document 01, "The table image"). Assumes nothing.
use Rattle.std.specs.Prelude.{Bool, true, false, cond, ◌&&◌, List, [], ◌∷◌, ◌++◌, ℕ, ◌+◌, ◌*◌, eqb, leb, ltb, length, drop, get_or}
use Rattle.std.proofs.Math.Option.{Option, none, some}
use Rattle.numbers.specs.BigEndian.{Width, size, bound, number, bytes, numbers, bytes_of, fit}
use Rattle.answers.specs.declared.Fault.{Fault}
use Rattle.answers.specs.declared.Fault.TheVariants.{Torn, OutOfRange}

-- a name, a mask or a subtree: a count from lo to hi in a byte, and as many parts. A number from lo to hi.
-- What a field holds is the list of its parts, of a number the list of that number.
pub data Field : Type 0 where
  sequence : Width → ℕ → ℕ → Field
  integer : Width → ℕ → ℕ → Field

abbrev pub within : ℕ → ℕ → ℕ → Bool
within lo hi x = leb lo x && leb x hi

-- ---- a field's bytes read: first whether they are there, then the range, the length byte before its octets

-- by the bytes to a part, so that the code's parameter is the number itself
unfoldable pub sequence_fault : ℕ → ℕ → ℕ → List ℕ → Option Fault
sequence_fault s lo hi v =
    cond (ltb 0 (length v))
    (cond (within lo hi (get_or v 0 0)) (cond (leb (1 + get_or v 0 0 * s) (length v)) none (some Torn)) (some OutOfRange))
    (some Torn)

unfoldable pub integer_fault : Width → ℕ → ℕ → List ℕ → Option Fault
integer_fault w lo hi v = cond (leb (size w) (length v)) (cond (within lo hi (number w v)) none (some OutOfRange)) (some Torn)

-- what is wrong with the field at the front of v, if anything is
abbrev pub fault : Field → List ℕ → Option Fault
fault (sequence w lo hi) v = sequence_fault (size w) lo hi v
fault (integer w lo hi) v = integer_fault w lo hi v

-- how many bytes it takes, and what it holds
abbrev pub taken : Field → List ℕ → ℕ
taken (sequence w lo hi) v = 1 + get_or v 0 0 * size w
taken (integer w lo hi) v = size w

abbrev pub value : Field → List ℕ → List ℕ
value (sequence w lo hi) v = numbers w (get_or v 0 0) (drop 1 v)
value (integer w lo hi) v = number w v ∷ []

-- the first fault of two
abbrev pub or_else : Option Fault → Option Fault → Option Fault
or_else none g = g
or_else (some f) g = some f

-- ---- a row's bytes read: its fields in order, and no bytes over

unfoldable pub faults : List Field → List ℕ → Option Fault
faults [] v = cond (eqb (length v) 0) none (some Torn)
faults (k ∷ ks) v = or_else (fault k v) (faults ks (drop (taken k v) v))

-- the same of fields that others may follow: bytes over are no fault
unfoldable pub fronts : List Field → List ℕ → Option Fault
fronts [] v = none
fronts (k ∷ ks) v = or_else (fault k v) (fronts ks (drop (taken k v) v))

abbrev pub values : List Field → List ℕ → List (List ℕ)
values [] v = []
values (k ∷ ks) v = value k v ∷ values ks (drop (taken k v) v)

-- how many bytes these fields take
unfoldable pub span : List Field → List ℕ → ℕ
span [] v = 0
span (k ∷ ks) v = taken k v + span ks (drop (taken k v) v)

-- ---- a row's bytes written

abbrev pub field_bytes : Field → List ℕ → List ℕ
field_bytes (sequence w lo hi) x = length x ∷ bytes_of w x
field_bytes (integer w lo hi) x = bytes w (get_or x 0 0)

abbrev pub row_bytes : List Field → List (List ℕ) → List ℕ
row_bytes [] xs = []
row_bytes (k ∷ ks) [] = []
row_bytes (k ∷ ks) (x ∷ xs) = field_bytes k x ++ row_bytes ks xs

-- ---- legal values: in range, and each part a number of its width

abbrev pub legal : Field → List ℕ → Bool
legal (sequence w lo hi) x = within lo hi (length x) && fit w x
legal (integer w lo hi) [] = false
legal (integer w lo hi) (x ∷ []) = within lo hi x && ltb x (bound w)
legal (integer w lo hi) (x ∷ y ∷ ys) = false

unfoldable pub legals : List Field → List (List ℕ) → Bool
legals [] [] = true
legals [] (x ∷ xs) = false
legals (k ∷ ks) [] = false
legals (k ∷ ks) (x ∷ xs) = legal k x && legals ks xs

-- ---- an index: fields as sub-identifiers, a sequence with its length in front (RFC 3415 section 4, document 01 "index")

abbrev pub index_field : Field → List ℕ → List ℕ
index_field (sequence w lo hi) x = length x ∷ x
index_field (integer w lo hi) x = x

abbrev pub index : List Field → List (List ℕ) → List ℕ
index [] xs = []
index (k ∷ ks) [] = []
index (k ∷ ks) (x ∷ xs) = index_field k x ++ index ks xs
