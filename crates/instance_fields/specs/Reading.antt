-- What a step of the decoder answers, which takes what it reads from an index, and what it lays into the key. Assumes nothing.
use Rattle.std.specs.Prelude.{◌≡◌, cond, ◌&&◌, List, [], ◌∷◌, ◌++◌, ℕ, ◌+◌, ◌-◌, ltb, leb, length, take, drop, get_or}
use Rattle.std.proofs.Math.Option.{Option, none, some, Option-elim}
use Rattle.std.specs.Prelude.{Some, None}
use Rattle.numbers.specs.BigEndian.{Width, octet, quad, bound, bytes}
use Rattle.rows.specs.Fields.{Field, sequence, integer, within, field_bytes, row_bytes}
use Rattle.instance_fields.specs.Types.{Read}
use Rattle.instance_fields.specs.declared.Size.{Size}
use Rattle.instance_fields.specs.declared.Size.TheVariants.{One, Four}
use Rattle.instance_fields.specs.Types.{Part}
use Rattle.instance_fields.specs.Indices.{Parsed, parse_field, parse_fields}

-- ---- parts

-- the part at a place, if it is from lo to hi: with the place behind it, and how many parts are left there
abbrev pub part_at : ℕ → ℕ → List ℕ → ℕ → Part
part_at lo hi index at =
    cond (ltb at (length index) && within lo hi (get_or index at 0))
    (Some ((get_or index at 0), (at + 1), (length index - (at + 1))))
    None

-- as a count: if as many parts are left behind it
abbrev pub counting : Part → Part
counting None = None
counting (Some (x, next, left)) = cond (leb x left) (Some (x, next, left)) None

abbrev pub count_at : ℕ → ℕ → List ℕ → ℕ → Part
count_at lo hi index at = counting (part_at lo hi index at)

abbrev pub width_of : Size → Width
width_of One = octet
width_of Four = quad

-- the largest number of a width; a part that is any number of it
abbrev pub largest : Width → ℕ
largest octet = 255
largest quad = 4294967295

abbrev pub any_part : Width → Field
any_part w = integer w 0 (largest w)

-- ---- fields read

-- what was read: the place behind it in the index, and the place behind its bytes, which lie in the key from `byte` on
pub record Takes {A : Type 0} (bytes : A → List ℕ) (p : Parsed A) (index : List ℕ) (byte : ℕ) (r : Read) : Type 0 where
  pub next : ℕ
  pub end : ℕ
  pub answer_is : r ≡ Some (next, end)
  pub rest_is : p.rest ≡ drop next index
  pub byte_is : end ≡ byte + length (bytes p.holds)

abbrev pub Reads : {A : Type 0} → (A → List ℕ) → Option (Parsed A) → List ℕ → ℕ → Read → Type 0
Reads bytes none index byte r = r ≡ None
Reads bytes (some p) index byte r = Takes bytes p index byte r

-- from a place of the index on
abbrev pub ReadsField : Field → (index : List ℕ) → (at byte : ℕ) → Read → Type 0
ReadsField k index at byte r = Reads (field_bytes k) (parse_field k (drop at index)) index byte r

abbrev pub ReadsFields : List Field → (index : List ℕ) → (at byte : ℕ) → Read → Type 0
ReadsFields ks index at byte r = Reads (row_bytes ks) (parse_fields ks (drop at index)) index byte r

-- ---- what is laid into the key: the bytes of what is read in front of the first part that is amiss; of all, where none is

unfoldable pub parts_front : Width → List ℕ → List ℕ
parts_front w [] = []
parts_front w (x ∷ xs) = cond (ltb x (bound w)) (bytes w x ++ parts_front w xs) []

-- a count, where it is in range and as many parts follow, and its parts; a number, where it is in range
unfoldable pub field_front : Field → List ℕ → List ℕ
field_front (sequence w lo hi) [] = []
field_front (sequence w lo hi) (n ∷ v) = cond (within lo hi n && leb n (length v)) (n ∷ parts_front w (take n v)) []
field_front (integer w lo hi) [] = []
field_front (integer w lo hi) (x ∷ v) = cond (within lo hi x && ltb x (bound w)) (bytes w x) []

unfoldable pub key_front : List Field → List ℕ → List ℕ
key_front [] v = []
key_front (k ∷ ks) v = field_front k v ++ Option-elim (parse_field k v) [] (λ p. key_front ks p.rest)
