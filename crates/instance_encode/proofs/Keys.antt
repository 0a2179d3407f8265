-- The index of a key without fault, by its bytes.
-- A name's sub-identifiers are its bytes, and so is a number of one byte; numbers of four bytes are a sub-identifier each. By table
-- these lie together, with the rest before and behind them (`Runs`), so that an index is the key's bytes in three runs.
-- Assumes nothing.
use mathlib.Core.Path.{◌≡◌, refl, sym, ap, ap₂, ◌∙◌}
use mathlib.Core.List.{List, [], ◌∷◌, ◌++◌, append-nil, append_assoc}
use mathlib.Core.Option.{none}
use Prim.Native.Nat.{ℕ, suc, ◌+◌, ◌-◌, ◌*◌, ◌≤◌}
use native.Mathlib.Nat.{add_assoc}
use native.Mathlib.Omega.{arith}
use lib.ListN.{length, take, drop, get_or, length-drop, drop_of_length-le}
use lib.Seq.{take_all, take-add, drop-drop}
use Rattle.rows.specs.declared.Table.{Table}
use Rattle.rows.specs.declared.Table.TheVariants.{Context, Mapping, Access, View}
use Rattle.numbers.specs.BigEndian.{octet, quad, number, numbers}
use Rattle.rows.specs.Fields.{Field, sequence, integer, fault, taken, value, faults, values, index_field, index}
use Rattle.rows.specs.Rows.{key_fields, index_of}
use Rattle.rows.proofs.Sound.{sequence-room, integer-room, field_room, faults-first, faults-rest, faults-end}
use Rattle.numbers.proofs.BigEndian.{get_d_front, length-numbers}
use Rattle.rows.proofs.Places.{numbers-octet}
use Rattle.instance_encode.specs.Runs.{quads_from, quads_in, runs}

abbrev most_model : ℕ
most_model = 2147483647

-- ---- one field

abbrev name : ℕ → ℕ → Field
name lo hi = sequence octet lo hi

name-index : (lo hi : ℕ) (v : List ℕ) → fault (name lo hi) v ≡ none → index_field (name lo hi) (value (name lo hi) v) ≡ take (taken (name lo hi) v) v
name-index lo hi [] h = absurd (omega (arith, sequence-room 1 lo hi [] h))
name-index lo hi (n ∷ v) h =
    let m : 1 + n * 1 ≤ suc (length v) = sequence-room 1 lo hi (n ∷ v) h in
    let s : 1 + n * 1 ≡ suc n = omega arith in
    rw (length-numbers octet n v, numbers-octet n v (omega arith), s)

small-index : (lo hi : ℕ) (v : List ℕ) → fault (integer octet lo hi) v ≡ none → number octet v ∷ [] ≡ take 1 v
small-index lo hi [] h = absurd (omega (arith, integer-room octet lo hi [] h))
small-index lo hi (x ∷ v) h = refl

-- the last field ends with the key
last-whole : (k : Field) (v : List ℕ) → faults (k ∷ []) v ≡ none → length v ≡ taken k v
last-whole k v h =
    omega (arith, field_room k v (faults-first k [] v h), faults-end (drop (taken k v) v) (faults-rest k [] v h), length-drop (taken k v) v)

last_name : (lo hi : ℕ) (v : List ℕ) → faults (name lo hi ∷ []) v ≡ none → index (name lo hi ∷ []) (values (name lo hi ∷ []) v) ≡ v
last_name lo hi v h =
    append-nil _ ∙ name-index lo hi v (faults-first (name lo hi) [] v h)
    ∙ take_all (taken (name lo hi) v) v (omega (arith, last-whole (name lo hi) v h))

-- ---- the key of each table

pub record Runs (t : Table) (key : List ℕ) : Type 0 where
  pub room : quads_from t key + 4 * quads_in t key ≤ length key
  pub index_is : index_of t key ≡ runs (quads_from t key) (quads_in t key) key

context-runs : (key : List ℕ) → faults (key_fields Context) key ≡ none → Runs Context key
unfolding key_fields
context-runs key h = record { room = omega arith; index_is = last_name 0 32 key h }

mapping-runs : (key : List ℕ) → faults (key_fields Mapping) key ≡ none → Runs Mapping key
unfolding key_fields
mapping-runs key h =
    let k = integer quad 1 most_model in
    let ks = name 1 32 ∷ [] in
    record {
      room = integer-room quad 1 most_model key (faults-first k ks key h);
      index_is = ap (λ u. number quad key ∷ u) (last_name 1 32 (drop 4 key) (faults-rest k ks key h));
    }

-- an access key: two names, a number of four bytes, and one of one byte
front-name : (lo hi : ℕ) (ks : List Field) (v : List ℕ) → faults (name lo hi ∷ ks) v ≡ none
    → index (name lo hi ∷ ks) (values (name lo hi ∷ ks) v) ≡ take (taken (name lo hi) v) v ++ index ks (values ks (drop (taken (name lo hi) v) v))
front-name lo hi ks v h =
    ap (λ u. u ++ index ks (values ks (drop (taken (name lo hi) v) v))) (name-index lo hi v (faults-first (name lo hi) ks v h))

abbrev model_and_level : List Field
model_and_level = integer quad 0 most_model ∷ integer octet 1 3 ∷ []

module _ (v : List ℕ) (h : faults model_and_level v ≡ none) where
  level : faults (integer octet 1 3 ∷ []) (drop 4 v) ≡ none
  level = faults-rest (integer quad 0 most_model) (integer octet 1 3 ∷ []) v h

  five : length v ≡ 5
  five = omega (
    arith,
    integer-room quad 0 most_model v (faults-first (integer quad 0 most_model) _ v h),
    last-whole (integer octet 1 3)
        (drop 4 v) level,
    length-drop 4 v,
  )

  level-index : index model_and_level (values model_and_level v) ≡ numbers quad 1 v ++ drop 4 v
  level-index =
      ap (λ u. number quad v ∷ u)
      (small-index 1 3 (drop 4 v) (faults-first (integer octet 1 3) [] (drop 4 v) level)
      ∙ take_all 1 (drop 4 v) (omega (arith, five, length-drop 4 v)))

module _ (v : List ℕ) (h : faults (key_fields Access) v ≡ none) where
  group : ℕ
  group = taken (name 1 32) v

  prefix : ℕ
  prefix = taken (name 0 32) (drop (taken (name 1 32) v) v)

  behind-group : faults (name 0 32 ∷ model_and_level) (drop group v) ≡ none
  unfolding group key_fields
  behind-group = faults-rest (name 1 32) (name 0 32 ∷ model_and_level) v h

  behind-names : faults model_and_level (drop (group + prefix) v) ≡ none
  unfolding group prefix
  behind-names = rw (← drop-drop prefix group v) (faults-rest (name 0 32) model_and_level (drop group v) behind-group)

  names-index : index_of Access v ≡ take (group + prefix) v ++ index model_and_level (values model_and_level (drop (group + prefix) v))
  unfolding group prefix key_fields
  names-index =
      front-name 1 32 (name 0 32 ∷ model_and_level) v h
      ∙ ap (λ u. take group v ++ u) (front-name 0 32 model_and_level (drop group v) behind-group)
      ∙ sym (append_assoc (take group v) (take prefix (drop group v)) _)
      ∙ rw (take-add group prefix v, drop-drop prefix group v)

  names-end : length v - 5 ≡ group + prefix
  unfolding group prefix
  names-end =
      omega (arith, five (drop (group + prefix) v) behind-names, length-drop (group + prefix) v)

  pub access-room : 5 ≤ length v
  access-room = omega (arith, five (drop (group + prefix) v) behind-names, length-drop (group + prefix) v)

  access-runs : Runs Access v
  access-runs = record {
    room = omega (arith, access-room);
    index_is =
        names-index ∙ rw (level-index (drop (group + prefix) v) behind-names, drop-drop 4 (group + prefix) v)
        (ap (λ n. runs n 1 v) (sym names-end));
  }

-- a view's key: a name, then a count and as many numbers of four bytes
abbrev subtree : Field
subtree = sequence quad 1 64

subtree-index : (v : List ℕ) → faults (subtree ∷ []) v ≡ none
    → index (subtree ∷ []) (values (subtree ∷ []) v) ≡ take 1 v ++ (numbers quad (get_or v 0 0) (drop 1 v) ++ drop (1 + 4 * get_or v 0 0) v)
subtree-index [] h = absurd (omega (arith, last-whole subtree [] h))
subtree-index (n ∷ v) h =
    let e : length (n ∷ v) ≤ 1 + 4 * n = omega (arith, last-whole subtree (n ∷ v) h) in
    rw (length-numbers quad n v, drop_of_length-le (n ∷ v) e)

module _ (v : List ℕ) (h : faults (key_fields View) v ≡ none) where
  family : ℕ
  family = taken (name 1 32) v

  behind-family : faults (subtree ∷ []) (drop family v) ≡ none
  unfolding family key_fields
  behind-family = faults-rest (name 1 32) (subtree ∷ []) v h

  counted : ℕ
  counted = get_or (drop family v) 0 0

  view-length : length v ≡ family + 1 + 4 * counted
  unfolding family counted
  view-length =
      omega (arith, last-whole subtree (drop family v) behind-family, length-drop family v)

  family-end : 2 + get_or v 0 0 ≡ family + 1
  unfolding family
  family-end = omega arith

  count_is : get_or v (1 + get_or v 0 0) 0 ≡ counted
  unfolding family counted
  count_is = let e : 1 + get_or v 0 0 ≡ family = omega arith in ap (λ i. get_or v i 0) e ∙ sym (get_d_front v family)

  pub view-room : 2 + get_or v 0 0 ≤ length v
  view-room = omega (arith, view-length, family-end)

  view-index : index_of View v ≡ runs (family + 1) counted v
  unfolding family counted key_fields
  view-index =
      front-name 1 32 (subtree ∷ []) v h
      ∙ ap (λ u. take family v ++ u) (subtree-index (drop family v) behind-family)
      ∙ sym (append_assoc (take family v) (take 1 (drop family v)) _)
      ∙ rw (take-add family 1 v, drop-drop 1 family v, drop-drop (1 + 4 * counted) family v, add_assoc family 1 (4 * counted))

  view-runs : Runs View v
  view-runs = record {
    room = rw (family-end, count_is) (omega (arith, view-length));
    index_is = view-index ∙ ap₂ (λ n m. runs n m v) (sym family-end) (sym count_is);
  }

pub key-runs : (t : Table) (key : List ℕ) → faults (key_fields t) key ≡ none → Runs t key
key-runs Context key h = context-runs key h
key-runs Mapping key h = mapping-runs key h
key-runs Access key h = access-runs key h
key-runs View key h = view-runs key h
