-- A row's key in bytes and its index: one is before another row's key where the other is before that row's index (`Stands`).
-- A row without fault has a key of a byte at least and an index of a number at least, so that nothing, [], stands for nothing;
-- and the key of such a row stands for its index, since bytes of keys compare as indices do (`compares-keys` of crate `rows`).
-- Assumes nothing.
use mathlib.Core.Path.{◌≡◌, refl, sym, ◌∙◌}
use mathlib.Core.Bool.{true}
use mathlib.Core.List.{List, [], ◌∷◌, ◌++◌}
use mathlib.Core.Option.{none}
use Prim.Native.Nat.{ℕ, ◌≤◌}
use native.Mathlib.Omega.{arith}
use lib.ListN.{length, take}
use lib.Seq.{length-take-le}
use Rattle.numbers.specs.Order.{before}
use Rattle.rows.specs.declared.Table.{Table}
use Rattle.rows.specs.declared.Table.TheVariants.{Context, Mapping, Access, View}
use Rattle.rows.specs.Fields.{Field, sequence, integer, taken, values, index, faults, span}
use Rattle.rows.specs.Rows.{context_key, context_rest, mapping_key, mapping_rest, access_key, access_rest, view_key, view_rest, key_fields, row_fields, index_of}
use Rattle.rows.proofs.Appends.{span-room}
use Rattle.numbers.specs.BigEndian.{Octets}
use Rattle.rows.proofs.Order.{compares-keys, compares-before}
use Rattle.rows.proofs.Places.{size-some}

-- ---- keys are not empty

before-nil : (v : List ℕ) → 1 ≤ length v → before [] v ≡ true
unfolding before
before-nil [] h = absurd (omega arith)
before-nil (x ∷ v) h = refl

taken-some : (k : Field) (v : List ℕ) → 1 ≤ taken k v
taken-some (sequence w lo hi) v = omega arith
taken-some (integer w lo hi) v = size-some w

module _ (k : Field) (ks qs : List Field) (v : List ℕ) (f : faults ((k ∷ ks) ++ qs) v ≡ none) where
  before-nil-front : before [] (take (span (k ∷ ks) v) v) ≡ true
  unfolding span
  before-nil-front =
      let r : span (k ∷ ks) v ≤ length v = span-room (k ∷ ks) qs v f in
      before-nil (take (span (k ∷ ks) v) v) (omega (arith, length-take-le (span (k ∷ ks) v) v r, taken-some k v))

before-nil-index : (k : Field) (ks : List Field) (v : List ℕ) → before [] (index (k ∷ ks) (values (k ∷ ks) v)) ≡ true
unfolding before
before-nil-index (sequence w lo hi) ks v = refl
before-nil-index (integer w lo hi) ks v = refl

-- ---- a key stands for an index

abbrev pub Stands : Table → List ℕ → List ℕ → Type 0
Stands t k p = (v : List ℕ) → Octets v → faults (row_fields t) v ≡ none → before k (take (span (key_fields t) v) v) ≡ before p (index_of t v)

stands-front : (k : Field) (ks qs : List Field) (v : List ℕ) → faults ((k ∷ ks) ++ qs) v ≡ none
    → before [] (take (span (k ∷ ks) v) v) ≡ before [] (index (k ∷ ks) (values (k ∷ ks) v))
stands-front k ks qs v f = before-nil-front k ks qs v f ∙ sym (before-nil-index k ks v)

pub stands-nil : (t : Table) → Stands t [] []
unfolding key_fields row_fields
stands-nil Context v b f = stands-front _ _ context_rest v f
stands-nil Mapping v b f = stands-front _ _ mapping_rest v f
stands-nil Access v b f = stands-front _ _ access_rest v f
stands-nil View v b f = stands-front _ _ view_rest v f

-- the key of a row without fault stands behind nothing
pub key-above-nil : (t : Table) (v : List ℕ) → faults (row_fields t) v ≡ none → before [] (take (span (key_fields t) v) v) ≡ true
unfolding key_fields row_fields
key-above-nil Context v f = before-nil-front _ _ context_rest v f
key-above-nil Mapping v f = before-nil-front _ _ mapping_rest v f
key-above-nil Access v f = before-nil-front _ _ access_rest v f
key-above-nil View v f = before-nil-front _ _ view_rest v f

pub stands-row : (t : Table) (u : List ℕ) → Octets u → faults (row_fields t) u ≡ none → Stands t (take (span (key_fields t) u) u) (index_of t u)
stands-row t u b f v d g = compares-before (compares-keys t u v b d f g)

-- a key lies within its row
pub key_room : (t : Table) (v : List ℕ) → faults (row_fields t) v ≡ none → span (key_fields t) v ≤ length v
unfolding key_fields row_fields
key_room Context = span-room context_key context_rest
key_room Mapping = span-room mapping_key mapping_rest
key_room Access = span-room access_key access_rest
key_room View = span-room view_key view_rest
