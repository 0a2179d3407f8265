-- The instance of a row that is met, handed back: the key at the front of the row lies in the image as a slice of its own. It is legal, a listed column of
-- it is always encoded, and the parts and the bytes that are written are the instance's and the key's. Assumes nothing.
use mathlib.Core.Path.{◌≡◌, refl, sym, ap, ap₂, ◌∙◌}
use mathlib.Core.List.{List, ◌++◌}
use mathlib.Core.Option.{none, some}
use Prim.Native.Nat.{ℕ, ◌+◌, ◌-◌, ◌≤◌}
use native.Mathlib.Nat.{zero-add}
use native.Mathlib.Omega.{arith}
use lib.ListN.{length, take, drop, length-drop}
use lib.Seq.{length-take-le, take-take, take_at}
use Rattle.std.specs.Prelude.{Ok}
use Rattle.answers.specs.Types.{Written}
use Rattle.numbers.specs.BigEndian.{Octets}
use Rattle.numbers.specs.Laid.{laid}
use Rattle.numbers.proofs.BigEndian.{octets-drop, octets-take}
use Rattle.numbers.proofs.Laid.{laid_nil}
use Rattle.rows.specs.declared.Table.{Table}
use Rattle.rows.specs.declared.Table.TheVariants.{Context, Mapping, Access, View}
use Rattle.rows.specs.Fields.{faults, values, span, row_bytes}
use Rattle.rows.specs.Rows.{key_fields, row_fields, key_max, index_of}
use Rattle.rows.proofs.Appends.{key_room}
use Rattle.rows.proofs.Keys.{front_bytes, front-short}
use Rattle.decision_parts.specs.Parts.{part}
use Rattle.instance_encode.specs.Instances.{instance, Encodes}
use Rattle.instance_encode.proofs.Encoded.{encoded-length, encoded-buffer}
use Rattle.table_update.proofs.Stores.{row_key}
use Rattle.edit_rules.specs.TableRows.{row_of, row_index, values_of}
use Rattle.walk_rules.specs.declared.Walked.{Walked}
use Rattle.walk_rules.specs.declared.Walked.TheVariants.{Next}
use Rattle.walk_rules.specs.Walk.{instance_of, refusal, reaching, LegalKey}
use Rattle.walk_rows.proofs.Keys.{key_legal, key-index}
use Rattle.walk_find.specs.Met.{RowMet}
use Rattle.walk.specs.Hands.{Hands}

-- nothing is laid
pub hands-nothing : (r : Walked) (parts key : List ℕ) → LegalKey r key → Hands (refusal r) parts parts key key r
hands-nothing r parts key l = record { answer_is = refl; parts_are = sym (laid_nil 0 parts); key_is = sym (laid_nil 0 key); key_legal = l }

-- the bytes of a row's key are those of the key's fields at its front
key-fields : (t : Table) (v : List ℕ) → row_bytes (key_fields t) (values_of t (row_of t v)) ≡ row_bytes (key_fields t) (values (key_fields t) v)
unfolding key_fields row_fields
key-fields Context v = refl
key-fields Mapping v = refl
key-fields Access v = refl
key-fields View v = refl

laid-first : (b w : List ℕ) → b ++ drop (length b) w ≡ laid 0 b w
laid-first b w = ap (λ n. b ++ drop n w) (sym (zero-add (length b)))

laid-front : (b w : List ℕ) → take (length b) (laid 0 b w) ≡ b
laid-front b w = take_at b (drop (0 + length b) w) (length b) refl

module _ (w : List ℕ) (o : Octets w) (t : Table) (column at end : ℕ) (m : RowMet w t column at end) (n : ℕ) (e : n ≡ span (key_fields t) (part w at end))
  where
    abbrev row : List ℕ
    row = part w at end

    row-octets : Octets row
    row-octets = octets-take (end - at) (drop at w) (octets-drop at w o)

    row-length : length row ≡ end - at
    row-length = length-take-le (end - at) (drop at w) (omega (arith, length-drop at w, m.lies.starts, m.lies.ends))

    pub key-ends : n ≤ end - at
    key-ends = omega (arith, row-length, key_room t row m.whole)

    pub key-short : n ≤ key_max
    key-short = omega (arith, front-short t row row-octets m.whole)

    -- the key, as it lies in the image
    module _ (to : ℕ) (q : to ≡ at + n) where
      abbrev slice : List ℕ
      slice = take (to - at) (drop at w)

      pub slice_is : slice ≡ row_key t row
      slice_is =
          let d : to - at ≡ n = omega arith in
          ap (λ k. take k (drop at w)) d ∙ sym (take-take n (end - at) (drop at w) key-ends) ∙ ap (λ k. take k row) e

      pub slice-length : length slice ≡ n
      slice-length = length-take-le (to - at) (drop at w) (omega (arith, length-drop at w, key-ends, m.lies.starts, m.lies.ends))
          ∙ omega arith

      pub slice-legal : faults (key_fields t) slice ≡ none
      slice-legal = key_legal t row slice row-octets m.whole slice_is

      key-bytes : row_bytes (key_fields t) (values_of t (row_of t row)) ≡ slice
      key-bytes = key-fields t row ∙ front_bytes t row row-octets m.whole ∙ sym slice_is

      pub hands-row : {parts parts' key key' : List ℕ} {r : Written} {k : ℕ} → Encodes t column slice parts parts' r → length parts ≡ 128 → r ≡ Ok k
          → key' ≡ laid 0 slice key → Hands (reaching (some (instance_of t column (row_of t row)))) parts parts' key key' (Next k t column n)
      hands-row {parts = parts} {key = key} {k = k} enc l f h =
          let i : instance t column (row_index t (row_of t row)) ≡ instance t column (index_of t slice) =
          ap (instance t column) (sym (key-index t row slice row-octets m.whole slice_is)) in
          let a : k ≡ length (instance t column (row_index t (row_of t row))) =
          encoded-length t column slice m.listed slice-legal enc l f ∙ ap length (sym i) in
          let b : n ≡ length (row_bytes (key_fields t) (values_of t (row_of t row))) = sym slice-length ∙ ap length (sym key-bytes) in
          record {
            answer_is = ap₂ (λ x y. Next x t column y) a b;
            parts_are =
                encoded-buffer t column slice m.listed slice-legal enc l
                ∙ laid-first (instance t column (index_of t slice)) parts
                ∙ ap (λ v. laid 0 v parts) (sym i);
            key_is = h ∙ ap (λ v. laid 0 v key) (sym key-bytes);
            key_legal = rw (h, ← slice-length, laid-front slice key) slice-legal;
          }
