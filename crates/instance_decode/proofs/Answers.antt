-- What decoding answers in each case.
-- An index that is not read, or read with parts over, is no instance, and the buffer stays as found; else the key's bytes stand at the front.
-- Assumes nothing.
use mathlib.Core.Path.{◌≡◌, refl, sym, ap, ◌∙◌}
use mathlib.Core.Bool.{true, false}
use mathlib.Core.List.{List, ◌∷◌, ◌++◌}
use mathlib.Core.Option.{Option, none, some, bind}
use Prim.Native.Nat.{ℕ, ◌+◌, ◌-◌, ◌≤◌, ◌<◌}
use native.Mathlib.Nat.{zero-add}
use native.Mathlib.Omega.{arith}
use lib.ListN.{length, take, drop, length-append, length-drop, drop_of_length-le}
use lib.Seq.{paste, take_all, take-append_seam}
use lib.Dec.{eqb}
use borrow.Author.Tests.{ltb-true, eq-eqb, ne_eqb}
use Rattle.std.specs.Prelude.{Ok, Err, Some, None}
use Rattle.answers.specs.declared.Fault.TheVariants.{NotAnInstance}
use Rattle.rows.specs.declared.Table.{Table}
use Rattle.rows.specs.Fields.{row_bytes}
use Rattle.rows.specs.Rows.{key_fields}
use Rattle.instance_decode.specs.Types.{Decoded}
use Rattle.instance_encode.specs.Instances.{base, lists}
use Rattle.instance_fields.specs.Indices.{parse_fields}
use Rattle.instance_decode.specs.Decoding.{read_index, read_column, table_of, read_instance, Delivers, found_in}
use Rattle.reader.proofs.Parts.{PartRead}
use Rattle.instance_fields.proofs.Fields.{drop-next}
use Rattle.instance_fields.proofs.Way.{Took, took}
use Rattle.instance_fields.proofs.Fronts.{key-front}
use Rattle.instance_fields.specs.Reading.{ReadsFields, key_front}
use Rattle.instance_fields.specs.Types.{Read}
use Rattle.numbers.specs.Laid.{laid}

-- ---- an index

-- the fields of a key that were read, and its bytes as they were made
module _ (t : Table) (index : List ℕ) where
  pub taken : (zeros made : List ℕ) {r : Read} {next end : ℕ} → ReadsFields (key_fields t) index 0 0 r
      → made ≡ laid 0 (key_front (key_fields t) index) zeros → r ≡ Some (next, end)
      → Took (row_bytes (key_fields t)) (parse_fields (key_fields t) index) index zeros made 0 next end
  taken zeros made e b n =
      let ks = key_fields t in
      took (row_bytes ks) index zeros made 0 (parse_fields ks index) (key_front ks index) (key-front ks index) e b n

module _ (t : Table) (column : ℕ) (index found : List ℕ) where
  pub index-unread : parse_fields (key_fields t) index ≡ none → Delivers (read_index t column index) found found (Err NotAnInstance)
  unfolding bind
  index-unread e = rw e (record { answer_is = refl; number_is = refl; buffer_is = refl })

  -- read from the start into a buffer of its own
  module _ {zeros made : List ℕ} {next end : ℕ}
      (k : Took (row_bytes (key_fields t)) (parse_fields (key_fields t) index) index zeros made 0 next end) where
    pub index-over : next < length index → Delivers (read_index t column index) found found (Err NotAnInstance)
    unfolding bind
    index-over h =
        let n : eqb (length k.it.rest) 0 ≡ false =
        ne_eqb (length k.it.rest) 0 (λ z. omega (arith, ap length k.rest_is, length-drop (next) index)) in
        rw (k.is, n) (record { answer_is = refl; number_is = refl; buffer_is = refl })

    key : List ℕ
    key = row_bytes (key_fields t) k.it.holds

    end_is : end ≡ length key
    unfolding key
    end_is = k.byte_is ∙ zero-add (length (row_bytes (key_fields t) k.it.holds))

    made-is : made ≡ key ++ drop (0 + length key) zeros
    unfolding key
    made-is = k.buffer_is

    pub made-room : end ≤ length made
    made-room = omega (arith, end_is, ap length made-is, length-append key (drop (0 + length key) zeros))

    made-front : take end made ≡ key
    made-front =
        ap (λ n. take n made) end_is ∙ ap (take (length key)) made-is ∙ take-append_seam key (drop (0 + length key) zeros)

    pub index-whole : length index ≤ next → (after : List ℕ)
        → after ≡ paste found 0 (take end made) (length (take end made))
        → Delivers (read_index t column index) found after (Ok (record { table = t; column = column; key = end }))
    unfolding key bind
    index-whole h after c =
        let e : eqb (length k.it.rest) 0 ≡ true =
        eq-eqb (length k.it.rest) 0 (omega (arith, ap length k.rest_is, length-drop (next) index)) in
        rw (k.is, e) (record {
          answer_is = ap (λ n. Ok (record { table = t; column = column; key = n })) end_is;
          number_is = refl;
          buffer_is =
              c ∙ ap (λ b. paste found 0 b (length b)) made-front
              ∙ ap (λ b. b ++ drop (0 + length key) found) (take_all (length key) key (omega arith)) ∙ rw (zero-add (length key));
        })

-- ---- the base and the column

pub found_in_lem : (o : Option Table) {t : Table} → found_in o ≡ Some t → o ≡ some t
found_in_lem none e = cc
found_in_lem (some u) e = cc

pub found_nowhere : (o : Option Table) → found_in o ≡ None → o ≡ none
found_nowhere none e = refl
found_nowhere (some u) e = cc

module _ (oid found : List ℕ) where
  pub no_table : table_of oid ≡ none → Delivers (read_instance oid) found found (Err NotAnInstance)
  unfolding read_instance bind
  no_table e = rw e (record { answer_is = refl; number_is = refl; buffer_is = refl })

  module _ {t : Table} (e : table_of oid ≡ some t) (n : ℕ) (l : n ≡ length (base t)) where
    column-read : read_instance oid ≡ read_column t (drop n oid)
    unfolding read_instance bind
    column-read = rw (e, l)

    pub no-column : length oid ≤ n → Delivers (read_instance oid) found found (Err NotAnInstance)
    unfolding read_column
    no-column h = rw (column-read, drop_of_length-le oid h) (record { answer_is = refl; number_is = refl; buffer_is = refl })

    -- the part behind the base was read
    module _ {column next left : ℕ} (p : PartRead oid n column next left) where
      headed : read_instance oid ≡ read_column t (column ∷ drop next oid)
      headed =
          column-read ∙ ap (read_column t) (drop-next oid n (ltb-true n (length oid) p.inside) ∙ ap (λ x. x ∷ drop (n + 1) oid) p.is
          ∙ ap (λ m. column ∷ drop m oid) (sym p.next_is))

      pub column-unlisted : lists t column ≡ false → Delivers (read_instance oid) found found (Err NotAnInstance)
      unfolding read_column
      column-unlisted f = rw (headed, f) (record { answer_is = refl; number_is = refl; buffer_is = refl })

      pub column-listed : lists t column ≡ true → (after : List ℕ) (r : Decoded)
          → Delivers (read_index t column (take (length oid - next) (drop next oid))) found after r → Delivers (read_instance oid) found after r
      unfolding read_column
      column-listed f after r d =
          let a : take (length oid - next) (drop next oid) ≡ drop next oid =
          take_all (length oid - next) (drop next oid) (omega (arith, length-drop next oid)) in
          rw (headed, f, ← a) d
