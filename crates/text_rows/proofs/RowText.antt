-- A row's text put field by field, behind the table's word.
-- What is left (`Left`) is a list of fields without fault from a place in the row on, whose text is still to be put. The field at the place is
-- the next part of the text, behind a space, and the next one begins where it ends. Assumes nothing.
use mathlib.Core.Path.{◌≡◌, ap, sym, subst, ◌∙◌}
use mathlib.Core.List.{List, [], ◌∷◌, ◌++◌}
use mathlib.Core.Option.{none}
use Prim.Native.Nat.{ℕ, ◌+◌, ◌≤◌}
use native.Mathlib.Omega.{arith}
use lib.ListN.{length, take, drop, length-append}
use Rattle.rows.specs.declared.Shape.{Shape}
use Rattle.rows.specs.declared.Table.{Table}
use Rattle.rows.specs.declared.Form.{Form}
use Rattle.rows.specs.Fields.{Field, fault, value, faults, values}
use Rattle.rows.specs.Forms.{field_of}
use Rattle.rows.specs.Rows.{key_fields, row_fields, fields_of}
use Rattle.rows.proofs.Places.{Next, next}
use Rattle.text_values.specs.Texts.{Puts}
use Rattle.text_values.proofs.Puts.{Onward, start, room, step, done, both, behind}
use Rattle.text_rows.specs.TableWords.{table_word}
use Rattle.text_rows.specs.FieldText.{field_text, FieldIn}
use Rattle.text_rows.specs.RowText.{fields_text, entry_text}
use Rattle.rows.proofs.Forms.{key-first}

-- ---- field by field

pub record Left (text : List ℕ) (at : ℕ) (w₀ : List ℕ) (ks : List Field) (row : List ℕ) (k o : ℕ) (w : List ℕ) : Type 0 where
  pub inside : k ≤ length row
  pub sound : faults ks (drop k row) ≡ none
  pub onward : Onward text at w₀ (fields_text ks (values ks (drop k row))) o w

pub left-start : (ks : List Field) (row : List ℕ) (at : ℕ) (w : List ℕ) → faults ks row ≡ none
    → at + length (fields_text ks (values ks row)) ≤ length w → Left (fields_text ks (values ks row)) at w ks row 0 at w
left-start ks row at w e h = record { inside = omega arith; sound = e; onward = start h }

module _ {text : List ℕ} {at : ℕ} {w₀ : List ℕ} {row : List ℕ} {k o : ℕ} {w : List ℕ} where
  pub left_end : Left text at w₀ [] row k o w → Puts text at w₀ w o
  unfolding fields_text
  left_end l = done l.onward

  module _ (f : Form) {ks : List Field} (l : Left text at w₀ (field_of f ∷ ks) row k o w) where
    here : Next (field_of f) ks row k
    here = next (field_of f) ks row k l.inside l.sound

    pub field-sound : fault (field_of f) (drop k row) ≡ none
    field-sound = here.sound

    module _ {end : ℕ} (p : FieldIn f row k end) where
      abbrev said : List ℕ
      said = field_text (field_of f) (value (field_of f) (drop k row))

      abbrev others : List ℕ
      others = fields_text ks (values ks (drop end row))

      holds : values (field_of f ∷ ks) (drop k row) ≡ value (field_of f) (drop k row) ∷ values ks (drop end row)
      holds = here.holds ∙ ap {B = List (List ℕ)} (λ i. value (field_of f) (drop k row) ∷ values ks (drop i row)) (sym p.ends)

      parted : Onward text at w₀ ((32 ∷ []) ++ (said ++ others)) o w
      unfolding fields_text
      parted = subst (λ u. Onward text at w₀ (fields_text (field_of f ∷ ks) u) o w) holds l.onward

      pub space-room : o + 1 ≤ length w
      space-room = room (32 ∷ []) (said ++ others) parted

      module _ {o₁ : ℕ} {w₁ : List ℕ} (q : Puts (32 ∷ []) o w w₁ o₁) where
        spaced : Onward text at w₀ (said ++ others) o₁ w₁
        spaced = step (32 ∷ []) (said ++ others) parted q

        pub field_room : o₁ + length (field_text (field_of f) (value (field_of f) (drop k row))) ≤ length w₁
        field_room = room said others spaced

        pub left-next : {o₂ : ℕ} {w₂ : List ℕ} → Puts (field_text (field_of f) (value (field_of f) (drop k row))) o₁ w₁ w₂ o₂
            → Left text at w₀ ks row end o₂ w₂
        left-next r = record {
          inside = p.inside;
          sound = subst (λ i. faults ks (drop i row) ≡ none) (sym p.ends) here.rest;
          onward = step said others spaced r;
        }

-- ---- a row or a key: the table's word, and the fields

pub key-fields : (t : Table) {n : ℕ} → n ≡ length (key_fields t) → take n (row_fields t) ≡ key_fields t
key-fields t e = ap (λ m. take m (row_fields t)) e ∙ key-first t

module _ (s : Shape) (t : Table) (xs : List (List ℕ)) (at : ℕ) (w : List ℕ) (h : at + length (entry_text s t xs) ≤ length w) where
  whole : at + length (table_word t ++ fields_text (fields_of s t) xs) ≤ length w
  unfolding entry_text
  whole = h

  pub word_room : at + length (table_word t) ≤ length w
  word_room = omega (arith, whole, length-append (table_word t) (fields_text (fields_of s t) xs))

  module _ {r : ℕ} {after : List ℕ} (p : Puts (table_word t) at w after r) where
    pub fields-room : r + length (fields_text (fields_of s t) xs) ≤ length after
    fields-room = behind (table_word t) (fields_text (fields_of s t) xs) whole p

    pub entry-put : {e : ℕ} {end : List ℕ} → Puts (fields_text (fields_of s t) xs) r after end e → Puts (entry_text s t xs) at w end e
    unfolding entry_text
    entry-put q = both (table_word t) (fields_text (fields_of s t) xs) whole p q
