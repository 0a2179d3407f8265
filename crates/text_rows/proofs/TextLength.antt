-- The text of a legal row or key is short: its names have 32 octets at most, its subtree 64 sub-identifiers, and a number of four bytes ten digits.
-- Assumes nothing.
use mathlib.Core.Path.{◌≡◌, refl}
use mathlib.Core.Bool.{true}
use mathlib.Core.List.{List, [], ◌∷◌}
use Prim.Native.Nat.{ℕ, zero, suc, ◌+◌, ◌*◌, ◌≤◌, ◌<◌}
use native.Mathlib.Omega.{arith}
use lib.Dec.{ltb}
use lib.ListN.{length, get_or, length-append}
use borrow.Author.Tests.{ltb-true}
use Rattle.numbers.specs.BigEndian.{Width, octet, quad, bound, fit}
use Rattle.numbers.proofs.Bools.{clash, and_left, and_right}
use Rattle.rows.specs.declared.Shape.{Shape}
use Rattle.rows.specs.declared.Shape.TheVariants.{Row, Key}
use Rattle.rows.specs.declared.Table.{Table}
use Rattle.rows.specs.declared.Table.TheVariants.{Context, Mapping, Access, View}
use Rattle.rows.specs.Fields.{Field, sequence, integer, within, legal, legals}
use Rattle.rows.specs.Rows.{key_fields, row_fields, fields_of}
use Rattle.rows.proofs.Sound.{within-most}
use Rattle.text_rows.specs.TableWords.{table_word}
use Rattle.text_rows.specs.FieldText.{field_text}
use Rattle.text_rows.specs.RowText.{fields_text, entry_text}
use Rattle.text_values.proofs.Digits.{length-decimal-quad}
use Rattle.text_values.proofs.Parts.{length-name, length-dotted}

quads-bound : (xs : List ℕ) → fit quad xs ≡ true → (i : ℕ) → get_or xs i 0 < 4294967296
quads-bound [] h i = omega arith
quads-bound (x ∷ xs) h zero = ltb-true x (bound quad) (and_left _ _ h)
quads-bound (x ∷ xs) h (suc i) = quads-bound xs (and_right (ltb x (bound quad)) _ h) i

bound-most : (w : Width) → bound w ≤ 4294967296
bound-most octet = omega arith
bound-most quad = omega arith

number_bound : (w : Width) (lo hi : ℕ) (x : List ℕ) → legal (integer w lo hi) x ≡ true → get_or x 0 0 < 4294967296
number_bound w lo hi [] h = clash h refl
number_bound w lo hi (x ∷ []) h = omega (arith, ltb-true x (bound w) (and_right (within lo hi x) _ h), bound-most w)
number_bound w lo hi (x ∷ y ∷ ys) h = clash h refl

-- how long a field's text is at most
most : Field → ℕ
most (sequence octet lo hi) = 2 * hi + 1
most (sequence quad lo hi) = 11 * hi + 1
most (integer w lo hi) = 10

field-short : (k : Field) (x : List ℕ) → legal k x ≡ true → length (field_text k x) ≤ most k
unfolding most
field-short (sequence octet lo hi) x h = omega (arith, length-name x, within-most lo hi (length x) (and_left _ _ h))
field-short (sequence quad lo hi) x h =
    omega (arith, length-dotted x (quads-bound x (and_right (within lo hi (length x)) _ h)), within-most lo hi (length x) (and_left _ _ h))
field-short (integer w lo hi) x h = length-decimal-quad (get_or x 0 0) (number_bound w lo hi x h)

-- each with a space
mosts : List Field → ℕ
mosts [] = 0
mosts (k ∷ ks) = suc (most k) + mosts ks

fields-short : (ks : List Field) (xs : List (List ℕ)) → legals ks xs ≡ true → length (fields_text ks xs) ≤ mosts ks
unfolding fields_text mosts legals
fields-short [] xs h = omega arith
fields-short (k ∷ ks) [] h = omega arith
fields-short (k ∷ ks) (x ∷ xs) h =
    let f : length (field_text k x) ≤ most k = field-short k x (and_left _ _ h) in
    let r : length (fields_text ks xs) ≤ mosts ks = fields-short ks xs (and_right (legal k x) _ h) in
    omega (arith, length-append (field_text k x) (fields_text ks xs))

table-short : (s : Shape) (t : Table) → length (table_word t) + mosts (fields_of s t) ≤ 900
unfolding key_fields row_fields mosts most
table-short Row Context = omega arith
table-short Row Mapping = omega arith
table-short Row Access = omega arith
table-short Row View = omega arith
table-short Key Context = omega arith
table-short Key Mapping = omega arith
table-short Key Access = omega arith
table-short Key View = omega arith

pub length-entry : (s : Shape) (t : Table) (xs : List (List ℕ)) → legals (fields_of s t) xs ≡ true → length (entry_text s t xs) ≤ 900
unfolding entry_text
length-entry s t xs h =
    let ks = fields_of s t in
    omega (arith, length-append (table_word t) (fields_text ks xs), fields-short ks xs h, table-short s t)
