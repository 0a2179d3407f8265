-- Laws of an instance told, encoded or decoded: what the call wrote is the instance, or the key, that its promise names, and the text of
-- either is short. Assumes nothing.
use mathlib.Core.Path.{◌≡◌, refl, sym, ap, ◌∙◌}
use mathlib.Core.Bool.{◌&&◌}
use mathlib.Core.List.{List, [], ◌∷◌, ◌++◌}
use mathlib.Core.Option.{Option, none, some, none-ne-some, bind}
use Prim.Native.Nat.{ℕ, ◌+◌, ◌-◌, ◌*◌, ◌≤◌}
use native.Mathlib.Omega.{arith}
use lib.Dec.{leb}
use lib.ListN.{length, take, drop, length-append}
use lib.Seq.{take-append_seam}
use borrow.Author.Tests.{leb-true}
use Rattle.std.specs.Prelude.{Ok, Err}
use Rattle.answers.specs.declared.Fault.{Fault}
use Rattle.answers.specs.declared.Fault.TheVariants.{TooShort, NotAnInstance}
use Rattle.answers.specs.Types.{Written}
use Rattle.numbers.specs.Lists.{is_none}
use Rattle.rows.specs.declared.Shape.TheVariants.{Key}
use Rattle.rows.specs.declared.Table.{Table}
use Rattle.rows.specs.Fields.{faults, values}
use Rattle.rows.specs.Rows.{key_fields, index_of}
use Rattle.rows.proofs.Sound.{cond-none}
use Rattle.numbers.specs.BigEndian.{Octets}
use Rattle.rows.proofs.Inverse.{values-made, legals-read}
use Rattle.instance_decode.specs.Types.{Decoded}
use Rattle.instance_decode.specs.declared.Instance.{Instance}
use Rattle.instance_encode.specs.Instances.{base, instance, lists, encode_fault, written, Encodes}
use Rattle.instance_fields.specs.Indices.{parse_index}
use Rattle.instance_decode.specs.Decoding.{Reading, read_index, read_column, table_of, read_instance, key_bytes, decoded, buffered, Delivers}
use Rattle.instance_fields.proofs.Indices.{then_some, map-some, cond-some, index-parsed}
use Rattle.instance_decode.proofs.Inverse.{writes-read}
use Rattle.text_values.specs.Texts.{decimal_text, dots_text, dotted_text}
use Rattle.text_rows.specs.RowText.{key_text}
use Rattle.text_values.proofs.Digits.{length-decimal}
use Rattle.text_rows.proofs.TextLength.{length-entry}
use Rattle.call_answers.specs.Answers.{parts, oid_text, instance_word, fault_text, instance_text, column_key_of, decoded_text, answer_room}

-- ---- an instance encoded

dots-short : (xs : List ℕ) → length (dots_text xs) ≤ 21 * length xs
unfolding dots_text
dots-short [] = omega arith
dots-short (x ∷ xs) =
    let ih : length (dots_text xs) ≤ 21 * length xs = dots-short xs in
    omega (arith, length-append (decimal_text x) (dots_text xs), length-decimal x)

pub dotted-short : (xs : List ℕ) → length (dotted_text xs) ≤ 21 * length xs + 20
unfolding dotted_text
dotted-short [] = omega arith
dotted-short (x ∷ xs) = omega (arith, dots-short xs, length-append (decimal_text x) (dots_text xs), length-decimal x)

is-length : (o : Option Fault) (m : ℕ) {n : ℕ} → Ok n ≡ written o m → (o ≡ none) × (n ≡ m)
is-length none m q = (refl, cc)
is-length (some f) m q = (cc, cc)

is-unwritten : (o : Option Fault) (m : ℕ) {f : Fault} → Err f ≡ written o m → o ≡ some f
is-unwritten none m q = cc
is-unwritten (some g) m q = cc

-- what was encoded, and its text
pub record Encoded (t : Table) (column : ℕ) (key after : List ℕ) (n : ℕ) : Type 0 where
  pub oid_room : n ≤ length after
  pub short : length (oid_text ++ dotted_text (take (n - 0) after)) ≤ answer_room
  pub text_is : oid_text ++ dotted_text (take (n - 0) after) ≡ instance_text t column key

module _ (t : Table) (column : ℕ) (key found after : List ℕ) {r : Written} (e : Encodes t column key found after r) (l : length found ≡ parts) where
  whole : List ℕ
  whole = instance t column (index_of t key)

  answer_is : r ≡ written (encode_fault t column key parts) (length whole)
  unfolding whole
  answer_is = e.answer_is ∙ ap (λ n. written (encode_fault t column key n) (length (instance t column (index_of t key)))) l

  pub encoded-fault : {f : Fault} → r ≡ Err f → encode_fault t column key parts ≡ some f
  encoded-fault q = is-unwritten (encode_fault t column key parts) (length whole) (sym q ∙ answer_is)

  module _ {n : ℕ} (q : r ≡ Ok n) where
    sound : (encode_fault t column key parts ≡ none) × (n ≡ length whole)
    sound = is-length (encode_fault t column key parts) (length whole) (sym q ∙ answer_is)

    few : length whole ≤ parts
    unfolding encode_fault whole
    few =
        let a = (cond-none (lists t column && is_none (faults (key_fields t) key)) _ _ sound.0).1 in
        leb-true (length (instance t column (index_of t key))) parts (cond-none (leb (length (instance t column (index_of t key))) parts) none TooShort a).0

    after_is : after ≡ whole ++ drop (length whole) found
    unfolding whole
    after_is =
        let z : encode_fault t column key (length found) ≡ none = ap (encode_fault t column key) l ∙ sound.0 in
        e.buffer_is ∙ rw z

    oid-is : take (n - 0) after ≡ whole
    oid-is =
        let z : n - 0 ≡ length whole = omega (arith, sound.1) in
        ap (λ m. take m after) z ∙ ap (take (length whole)) after_is ∙ take-append_seam whole (drop (length whole) found)

    pub encoded-told : Encoded t column key after n
    unfolding whole
    encoded-told = record {
      oid_room = omega (arith, ap length after_is, length-append whole (drop (length whole) found), sound.1);
      short = rw oid-is (omega (arith, dotted-short whole, few, length-append oid_text (dotted_text whole)));
      text_is = rw sound.0 (ap (λ v. oid_text ++ dotted_text v) oid-is);
    }

-- ---- an instance decoded

pub column-key-short : (t : Table) (column : ℕ) (key : List ℕ) → Octets key → faults (key_fields t) key ≡ none
    → length (column_key_of t column key) ≤ 921
column-key-short t column key b h =
    let fields = values (key_fields t) key in
    omega (
      arith,
      length-append (decimal_text column) (32 ∷ key_text t fields),
      length-decimal column,
      length-entry Key t fields (legals-read (key_fields t) key b h),
    )

column-fields : (t : Table) (v : List ℕ) (d : Reading) → read_column t v ≡ some d → values (key_fields d.table) (key_bytes d) ≡ d.fields
unfolding read_column
column-fields t [] d e = absurd (none-ne-some d e)
column-fields t (c ∷ v) d e =
    let p = cond-some (lists t c) (read_index t c v) d e in
    let a = map-some (λ xs. record { table = t; column = c; fields = xs }) (parse_index (key_fields t) v) p.1 in
    rw (← a.1.1) (values-made (key_fields t) a.0 (index-parsed (key_fields t) v a.0 a.1.0).0)

read-fields : (oid : List ℕ) (d : Reading) → read_instance oid ≡ some d → values (key_fields d.table) (key_bytes d) ≡ d.fields
unfolding read_instance bind
read-fields oid d e =
    let a = then_some (table_of oid) (λ t. read_column t (drop (length (base t)) oid)) e in
    column-fields a.0 (drop (length (base a.0)) oid) d a.1.1

-- what is handed over of a reading
pub record Handed (oid after : List ℕ) (i : Instance) : Type 0 where
  pub key_room : i.key ≤ length after
  pub key_sound : faults (key_fields i.table) (take (i.key - 0) after) ≡ none
  pub text_is : instance_word ++ column_key_of i.table i.column (take (i.key - 0) after) ≡ decoded_text (read_instance oid)

module _ (oid found after : List ℕ) where
  module _ (d : Reading) (q : read_instance oid ≡ some d) (b : after ≡ key_bytes d ++ drop (length (key_bytes d)) found) where
    key_is : take (length (key_bytes d) - 0) after ≡ key_bytes d
    key_is =
        let z : length (key_bytes d) - 0 ≡ length (key_bytes d) = omega arith in
        rw (z, b) (take-append_seam (key_bytes d) (drop (length (key_bytes d)) found))

    handed : Handed oid after (record { table = d.table; column = d.column; key = length (key_bytes d) })
    handed = record {
      key_room = omega (arith, ap length b, length-append (key_bytes d) (drop (length (key_bytes d)) found));
      key_sound = rw key_is (writes-read oid d q).encodable.sound;
      text_is = rw (key_is, q, read-fields oid d q);
    }

  delivered : (o : Option Reading) → read_instance oid ≡ o → {i : Instance} → Ok i ≡ decoded o → after ≡ buffered o found → Handed oid after i
  delivered none q e b = let z : ◌≡◌ {A = ℕ} 0 1 = cc in absurd (omega arith)
  delivered (some d) q {i} e b =
      let x : i ≡ record { table = d.table; column = d.column; key = length (key_bytes d) } = cc in
      rw x (handed d q b)

  undelivered : (o : Option Reading) {f : Fault} → Err f ≡ decoded o → fault_text f ≡ decoded_text o
  undelivered none {f} q = let z : f ≡ NotAnInstance = cc in ap fault_text z
  undelivered (some d) q = cc

  module _ {r : Decoded} (p : Delivers (read_instance oid) found after r) where
    pub decoded-handed : {i : Instance} → r ≡ Ok i → Handed oid after i
    decoded-handed q = delivered (read_instance oid) refl (sym q ∙ p.answer_is) p.buffer_is

    pub decoded-fault : {f : Fault} → r ≡ Err f → fault_text f ≡ decoded_text (read_instance oid)
    decoded-fault q = undelivered (read_instance oid) (sym q ∙ p.answer_is)
