-- Encoding and decoding undo each other (`specs/Inverse.antt`).
-- Each base begins no other, so the table of an instance is its own. An index made of a key is parsed to its fields, and a parsed index is the one
-- made of them (`instance_fields`, `Indices`); a key's fields and its bytes are each other's too (`rows`, `Inverse`). The calls follow by their promises.
-- Assumes nothing.
use mathlib.Core.Path.{◌≡◌, refl, sym, ap, ◌∙◌}
use mathlib.Core.Bool.{true, ◌&&◌}
use mathlib.Core.List.{List, [], ◌∷◌, ◌++◌}
use mathlib.Core.Option.{Option, none, some, none-ne-some, bind}
use Prim.Native.Nat.{ℕ, ◌≤◌}
use native.Mathlib.Omega.{arith}
use lib.ListN.{length, take, drop, take-append-drop}
use lib.Seq.{take-append_seam, drop-append_seam}
use Rattle.std.specs.Prelude.{Ok}
use Rattle.answers.specs.declared.Fault.{Fault}
use Rattle.answers.specs.Types.{Written}
use Rattle.numbers.specs.Lists.{is_none}
use Rattle.numbers.specs.Order.{begins}
use Rattle.numbers.proofs.Options.{is-none}
use Rattle.numbers.proofs.Bools.{and_left, and_right}
use Rattle.numbers.proofs.Keeps.{find-is}
use Rattle.numbers.proofs.Orders.{begins-true}
use Rattle.rows.specs.declared.Table.{Table}
use Rattle.rows.specs.declared.Table.TheVariants.{Context, Mapping, Access, View}
use Rattle.rows.specs.Fields.{faults, values, index}
use Rattle.rows.specs.Rows.{key_fields, index_of}
use Rattle.rows.proofs.Inverse.{faults-made, values-made, bytes-again, legals-read}
use Rattle.rows.proofs.Sound.{cond-none}
use Rattle.instance_encode.specs.Instances.{base, instance, lists, encode_fault, written, Encodes}
use Rattle.instance_fields.specs.Indices.{parse_index}
use Rattle.instance_decode.specs.declared.Instance.{Instance}
use Rattle.instance_decode.specs.Decoding.{Reading, read_index, read_column, table_of, read_instance, key_bytes, decoded, buffered}
use Rattle.numbers.specs.BigEndian.{Octets}
use Rattle.instance_decode.specs.Inverse.{Encodable, reading_of, ReadsWritten, WritesRead, DecodeAfterEncode, EncodeAfterDecode}
use Rattle.instance_fields.proofs.Indices.{then_some, map-some, cond-some, index-parsed, index-made}
use Rattle.instance_encode.proofs.Answers.{encode-accepted}

-- ---- of the definitions

table-of-base : (t : Table) (v : List ℕ) → table_of (base t ++ v) ≡ some t
unfolding table_of begins
table-of-base Context v = refl
table-of-base Mapping v = refl
table-of-base Access v = refl
table-of-base View v = refl

pub reads-written : (t : Table) (column : ℕ) (key : List ℕ) → Octets key → Encodable t column key → ReadsWritten t column key
unfolding read_instance read_column bind
reads-written t column key b e =
    let ks = key_fields t in
    let xs = values ks key in (
      rw (
        table-of-base t (column ∷ index ks xs),
        drop-append_seam (base t) (column ∷ index ks xs),
        e.listed,
        index-made ks xs (legals-read ks key b e.sound),
      ),
      bytes-again ks key b e.sound,
    )

-- the base found begins the identifier
table-begins : (oid : List ℕ) {t : Table} → table_of oid ≡ some t → begins (base t) oid ≡ true
unfolding table_of
table-begins oid {t} e =
    let ts = Context ∷ Mapping ∷ Access ∷ View ∷ [] in
    (rw e at (find-is (λ u. begins (base u) oid) (λ u. true) ts refl)).0

table-based : (oid : List ℕ) {t : Table} → table_of oid ≡ some t → base t ++ drop (length (base t)) oid ≡ oid
table-based oid {t} e =
    ap (λ u. u ++ drop (length (base t)) oid) (sym (begins-true (base t) oid (table-begins oid e))) ∙ take-append-drop (length (base t)) oid

index-written : (t : Table) (column : ℕ) (v : List ℕ) (d : Reading) → lists t column ≡ true → read_index t column v ≡ some d
    → WritesRead (instance t column v) d
index-written t column v d l e =
    let ks = key_fields t in
    let a = map-some (λ xs. record { table = t; column = column; fields = xs }) (parse_index ks v) e in
    let xs = a.0 in
    let p = index-parsed ks v xs a.1.0 in
    rw (← a.1.1) (record {
      encodable = record { listed = l; sound = faults-made ks xs p.0 };
      again = rw (values-made ks xs p.0) (ap (instance t column) (sym p.1));
    })

column-written : (t : Table) (v : List ℕ) (d : Reading) → read_column t v ≡ some d → WritesRead (base t ++ v) d
unfolding read_column
column-written t [] d e = absurd (none-ne-some d e)
column-written t (c ∷ v) d e =
    let p = cond-some (lists t c) (read_index t c v) d e in
    index-written t c v d p.0 p.1

pub writes-read : (oid : List ℕ) (d : Reading) → read_instance oid ≡ some d → WritesRead oid d
unfolding read_instance bind
writes-read oid d e =
    let a = then_some (table_of oid) (λ t. read_column t (drop (length (base t)) oid)) e in
    let t = a.0 in
    rw (table-based oid a.1.0) at (column-written t (drop (length (base t)) oid) d a.1.1)

-- ---- of the calls

-- what was written was encodable, and is the instance at the front
module _ (t : Table) (column : ℕ) (key out out' : List ℕ) (n : ℕ) (e : Encodes t column key out out' (Ok n)) where
  whole : List ℕ
  whole = instance t column (index_of t key)

  success : (o : Option Fault) (m : ℕ) → Ok n ≡ written o m → (o ≡ none) × (n ≡ m)
  success none m q = (refl, cc)
  success (some f) m q = (cc, cc)

  done : (encode_fault t column key (length out) ≡ none) × (n ≡ length whole)
  unfolding whole
  done = success (encode_fault t column key (length out)) (length whole) e.answer_is

  encodable : Encodable t column key
  unfolding encode_fault
  encodable =
      let a = (cond-none (lists t column && is_none (faults (key_fields t) key)) _ _ done.0).0 in
      record { listed = and_left (lists t column) _ a; sound = is-none (faults (key_fields t) key) (and_right (lists t column) _ a) }

  front : take n out' ≡ whole
  unfolding whole
  front =
      let b : out' ≡ whole ++ drop (length whole) out = e.buffer_is ∙ rw done.0 in
      ap (λ m. take m out') done.1 ∙ ap (take (length whole)) b ∙ take-append_seam whole (drop (length whole) out)

pub decode-after-encode : DecodeAfterEncode
unfolding whole
decode-after-encode t column key out out' n b e found after r d =
    let w = reads-written t column key b (encodable t column key out out' n e) in
    let q : read_instance (take n out') ≡ some (reading_of t column key) = ap read_instance (front t column key out out' n e) ∙ w.0 in (
      d.answer_is ∙ ap decoded q ∙ ap (λ k. Ok (record { table = t; column = column; key = length k })) w.1,
      d.buffer_is ∙ ap (λ o. buffered o found) q ∙ ap (λ k. k ++ drop (length k) found) w.1,
    )

-- what was decoded is read so, and its bytes are the key at the front
record Delivered (o : Option Reading) (after : List ℕ) (i : Instance) : Type 0 where
  it : Reading
  is : o ≡ some it
  table_is : it.table ≡ i.table
  column_is : it.column ≡ i.column
  key_is : take i.key after ≡ key_bytes it

delivered : (o : Option Reading) (found after : List ℕ) (i : Instance) → Ok i ≡ decoded o → after ≡ buffered o found → Delivered o after i
delivered none found after i e b = let z : ◌≡◌ {A = ℕ} 0 1 = cc in absurd (omega arith)
delivered (some d) found after i e b =
    let q : i ≡ record { table = d.table; column = d.column; key = length (key_bytes d) } = cc in
    record {
      it = d;
      is = refl;
      table_is = sym (ap (λ (u : Instance). u.table) q);
      column_is = sym (ap (λ (u : Instance). u.column) q);
      key_is = ap (λ (u : Instance). take u.key after) q ∙ ap (take (length (key_bytes d))) b ∙ take-append_seam (key_bytes d) (drop (length (key_bytes d)) found);
    }

written-again : (oid : List ℕ) (d : Reading) → WritesRead oid d → (out out' : List ℕ) (r : Written) → length oid ≤ length out
    → Encodes d.table d.column (key_bytes d) out out' r → (r ≡ Ok (length oid)) × (out' ≡ oid ++ drop (length oid) out)
written-again oid d w out out' r h e =
    let t = d.table in
    let key = key_bytes d in
    let a : encode_fault t d.column key (length out) ≡ none =
    encode-accepted t d.column key out w.encodable.listed w.encodable.sound (rw w.again h) in
    (e.answer_is ∙ rw a (ap (λ v. Ok (length v)) w.again), e.buffer_is ∙ rw a (ap (λ v. v ++ drop (length v) out) w.again))

pub encode-after-decode : EncodeAfterDecode
encode-after-decode oid found after i d out out' r h e =
    let q = delivered (read_instance oid) found after i d.answer_is d.buffer_is in
    written-again oid q.it (writes-read oid q.it q.is) out out' r h (rw (← q.key_is, q.table_is, q.column_is) e)
