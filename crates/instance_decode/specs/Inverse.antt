-- Encoding and decoding undo each other (document 01, "Row instances"), of the definitions and of the calls. Assumes nothing.
use Rattle.std.specs.Prelude.{◌≡◌, true, List, ◌++◌, ℕ, ◌≤◌, length, take, drop}
use Rattle.std.proofs.Math.Option.{none, some}
use Rattle.std.specs.Prelude.{Ok}
use Rattle.answers.specs.Types.{Written}
use Rattle.numbers.specs.BigEndian.{Octets}
use Rattle.rows.specs.declared.Table.{Table}
use Rattle.rows.specs.Fields.{faults, values}
use Rattle.rows.specs.Rows.{key_fields, index_of}
use Rattle.instance_decode.specs.Types.{Decoded}
use Rattle.instance_decode.specs.declared.Instance.{Instance}
use Rattle.instance_encode.specs.Instances.{instance, lists, Encodes}
use Rattle.instance_decode.specs.Decoding.{Reading, read_instance, key_bytes, Decodes}

-- ---- of the definitions

-- a listed column and a key without fault
pub record Encodable (t : Table) (column : ℕ) (key : List ℕ) : Type 0 where
  pub listed : lists t column ≡ true
  pub sound : faults (key_fields t) key ≡ none

-- what is read of the instance: the very table and column, and fields whose bytes are the very key
abbrev pub reading_of : Table → ℕ → List ℕ → Reading
reading_of t column key = record { table = t; column = column; fields = values (key_fields t) key }

abbrev pub ReadsWritten : (t : Table) (column : ℕ) (key : List ℕ) → Type 0
ReadsWritten t column key =
    (read_instance (instance t column (index_of t key)) ≡ some (reading_of t column key)) × (key_bytes (reading_of t column key) ≡ key)

-- what is read of an identifier can be written, and is that identifier
pub record WritesRead (oid : List ℕ) (d : Reading) : Type 0 where
  pub encodable : Encodable d.table d.column (key_bytes d)
  pub again : instance d.table d.column (index_of d.table (key_bytes d)) ≡ oid

-- ---- of the calls, by their promises

-- a key is encoded, and the instance decoded: table, column and key again
abbrev pub DecodeAfterEncode : Type 0
DecodeAfterEncode =
    (t : Table) (column : ℕ) (key out out' : List ℕ) (n : ℕ) → Octets key → Encodes t column key out out' (Ok n)
    → (found after : List ℕ) (r : Decoded) → Decodes (take n out') found after r
    → (r ≡ Ok (record { table = t; column = column; key = length key })) × (after ≡ key ++ drop (length key) found)

-- an identifier is decoded, and the key encoded where there is room: the identifier again
abbrev pub EncodeAfterDecode : Type 0
EncodeAfterDecode =
    (oid found after : List ℕ) (i : Instance) → Decodes oid found after (Ok i)
    → (out out' : List ℕ) (r : Written) → length oid ≤ length out → Encodes i.table i.column (take i.key after) out out' r
    → (r ≡ Ok (length oid)) × (out' ≡ oid ++ drop (length oid) out)
