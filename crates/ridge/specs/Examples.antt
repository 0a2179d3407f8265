-- Document 01's examples P1 to P12, as a table and one statement for the table, proved in proofs/Examples.antt. Assumes nothing.
use Rattle.std.specs.Prelude.{◌≡◌, List, [], ◌∷◌, ℕ}
use Rattle.std.proofs.Math.Option.{some}
use Rattle.answers.specs.Numbers.{answer_number}
use Rattle.numbers.specs.BigEndian.{quad, bytes_of}
use Rattle.rows.specs.declared.Table.{Table}
use Rattle.rows.specs.declared.Table.TheVariants.{Mapping}
use Rattle.rows.specs.Fields.{index}
use Rattle.rows.specs.Rows.{key_fields}
use Rattle.rows.specs.Tables.{Tables, no_rows}
use Rattle.image.specs.Examples.{p11, empty_context, p12}
use Rattle.decision_steps.specs.Request.{Request, asked}
use Rattle.decision_steps.specs.Decision.{answer}
use Rattle.instance_encode.specs.Instances.{instance}
use Rattle.image_transfer.specs.Transfer.{image_of}
use Rattle.dugwalen.specs.CCall.{call_number}
use Rattle.ridge.specs.Ridge.{ridge_tables, ridge_image, ann, bob, cal, ridge, ridge1}

pub data Example : Type 0 where
  -- a request on the Ridge tables, and the number of its answer
  answered : Request → ℕ → Example
  -- a table's column and the key's fields, and the instance
  is_instance : Table → ℕ → List (List ℕ) → List ℕ → Example
  -- tables, and their image
  is_image : Tables → List ℕ → Example

-- below 1.3.6.1.2.1.2.2.1
abbrev pub below : List ℕ → List ℕ
below parts = 1 ∷ 3 ∷ 6 ∷ 1 ∷ 2 ∷ 1 ∷ 2 ∷ 2 ∷ 1 ∷ parts

-- security name, level, view type, context, the variable's last parts, the answer
abbrev example : List ℕ → ℕ → ℕ → List ℕ → List ℕ → ℕ → Example
example name level view context parts number = answered (asked 3 name level view context (below parts)) number

abbrev pub examples : List Example
examples =
    -- P1: her own row B includes it
    example ann 3 1 ridge1 (8 ∷ 2 ∷ []) 0
    -- P2: no row of "base" matches
    ∷ example ann 3 1 ridge1 (8 ∷ 3 ∷ []) 5
    -- P3: both rows match, and the greater subtree excludes
    ∷ example ann 3 1 ridge1 (7 ∷ 2 ∷ []) 5
    -- P4: at level 1 row A alone is a candidate
    ∷ example ann 1 1 ridge1 (7 ∷ 2 ∷ []) 0
    -- P5: row A names no view for write
    ∷ example ann 1 2 ridge1 (7 ∷ 2 ∷ []) 4
    -- P6: no row bears the name "gone"
    ∷ example ann 1 3 ridge1 (7 ∷ 2 ∷ []) 4
    -- P7: no context row has the name
    ∷ example ann 3 1 ridge (8 ∷ 2 ∷ []) 1
    -- P8: no mapping row has the principal
    ∷ example bob 3 1 ridge1 (8 ∷ 2 ∷ []) 2
    -- P9: "train" has no access row
    ∷ example cal 3 1 ridge1 (8 ∷ 2 ∷ []) 3
    -- P10: the status of ann's mapping
    ∷ is_instance Mapping 5 ((3 ∷ []) ∷ ann ∷ []) (1 ∷ 3 ∷ 6 ∷ 1 ∷ 6 ∷ 3 ∷ 16 ∷ 1 ∷ 2 ∷ 1 ∷ 5 ∷ 3 ∷ 3 ∷ 97 ∷ 110 ∷ 110 ∷ [])
    -- P11: a fresh image
    ∷ is_image no_rows p11
    -- P12: one empty context
    ∷ is_image empty_context p12
    ∷ []

-- the C call's number of the Ridge image and the request, its variable as big-endian 4-byte parts
abbrev pub from_c : Request → ℕ
from_c q =
    call_number ridge_image q.security_model q.security_name q.security_level q.view_type q.context_name
    (bytes_of quad q.variable_name)

-- what the definitions give, of a request by the C call and by the call on a store; and what document 01 says
abbrev pub given : Example → List ℕ
given (answered request number) = from_c request ∷ answer_number (answer (some ridge_tables) request) ∷ []
given (is_instance t column fields oid) = instance t column (index (key_fields t) fields)
given (is_image tables image) = image_of tables

abbrev pub expected : Example → List ℕ
expected (answered request number) = number ∷ number ∷ []
expected (is_instance t column fields oid) = oid
expected (is_image tables image) = image

-- they are the same in each example
abbrev pub EachHolds : List Example → Type 0
EachHolds [] = Unit {0}
EachHolds (e ∷ es) = (given e ≡ expected e) × EachHolds es

abbrev pub ExamplesHold : Type 0
ExamplesHold = EachHolds examples
