-- Fields read where they lie in a row without fault.
-- A field at a place has its value there and the next begins where its bytes end (`next`). What the fields hold is said of the
-- row's own bytes, with their ranges (`sequence-at`, `integer-at`). A row that ends in a number of one byte has it last.
-- Assumes nothing.
use mathlib.Core.Path.{◌≡◌, refl, ap, ◌∙◌}
use mathlib.Core.List.{List, [], ◌∷◌, ◌++◌}
use mathlib.Core.Option.{none}
use Prim.Native.Nat.{ℕ, zero, suc, ◌+◌, ◌-◌, ◌*◌, ◌≤◌}
use native.Mathlib.Omega.{arith}
use lib.ListN.{length, take, drop, get_or, length-drop}
use lib.Seq.{drop-drop}
use Rattle.rows.specs.declared.Table.TheVariants.{Mapping, Access, View}
use Rattle.numbers.specs.BigEndian.{Width, octet, quad, size, number, numbers}
use Rattle.rows.specs.Fields.{Field, sequence, integer, fault, taken, value, faults, values, span}
use Rattle.rows.specs.Rows.{row_fields, number_at, mapping_of, access_of, view_of}
use Rattle.numbers.proofs.BigEndian.{get_d_front}
use Rattle.rows.proofs.Sound.{within-least, within-most, sequence-range, sequence-room, integer-range, integer-room, field_room, faults-first}
use Rattle.rows.proofs.Sound.{faults-rest, faults-end}
use Rattle.rows.proofs.Appends.{values-append, faults-append}

-- ---- the field at a place, and the next

pub record Next (k : Field) (ks : List Field) (row : List ℕ) (at : ℕ) : Type 0 where
  pub sound : fault k (drop at row) ≡ none
  pub rest : faults ks (drop (at + taken k (drop at row)) row) ≡ none
  pub inside : at + taken k (drop at row) ≤ length row
  pub holds : values (k ∷ ks) (drop at row) ≡ value k (drop at row) ∷ values ks (drop (at + taken k (drop at row)) row)

pub next : (k : Field) (ks : List Field) (row : List ℕ) (at : ℕ) → at ≤ length row → faults (k ∷ ks) (drop at row) ≡ none
    → Next k ks row at
next k ks row at l h =
    let v = drop at row in
    let e : drop (taken k v) v ≡ drop (at + taken k v) row = drop-drop (taken k v) at row in
    let m : taken k v ≤ length v = field_room k v (faults-first k ks v h) in
    record {
      sound = faults-first k ks v h;
      rest = rw e at (faults-rest k ks v h);
      inside = omega (arith, length-drop at row);
      holds = ap (λ u. value k v ∷ values ks u) e;
    }

-- ---- what it holds

-- octets are their own bytes
pub numbers-octet : (n : ℕ) (v : List ℕ) → n ≤ length v → numbers octet n v ≡ take n v
numbers-octet zero v h = refl
numbers-octet (suc n) [] h = absurd (omega arith)
numbers-octet (suc n) (x ∷ v) h = ap (λ u. x ∷ u) (numbers-octet n v (omega arith))

pub record SequenceAt (w : Width) (lo hi : ℕ) (row : List ℕ) (at : ℕ) : Type 0 where
  pub least : lo ≤ get_or row at 0
  pub most : get_or row at 0 ≤ hi
  pub ends : at + taken (sequence w lo hi) (drop at row) ≡ at + 1 + get_or row at 0 * size w
  pub room : at + 1 + get_or row at 0 * size w ≤ length row
  pub reads : value (sequence w lo hi) (drop at row) ≡ numbers w (get_or row at 0) (drop (at + 1) row)

pub sequence-at : (w : Width) (lo hi : ℕ) (row : List ℕ) (at : ℕ) → fault (sequence w lo hi) (drop at row) ≡ none
    → SequenceAt w lo hi row at
sequence-at w lo hi row at h =
    let v = drop at row in
    let e : get_or v 0 0 ≡ get_or row at 0 = get_d_front row at in
    let r = rw e at (sequence-range (size w) lo hi v h) in
    let m : 1 + get_or row at 0 * size w ≤ length v = rw e at (sequence-room (size w) lo hi v h) in
    record {
      least = within-least lo hi (get_or row at 0) r;
      most = within-most lo hi (get_or row at 0) r;
      ends = rw e (omega arith);
      room = omega (arith, length-drop at row);
      reads = rw (e, drop-drop 1 at row);
    }

pub octets-at : (lo hi : ℕ) (row : List ℕ) (at : ℕ) → at + 1 + get_or row at 0 ≤ length row
    → value (sequence octet lo hi) (drop at row) ≡ take (get_or row at 0) (drop (at + 1) row)
octets-at lo hi row at h =
    rw (get_d_front row at, drop-drop 1 at row)
    (numbers-octet (get_or row at 0) (drop (at + 1) row) (omega (arith, length-drop (at + 1) row)))

pub record IntegerAt (w : Width) (lo hi : ℕ) (row : List ℕ) (at : ℕ) : Type 0 where
  pub least : lo ≤ number w (drop at row)
  pub most : number w (drop at row) ≤ hi
  pub room : at + size w ≤ length row

pub size-some : (w : Width) → 1 ≤ size w
size-some octet = omega arith
size-some quad = omega arith

pub integer-at : (w : Width) (lo hi : ℕ) (row : List ℕ) (at : ℕ) → fault (integer w lo hi) (drop at row) ≡ none → IntegerAt w lo hi row at
integer-at w lo hi row at h =
    let v = drop at row in
    record {
      least = within-least lo hi (number w v) (integer-range w lo hi v h);
      most = within-most lo hi (number w v) (integer-range w lo hi v h);
      room = omega (arith, integer-room w lo hi v h, length-drop at row, size-some w);
    }

-- a number of one byte
pub record OctetAt (lo hi : ℕ) (row : List ℕ) (at : ℕ) : Type 0 where
  pub least : lo ≤ get_or row at 0
  pub most : get_or row at 0 ≤ hi
  pub room : at + 1 ≤ length row
  pub reads : value (integer octet lo hi) (drop at row) ≡ get_or row at 0 ∷ []

pub octet-at : (lo hi : ℕ) (row : List ℕ) (at : ℕ) → fault (integer octet lo hi) (drop at row) ≡ none → OctetAt lo hi row at
octet-at lo hi row at h =
    let i = integer-at octet lo hi row at h in
    let e = get_d_front row at in
    record { least = rw e at i.least; most = rw e at i.most; room = i.room; reads = ap (λ n. n ∷ []) e }

-- ---- the last octet

module _ (ks : List Field) (lo hi : ℕ) (row : List ℕ) (h : faults (ks ++ (integer octet lo hi ∷ [])) row ≡ none) where
  last-left : length row - span ks row ≡ 1
  last-left =
      let v = drop (span ks row) row in
      let f = faults-append ks (integer octet lo hi ∷ []) row h in
      let a : 1 ≤ length v = integer-room octet lo hi v (faults-first _ [] v f) in
      let b : length (drop 1 v) ≡ 0 = faults-end (drop 1 v) (faults-rest (integer octet lo hi) [] v f) in
      omega (arith, length-drop 1 v, length-drop (span ks row) row)

  pub last-room : 1 ≤ length row
  last-room = omega (arith, last-left)

  pub last-octet : values (ks ++ (integer octet lo hi ∷ [])) row ≡ values ks row ++ ((get_or row (length row - 1) 0 ∷ []) ∷ [])
  last-octet =
      let e : span ks row ≡ length row - 1 = omega (arith, last-left) in
      values-append ks (integer octet lo hi ∷ []) row
      ∙ ap (λ n. values ks row ++ ((n ∷ []) ∷ [])) (get_d_front row (span ks row) ∙ ap (λ i. get_or row i 0) e)

-- a row's status is its last byte
pub mapping-status : (row : List ℕ) → faults (row_fields Mapping) row ≡ none → (mapping_of row).status ≡ get_or row (length row - 1) 0
unfolding row_fields
mapping-status row h = ap (number_at 4) (last-octet (take 4 (row_fields Mapping)) 1 2 row h)

pub access-status : (row : List ℕ) → faults (row_fields Access) row ≡ none → (access_of row).status ≡ get_or row (length row - 1) 0
unfolding row_fields
access-status row h = ap (number_at 9) (last-octet (take 9 (row_fields Access)) 1 2 row h)

pub view-status : (row : List ℕ) → faults (row_fields View) row ≡ none → (view_of row).status ≡ get_or row (length row - 1) 0
unfolding row_fields
view-status row h = ap (number_at 5) (last-octet (take 5 (row_fields View)) 1 2 row h)
