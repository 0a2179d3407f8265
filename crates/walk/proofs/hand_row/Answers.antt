-- `walk::hand_row` meets its contract: the key at the front of a whole row is legal, so that a listed column of it is always encoded; what is written is
-- the instance, and what is copied the key (`Reached`). Assumes nothing.
use mathlib.Core.Path.{◌≡◌, refl, ◌∙◌}
use mathlib.Core.List.{List}
use Prim.Native.Nat.{ℕ, ◌+◌, ◌-◌, ◌≤◌}
use native.Mathlib.Omega.{arith}
use lib.ListN.{length, take, drop}
use Rattle.numbers.specs.BigEndian.{Octets}
use Rattle.numbers.proofs.Laid.{laid-paste}
use Rattle.instance_encode.proofs.Encoded.{encoded-always}
use Rattle.rows.specs.declared.Table.{Table}
use Rattle.rows.specs.Fields.{span}
use Rattle.rows.specs.Rows.{key_fields}
use Rattle.decision_parts.specs.Parts.{part}
use Rattle.walk_find.specs.Met.{RowMet}
use Rattle.walk.proofs.Reached.{key-ends, key-short, slice-length, slice-legal, hands-row}
use Rattle.walk.proofs.hand_row.Goals as goal

-- where the key ends
inside : (w : List ℕ) → Octets w → (t : Table) (column at end : ℕ) → RowMet w t column at end → (n : ℕ) → n ≡ span (key_fields t) (part w at end)
    → at + n ≤ length w
inside w o t column at end m n e = omega (arith, key-ends w o t column at end m n e, m.lies.starts, m.lies.ends)

pub overflow_add-to : goal.overflow_add-to
overflow_add-to c =
    let octets : Octets c.args.w.now = λ i. omega (arith, c.shared_slice_known-1.given i) in
    let h = inside c.args.w.now octets c.args.t c.args.column c.args.at c.args.end c.requires.row c.key_end-n.result c.key_end-n.ensures in
    omega (arith, h)

pub slice_bounds-encode-end : goal.slice_bounds-encode-end
slice_bounds-encode-end c =
    let octets : Octets c.args.w.now = λ i. omega (arith, c.shared_slice_known-1.given i) in
    inside c.args.w.now octets c.args.t c.args.column c.args.at c.args.end c.requires.row c.key_end-n.result c.key_end-n.ensures

pub slice_bounds-copy_in-end : goal.slice_bounds-copy_in-end
slice_bounds-copy_in-end c =
    let octets : Octets c.args.w.now = λ i. omega (arith, c.shared_slice_known-1.given i) in
    inside c.args.w.now octets c.args.t c.args.column c.args.at c.args.end c.requires.row c.key_end-n.result c.key_end-n.ensures

pub copy_in-requires : goal.copy_in-requires
copy_in-requires c =
    let octets : Octets c.args.w.now = λ i. omega (arith, c.shared_slice_known-1.given i) in
    let to : ℕ = c.args.at + c.key_end-n.result in
    let a = c.args in
    let n = c.key_end-n.result in
    let m = c.requires.row in
    omega (
      arith,
      slice-length a.w.now octets a.t a.column a.at a.end m n c.key_end-n.ensures to refl,
      key-short a.w.now octets a.t a.column a.at a.end m n c.key_end-n.ensures,
      c.requires.room,
    )

pub returns-in-Ok : goal.returns-in-Ok
returns-in-Ok c =
    let octets : Octets c.args.w.now = λ i. omega (arith, c.shared_slice_known-1.given i) in
    let to : ℕ = c.args.at + c.key_end-n.result in
    let a = c.args in
    hands-row a.w.now octets a.t a.column a.at a.end c.requires.row c.key_end-n.result c.key_end-n.ensures to refl
    c.encode.ensures c.requires.parts c.in-Ok.is
    (c.copy_in.ensures ∙ laid-paste 0 (take (to - a.at) (drop a.at a.w.now)) a.key.now)

pub returns-in-Err : goal.returns-in-Err
returns-in-Err c =
    let octets : Octets c.args.w.now = λ i. omega (arith, c.shared_slice_known-1.given i) in
    let to : ℕ = c.args.at + c.key_end-n.result in
    let a = c.args in
    absurd (encoded-always a.t a.column _ c.requires.row.listed
    (slice-legal a.w.now octets a.t a.column a.at a.end c.requires.row c.key_end-n.result c.key_end-n.ensures to refl)
    c.encode.ensures c.requires.parts c.in-Err.is)
