-- A row without fault is no longer than its fields allow: a sequence has at most its largest count of parts, a number its width.
-- By table that is 33, 72, 173 and 310 bytes, and of a key 290 at most. Assumes nothing.
use mathlib.Core.Path.{◌≡◌}
use mathlib.Core.List.{List, [], ◌∷◌}
use mathlib.Core.Option.{none}
use Prim.Native.Nat.{ℕ, zero, suc, ◌+◌, ◌*◌, ◌≤◌}
use native.Mathlib.Nat.{mul-le-mul_right}
use native.Mathlib.Omega.{arith}
use lib.ListN.{length, take, drop, get_or, length-drop}
use Rattle.rows.specs.declared.Table.{Table}
use Rattle.rows.specs.declared.Table.TheVariants.{Context, Mapping, Access, View}
use Rattle.numbers.specs.BigEndian.{size}
use Rattle.rows.specs.Fields.{Field, sequence, integer, fault, taken, faults}
use Rattle.rows.specs.Rows.{key_fields, row_fields, row_max, key_max}
use Rattle.rows.proofs.Sound.{within-most, sequence-range, field_room, faults-first, faults-rest, faults-end}

abbrev pub longest_field : Field → ℕ
longest_field (sequence w lo hi) = 1 + hi * size w
longest_field (integer w lo hi) = size w

abbrev pub longest : List Field → ℕ
longest [] = 0
longest (k ∷ ks) = longest_field k + longest ks

field-bounded : (k : Field) (v : List ℕ) → fault k v ≡ none → taken k v ≤ longest_field k
field-bounded (sequence w lo hi) v h =
    let m : get_or v 0 0 ≤ hi = within-most lo hi (get_or v 0 0) (sequence-range (size w) lo hi v h) in
    omega (arith, mul-le-mul_right (size w) m)
field-bounded (integer w lo hi) v h = omega arith

pub bounded : (ks : List Field) (v : List ℕ) → faults ks v ≡ none → length v ≤ longest ks
bounded [] v h = omega (arith, faults-end v h)
bounded (k ∷ ks) v h =
    let n = taken k v in
    let a : n ≤ length v = field_room k v (faults-first k ks v h) in
    let b : n ≤ longest_field k = field-bounded k v (faults-first k ks v h) in
    let i : length (drop n v) ≤ longest ks = bounded ks (drop n v) (faults-rest k ks v h) in
    omega (arith, length-drop n v)

-- the figures
abbrev pub longest_row : Table → ℕ
longest_row Context = 33
longest_row Mapping = 72
longest_row Access = 173
longest_row View = 310

pub longest-most : (t : Table) → longest_row t ≤ row_max
longest-most Context = omega arith
longest-most Mapping = omega arith
longest-most Access = omega arith
longest-most View = omega arith

pub row-bounded : (t : Table) (v : List ℕ) → faults (row_fields t) v ≡ none → length v ≤ longest_row t
unfolding row_fields
row-bounded Context v h = bounded (row_fields Context) v h
row-bounded Mapping v h = bounded (row_fields Mapping) v h
row-bounded Access v h = bounded (row_fields Access) v h
row-bounded View v h = bounded (row_fields View) v h

pub row-longest : (t : Table) → longest (row_fields t) ≤ row_max
unfolding row_fields
row-longest Context = omega arith
row-longest Mapping = omega arith
row-longest Access = omega arith
row-longest View = omega arith

pub key-longest : (t : Table) → longest (key_fields t) ≤ key_max
unfolding key_fields
key-longest Context = omega arith
key-longest Mapping = omega arith
key-longest Access = omega arith
key-longest View = omega arith

pub longest-take : (n : ℕ) (ks : List Field) → longest (take n ks) ≤ longest ks
longest-take zero ks = omega arith
longest-take (suc n) [] = omega arith
longest-take (suc n) (k ∷ ks) = omega (arith, longest-take n ks)
