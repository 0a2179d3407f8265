use mathlib.Core.Path.{◌≡◌, refl, sym, ap, ◌∙◌}
use mathlib.Core.List.{List, ◌∷◌, map}
use mathlib.Core.Option.{some}
use Prim.Native.Nat.{ℕ, ◌+◌, ◌-◌}
use native.Mathlib.Omega.{arith}
use lib.ListN.{length, take, drop, length-drop}
use lib.Seq.{take_all}
use Rattle.numbers.specs.Lists.{every, find}
use Rattle.numbers.proofs.Bools.{and_left, and_right}
use Rattle.image_layout.specs.Layout.{rows_in}
use Rattle.decision_find.proofs.Chosen.{row-at, no_row}
use Rattle.decision_parts.specs.Parts.{rows_of}
use Rattle.instance_encode.specs.Instances.{base, counted, lists}
use Rattle.instance_encode.proofs.Encoded.{columns-listed, counted_next}
use Rattle.edit_rules.specs.TableRows.{row_of}
use Rattle.walk_rules.specs.Walk.{of_columns}
use Rattle.walk_compare.specs.Onward.{onward}
use Rattle.walk_find.specs.Met.{stops, first_in}
use Rattle.walk_find.proofs.Stops.{column-stops, column-passed}
use Rattle.walk_find.proofs.in_columns.Goals as goal

pub loop-left-init : goal.loop-left-init
loop-left-init c =
    let a = c.args in
    let e = c.columns_of-columns.ensures.listed in (
      refl,
      (
        c.columns_of-columns.ensures.few,
        (
          ap (every (lists a.t)) e ∙ columns-listed a.t,
          ap (λ cs. find (stops (rows_of a.w.now a.v) a.identifier.now)
              (of_columns a.t (map (row_of a.t) (rows_in a.w.now a.x)) cs)) e,
        ),
      ),
    )

-- the parts that are left lie within the identifier

pub in_column-found-requires : goal.in_column-found-requires
in_column-found-requires c =
    let l = c.loop-left in
    record { rows = c.requires.rows; view = c.requires.view; listed = and_left _ _ (rw (counted_next l.column l.left (omega (arith, c.loop-left-test.true))) at l.invariant.1.1.0) }

-- where a column was searched

-- the first of the table is the first in this column and those behind it

pub returns-in-Some : goal.returns-in-Some
returns-in-Some c =
    let column : ℕ = c.loop-left.column in
    let behind : List ℕ = let l = c.loop-left in counted (l.column + 1) (l.left - 1) in
    let next : let l = c.loop-left in counted l.column l.left ≡ column ∷ behind = let l = c.loop-left in counted_next l.column l.left (omega (arith, c.loop-left-test.true)) in
    let left_is : let a = c.args in onward a.identifier.now (base a.t) ≡ some (take (length a.identifier.now - a.k) (drop a.k a.identifier.now)) = let a = c.args in let s = c.requires.left in s.is ∙ sym (ap some (take_all (length a.identifier.now - a.k) (drop a.k a.identifier.now) (omega (arith, length-drop a.k a.identifier.now)))) in
    let first-is : let a = c.args in find (stops (rows_of a.w.now a.v) a.identifier.now) (of_columns a.t (map (row_of a.t) (rows_in a.w.now a.x)) (column ∷ behind)) ≡ first_in a.t (rows_of a.w.now a.v) a.identifier.now a.w.now a.x = rw next at c.loop-left.invariant.1.1.1 in
    let a = c.args in
    let r = row-at c.in_column-found.ensures c.in-Some.is in
    record {
      row = record {
        lies = r.lies;
        whole = r.whole;
        listed = and_left _ _ (rw next at c.loop-left.invariant.1.1.0);
      };
      is = sym (column-stops a.t (rows_of a.w.now a.v) a.identifier.now (map (row_of a.t) (rows_in a.w.now a.x))
          left_is column behind r.is) ∙ first-is;
    }

pub loop-left-preserved : goal.loop-left-preserved
loop-left-preserved c =
    let column : ℕ = c.loop-left.column in
    let behind : List ℕ = let l = c.loop-left in counted (l.column + 1) (l.left - 1) in
    let next : let l = c.loop-left in counted l.column l.left ≡ column ∷ behind = let l = c.loop-left in counted_next l.column l.left (omega (arith, c.loop-left-test.true)) in
    let left_is : let a = c.args in onward a.identifier.now (base a.t) ≡ some (take (length a.identifier.now - a.k) (drop a.k a.identifier.now)) = let a = c.args in let s = c.requires.left in s.is ∙ sym (ap some (take_all (length a.identifier.now - a.k) (drop a.k a.identifier.now) (omega (arith, length-drop a.k a.identifier.now)))) in
    let first-is : let a = c.args in find (stops (rows_of a.w.now a.v) a.identifier.now) (of_columns a.t (map (row_of a.t) (rows_in a.w.now a.x)) (column ∷ behind)) ≡ first_in a.t (rows_of a.w.now a.v) a.identifier.now a.w.now a.x = rw next at c.loop-left.invariant.1.1.1 in
    let a = c.args in
    let l = c.loop-left in
    let n = no_row c.in_column-found.ensures c.in_default.is in (
      refl,
      (
        omega (arith, l.invariant.1.0, c.loop-left-test.true),
        (
          and_right (lists a.t column) _ (rw next at l.invariant.1.1.0),
          sym (column-passed a.t (rows_of a.w.now a.v) a.identifier.now (map (row_of a.t) (rows_in a.w.now a.x))
              left_is column behind n) ∙ first-is,
        ),
      ),
    )

pub returns : goal.returns
returns c =
    let l = c.loop-left in
    let z : l.left ≡ 0 = omega (arith, c.loop-left-test.false) in
    record { row = tt; is = rw z at l.invariant.1.1.1 }
