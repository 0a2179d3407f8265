use mathlib.Core.Path.{◌≡◌, sym, ap, ◌∙◌}
use Prim.Native.Nat.{ℕ, ◌+◌, ◌-◌, ◌≤◌, ◌<◌}
use native.Mathlib.Omega.{arith}
use lib.ListN.{length-set}
use lib.Seq.{set-set}
use Rattle.std.proofs.Common.{rules}
use Rattle.answers.specs.declared.Cause.{Cause}
use Rattle.answers.specs.declared.Decision.{Decision}
use Rattle.answers.specs.declared.Decision.TheVariants.{Allowed, Refused}
use Rattle.decision_steps.specs.Decision.{step5}
use Rattle.decision_parts.specs.Parts.{rows_of}
use Rattle.instance_encode.specs.Instances.{counted}
use Rattle.instance_encode.proofs.Encoded.{counted_next}
use Rattle.edit_rules.specs.Edits.{if_allowed, first_refusal}
use Rattle.edit_rights.proofs.judge_columns.Invariants.{judged_by}
use Rattle.edit_rights.proofs.judge_columns.Goals as goal

-- where a column was judged, the first refusal of all is that of this column or of those behind it
first-is : (judged_here : ℕ → Decision) (column end : ℕ) {r all : Decision} → column < end → r ≡ judged_here column
    → first_refusal judged_here (counted column (end - column)) ≡ all → if_allowed r (first_refusal judged_here (counted (column + 1) (end - (column + 1)))) ≡ all
first-is judged_here column end h e all =
    let left : end - (column + 1) ≡ end - column - 1 = omega arith in
    rw (left, e) (sym (ap (first_refusal judged_here) (counted_next column (end - column) (omega arith))) ∙ all)

-- behind the last column none is judged, and up to the end that the code found those are that are asked for
none-left : (judged_here : ℕ → Decision) (column : ℕ) {end : ℕ} → end ≤ column → Allowed ≡ first_refusal judged_here (counted column (end - column))
none-left judged_here column {end} h = let z : 0 ≡ end - column = omega arith in ap (λ k. first_refusal judged_here (counted column k)) z

all-asked : (judged_here : ℕ → Decision) (first count : ℕ) {end : ℕ} → end ≡ first + count
    → first_refusal judged_here (counted first (end - first)) ≡ first_refusal judged_here (counted first count)
all-asked judged_here first count {end} h =
    let n : end - first ≡ count = omega arith in
    ap (λ k. first_refusal judged_here (counted first k)) n

allowed : {r : Decision} (next : Decision) → r ≡ Allowed → next ≡ if_allowed r next
allowed next e = rw e

refused : {r : Decision} {cause : Cause} (next : Decision) → r ≡ Refused cause → r ≡ if_allowed r next
refused next e = rw e

pub loop-column-preserved : goal.loop-column-preserved
loop-column-preserved c =
    let l = c.loop-column in
    let a = c.args in
    let e = c.decide_variable_in-judged.ensures ∙ ap (λ u. step5 u (rows_of a.w.now a.v)) (l.invariant.own l.column) in record {
      long = length-set l.variable a.at l.column ∙ l.invariant.long;
      own = λ x. set-set l.variable a.at l.column x ∙ l.invariant.own x;
      first = allowed _ c.in-Allowed.is
          ∙ first-is (judged_by a.w.now a.v a.variable.now a.at) l.column _ c.loop-column-test.true e l.invariant.first;
    }

pub returns-in_default : goal.returns-in_default
returns-in_default c =
    let l = c.loop-column in
    let a = c.args in
    let judged : ℕ → Decision = judged_by a.w.now a.v a.variable.now a.at in
    let e = c.decide_variable_in-judged.ensures ∙ ap (λ u. step5 u (rows_of a.w.now a.v)) (l.invariant.own l.column) in
    refused _ c.in_default.is
    ∙ first-is judged l.column _ c.loop-column-test.true e (l.invariant.first ∙ all-asked judged a.columns.first a.columns.count (search (rules, arith)))

pub returns : goal.returns
returns c =
    let l = c.loop-column in
    let a = c.args in
    let judged : ℕ → Decision = judged_by a.w.now a.v a.variable.now a.at in
    none-left judged l.column (omega (arith, c.loop-column-test.false))
    ∙ l.invariant.first ∙ all-asked judged a.columns.first a.columns.count (search (rules, arith))
