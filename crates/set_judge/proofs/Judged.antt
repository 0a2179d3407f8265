-- An edit judged by a standing: what is known where its bytes are legal, and what its admission says of its answer. Assumes nothing.
use mathlib.Core.Path.{◌≡◌, sym, ap, ◌∙◌}
use mathlib.Core.Bool.{true}
use mathlib.Core.List.{List}
use Prim.Native.Nat.{ℕ}
use Rattle.std.specs.Prelude.{Ok, Err}
use Rattle.std.specs.Result.{result_or}
use Rattle.answers.specs.declared.Refusal.{Refusal}
use Rattle.answers.specs.declared.Fault.TheVariants.{OutOfRange}
use Rattle.numbers.specs.Lists.{is_none}
use Rattle.numbers.proofs.Bools.{cond-true}
use Rattle.rows.specs.declared.Table.{Table}
use Rattle.rows.specs.Fields.{faults, span}
use Rattle.rows.specs.Rows.{key_fields, fields_of}
use Rattle.rows.specs.Steps.{reached}
use Rattle.rows.specs.Types.{Step}
use Rattle.image_layout.specs.declared.Layout.{Layout}
use Rattle.image_judge.specs.Faults.{tables_at}
use Rattle.decision_parts.specs.Types.{Standing}
use Rattle.edit_rules.specs.declared.Operation.{Operation}
use Rattle.edit_rules.specs.Types.{Edited}
use Rattle.edit_rules.specs.Edits.{Edit, shape_of, index_of_edit, legal_edit, is_context, row_fault, faulted}
use Rattle.edit_rights.specs.Admission.{admission}
use Rattle.edit_rights.specs.Standing.{judged_by}
use Rattle.edits.proofs.Calls.{Ready, legal-is, handed-legal, granted-is, denied-is}
use Rattle.set_judge.specs.Asked.{Judging, judged_with}

module _ (w : List ℕ) (l : Layout) (standing : Standing) where
  pub ready-edit : Judging w l standing → (o : Operation) (t : Table) (bytes : List ℕ) {r : Step} {k : ℕ}
      → r ≡ reached (faults (fields_of (shape_of o) t) bytes) (span (key_fields t) bytes) → result_or r (Err OutOfRange) ≡ Ok k → Ready o t w bytes l k
  ready-edit j o t bytes p e =
      let h = handed-legal o t bytes p e in
      record { sound = j.sound; legal = legal-is o t bytes ∙ ap is_none h.0; whole = h.0; laid = j.laid; key_is = h.1 }

  module _ (e : Edit) (m : legal_edit e ≡ true) where
    pub judged-denied : {r : Edited} {f : Refusal} → r ≡ admission (is_context e.table) (judged_by w standing (shape_of e.operation) e.table (index_of_edit e))
        → r ≡ Err f → r ≡ judged_with w l standing e
    unfolding judged_with
    judged-denied a n = sym (cond-true _ _ m ∙ denied-is (faulted (row_fault true (tables_at w l) e)) (is_context e.table) _ a n)

    pub judged-granted : Ok tt ≡ admission (is_context e.table) (judged_by w standing (shape_of e.operation) e.table (index_of_edit e))
        → faulted (row_fault true (tables_at w l) e) ≡ judged_with w l standing e
    unfolding judged_with
    judged-granted a = sym (cond-true _ _ m ∙ granted-is (faulted (row_fault true (tables_at w l) e)) (is_context e.table) _ a)
