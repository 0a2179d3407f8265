-- The owner's and the principals' edits in full (document 01, "Edits" and "Where each number is met"; document 02, tickets 3 and 6), and what the
-- calls promise. Assumes nothing.
use Rattle.std.specs.Prelude.{true, false, cond, ◌&&◌, List, ℕ}
use Rattle.std.specs.Prelude.{Ok, Err}
use Rattle.answers.specs.declared.Refusal.TheVariants.{Barred, Faulty}
use Rattle.answers.specs.declared.Decision.{Decision}
use Rattle.answers.specs.declared.Decision.TheVariants.{Allowed, Refused}
use Rattle.answers.specs.declared.Fault.TheVariants.{NotSound, OutOfRange, ContextTable}
use Rattle.rows.specs.declared.Table.{Table}
use Rattle.rows.specs.Fields.{span}
use Rattle.rows.specs.Rows.{key_fields}
use Rattle.rows.specs.Tables.{Tables}
use Rattle.image_layout.specs.Layout.{layout_of}
use Rattle.image.specs.Store.{is_sound}
use Rattle.edit_rules.specs.declared.Operation.{Operation}
use Rattle.edit_rules.specs.Types.{Edited}
use Rattle.edit_rules.specs.Edits.{Outcome, Edit, Caller, edit_of, legal_caller, legal_edit, judgement, is_context, row_fault, faulted, settled}
pub use Rattle.edit_rules.specs.Edits.{edited_number}
use Rattle.edit_rows.specs.Promise.{Edits}
use Rattle.edits.specs.Types.{Prepared}

-- ---- judged against the rows held, Done where nothing stands against the edit but, it may be, room

-- the owner's: 7, then 10 or 18; unchecked by the tables
unfoldable pub owner_judged : Tables → Edit → Edited
owner_judged t e = cond (legal_edit e) (faulted (row_fault false t e)) (Err (Faulty OutOfRange))

abbrev pub allowed : Decision → Edited → Edited
allowed Allowed r = r
allowed (Refused c) r = Err (Barred c)

-- a principal's: 7 for the caller's fields, then the row's; 12; 1 to 5; 10 or 18, then 11
unfoldable pub principal_judged : Tables → Caller → Edit → Edited
principal_judged t c e =
    cond (legal_caller c && legal_edit e)
    (cond (is_context e.table) (Err (Faulty ContextTable)) (allowed (judgement t c e) (faulted (row_fault true t e))))
    (Err (Faulty OutOfRange))

-- ---- the edits: judged; 9; then applied

unfoldable pub owner_edit : Tables → Edit → Outcome
owner_edit t e = settled (owner_judged t e) t e

unfoldable pub principal_edit : Tables → Caller → Edit → Outcome
principal_edit t c e = settled (principal_judged t c e) t e

-- ---- the calls

-- the owner's call, and a principal's
abbrev pub OwnerEdits : Edit → List ℕ → List ℕ → Edited → Type 0
OwnerEdits e found after r = Edits (λ t. owner_edit t e) found after r

abbrev pub PrincipalEdits : Caller → Edit → List ℕ → List ℕ → Edited → Type 0
PrincipalEdits c e found after r = Edits (λ t. principal_edit t c e) found after r

-- what both begin with: 6 for the store, then 7 for what is handed
abbrev pub prepared : List ℕ → Operation → Table → List ℕ → Prepared
prepared w o t bytes =
    cond (is_sound w) (cond (legal_edit (edit_of o t bytes)) (Ok ((layout_of w), (span (key_fields t) bytes))) (Err OutOfRange)) (Err NotSound)
