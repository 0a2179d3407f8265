-- The columns that an edit writes: there is a first, and each is listed. With a column of an instance exchanged it is the instance of the other.
-- Judged in the view that steps 1 to 4 come to, or denied by them, the columns are judged by the tables. Assumes nothing.
use mathlib.Core.Path.{◌≡◌, refl, ap, ◌∙◌}
use mathlib.Core.Bool.{true}
use mathlib.Core.List.{List, [], ◌∷◌}
use Prim.Native.Nat.{ℕ, zero, suc, ◌≤◌, ◌<◌}
use native.Mathlib.Omega.{arith}
use lib.ListN.{length, set, length-append}
use lib.Seq.{set-append_seam}
use Rattle.std.specs.Prelude.{Ok, Err}
use Rattle.answers.specs.declared.Cause.{Cause}
use Rattle.answers.specs.declared.Decision.TheVariants.{Refused}
use Rattle.numbers.specs.Lists.{every}
use Rattle.numbers.proofs.Bools.{and_left}
use Rattle.rows.specs.declared.Shape.{Shape}
use Rattle.rows.specs.declared.Shape.TheVariants.{Row, Key}
use Rattle.rows.specs.declared.Table.{Table}
use Rattle.rows.specs.declared.Table.TheVariants.{Context, Mapping, Access, View}
use Rattle.image_layout.specs.declared.Layout.{Layout}
use Rattle.image_judge.specs.Faults.{tables_at}
use Rattle.decision_steps.specs.Request.{write}
use Rattle.decision_steps.specs.Decision.{step5}
use Rattle.decision_parts.specs.declared.Authorized.{Authorized}
use Rattle.decision_parts.specs.declared.NamedView.{NamedView}
use Rattle.decision_parts.specs.Types.{Standing}
use Rattle.decision_parts.specs.Parts.{Authorizes, rows_of}
use Rattle.decision_parts.proofs.Decisions.{denied-decision, viewed-decision, viewed-in}
use Rattle.instance_encode.specs.Instances.{base, counted, lists, instance, status_column}
use Rattle.instance_encode.proofs.Encoded.{columns-listed}
use Rattle.edit_rules.specs.Edits.{Caller, columns_written, first_refusal, judgement_at}
use Rattle.edit_rights.specs.Standing.{Stands}
use Rattle.edit_rules.proofs.Refusals.{written_begin, refusals-same, all-refused}

-- ---- the columns

pub status-few : (t : Table) → status_column t ≤ 9
status-few Context = omega arith
status-few Mapping = omega arith
status-few Access = omega arith
status-few View = omega arith

written_listed : (s : Shape) (t : Table) → every (lists t) (columns_written s t) ≡ true
written_listed Row t = columns-listed t
written_listed Key Context = refl
written_listed Key Mapping = refl
written_listed Key Access = refl
written_listed Key View = refl

-- the first of them
pub first-listed : (s : Shape) (t : Table) (column n : ℕ) → counted column n ≡ columns_written s t → lists t column ≡ true
first-listed s t column zero e = let z : [] ≡ (written_begin s t).first ∷ (written_begin s t).others = e ∙ (written_begin s t).is in cc
first-listed s t column (suc n) e = and_left _ _ (ap (every (lists t)) e ∙ written_listed s t)

-- ---- the instance of a column

pub column-set : (t : Table) (column other : ℕ) (index : List ℕ) → set (instance t column index) (length (base t)) other ≡ instance t other index
column-set t column other index = set-append_seam (base t) column index other

pub column-inside : (t : Table) (column : ℕ) (index : List ℕ) → length (base t) < length (instance t column index)
column-inside t column index = omega (arith, length-append (base t) (column ∷ index))

-- ---- by what steps 1 to 4 come to

module _ {w : List ℕ} {l : Layout} (c : Caller) {r : Authorized}
    (k : Authorizes w l c.security_model c.security_name c.security_level write [] r) (s : Shape) (t : Table) (index : List ℕ) where
  judged-denied : {cause : Cause} → r.standing ≡ Err cause → Refused cause ≡ judgement_at (tables_at w l) c s t index
  unfolding judgement_at
  judged-denied e = all-refused _ (λ column. denied-decision k (instance t column index) e) s t

  judged-viewed : {v : NamedView} → r.standing ≡ Ok v
      → first_refusal (λ column. step5 (instance t column index) (rows_of w v)) (columns_written s t) ≡ judgement_at (tables_at w l) c s t index
  unfolding judgement_at
  judged-viewed e = refusals-same (λ column. viewed-decision k (instance t column index) e) (columns_written s t)

-- a standing so found is the caller's
pub stands-in : {w : List ℕ} {l : Layout} (c : Caller) {r : Authorized}
    → Authorizes w l c.security_model c.security_name c.security_level write [] r → Stands w l c r.standing
stands-in {w} {l} c {r} k = found r.standing refl
  where
    found : (v : Standing) → r.standing ≡ v → Stands w l c v
    found (Err cause) e = record { lies = tt; judges = λ s t index. judged-denied c k s t index e }
    found (Ok v) e = record { lies = viewed-in k e; judges = λ s t index. judged-viewed c k s t index e }
