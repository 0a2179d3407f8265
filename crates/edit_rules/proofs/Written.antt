-- What the judgement of an edit comes to (`EveryColumnCounts`). Where the first refusal over columns allows, each is allowed; where it refuses, the columns
-- follow one another, so the first that is refused is the least. Assumes nothing.
use mathlib.Core.Path.{◌≡◌, refl, ap, ◌∙◌}
use mathlib.Core.Bool.{true}
use mathlib.Core.List.{List, [], ◌∷◌}
use Prim.Native.Nat.{ℕ, zero, suc, ◌+◌, ◌≤◌, ◌<◌}
use native.Mathlib.Omega.{arith}
use lib.Dec.{eqb}
use borrow.Author.Tests.{eqb-true, eq-eqb}
use Rattle.answers.specs.declared.Cause.{Cause}
use Rattle.answers.specs.declared.Decision.{Decision}
use Rattle.answers.specs.declared.Decision.TheVariants.{Allowed, Refused}
use Rattle.numbers.specs.Lists.{any}
use Rattle.numbers.proofs.Bools.{split, clash}
use Rattle.rows.specs.declared.Table.{Table}
use Rattle.rows.specs.declared.Table.TheVariants.{Context, Mapping, Access, View}
use Rattle.instance_encode.specs.Instances.{columns, counted, status_column}
use Rattle.edit_rules.specs.Edits.{column_judged, if_allowed, first_refusal, judgement_at}
use Rattle.edit_rules.specs.Columns.{EveryColumnCounts}

allowed-first : (d next : Decision) → if_allowed d next ≡ Allowed → d ≡ Allowed
allowed-first Allowed next e = refl
allowed-first (Refused cause) next e = e

allowed-next : (d next : Decision) → if_allowed d next ≡ Allowed → next ≡ Allowed
allowed-next Allowed next e = e
allowed-next (Refused cause) next e = cc

only : (d : Decision) → if_allowed d Allowed ≡ d
only Allowed = refl
only (Refused cause) = refl

module _ (judged : ℕ → Decision) where
  each-allowed : (xs : List ℕ) → first_refusal judged xs ≡ Allowed → (x : ℕ) → any (eqb x) xs ≡ true → judged x ≡ Allowed
  each-allowed [] e x i = cc
  each-allowed (y ∷ xs) e x i =
      split (eqb x y) (λ q. ap judged (eqb-true x y q) ∙ allowed-first (judged y) (first_refusal judged xs) e)
      (λ q. each-allowed xs (allowed-next (judged y) (first_refusal judged xs) e) x (rw q at i))

  -- the least that is refused
  record Met (xs : List ℕ) (cause : Cause) : Type 0 where
    at : ℕ
    inside : any (eqb at) xs ≡ true
    refused : judged at ≡ Refused cause
    below : (x : ℕ) → any (eqb x) xs ≡ true → x < at → judged x ≡ Allowed

  from_first : (first n x : ℕ) → any (eqb x) (counted first n) ≡ true → first ≤ x
  from_first first zero x i = clash i refl
  from_first first (suc n) x i =
      split (eqb x first) (λ q. omega (arith, eqb-true x first q)) (λ q. omega (arith, from_first (first + 1) n x (rw q at i)))

  -- with the first judged, and those behind it met
  met_by : (first n : ℕ) {cause : Cause} (d : Decision) → judged first ≡ d → if_allowed d (first_refusal judged (counted (first + 1) n)) ≡ Refused cause
      → (first_refusal judged (counted (first + 1) n) ≡ Refused cause → Met (counted (first + 1) n) cause) → Met (counted first (suc n)) cause
  met_by first n Allowed q e next =
      let m = next e in
      record {
        at = m.at;
        inside = split (eqb m.at first) (λ h. rw h) (λ h. rw h m.inside);
        refused = m.refused;
        below = λ x i h. split (eqb x first) (λ y. ap judged (eqb-true x first y) ∙ q) (λ y. m.below x (rw y at i) h);
      }
  met_by first n (Refused other) q e next =
      record {
        at = first;
        inside = rw (eq-eqb first first refl);
        refused = q ∙ e;
        below = λ x i h. absurd (omega (arith, from_first first (suc n) x i));
      }

  met : (first n : ℕ) {cause : Cause} → first_refusal judged (counted first n) ≡ Refused cause → Met (counted first n) cause
  met first zero e = let z : ◌≡◌ {A = ℕ} 0 1 = cc e in absurd (omega arith)
  met first (suc n) e = met_by first n (judged first) refl e (met (first + 1) n)

  met-column : (t : Table) {cause : Cause} → first_refusal judged (columns t) ≡ Refused cause → Met (columns t) cause
  met-column Context e = met 1 1 e
  met-column Mapping e = met 3 3 e
  met-column Access e = met 4 6 e
  met-column View e = met 3 4 e

pub every-column-counts : EveryColumnCounts
unfolding judgement_at
every-column-counts = record {
  put_allowed = λ ts c t index e. each-allowed (column_judged ts c t index) (columns t) e;
  put_refused = λ ts c t index e.
      let m = met-column (column_judged ts c t index) t e in
      record { column = m.at; listed = m.inside; refused = m.refused; below = m.below };
  removal = λ ts c t index. only (column_judged ts c t index (status_column t));
}
