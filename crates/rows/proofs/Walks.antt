-- Laws of fields judged one after the other, from a place of a row on.
-- A walk says of the place that was reached: judging the fields that are left from there answers what judging all of them does. A field
-- without fault takes the walk on, a fault is the answer, and without a field left the place is.
-- A row's fault is that of its key's fields, then that of the others, then bytes over. Assumes nothing.
use mathlib.Core.Path.{◌≡◌, refl, sym, ap, ◌∙◌}
use mathlib.Core.List.{List, [], ◌∷◌, ◌++◌, append-nil}
use mathlib.Core.Option.{Option, none, some}
use Prim.Native.Nat.{ℕ, ◌+◌, ◌≤◌}
use native.Mathlib.Nat.{add-zero}
use native.Mathlib.Omega.{arith}
use lib.ListN.{length, drop, length-drop}
use lib.Seq.{drop-drop}
use Rattle.answers.specs.declared.Fault.{Fault}
use Rattle.std.specs.declared.result.Result.{Result}
use Rattle.std.specs.declared.result.Result.TheVariants.{Ok, Err}
use Rattle.rows.specs.Fields.{Field, fault, taken, or_else, fronts, faults, span}
use Rattle.rows.specs.Steps.{reached, field_step, fields_step}
use Rattle.rows.proofs.Sound.{field_room}
use Rattle.rows.proofs.Appends.{faults-fronts, fronts-room}

-- an answer read back
pub reached-at : (o : Option Fault) (n a : ℕ) → reached o n ≡ Ok a → (o ≡ none) × (n ≡ a)
reached-at none n a e = (refl, cc)
reached-at (some f) n a e = (cc, cc)

pub reached-bad : (o : Option Fault) (n : ℕ) (f : Fault) → reached o n ≡ Err f → o ≡ some f
reached-bad none n f e = cc
reached-bad (some g) n f e = cc

-- ---- fields from a place on

pub record Walk (all : Result ℕ Fault) (left : List Field) (row : List ℕ) (at : ℕ) : Type 0 where
  pub judged : fields_step left row at ≡ all
  pub inside : at ≤ length row

pub start : (ks : List Field) (row : List ℕ) (from : ℕ) → from ≤ length row → Walk (fields_step ks row from) ks row from
start ks row from h = record { judged = refl; inside = h }

module _ {all : Result ℕ Fault} {k : Field} {ks : List Field} {row : List ℕ} {at : ℕ} {s : Result ℕ Fault} (w : Walk all (k ∷ ks) row at) (e : s ≡ field_step k row at) where
  pub go : {a : ℕ} → s ≡ Ok a → Walk all ks row a
  unfolding fronts span
  go {a} q =
      let v = drop at row in
      let r = reached-at (fault k v) (at + taken k v) a (sym e ∙ q) in
      let m : taken k v ≤ length v = field_room k v r.0 in
      let d : drop (taken k v) v ≡ drop a row = drop-drop (taken k v) at row ∙ ap (λ n. drop n row) r.1 in
      let n : a + span ks (drop a row) ≡ at + (taken k v + span ks (drop (taken k v) v)) = rw d (omega arith) in
      record {
        judged = ap (reached (fronts ks (drop a row))) n ∙ ap (λ u. reached (fronts ks u) (at + (taken k v + span ks (drop (taken k v) v)))) (sym d)
            ∙ ap (λ o. reached (or_else o (fronts ks (drop (taken k v) v))) (at + (taken k v + span ks (drop (taken k v) v)))) (sym r.0)
            ∙ w.judged;
        inside = omega (arith, length-drop at row, w.inside);
      }

  pub stop : {f : Fault} → s ≡ Err f → s ≡ all
  unfolding fronts
  stop {f} q = q ∙ (rw (reached-bad (fault k (drop at row)) (at + taken k (drop at row)) f (sym e ∙ q)) at w.judged)

pub arrive : {all : Result ℕ Fault} {row : List ℕ} {at : ℕ} → Walk all [] row at → Ok at ≡ all
unfolding fronts span
arrive {all} {row} {at} w = ap Ok (sym (add-zero at)) ∙ w.judged

-- ---- the fields of a row in two parts, and bytes over

module _ (ps : List Field) (row : List ℕ) (from : ℕ) {s : Result ℕ Fault} (e : s ≡ fields_step ps row from) where
  pub fields-stop : {f : Fault} → s ≡ Err f → (qs : List Field) (n : ℕ) → s ≡ reached (faults (ps ++ qs) (drop from row)) n
  fields-stop {f} q qs n =
      q ∙ sym (rw (faults-fronts ps qs (drop from row), reached-bad (fronts ps (drop from row)) _ f (sym e ∙ q)))

  pub fields-bad : {f : Fault} → s ≡ Err f → (n : ℕ) → s ≡ reached (faults ps (drop from row)) n
  fields-bad q n = fields-stop q [] n ∙ ap (λ u. reached (faults u (drop from row)) n) (append-nil ps)

  module _ {a : ℕ} (q : s ≡ Ok a) where
    passed : (fronts ps (drop from row) ≡ none) × (from + span ps (drop from row) ≡ a)
    passed = reached-at (fronts ps (drop from row)) (from + span ps (drop from row)) a (sym e ∙ q)

    pub fields-end : from + span ps (drop from row) ≡ a
    fields-end = passed.1

    pub fields-inside : from ≤ length row → a ≤ length row
    fields-inside h = omega (arith, fronts-room ps (drop from row) passed.0, fields-end, length-drop from row)

    pub fields_go : (qs : List Field) → faults (ps ++ qs) (drop from row) ≡ faults qs (drop a row)
    fields_go qs =
        faults-fronts ps qs (drop from row)
        ∙ rw (passed.0, drop-drop (span ps (drop from row)) from row, fields-end)

    pub fields-whole : faults ps (drop from row) ≡ faults [] (drop a row)
    fields-whole = ap (λ u. faults u (drop from row)) (sym (append-nil ps)) ∙ fields_go []
