-- What the calls promise, by what the code finds.
-- A store that is not sound is 6, and what is handed out of its ranges 7, to the owner (`owner-illegal`) and to a principal
-- (`unready-principal`) alike. Otherwise the owner's edit is the edit. A principal's is 7 for the caller's fields; a context row or the tables' refusal,
-- where it is not admitted; and otherwise what the edit itself leaves, under the storage rules. Assumes nothing.
use mathlib.Core.Path.{◌≡◌, refl, sym, ap, ap₂, subst, ◌∙◌}
use mathlib.Core.Bool.{Bool, true, false, cond}
use mathlib.Core.List.{List}
use mathlib.Core.Option.{Option, none, some}
use Prim.Native.Nat.{ℕ, ◌-◌}
use native.Mathlib.Omega.{arith}
use Rattle.std.specs.Prelude.{Ok, Err}
use Rattle.answers.specs.declared.Refusal.{Refusal}
use Rattle.answers.specs.declared.Refusal.TheVariants.{Faulty}
use Rattle.answers.specs.declared.Decision.{Decision}
use Rattle.answers.specs.declared.Decision.TheVariants.{Allowed, Refused}
use Rattle.answers.specs.declared.Fault.{Fault}
use Rattle.answers.specs.declared.Fault.TheVariants.{NotSound, OutOfRange, ContextTable}
use Rattle.numbers.specs.Lists.{is_none}
use Rattle.numbers.proofs.Options.{is-none}
use Rattle.numbers.proofs.Bools.{split, cond-false, and-false-left, and-false-right}
use Rattle.rows.specs.declared.Table.{Table}
use Rattle.rows.specs.Fields.{faults, span}
use Rattle.rows.specs.Rows.{key_fields, fields_of, index_of}
use Rattle.rows.specs.Tables.{Tables}
use Rattle.rows.specs.Steps.{reached}
use Rattle.rows.specs.Types.{Step}
use Rattle.std.specs.Result.{result_or}
use Rattle.image_layout.specs.declared.Layout.{Layout}
use Rattle.image_layout.specs.Layout.{layout_of}
use Rattle.image_judge.specs.Faults.{tables_at}
use Rattle.image.specs.Store.{is_sound}
use Rattle.edit_rules.specs.declared.Operation.{Operation}
use Rattle.edit_rules.specs.Types.{Edited}
use Rattle.edit_rules.specs.Edits.{Edit, Caller, edit_of, shape_of, edit, legal_caller, legal_edit, index_of_edit, judgement, is_context}
use Rattle.edit_rules.specs.Edits.{Outcome, outcome, row_fault, faulted, settled}
use Rattle.edits.specs.Types.{Prepared}
use Rattle.edits.specs.Calls.{allowed, owner_judged, principal_judged, owner_edit, principal_edit, OwnerEdits, PrincipalEdits, prepared}
use Rattle.edit_rules.proofs.Outcomes.{tables, done-refused}
use Rattle.edit_rows.specs.Promise.{Edits}
use Rattle.edit_rows.proofs.Stores.{store_rows, edits-unsound, edits-refused, edits-same}
use Rattle.edit_rights.specs.Admission.{admission}
use Rattle.edit_rights.specs.Standing.{Stands, judged_by}
use Rattle.edit_rules.proofs.Keys.{key-part, key_legal, key-index}
use Rattle.decision_parts.specs.Types.{Standing}
use Rattle.rows.specs.declared.Shape.{Shape}
use Rattle.numbers.specs.BigEndian.{Octets}
use lib.ListN.{take}

-- ---- what is handed

pub legal-is : (c : Operation) (t : Table) (bytes : List ℕ) → legal_edit (edit_of c t bytes) ≡ is_none (faults (fields_of (shape_of c) t) bytes)
unfolding legal_edit
legal-is c t bytes = refl

-- ---- what both kinds of call begin with

ready-is : (a b : Bool) (d : Layout) (n : ℕ) {l : Layout} {k : ℕ} → ◌≡◌ {A = Prepared} (Ok (l, k)) (cond a (cond b (Ok (d, n)) (Err OutOfRange)) (Err NotSound))
    → (a ≡ true) × (b ≡ true) × (l ≡ d) × (k ≡ n)
ready-is true true d n {l} {k} e = let p : ◌≡◌ {A = Layout × ℕ} (l, k) (d, n) = cc e in (refl, refl, ap (λ q. q.0) p, ap (λ q. q.1) p)
ready-is true false d n e = (refl, cc, cc, cc)
ready-is false b d n e = (cc, cc, cc, cc)

-- the store is sound, and what is handed legal: where the tables lie, and where the key ends
pub record Ready (o : Operation) (t : Table) (w bytes : List ℕ) (l : Layout) (k : ℕ) : Type 0 where
  pub sound : is_sound w ≡ true
  pub legal : legal_edit (edit_of o t bytes) ≡ true
  pub whole : faults (fields_of (shape_of o) t) bytes ≡ none
  pub laid : l ≡ layout_of w
  pub key_is : k ≡ span (key_fields t) bytes

pub legal-whole : (o : Operation) (t : Table) (bytes : List ℕ) → legal_edit (edit_of o t bytes) ≡ true → faults (fields_of (shape_of o) t) bytes ≡ none
legal-whole o t bytes m = is-none (faults (fields_of (shape_of o) t) bytes) (sym (legal-is o t bytes) ∙ m)

module _ (c : Operation) (t : Table) (w bytes : List ℕ) where
  pub ready : {l : Layout} {k : ℕ} → Ok (l, k) ≡ prepared w c t bytes → Ready c t w bytes l k
  ready e =
      let p = ready-is (is_sound w) (legal_edit (edit_of c t bytes)) (layout_of w) (span (key_fields t) bytes) e in record {
        sound = p.0;
        legal = p.1;
        whole = legal-whole c t bytes p.1;
        laid = p.2;
        key_is = p.3;
      }

  pub prepared-unsound : is_sound w ≡ false → Err NotSound ≡ prepared w c t bytes
  prepared-unsound a = sym (cond-false _ _ a)

  pub prepared-illegal : is_sound w ≡ true → legal_edit (edit_of c t bytes) ≡ false → Err OutOfRange ≡ prepared w c t bytes
  prepared-illegal a f = rw (a, f)

  pub prepared-ready : is_sound w ≡ true → faults (fields_of (shape_of c) t) bytes ≡ none → {l : Layout} {k : ℕ} → l ≡ layout_of w → k ≡ span (key_fields t) bytes
      → Ok (l, k) ≡ prepared w c t bytes
  prepared-ready a f q e = rw (a, legal-is c t bytes, f, q, e)

  pub unready-principal : (who : Caller) {g : Fault} → Err g ≡ prepared w c t bytes → PrincipalEdits who (edit_of c t bytes) w w (Err (Faulty g))
  unfolding principal_edit principal_judged
  unready-principal who {g} e =
      let f : Tables → Outcome = λ ts. principal_edit ts who (edit_of c t bytes) in
      split (is_sound w)
      (λ a. split (legal_edit (edit_of c t bytes)) (λ b. let z : ◌≡◌ {A = ℕ} 0 1 = cc (rw (a, b) at e) in absurd (omega arith))
      (λ b. let z : g ≡ OutOfRange = cc (rw (a, b) at e) in rw z (edits-refused f w a (Err (Faulty OutOfRange)) (rw (and-false-right (legal_caller who) b)))))
      (λ a. let z : g ≡ NotSound = cc (rw a at e) in rw z (edits-unsound f w a))

-- ---- what is handed, judged: 7 whatever is wrong with it

pub handed-legal : (o : Operation) (t : Table) (bytes : List ℕ) {r : Step} {k : ℕ}
    → r ≡ reached (faults (fields_of (shape_of o) t) bytes) (span (key_fields t) bytes)
    → result_or r (Err OutOfRange) ≡ Ok k → (faults (fields_of (shape_of o) t) bytes ≡ none) × (k ≡ span (key_fields t) bytes)
handed-legal o t bytes {r} {k} p e = judged (faults (fields_of (shape_of o) t) bytes) (span (key_fields t) bytes) (rw p at e)
  where
    judged : (f : Option Fault) (n : ℕ) → result_or (reached f n) (Err OutOfRange) ≡ Ok k → (f ≡ none) × (k ≡ n)
    judged none n e = (refl, cc)
    judged (some g) n e = (cc, cc)

pub handed-illegal : (o : Operation) (t : Table) (bytes : List ℕ) {r : Step} {f : Fault}
    → r ≡ reached (faults (fields_of (shape_of o) t) bytes) (span (key_fields t) bytes)
    → result_or r (Err OutOfRange) ≡ Err f → (f ≡ OutOfRange) × (legal_edit (edit_of o t bytes) ≡ false)
unfolding legal_edit
handed-illegal o t bytes {r} {f} p e = judged (faults (fields_of (shape_of o) t) bytes) (span (key_fields t) bytes) (rw p at e)
  where
    judged : (g : Option Fault) (n : ℕ) → result_or (reached g n) (Err OutOfRange) ≡ Err f → (f ≡ OutOfRange) × (is_none g ≡ false)
    judged none n e = (cc, cc)
    judged (some g) n e = (cc, refl)

-- ---- the owner's edit: 7 of what is not legal, and otherwise the edit

pub owner-illegal : (e : Edit) (w : List ℕ) → is_sound w ≡ true → legal_edit e ≡ false → OwnerEdits e w w (Err (Faulty OutOfRange))
unfolding owner_edit owner_judged
owner-illegal e w h l = edits-refused (λ ts. owner_edit ts e) w h (Err (Faulty OutOfRange)) (rw l)

pub owner-legal : (e : Edit) (w : List ℕ) {after : List ℕ} {r : Edited} → legal_edit e ≡ true → Edits (λ ts. edit false ts e) w after r → OwnerEdits e w after r
unfolding owner_edit owner_judged edit
owner-legal e w {after} {r} l k =
    subst (λ b. Edits (λ ts. settled (cond b (faulted (row_fault false ts e)) (Err (Faulty OutOfRange))) ts e) w after r) (sym l) k

-- ---- admission

pub granted-free : (b : Bool) (j : Decision) → Ok tt ≡ admission b j → b ≡ false
granted-free true j a = cc
granted-free false j a = refl

-- what is judged by the key at the front of the bytes is the edit's judgement
module _ {o : Operation} {t : Table} {w bytes : List ℕ} {l : Layout} {k : ℕ} (r : Ready o t w bytes l k) (d : Octets bytes) where
  pub front-whole : faults (key_fields t) (take (k - 0) bytes) ≡ none
  front-whole = rw (key-part t bytes (sym r.key_is)) (key_legal (shape_of o) t bytes d r.whole)

  pub front-judged : (s : Standing) {y : Shape} → y ≡ shape_of o → {a : Edited}
      → a ≡ admission (is_context t) (judged_by w s y t (index_of t (take (k - 0) bytes)))
      → a ≡ admission (is_context t) (judged_by w s (shape_of o) t (index_of_edit (edit_of o t bytes)))
  unfolding index_of_edit
  front-judged s q a =
      a ∙ ap (admission (is_context t))
      (ap₂ (λ y index. judged_by w s y t index) q (ap (index_of t) (key-part t bytes (sym r.key_is)) ∙ key-index (shape_of o) t bytes d r.whole))

  pub admitted : {who : Caller} {s : Standing} → Stands w l who s → {y : Shape} → y ≡ shape_of o → {a : Edited}
      → a ≡ admission (is_context t) (judged_by w s y t (index_of t (take (k - 0) bytes)))
      → a ≡ admission (is_context t) (judgement (tables_at w l) who (edit_of o t bytes))
  admitted {s = s} stands q a = front-judged s q a ∙ ap (admission (is_context t)) (stands.judges (shape_of o) t (index_of_edit (edit_of o t bytes)))

module _ (v : Edited) where
  pub granted-is : (b : Bool) (j : Decision) → Ok tt ≡ admission b j → cond b (Err (Faulty ContextTable)) (allowed j v) ≡ v
  granted-is true j a = cc
  granted-is false Allowed a = refl
  granted-is false (Refused x) a = cc

  pub denied-is : (b : Bool) (j : Decision) {r : Edited} {f : Refusal} → r ≡ admission b j → r ≡ Err f → cond b (Err (Faulty ContextTable)) (allowed j v) ≡ r
  denied-is true j a n = sym a
  denied-is false Allowed a n = absurd (done-refused (sym a ∙ n))
  denied-is false (Refused x) a n = sym a

-- a denial is no edit made
denied-settled : (b : Bool) (j : Decision) {r : Edited} {f : Refusal} → r ≡ admission b j → r ≡ Err f → (ts : Tables) (e : Edit) → settled r ts e ≡ outcome r ts
denied-settled true j a n ts e = rw a refl
denied-settled false Allowed a n ts e = absurd (done-refused (sym a ∙ n))
denied-settled false (Refused x) a n ts e = rw a refl

-- ---- a principal's edit of a sound store, by what is legal

module _ (who : Caller) (e : Edit) (w : List ℕ) (h : is_sound w ≡ true) where
  pub caller-illegal : legal_caller who ≡ false → PrincipalEdits who e w w (Err (Faulty OutOfRange))
  unfolding principal_edit principal_judged
  caller-illegal n =
      edits-refused (λ t. principal_edit t who e) w h (Err (Faulty OutOfRange)) (rw (and-false-left (legal_edit e) n))

  -- judged by the tables that the store holds
  module _ (l : legal_caller who ≡ true) (m : legal_edit e ≡ true) {d : Layout} (q : d ≡ layout_of w) where
    abbrev judged_here : Decision
    judged_here = judgement (tables_at w d) who e

    legal-judged : let t = tables (store_rows w) in
        principal_judged t who e ≡ cond (is_context e.table) (Err (Faulty ContextTable)) (allowed judged_here (faulted (row_fault true t e)))
    unfolding principal_judged tables_at
    legal-judged = rw (l, m, q)

    pub principal-denied : {r : Edited} {f : Refusal} → r ≡ admission (is_context e.table) judged_here → r ≡ Err f → PrincipalEdits who e w w r
    unfolding principal_edit
    principal-denied {r} a n =
        let t = tables (store_rows w) in
        edits-refused (λ t. principal_edit t who e) w h r
        (ap (λ v. settled v t e) (legal-judged ∙ denied-is (faulted (row_fault true t e)) (is_context e.table) judged_here a n)
        ∙ denied-settled (is_context e.table) judged_here a n t e)

    pub principal-granted : Ok tt ≡ admission (is_context e.table) judged_here → {after : List ℕ} {r : Edited}
        → Edits (λ t. edit true t e) w after r → PrincipalEdits who e w after r
    unfolding principal_edit edit
    principal-granted a k =
        let t = tables (store_rows w) in
        edits-same (λ t. principal_edit t who e) w h (λ t. edit true t e)
        (ap (λ v. settled v t e) (legal-judged ∙ granted-is (faulted (row_fault true t e)) (is_context e.table) judged_here a)) k
