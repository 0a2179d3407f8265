-- What was handed back of a choice, by the answer's case. The row that was chosen has a key that is legal, which lies at the front of the lent room: so
-- its fields are read again, and its text is short. Assumes nothing.
use mathlib.Core.Path.{◌≡◌, refl, sym, ap, ◌∙◌}
use mathlib.Core.Bool.{true}
use mathlib.Core.List.{List, ◌∷◌, ◌++◌}
use mathlib.Core.Option.{none, some}
use Prim.Native.Nat.{ℕ, ◌+◌, ◌-◌, ◌≤◌}
use native.Mathlib.Omega.{arith}
use lib.ListN.{length, take, drop, length-append}
use lib.Seq.{take-append_seam}
use Rattle.std.specs.Prelude.{Ok, Err, Some, None}
use Rattle.answers.specs.declared.Fault.{Fault}
use Rattle.numbers.specs.BigEndian.{Octets}
use Rattle.rows.specs.declared.Shape.TheVariants.{Key}
use Rattle.rows.specs.declared.Table.{Table}
use Rattle.rows.specs.declared.Table.TheVariants.{Access, View}
use Rattle.rows.specs.Fields.{faults, values, legals}
use Rattle.rows.specs.Rows.{AccessRow, ViewRow, key_fields}
use Rattle.rows.proofs.Inverse.{faults-made, values-made, legals-read}
use Rattle.decision_match.specs.Types.{ViewMatch}
use Rattle.decision_match.specs.Types.{AccessMatch}
use Rattle.decision_match.specs.Matches.{Choice, faulty, chosen, view_key_of, access_key_of, key_bytes, view_match, access_match, HandsView, HandsAccess}
use Rattle.text_values.specs.Texts.{decimal_text}
use Rattle.text_values.proofs.Digits.{length-decimal}
use Rattle.text_rows.specs.RowText.{key_text}
use Rattle.text_rows.proofs.TextLength.{length-entry}
use Rattle.call_answers.specs.Answers.{fault_text, answer_room}
use Rattle.call_matches.specs.Texts.{none_text, typed_text, view_match_text, access_match_text}

-- ---- short texts

key-length : (t : Table) (key : List ℕ) → Octets key → faults (key_fields t) key ≡ none → length (key_text t (values (key_fields t) key)) ≤ 900
key-length t key o h = length-entry Key t (values (key_fields t) key) (legals-read (key_fields t) key o h)

pub key-short : (t : Table) (key : List ℕ) → Octets key → faults (key_fields t) key ≡ none → length (key_text t (values (key_fields t) key)) ≤ answer_room
key-short t key o h = omega (arith, key-length t key o h)

pub typed-short : (key : List ℕ) (type : ℕ) → Octets key → faults (key_fields View) key ≡ none
    → length (typed_text (values (key_fields View) key) type) ≤ answer_room
typed-short key type o h =
    let k = key_text View (values (key_fields View) key) in
    omega (arith, length-append k (32 ∷ decimal_text type), length-decimal type, key-length View key o h)

-- ---- a key at the front of the lent room

-- what is handed on of n octets of it
pub record KeyAt (t : Table) (fields : List (List ℕ)) (after : List ℕ) (n : ℕ) : Type 0 where
  pub room : n ≤ length after
  pub whole : faults (key_fields t) (take (n - 0) after) ≡ none
  pub fields_are : values (key_fields t) (take (n - 0) after) ≡ fields

key-at : (t : Table) (fields : List (List ℕ)) (found after : List ℕ) (n : ℕ) → legals (key_fields t) fields ≡ true → n ≡ length (key_bytes t fields)
    → after ≡ key_bytes t fields ++ drop (0 + length (key_bytes t fields)) found → KeyAt t fields after n
key-at t fields found after n l e b =
    let k = key_bytes t fields in
    let z : n - 0 ≡ length k = omega (arith, e) in
    let is : take (n - 0) after ≡ k = rw (z, b) (take-append_seam k (drop (0 + length k) found)) in
    record {
      room = omega (arith, ap length b, length-append k (drop (0 + length k) found), e);
      whole = rw is (faults-made (key_fields t) fields l);
      fields_are = rw is (values-made (key_fields t) fields l);
    }

-- ---- of a view

pub record TypedAt (c : Choice ViewRow) (after : List ℕ) (n type : ℕ) : Type 0 where
  pub fields : List (List ℕ)
  pub key : KeyAt View fields after n
  pub text_is : typed_text fields type ≡ view_match_text c

view-row : (c : Choice ViewRow) (found after : List ℕ) {n type : ℕ} → HandsView c found after (Ok (Some (n, type))) → TypedAt c after n type
view-row (faulty f) found after h = let z : ◌≡◌ {A = ℕ} 0 1 = cc in absurd (omega arith)
view-row (chosen none) found after h = let z : ◌≡◌ {A = ℕ} 0 1 = cc in absurd (omega arith)
view-row (chosen (some r)) found after {n} {type} h =
    let p : ◌≡◌ {A = ℕ × ℕ} (n, type) (length (key_bytes View (view_key_of r)), r.family_type) = cc in
    let e : n ≡ length (key_bytes View (view_key_of r)) = ap (λ q. q.0) p in
    let y : type ≡ r.family_type = ap (λ q. q.1) p in
    record {
      fields = view_key_of r;
      key = key-at View (view_key_of r) found after n h.key_legal e h.room_is;
      text_is = ap (typed_text (view_key_of r)) y;
    }

view-none : (c : Choice ViewRow) → (Ok None) ≡ view_match c → none_text ≡ view_match_text c
view-none (faulty f) e = cc
view-none (chosen none) e = refl
view-none (chosen (some r)) e = cc

view-faulty : (c : Choice ViewRow) {f : Fault} → Err f ≡ view_match c → fault_text f ≡ view_match_text c
view-faulty (faulty g) {f} e = let z : f ≡ g = cc in ap fault_text z
view-faulty (chosen none) e = cc
view-faulty (chosen (some r)) e = cc

module _ (c : Choice ViewRow) (found after : List ℕ) {r : ViewMatch} (h : HandsView c found after r) where
  pub view-told : {n type : ℕ} → r ≡ Ok (Some (n, type)) → TypedAt c after n type
  view-told q = view-row c found after (rw q at h)

  pub view-none-told : r ≡ (Ok None) → none_text ≡ view_match_text c
  view-none-told q = view-none c (sym q ∙ h.answer_is)

  pub view-fault-told : {f : Fault} → r ≡ Err f → fault_text f ≡ view_match_text c
  view-fault-told q = view-faulty c (sym q ∙ h.answer_is)

-- ---- of the access rows

pub record AccessAt (c : Choice AccessRow) (after : List ℕ) (n : ℕ) : Type 0 where
  pub fields : List (List ℕ)
  pub key : KeyAt Access fields after n
  pub text_is : key_text Access fields ≡ access_match_text c

access-row : (c : Choice AccessRow) (found after : List ℕ) {n : ℕ} → HandsAccess c found after (Ok (Some n)) → AccessAt c after n
access-row (faulty f) found after h = let z : ◌≡◌ {A = ℕ} 0 1 = cc in absurd (omega arith)
access-row (chosen none) found after h = let z : ◌≡◌ {A = ℕ} 0 1 = cc in absurd (omega arith)
access-row (chosen (some r)) found after {n} h =
    let e : n ≡ length (key_bytes Access (access_key_of r)) = cc in
    record { fields = access_key_of r; key = key-at Access (access_key_of r) found after n h.key_legal e h.room_is; text_is = refl }

access-none : (c : Choice AccessRow) → (Ok None) ≡ access_match c → none_text ≡ access_match_text c
access-none (faulty f) e = cc
access-none (chosen none) e = refl
access-none (chosen (some r)) e = cc

access-faulty : (c : Choice AccessRow) {f : Fault} → Err f ≡ access_match c → fault_text f ≡ access_match_text c
access-faulty (faulty g) {f} e = let z : f ≡ g = cc in ap fault_text z
access-faulty (chosen none) e = cc
access-faulty (chosen (some r)) e = cc

module _ (c : Choice AccessRow) (found after : List ℕ) {r : AccessMatch} (h : HandsAccess c found after r) where
  pub access-told : {n : ℕ} → r ≡ Ok (Some n) → AccessAt c after n
  access-told q = access-row c found after (rw q at h)

  pub access-none-told : r ≡ (Ok None) → none_text ≡ access_match_text c
  access-none-told q = access-none c (sym q ∙ h.answer_is)

  pub access-fault-told : {f : Fault} → r ≡ Err f → fault_text f ≡ access_match_text c
  access-fault-told q = access-faulty c (sym q ∙ h.answer_is)
