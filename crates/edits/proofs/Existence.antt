-- Every edit can be made on every store of octets: there is an answer, and a store afterwards, such that the edit does just this.
-- An edit of a store that is not sound, or by what is not legal, or that is not admitted, is refused and leaves the store; any other is an edit of a sound
-- store by legal bytes (`Existence` of crate `edit_rows`). Assumes nothing.
use mathlib.Core.Path.{◌≡◌, refl}
use mathlib.Core.Bool.{Bool, true, false}
use mathlib.Core.List.{List}
use Prim.Native.Nat.{ℕ}
use Rattle.std.specs.Prelude.{Err}
use Rattle.answers.specs.declared.Refusal.TheVariants.{Barred, Faulty}
use Rattle.answers.specs.declared.Decision.{Decision}
use Rattle.answers.specs.declared.Decision.TheVariants.{Allowed, Refused}
use Rattle.answers.specs.declared.Fault.TheVariants.{OutOfRange, ContextTable}
use Rattle.numbers.proofs.Bools.{split, clash}
use Rattle.numbers.specs.BigEndian.{Octets}
use Rattle.rows.specs.Tables.{Tables}
use Rattle.image_layout.specs.Layout.{layout_of}
use Rattle.image_judge.specs.Faults.{tables_at}
use Rattle.image.specs.Store.{is_sound}
use Rattle.edit_rules.specs.Types.{Edited}
use Rattle.edit_rules.specs.Edits.{Outcome, Edit, Caller, edit, legal_edit, legal_caller, is_context, judgement}
use Rattle.edit_rows.specs.Promise.{Edits}
use Rattle.edit_rows.proofs.Stores.{edits-unsound}
use Rattle.edit_rows.proofs.Existence.{Made, edit-made}
use Rattle.edits.specs.Calls.{owner_edit, principal_edit, prepared}
use Rattle.edits.proofs.Calls.{legal-whole, unready-principal, owner-illegal, owner-legal, caller-illegal, principal-denied, principal-granted}

-- a store that stays
stays : (f : Tables → Outcome) (w : List ℕ) → Octets w → {r : Edited} → Edits f w w r → Made f w
stays f w b {r} p = record { left = w; answered = r; promise = p; octets = b }

module _ (e : Edit) (d : Octets e.bytes) (w : List ℕ) (b : Octets w) where
  unready-is : legal_edit e ≡ false → is_sound w ≡ true → Err OutOfRange ≡ prepared w e.operation e.table e.bytes
  unready-is l h = rw (h, l)

  -- a legal edit of a sound store
  made : (strict : Bool) → (strict ≡ true → is_context e.table ≡ false) → is_sound w ≡ true → legal_edit e ≡ true → Made (λ t. edit strict t e) w
  made strict n h l =
      edit-made e.operation e.table w h b strict n e.bytes d (legal-whole e.operation e.table e.bytes l)

  pub owner-made : Made (λ t. owner_edit t e) w
  owner-made =
      split (is_sound w)
      (λ h. split (legal_edit e)
      (λ l.
      let m = made false (λ y. clash y refl) h l in
      record { left = m.left; answered = m.answered; promise = owner-legal e w l m.promise; octets = m.octets })
      (λ l. stays (λ t. owner_edit t e) w b (owner-illegal e w h l)))
      (λ h. stays (λ t. owner_edit t e) w b (edits-unsound (λ t. owner_edit t e) w h))

  module _ (c : Caller) where
    abbrev f : Tables → Outcome
    f = λ t. principal_edit t c e

    -- as the tables judge it
    judged-made : is_sound w ≡ true → legal_caller c ≡ true → legal_edit e ≡ true → is_context e.table ≡ false → (j : Decision)
        → j ≡ judgement (tables_at w (layout_of w)) c e → Made f w
    judged-made h k l o Allowed q =
        let m = made true (λ y. o) h l in
        record {
          left = m.left;
          answered = m.answered;
          promise = principal-granted c e w h k l refl (rw (o, ← q)) m.promise;
          octets = m.octets;
        }
    judged-made h k l o (Refused x) q = stays f w b (principal-denied c e w h k l refl {r = Err (Barred x)} (rw (o, ← q)) refl)

    pub principal-made : Made f w
    principal-made =
        split (is_sound w)
        (λ h. split (legal_edit e)
        (λ l. split (legal_caller c)
        (λ k. split (is_context e.table)
        (λ o. stays f w b (principal-denied c e w h k l refl {r = Err (Faulty ContextTable)} (rw o) refl))
        (λ o. judged-made h k l o (judgement (tables_at w (layout_of w)) c e) refl))
        (λ k. stays f w b (caller-illegal c e w h k)))
        (λ l. stays f w b (unready-principal e.operation e.table w e.bytes c (unready-is l h))))
        (λ h. stays f w b (edits-unsound f w h))
