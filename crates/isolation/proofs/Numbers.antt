-- The two numbers by which the statement's conditions go each belong to one case of an edit's answer: 9 to 'table full', 0 to an edit
-- accepted; and 9 to creates alone, of a set to one with a create in it. Case by case. Assumes nothing.
use mathlib.Core.Path.{◌≡◌, refl, ap}
use mathlib.Core.Bool.{Bool, true, false, ◌&&◌}
use mathlib.Core.List.{List, [], ◌∷◌}
use Prim.Native.Nat.{ℕ, suc}
use lib.Dec.{eqb, ltb}
use Rattle.std.specs.Prelude.{Ok, Err}
use Rattle.answers.specs.declared.Refusal.TheVariants.{Barred, Faulty}
use Rattle.answers.specs.declared.Cause.{Cause}
use Rattle.answers.specs.declared.Cause.TheVariants.{NoSuchContext, NoGroupName, NoAccessEntry, NoSuchView, NotInView}
use Rattle.answers.specs.declared.Fault.{Fault}
use Rattle.answers.specs.declared.Fault.TheVariants.{NotSound, OutOfRange, TableFull, RowAbsent, StorageForbids, ContextTable, NotAnInstance, Torn}
use Rattle.answers.specs.declared.Fault.TheVariants.{NotAscending, TooShort, RowHeld, NotASet}
use Rattle.answers.specs.declared.Decision.{Decision}
use Rattle.answers.specs.declared.Decision.TheVariants.{Allowed, Refused}
use Rattle.answers.specs.Numbers.{cause_number, fault_number}
use Rattle.numbers.specs.Lists.{any}
use Rattle.numbers.proofs.Bools.{split, clash, is_false, is_true, and_left, or_left, or_right}
use Rattle.rows.specs.declared.Table.{Table}
use Rattle.rows.specs.declared.Table.TheVariants.{Context, Mapping, Access, View}
use Rattle.rows.specs.Tables.{Tables}
use Rattle.edit_rules.specs.Types.{Edited}
use Rattle.edit_rules.specs.Edits.{Edit, Caller, is_create, legal_edit, legal_caller, is_context, judgement}
use Rattle.edit_rules.proofs.Presence.{row-nine, settled-nine}
use Rattle.edits.specs.Calls.{edited_number, allowed, owner_judged, owner_edit, principal_judged, principal_edit}
use Rattle.set_rules.specs.declared.SetAnswer.{SetAnswer}
use Rattle.set_rules.specs.Sets.{is_set, answer_at, is_done, or_next, first_refused, applied_all, creates_in, first_create, is_over, room, set_judged, principal_set}

cause-nine : (c : Cause) → eqb (cause_number c) 9 ≡ false
cause-nine NoSuchContext = refl
cause-nine NoGroupName = refl
cause-nine NoAccessEntry = refl
cause-nine NoSuchView = refl
cause-nine NotInView = refl

cause-zero : (c : Cause) → eqb (cause_number c) 0 ≡ false
cause-zero NoSuchContext = refl
cause-zero NoGroupName = refl
cause-zero NoAccessEntry = refl
cause-zero NoSuchView = refl
cause-zero NotInView = refl

fault-nine : (f : Fault) → eqb (fault_number f) 9 ≡ true → f ≡ TableFull
fault-nine NotSound e = clash e refl
fault-nine OutOfRange e = clash e refl
fault-nine TableFull e = refl
fault-nine RowAbsent e = clash e refl
fault-nine StorageForbids e = clash e refl
fault-nine ContextTable e = clash e refl
fault-nine NotAnInstance e = clash e refl
fault-nine Torn e = clash e refl
fault-nine NotAscending e = clash e refl
fault-nine TooShort e = clash e refl
fault-nine RowHeld e = clash e refl
fault-nine NotASet e = clash e refl

fault-zero : (f : Fault) → eqb (fault_number f) 0 ≡ false
fault-zero NotSound = refl
fault-zero OutOfRange = refl
fault-zero TableFull = refl
fault-zero RowAbsent = refl
fault-zero StorageForbids = refl
fault-zero ContextTable = refl
fault-zero NotAnInstance = refl
fault-zero Torn = refl
fault-zero NotAscending = refl
fault-zero TooShort = refl
fault-zero RowHeld = refl
fault-zero NotASet = refl

pub nine-is-full : (r : Edited) → eqb (edited_number r) 9 ≡ true → r ≡ Err (Faulty TableFull)
nine-is-full (Ok tt) e = clash e refl
nine-is-full (Err (Barred c)) e = clash e (cause-nine c)
nine-is-full (Err (Faulty f)) e = ap (λ k. Err (Faulty k)) ((fault-nine f e))

pub zero-is-done : (r : Edited) → eqb (edited_number r) 0 ≡ true → r ≡ (Ok tt)
zero-is-done (Ok tt) e = refl
zero-is-done (Err (Barred c)) e = clash e (cause-zero c)
zero-is-done (Err (Faulty f)) e = clash e (fault-zero f)

-- ---- 9 is told of creates alone, so that the condition on creates excludes 'table full' altogether

allowed-nine : (d : Decision) (v : Edited) → eqb (edited_number v) 9 ≡ false → eqb (edited_number (allowed d v)) 9 ≡ false
allowed-nine Allowed v h = h
allowed-nine (Refused c) v h = cause-nine c

pub owner-nine : (ts : Tables) (e : Edit) → eqb (edited_number (owner_edit ts e).answer) 9 ≡ true → is_create e.operation ≡ true
unfolding owner_edit owner_judged
owner-nine ts e k =
    settled-nine (owner_judged ts e) ts e (split (legal_edit e) (λ l. rw l (row-nine false ts e)) (λ l. rw l)) k

judged-nine : (ts : Tables) (c : Caller) (e : Edit) → eqb (edited_number (principal_judged ts c e)) 9 ≡ false
unfolding principal_judged
judged-nine ts c e =
    split (legal_caller c && legal_edit e)
    (λ l. rw l (split (is_context e.table) (λ t. rw t) (λ t. rw t (allowed-nine (judgement ts c e) _ (row-nine true ts e)))))
    (λ l. rw l)

pub principal-nine : (ts : Tables) (c : Caller) (e : Edit) → eqb (edited_number (principal_edit ts c e).answer) 9 ≡ true → is_create e.operation ≡ true
unfolding principal_edit
principal-nine ts c e k = settled-nine (principal_judged ts c e) ts e (judged-nine ts c e) k

-- ---- a set is told 9 by room alone, where a table in which it creates would be over

abbrev pub lacks_room : Tables → List Edit → Table → Bool
lacks_room after es t = ltb 0 (first_create t 1 es) && is_over after t

abbrev pub creates : List Edit → Bool
creates es = any (λ e. is_create e.operation) es

first-creates : (t : Table) (p : ℕ) (es : List Edit) → ltb 0 (first_create t p es) ≡ true → creates es ≡ true
first-creates t p [] h = clash h refl
first-creates t p (e ∷ es) h =
    split (creates_in t e) (λ a. or_left (creates es) (and_left (is_create e.operation) _ a))
    (λ a. or_right (is_create e.operation) (first-creates t (suc p) es (rw a at h)))

module _ (after : Tables) (es : List Edit) where
  pub lacks-creates : (t : Table) → lacks_room after es t ≡ true → creates es ≡ true
  lacks-creates t h = first-creates t 1 es (and_left _ _ h)

  pub room-lacks : (t : Table) → lacks_room after es t ≡ true → eqb (edited_number (room after es).answer) 9 ≡ true
  unfolding room or_next
  room-lacks Context h = rw h
  room-lacks Mapping h = split (lacks_room after es Context) (λ a. rw a) (λ a. rw (a, h))
  room-lacks Access h =
      split (lacks_room after es Context) (λ a. rw a) (λ a. split (lacks_room after es Mapping) (λ b. rw (a, b)) (λ b. rw (a, b, h)))
  room-lacks View h =
      split (lacks_room after es Context) (λ a. rw a)
      (λ a. split (lacks_room after es Mapping) (λ b. rw (a, b))
      (λ b. split (lacks_room after es Access) (λ d. rw (a, b, d)) (λ d. rw (a, b, d, h))))

  pub room-done : ((t : Table) → lacks_room after es t ≡ false) → room after es ≡ answer_at (Ok tt) 0
  unfolding room or_next
  room-done h = rw (h Context, h Mapping, h Access, h View)

  room-creates : eqb (edited_number (room after es).answer) 9 ≡ true → creates es ≡ true
  room-creates k =
      is_true (creates es) (λ n. clash k
      (ap (λ a. eqb (edited_number a.answer) 9) (room-done (λ t. is_false (lacks_room after es t) (λ l. clash (lacks-creates t l) n)))))

or-next-nine : (a b : SetAnswer) → eqb (edited_number a.answer) 9 ≡ false → eqb (edited_number (or_next a b).answer) 9 ≡ true
    → eqb (edited_number b.answer) 9 ≡ true
unfolding or_next
or-next-nine a b h k = split (is_done a.answer) (λ d. rw d at k) (λ d. clash (rw d at k) h)

refused-nine : (judged : Edit → Edited) → ((e : Edit) → eqb (edited_number (judged e)) 9 ≡ false) → (p : ℕ) (es : List Edit)
    → eqb (edited_number (first_refused judged p es).answer) 9 ≡ false
refused-nine judged h p [] = refl
refused-nine judged h p (e ∷ es) =
    is_false _ (λ k. clash (or-next-nine (answer_at (judged e) p) (first_refused judged (suc p) es) (h e) k) (refused-nine judged h (suc p) es))

pub set-nine : (ts : Tables) (c : Caller) (es : List Edit) → eqb (edited_number (principal_set ts c es).answer.answer) 9 ≡ true → creates es ≡ true
unfolding principal_set set_judged
set-nine ts c es k =
    split (is_set es)
    (λ s. split (legal_caller c)
    (λ l. room-creates (applied_all ts es) es (or-next-nine _ _ (refused-nine (principal_judged ts c) (judged-nine ts c) 1 es) (rw (s, l) at k)))
    (λ l. clash (rw (s, l) at k) refl))
    (λ s. clash (rw s at k) refl)
