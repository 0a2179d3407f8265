-- Ticket 7's sentences.
-- An accepted set is in order, so that what it leaves is, at each index, its own row put or gone, or the row that was there: each edit changes the row at its
-- own index alone, and the others are of other rows. A set of one is judged as its edit is, and its room is the edit's: a create makes its table one row
-- longer, and the set creates in no other. Assumes nothing.
use mathlib.Core.Path.{◌≡◌, refl, ap, ◌∙◌}
use mathlib.Core.Bool.{Bool, true, false, cond, ◌&&◌}
use mathlib.Core.List.{List, [], ◌∷◌}
use mathlib.Core.Logic.{⊎_elim}
use Prim.Native.Nat.{ℕ, ◌+◌}
use native.Mathlib.Omega.{arith}
use lib.Dec.{leb, ltb}
use lib.ListN.{length}
use borrow.Author.Tests.{ltb-true, leb-true, lt-ltb, le-leb}
use Rattle.std.specs.Prelude.{Ok, Err}
use Rattle.answers.specs.declared.Refusal.TheVariants.{Barred, Faulty}
use Rattle.answers.specs.declared.Fault.TheVariants.{TableFull}
use Rattle.numbers.specs.Lists.{Among}
use Rattle.numbers.specs.Order.{same}
use Rattle.numbers.proofs.Bools.{split, clash, test-ext, or-false-left, or-false-right, cond-false}
use Rattle.rows.specs.declared.Table.{Table}
use Rattle.rows.specs.declared.Table.TheVariants.{Context, Mapping, Access, View}
use Rattle.rows.specs.Rows.{limit}
use Rattle.rows.specs.Tables.{Tables}
use Rattle.table_update.specs.Tables.{row_at}
use Rattle.edit_rules.specs.declared.Operation.{Operation}
use Rattle.edit_rules.specs.declared.Operation.TheVariants.{Create, Change, Remove}
use Rattle.edit_rules.specs.Types.{Edited}
use Rattle.edit_rules.specs.TableRows.{row_of, row_index, rows_of}
use Rattle.edit_rules.specs.Edits.{Edit, Caller, shape_of, is_create, index_of_edit, row_held, legal_caller, is_full, applied, settled}
use Rattle.edits.specs.Calls.{principal_judged, principal_edit}
use Rattle.edit_rules.proofs.Outcomes.{faulty-done}
use Rattle.edit_rows.proofs.Stores.{held-ascends}
use Rattle.set_rules.specs.declared.SetAnswer.{SetAnswer}
use Rattle.set_rules.specs.Sets.{same_table, is_set, is_done, creates_in, answer_at, first_refused, applied_all, room_in, room, or_next}
use Rattle.set_rules.specs.Sets.{set_judged, principal_set}
use Rattle.set_rules.specs.Made.{is_removal, removes_in}
use Rattle.set_rules.specs.AllOrNone.{standing, is_of, Exactly, AllOrNone}
use Rattle.set_rules.proofs.Keys.{Apart}
use Rattle.set_rules.proofs.Applied.{Ascending, Present, row-after, held_after, own_held, length-after}
use Rattle.set_rules.proofs.Accepted.{or-next-done, judged-order, ready_of, still-limited}
use Rattle.set_rules.proofs.Promises.{held-limited, accepted-is, room-judged, room-none}
use Rattle.set_rules.proofs.Order.{All, Ready, apart-sym, ready-next}

-- ---- exactly its rows

-- edits of other rows leave a row
held-past : (e : Edit) (ds : List Edit) (ts : Tables) → Ready ts ds → All (Apart e) ds → row_held (applied_all ts ds) e ≡ row_held ts e
held-past e [] ts r n = refl
held-past e (d ∷ ds) ts r n =
    held-past e ds (applied ts d) (ready-next ts d ds r) n.1 ∙ held_after ts r.ascending d e (apart-sym e d n.0)

own-rows : (es : List Edit) (ts : Tables) → Ready ts es → (e : Edit) → Among e es
    → row_held (applied_all ts es) e ≡ standing (shape_of e.operation) (row_of e.table e.bytes)
own-rows [] ts r e m = absurd m
own-rows (d ∷ es) ts r e m =
    let r' = ready-next ts d es r in
    ⊎_elim (λ q. rw q (held-past d es (applied ts d) r' r.apart.0 ∙ own_held ts r.ascending d)) (λ q. own-rows es (applied ts d) r' e q) m

abbrev at_own : Edit → Table → List ℕ → Bool
at_own e t i = same_table e.table t && same (index_of_edit e) i

other-rows : (es : List Edit) (ts : Tables) → Ready ts es → (t : Table) (i : List ℕ) → is_of es t i ≡ false
    → row_at (row_index t) i (rows_of t (applied_all ts es)) ≡ row_at (row_index t) i (rows_of t ts)
other-rows [] ts r t i n = refl
other-rows (e ∷ es) ts r t i n =
    other-rows es (applied ts e) (ready-next ts e es r) t i (or-false-right (at_own e t i) (is_of es t i) n)
    ∙ row-after ts r.ascending e t i (or-false-left (at_own e t i) (is_of es t i) n)

pub exactly : (es : List Edit) (ts : Tables) → Ready ts es → Exactly ts es (applied_all ts es)
exactly es ts r = record { own = own-rows es ts r; others = other-rows es ts r }

-- ---- a set of one

-- of a create the table has no room afterwards exactly if it had none for one more
over-one : (l n m : ℕ) → m ≡ n + 1 → ltb l m ≡ leb l n
over-one l n m e = test-ext _ _ (λ h. le-leb l n (omega (arith, ltb-true l m h))) (λ h. lt-ltb l m (omega (arith, leb-true l n h)))

abbrev full_at_one : SetAnswer
full_at_one = answer_at (Err (Faulty TableFull)) 1

module _ (ts : Tables) (a : Ascending ts) where
  abbrev lacks : Edit → Table → Bool
  lacks e t = creates_in t e && leb (limit t) (length (rows_of t ts))

  room-one : (e : Edit) → Present ts e → (t : Table)
      → room_in (applied ts e) (e ∷ []) t ≡ cond (lacks e t) full_at_one (answer_at (Ok tt) 0)
  room-one e p t =
      split (creates_in t e)
      (λ k. rw (k, over-one (limit t) (length (rows_of t ts)) (length (rows_of t (applied ts e))) (longer e p t k)))
      (λ k. rw k)
    where
      not-removed : (e : Edit) (t : Table) → creates_in t e ≡ true → removes_in t e ≡ false
      not-removed e t k = by-operation e.operation k
        where
          by-operation : (o : Operation) → is_create o && same_table t e.table ≡ true → is_removal o && same_table t e.table ≡ false
          by-operation Create k = refl
          by-operation Change k = clash k refl
          by-operation Remove k = clash k refl

      longer : (e : Edit) → Present ts e → (t : Table) → creates_in t e ≡ true → length (rows_of t (applied ts e)) ≡ length (rows_of t ts) + 1
      longer e p t k = let h = length-after ts a e p t in omega (arith, rw (k, not-removed e t k) at h)

  -- the table of the create alone
  abbrev told : Operation → Table → (Table → Bool) → Table → SetAnswer
  told o u f t = cond ((is_create o && same_table t u) && f t) full_at_one (answer_at (Ok tt) 0)

  picked : (o : Operation) (u : Table) (f : Table → Bool)
      → or_next (told o u f Context) (or_next (told o u f Mapping) (or_next (told o u f Access) (told o u f View)))
      ≡ cond (is_create o && f u) full_at_one (answer_at (Ok tt) 0)
  unfolding or_next
  picked Create Context f = split (f Context) (λ k. rw k) (λ k. rw k)
  picked Create Mapping f = split (f Mapping) (λ k. rw k) (λ k. rw k)
  picked Create Access f = split (f Access) (λ k. rw k) (λ k. rw k)
  picked Create View f = split (f View) (λ k. rw k) (λ k. rw k)
  picked Change u f = refl
  picked Remove u f = refl

  room-full : (e : Edit) → Present ts e → room (applied ts e) (e ∷ []) ≡ cond (is_full ts e) full_at_one (answer_at (Ok tt) 0)
  unfolding room is_full
  room-full e p =
      rw (room-one e p Context, room-one e p Mapping, room-one e p Access, room-one e p View)
      (picked e.operation e.table (λ t. leb (limit t) (length (rows_of t ts))))

  -- judged as its edit is, and its room the edit's
  module _ (c : Caller) (e : Edit) where
    one_told : (v : Edited) → principal_judged ts c e ≡ v → legal_caller c ≡ true
        → ((principal_set ts c (e ∷ [])).answer ≡ answer_at (settled v ts e).answer (cond (is_done (settled v ts e).answer) 0 1))
        × ((principal_set ts c (e ∷ [])).rows ≡ (settled v ts e).rows)
    unfolding principal_set set_judged is_set or_next
    one_told (Ok tt) q l =
        let r = room-full e (judged-order ts c e q).present in
        split (is_full ts e) (λ k. (rw (l, q, r, k), rw (l, q, r, k))) (λ k. (rw (l, q, r, k), rw (l, q, r, k)))
    one_told (Err (Barred b)) q l = (rw (l, q), rw (l, q))
    one_told (Err (Faulty f)) q l = (rw (l, q), rw (l, q))

    pub one-edit : ((principal_set ts c (e ∷ [])).answer
        ≡ answer_at (principal_edit ts c e).answer (cond (legal_caller c) (cond (is_done (principal_edit ts c e).answer) 0 1) 0))
        × ((principal_set ts c (e ∷ [])).rows ≡ (principal_edit ts c e).rows)
    unfolding principal_set set_judged is_set principal_edit principal_judged
    one-edit =
        split (legal_caller c) (λ l. let h = one_told (principal_judged ts c e) refl l in (h.0 ∙ rw l, h.1)) (λ l. (rw l, rw l))

-- ---- the ticket's sentences

-- an accepted set, taken apart
record Parts (ts : Tables) (c : Caller) (es : List Edit) : Type 0 where
  pub set : is_set es ≡ true
  pub judged : is_done (first_refused (principal_judged ts c) 1 es).answer ≡ true
  pub roomy : is_done (room (applied_all ts es) es).answer ≡ true
  pub told : (principal_set ts c es).answer ≡ answer_at (Ok tt) 0
  pub left : (principal_set ts c es).rows ≡ applied_all ts es

parts : (ts : Tables) (c : Caller) (es : List Edit) → (principal_set ts c es).answer.answer ≡ (Ok tt) → Parts ts c es
unfolding principal_set set_judged
parts ts c es d =
    split (is_set es)
    (λ s. split (legal_caller c)
    (λ l.
    let a = first_refused (principal_judged ts c) 1 es in
    let r = room (applied_all ts es) es in
    let b = or-next-done a r (ap is_done (rw (s, l) at d)) in
    let q = room-judged ts c es s l b.0 ∙ room-none (applied_all ts es) es b.1 in
    let p = accepted-is ts c es q in
    record { set = s; judged = b.0; roomy = b.1; told = p.0; left = p.1 })
    (λ l. absurd (faulty-done (rw (s, l) at d))))
    (λ s. absurd (faulty-done (rw s at d)))

pub all_or_none : AllOrNone
unfolding principal_set
all_or_none = record {
  accepted = λ w ts e c es b d.
      let j = parts ts c es d in
      let r = ready_of ts c es (held-ascends w e) b j.set j.judged in
      (rw j.left (exactly es ts r), j.told, rw j.left (still-limited ts es (held-limited w e) r j.roomy));
  refused = λ ts c es d. cond-false _ _ d;
  one = λ w ts h c e. one-edit ts (held-ascends w h) c e;
}
