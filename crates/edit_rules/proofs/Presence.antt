-- What an edit comes to by the row held (`CreateApartFromChange`). An edit that is answered Done is applied, and what is applied is the row put: at its
-- index it stands, at every other nothing changes, and where no row was there, there is one more. Where presence forbids it, nothing behind that is
-- looked at. Room is asked last, and of creates alone. Assumes nothing.
use mathlib.Core.Path.{◌≡◌, refl, sym, ap, ◌∙◌}
use mathlib.Core.Bool.{Bool, true, false, cond, not, ◌&&◌}
use mathlib.Core.List.{List}
use mathlib.Core.Option.{Option, none, some, map}
use Prim.Native.Nat.{ℕ, suc}
use native.Mathlib.Omega.{arith}
use lib.Dec.{eqb}
use lib.ListN.{length}
use Rattle.std.specs.Prelude.{Ok, Err}
use Rattle.answers.specs.declared.Refusal.TheVariants.{Barred, Faulty}
use Rattle.answers.specs.declared.Fault.{Fault}
use Rattle.answers.specs.declared.Fault.TheVariants.{TableFull, RowAbsent, StorageForbids, RowHeld}
use Rattle.numbers.specs.Lists.{is_none}
use Rattle.numbers.specs.Order.{same}
use Rattle.numbers.proofs.Bools.{split, clash, and_left}
use Rattle.numbers.proofs.Options.{is-none, map-none}
use Rattle.numbers.proofs.Orders.{same_refl}
use Rattle.rows.specs.declared.Shape.TheVariants.{Row}
use Rattle.rows.specs.declared.Table.{Table}
use Rattle.rows.specs.declared.Table.TheVariants.{Context, Mapping, Access, View}
use Rattle.rows.specs.Fields.{or_else}
use Rattle.rows.specs.Tables.{Tables}
use Rattle.table_update.specs.Tables.{row_at, put_row}
use Rattle.table_update.proofs.RowsAt.{row_at-put, put-more}
use Rattle.edit_rules.specs.Types.{Edited}
use Rattle.edit_rules.specs.declared.Operation.{Operation}
use Rattle.edit_rules.specs.declared.Operation.TheVariants.{Create, Change, Remove}
use Rattle.edit_rules.specs.TableRows.{RowOf, row_of, row_index, storage_of, rows_of, with_rows}
use Rattle.edit_rules.specs.Edits.{Edit, shape_of, index_of_edit, row_held, is_create, storage_lets, presence_fault, held_fault, row_fault, is_full}
use Rattle.edit_rules.specs.Edits.{applied, edited_number, outcome, settled, faulted, edit}
use Rattle.edit_rules.specs.Presence.{Stands, CreateApartFromChange}
use Rattle.edit_rules.proofs.Outcomes.{faulty-done, own-index}

-- ---- an edit that is answered Done is applied

done-applied : (v : Edited) (ts : Tables) (e : Edit) → (settled v ts e).answer ≡ (Ok tt) → (settled v ts e).rows ≡ applied ts e
done-applied (Ok tt) ts e h = split (is_full ts e) (λ f. absurd (faulty-done (rw f at h))) (λ f. rw f)
done-applied (Err (Barred c)) ts e h = let z : ◌≡◌ {A = ℕ} 0 1 = cc h in absurd (omega arith)
done-applied (Err (Faulty f)) ts e h = absurd (faulty-done h)

own-table : (t : Table) (ts : Tables) (rs : List (RowOf t)) → rows_of t (with_rows t ts rs) ≡ rs
own-table Context ts rs = refl
own-table Mapping ts rs = refl
own-table Access ts rs = refl
own-table View ts rs = refl

module _ (ts : Tables) (e : Edit) (q : shape_of e.operation ≡ Row) where
  abbrev row : RowOf e.table
  row = row_of e.table e.bytes

  put-rows : rows_of e.table (applied ts e) ≡ put_row (row_index e.table) row (rows_of e.table ts)
  unfolding applied
  put-rows = own-table e.table ts _ ∙ rw q

  put-at : (i : List ℕ) → row_at (row_index e.table) i (rows_of e.table (applied ts e))
      ≡ cond (same i (index_of_edit e)) (some row) (row_at (row_index e.table) i (rows_of e.table ts))
  put-at i =
      ap (row_at (row_index e.table) i) put-rows
      ∙ row_at-put (row_index e.table) i row (rows_of e.table ts)
      ∙ ap (λ j. cond (same i j) (some row) (row_at (row_index e.table) i (rows_of e.table ts))) (own-index e)

  other-tables : applied ts e ≡ with_rows e.table ts (rows_of e.table (applied ts e))
  unfolding applied
  other-tables = ap (with_rows e.table ts) (sym (own-table e.table ts _))

  put-stands : Stands ts e (applied ts e)
  put-stands = record {
    own = put-at (index_of_edit e) ∙ rw (same_refl (index_of_edit e));
    others = λ i n. put-at i ∙ rw n;
    elsewhere = other-tables;
  }

  one_more : row_held ts e ≡ none → length (rows_of e.table (applied ts e)) ≡ suc (length (rows_of e.table ts))
  one_more h = ap length put-rows ∙ put-more (row_index e.table) row (rows_of e.table ts) (rw (own-index e) h)

-- ---- by the row held

create-fault : (strict : Bool) (old : Option ℕ) (new : ℕ) → is_none old ≡ false → held_fault strict Create old new ≡ some RowHeld
create-fault strict none new h = clash refl h
create-fault strict (some old) new h = refl

change-fault : (strict : Bool) (old : Option ℕ) (new : ℕ) → is_none old ≡ true → held_fault strict Change old new ≡ some RowAbsent
change-fault strict none new h = refl
change-fault strict (some old) new h = clash h refl

-- ---- 9 is told by room alone, and so of creates

or-nine : (f g : Option Fault) → eqb (edited_number (faulted f)) 9 ≡ false → eqb (edited_number (faulted g)) 9 ≡ false
    → eqb (edited_number (faulted (or_else f g))) 9 ≡ false
or-nine none g h k = k
or-nine (some f) g h k = h

presence-nine : (o : Operation) (held : Bool) → eqb (edited_number (faulted (presence_fault o held))) 9 ≡ false
presence-nine Create true = refl
presence-nine Create false = refl
presence-nine Change true = refl
presence-nine Change false = refl
presence-nine Remove true = refl
presence-nine Remove false = refl

storage-nine : (b : Bool) → eqb (edited_number (faulted (cond b (some StorageForbids) none))) 9 ≡ false
storage-nine true = refl
storage-nine false = refl

held-nine : (strict : Bool) (o : Operation) (old : Option ℕ) (new : ℕ) → eqb (edited_number (faulted (held_fault strict o old new))) 9 ≡ false
held-nine strict o old new =
    let forbids = strict && not (storage_lets (shape_of o) old new) in
    or-nine (presence_fault o (not (is_none old))) (cond forbids (some StorageForbids) none) (presence-nine o (not (is_none old))) (storage-nine forbids)

pub settled-nine : (v : Edited) (ts : Tables) (e : Edit) → eqb (edited_number v) 9 ≡ false → eqb (edited_number (settled v ts e).answer) 9 ≡ true
    → is_create e.operation ≡ true
unfolding is_full
settled-nine (Ok tt) ts e h k = split (is_full ts e) (λ f. and_left (is_create e.operation) _ f) (λ f. clash (rw f at k) refl)
settled-nine (Err (Barred c)) ts e h k = clash k h
settled-nine (Err (Faulty f)) ts e h k = clash k h

module _ (strict : Bool) (ts : Tables) (e : Edit) where
  abbrev old : Option ℕ
  old = map (storage_of e.table) (row_held ts e)

  abbrev new : ℕ
  new = storage_of e.table (row_of e.table e.bytes)

  fault-is : {o : Operation} → e.operation ≡ o → row_fault strict ts e ≡ held_fault strict o old new
  unfolding row_fault
  fault-is q = ap (λ o. held_fault strict o old new) q

  create_held : e.operation ≡ Create → is_none (row_held ts e) ≡ false → edit strict ts e ≡ outcome (Err (Faulty RowHeld)) ts
  unfolding edit
  create_held q h = ap (λ f. settled (faulted f) ts e) (fault-is q ∙ create-fault strict old new (map-none (storage_of e.table) (row_held ts e) ∙ h))

  change_absent : e.operation ≡ Change → row_held ts e ≡ none → edit strict ts e ≡ outcome (Err (Faulty RowAbsent)) ts
  unfolding edit
  change_absent q h =
      ap (λ f. settled (faulted f) ts e)
      (fault-is q ∙ change-fault strict old new (map-none (storage_of e.table) (row_held ts e) ∙ ap is_none h))

  done-rows : (edit strict ts e).answer ≡ (Ok tt) → (edit strict ts e).rows ≡ applied ts e
  unfolding edit
  done-rows d = done-applied (faulted (row_fault strict ts e)) ts e d

  create_adds : e.operation ≡ Create → (edit strict ts e).answer ≡ (Ok tt)
      → (row_held ts e ≡ none) × Stands ts e (edit strict ts e).rows
      × (length (rows_of e.table (edit strict ts e).rows) ≡ suc (length (rows_of e.table ts)))
  create_adds q d =
      let s : shape_of e.operation ≡ Row = ap shape_of q in
      split (is_none (row_held ts e))
      (λ h. let n = is-none (row_held ts e) h in (n, rw (done-rows d) (put-stands ts e s), rw (done-rows d) (one_more ts e s n)))
      (λ h. absurd (faulty-done (sym (ap (λ o. o.answer) (create_held q h)) ∙ d)))

  change_replaces : e.operation ≡ Change → (edit strict ts e).answer ≡ (Ok tt) → (is_none (row_held ts e) ≡ false) × Stands ts e (edit strict ts e).rows
  change_replaces q d =
      split (is_none (row_held ts e))
      (λ h. absurd (faulty-done (sym (ap (λ o. o.answer) (change_absent q (is-none (row_held ts e) h))) ∙ d)))
      (λ h. (h, rw (done-rows d) (put-stands ts e (ap shape_of q))))

  pub row-nine : eqb (edited_number (faulted (row_fault strict ts e))) 9 ≡ false
  unfolding row_fault
  row-nine = held-nine strict e.operation old new

  full_creates : (edit strict ts e).answer ≡ Err (Faulty TableFull) → is_create e.operation ≡ true
  unfolding edit
  full_creates h = settled-nine (faulted (row_fault strict ts e)) ts e row-nine (ap (λ v. eqb (edited_number v) 9) h)

pub create-apart-from-change : CreateApartFromChange
create-apart-from-change = record {
  create_adds = create_adds;
  change_replaces = change_replaces;
  change_absent = change_absent;
  create_held = create_held;
  full_creates = full_creates;
}
