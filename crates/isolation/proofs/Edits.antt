-- Edits of the tables beside the circle's rows.
-- An edit of the circle does with the circle's rows alone what it does with all rows, with the same answer: the rows at its index are of the circle
-- as the edit is, so that the row held is the same; and the circle's rows are no more than all rows, so that where all leave room they do. An edit
-- outside the circle does not show in its rows. What is refused changes nothing. An edit that fits keeps the tables in order and their rows fitting.
-- Assumes nothing.
use mathlib.Core.Path.{◌≡◌, refl, sym, ap, ◌∙◌}
use mathlib.Core.Bool.{Bool, true, false, not, ◌&&◌}
use mathlib.Core.Option.{map}
use Prim.Native.Nat.{◌≤◌, ◌<◌}
use native.Mathlib.Omega.{arith}
use lib.Dec.{eqb, leb}
use lib.ListN.{length}
use borrow.Author.Tests.{leb-false, lt-leb}
use Rattle.std.specs.Prelude.{Ok, Err}
use Rattle.answers.specs.declared.Refusal.TheVariants.{Barred, Faulty}
use Rattle.numbers.proofs.Bools.{split, clash, and_left, and_right, and_both, and-false-or, and-false-left, and-false-right, or_right}
use Rattle.rows.specs.declared.Table.{Table}
use Rattle.rows.specs.declared.Table.TheVariants.{Context, Mapping, Access, View}
use Rattle.rows.specs.Rows.{limit}
use Rattle.rows.specs.Tables.{Tables}
use Rattle.table_update.specs.Tables.{row_at}
use Rattle.edit_rules.specs.Types.{Edited}
use Rattle.edit_rules.specs.TableRows.{RowOf, row_of, row_index, storage_of, rows_of, with_rows}
use Rattle.edit_rules.specs.Edits.{Edit, Outcome, outcome, shape_of, is_create, index_of_edit, row_held, held_fault, row_fault, is_full, rows_after, applied, settled}
use Rattle.edit_rules.proofs.Outcomes.{own-index}
use Rattle.edits.specs.Calls.{edited_number}
use Rattle.isolation.specs.Isolation.{Circle, row_in, of_circle, implies, hands_row, maps_to_group, gives_chosen, keeps_to_group, keeps_to_views}
use Rattle.set_rules.proofs.Applied.{ascends-after}
use Rattle.isolation.proofs.Tables.{length-keep, row_at-keep, keep-after-in, keep-after-out, every-after}
use Rattle.isolation.proofs.Circles.{implied, circle_rows, rows-circle, with-circle, key-same, row_fits, Orderly, orderly-at, orderly-with}

-- ---- an edit once it is judged

-- the tables stay, or the edit is applied
pub settled-either : (P : Tables → Type 0) (v : Edited) (ts : Tables) (e : Edit) → P ts → P (applied ts e) → P (settled v ts e).rows
settled-either P (Ok tt) ts e h k = split (is_full ts e) (λ f. rw f h) (λ f. rw f k)
settled-either P (Err (Barred c)) ts e h k = h
settled-either P (Err (Faulty f)) ts e h k = h

pub settled-refused : (v : Edited) (ts : Tables) (e : Edit) → eqb (edited_number (settled v ts e).answer) 0 ≡ false → (settled v ts e).rows ≡ ts
settled-refused (Ok tt) ts e h = split (is_full ts e) (λ f. rw f) (λ f. clash {b = true} refl (rw f at h))
settled-refused (Err (Barred c)) ts e h = refl
settled-refused (Err (Faulty f)) ts e h = refl

-- an edit that is not answered 'table full' finds room
found-room : (ts : Tables) (e : Edit) → implies (is_create e.operation) (not (eqb (edited_number (settled (Ok tt) ts e).answer) 9)) ≡ true → is_full ts e ≡ false
unfolding is_full
found-room ts e h =
    split (is_full ts e)
    (λ f. clash (implied (is_create e.operation) _ (rw f at h) (and_left (is_create e.operation) _ f)) refl) (λ f. f)

-- a table's own rows in place of those held
own-rows : (t : Table) (ts : Tables) → with_rows t ts (rows_of t ts) ≡ ts
own-rows Context ts = refl
own-rows Mapping ts = refl
own-rows Access ts = refl
own-rows View ts = refl

module _ (w : Circle) where
  -- the circle's rows of what an edit leaves
  abbrev pub circle_of : Outcome → Outcome
  circle_of o = outcome o.answer (circle_rows w o.rows)

  -- the circle's rows are no more than all rows
  pub no_more : (t : Table) (ts : Tables) → length (rows_of t (circle_rows w ts)) ≤ length (rows_of t ts)
  no_more t ts = rw (rows-circle w t ts) (length-keep (row_in w t) (rows_of t ts))

  module _ (e : Edit) where
    abbrev of : Bool
    of = of_circle w e

    -- rows at the edit's index are of the circle as the edit is
    at-index : {b : Bool} → of ≡ b → (x : RowOf e.table) → index_of_edit e ≡ row_index e.table x → row_in w e.table x ≡ b
    unfolding index_of_edit
    at-index h x q = key-same w e.table e.bytes x q ∙ h

    abbrev pub fits : Bool
    fits = implies of (keeps_to_group w e && keeps_to_views w e)

    -- the row that an edit hands which fits
    row_fits_lem : fits ≡ true → hands_row e ≡ true → row_fits w e.table (row_of e.table e.bytes) ≡ true
    row_fits_lem f h =
        let r = row_of e.table e.bytes in
        split of
        (λ o.
        let g = implied of _ f o in
        let m : maps_to_group w e.table r ≡ true = implied (hands_row e) _ (and_left _ _ g) h in
        let c : gives_chosen w e.table r ≡ true = implied (hands_row e) _ (and_right (keeps_to_group w e) _ g) h in
        or_right (not (row_in w e.table r)) (and_both m c))
        (λ o. rw (at-index o r (sym (own-index e))))

    -- an insider's edit, which is bound where b holds
    pub fits_both : (b : Bool) → (of ≡ true → b ≡ true) → implies b (keeps_to_group w e) ≡ true → implies b (keeps_to_views w e) ≡ true → fits ≡ true
    fits_both b h g v = split of (λ o. rw o (and_both (implied b _ g (h o)) (implied b _ v (h o)))) (λ o. rw o)

  module _ (ts : Tables) (e : Edit) where
    -- ---- of the circle

    module _ (h : of e ≡ true) where
      held-circle : row_held (circle_rows w ts) e ≡ row_held ts e
      held-circle =
          ap (row_at (row_index e.table) (index_of_edit e)) (rows-circle w e.table ts)
          ∙ row_at-keep (row_index e.table) (row_in w e.table) (index_of_edit e) (rows_of e.table ts) (at-index e h)

      pub fault-circle : (strict : Bool) → row_fault strict (circle_rows w ts) e ≡ row_fault strict ts e
      unfolding row_fault
      fault-circle strict =
          ap (λ o. held_fault strict e.operation (map (storage_of e.table) o) (storage_of e.table (row_of e.table e.bytes))) held-circle

      -- room among all rows is room among the circle's
      room-circle : leb (limit e.table) (length (rows_of e.table ts)) ≡ false
          → leb (limit e.table) (length (rows_of e.table (circle_rows w ts))) ≡ false
      room-circle f =
          let a : length (rows_of e.table ts) < limit e.table = leb-false _ _ f in
          let b = no_more e.table ts in
          lt-leb (limit e.table) _ (omega arith)

      full-circle : is_full ts e ≡ false → is_full (circle_rows w ts) e ≡ false
      unfolding is_full
      full-circle f =
          and-false-or (is_create e.operation) _ f (λ a. and-false-left _ a) (λ a. and-false-right (is_create e.operation) (room-circle a))

      module _ (i : Orderly w ts) where
        pub applied-circle : applied (circle_rows w ts) e ≡ circle_rows w (applied ts e)
        unfolding applied
        applied-circle =
            let t = e.table in
            let after = rows_after (row_index t) (shape_of e.operation) (row_of t e.bytes) (index_of_edit e) in
            ap (with_rows t (circle_rows w ts))
            (ap after (rows-circle w t ts)
            ∙ sym (keep-after-in (row_index t) (row_in w t) (shape_of e.operation) _ (index_of_edit e) (rows_of t ts) (own-index e) (at-index e h)
            (orderly-at w t i).0))
            ∙ with-circle w t ts (after (rows_of t ts))

        pub settled-in : (v : Edited) → implies (is_create e.operation) (not (eqb (edited_number (settled v ts e).answer) 9)) ≡ true
            → settled v (circle_rows w ts) e ≡ circle_of (settled v ts e)
        settled-in (Ok tt) q = let f = found-room ts e q in rw (f, full-circle f, applied-circle)
        settled-in (Err (Barred c)) q = refl
        settled-in (Err (Faulty f)) q = refl

    -- ---- outside of it

    pub applied-out : of e ≡ false → circle_rows w (applied ts e) ≡ circle_rows w ts
    unfolding applied
    applied-out h =
        let t = e.table in
        sym (with-circle w t ts _)
        ∙ ap (with_rows t (circle_rows w ts))
        (keep-after-out (row_index t) (row_in w t) (shape_of e.operation) _ (index_of_edit e) (rows_of t ts) (own-index e) (at-index e h))
        ∙ with-circle w t ts (rows_of t ts)
        ∙ ap (circle_rows w) (own-rows t ts)

    pub settled-out : of e ≡ false → (v : Edited) → circle_rows w (settled v ts e).rows ≡ circle_rows w ts
    settled-out h v = settled-either (λ u. circle_rows w u ≡ circle_rows w ts) v ts e refl (applied-out h)

    -- ---- an edit that fits

    pub applied-orderly : fits e ≡ true → Orderly w ts → Orderly w (applied ts e)
    unfolding applied
    applied-orderly f i =
        let t = e.table in
        let a = orderly-at w t i in
        orderly-with w t _ i (
          ascends-after (row_index t) (shape_of e.operation) _ (index_of_edit e) (rows_of t ts) a.0,
          every-after (row_index t) (row_fits w t) (shape_of e.operation) _ (index_of_edit e) (rows_of t ts) (row_fits_lem e f) a.1,
        )

    pub settled-orderly : fits e ≡ true → Orderly w ts → (v : Edited) → Orderly w (settled v ts e).rows
    settled-orderly f i v = settled-either (Orderly w) v ts e i (applied-orderly f i)
