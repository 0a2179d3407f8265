-- Every legal edit of a sound store can be made: there is a store afterwards, and an answer, that keep the promise.
-- The key has a place, and there are bytes in which the row is exchanged there (`Existence` of crate `table_update`). Assumes nothing.
use mathlib.Core.Path.{◌≡◌, refl, sym}
use mathlib.Core.Bool.{Bool, true, false}
use mathlib.Core.List.{List}
use mathlib.Core.Option.{none}
use Prim.Native.Nat.{ℕ, ◌-◌}
use lib.ListN.{length, take}
use Rattle.std.specs.Prelude.{Ok, Err}
use Rattle.answers.specs.declared.Refusal.TheVariants.{Barred, Faulty}
use Rattle.edit_rules.specs.declared.Operation.{Operation}
use Rattle.rows.specs.declared.Table.{Table}
use Rattle.rows.specs.Fields.{faults}
use Rattle.rows.specs.Rows.{fields_of}
use Rattle.rows.specs.Tables.{Tables}
use Rattle.numbers.specs.BigEndian.{Octets}
use Rattle.numbers.proofs.BigEndian.{octets-take}
use Rattle.image_layout.specs.Layout.{layout_of, extent_of, end_of}
use Rattle.image.specs.Store.{is_sound}
use Rattle.table_update.specs.Exchange.{Sought}
use Rattle.table_update.proofs.Stores.{row_key}
use Rattle.table_update.proofs.Existence.{place_of, place-sought, after, after-exchanges, after-octets}
use Rattle.edit_rules.specs.Types.{Edited}
use Rattle.edit_rules.specs.Edits.{Outcome, edit_of, shape_of, edit, is_context}
use Rattle.edit_rules.proofs.Outcomes.{done-refused}
use Rattle.edit_rows.specs.Promise.{Edits, length_in}
use Rattle.edit_rows.proofs.Stores.{answer_at, place-refused, place-asked, place-done}

pub record Made (f : Tables → Outcome) (w : List ℕ) : Type 0 where
  pub left : List ℕ
  pub answered : Edited
  pub promise : Edits f w left answered
  pub octets : Octets left

module _ (o : Operation) (t : Table) (w : List ℕ) (h : is_sound w ≡ true) (b : Octets w) (strict : Bool) (n : strict ≡ true → is_context t ≡ false)
    (bytes : List ℕ) (d : Octets bytes) (f : faults (fields_of (shape_of o) t) bytes ≡ none) where
  abbrev sought : Sought w (extent_of t (layout_of w)) (row_key t bytes) (place_of w (extent_of t (layout_of w)) (row_key t bytes))
  sought = place-sought w (extent_of t (layout_of w)) (row_key t bytes)

  -- the bytes that come into the table
  abbrev row : List ℕ
  row = take (length_in (shape_of o) (length bytes) - 0) bytes

  made_as : (r : Edited) → r ≡ answer_at t w h b strict n bytes d sought o → Made (λ ts. edit strict ts (edit_of o t bytes)) w
  made_as (Ok tt) e =
      let a = place-asked t w h b strict n bytes d sought o f (sym e) {x = extent_of t (layout_of w)} {end = end_of w (layout_of w).views} refl refl refl refl in
      let c = octets-take (length_in (shape_of o) (length bytes) - 0) bytes d in
      record {
        left = after b a.0 row c a.1;
        answered = (Ok tt);
        promise = place-done t w h b strict n bytes d sought o f (sym e) refl (after-exchanges b a.0 row c a.1);
        octets = after-octets b a.0 row c a.1;
      }
  made_as (Err (Barred c)) e =
      record { left = w; answered = Err (Barred c); promise = place-refused t w h b strict n bytes d sought o f (Err (Barred c)) e (λ q. done-refused (sym q)); octets = b }
  made_as (Err (Faulty g)) e =
      record { left = w; answered = Err (Faulty g); promise = place-refused t w h b strict n bytes d sought o f (Err (Faulty g)) e (λ q. done-refused (sym q)); octets = b }

  pub edit-made : Made (λ ts. edit strict ts (edit_of o t bytes)) w
  edit-made = made_as (answer_at t w h b strict n bytes d sought o) refl
