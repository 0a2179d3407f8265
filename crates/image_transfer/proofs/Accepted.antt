-- An image in which nothing is wrong, as facts by table (`Accepted`), and these facts as nothing wrong. Its length is where its rows end,
-- and with no table above its limit and no row above its bounds that is within a store's room. Assumes nothing.
use mathlib.Core.Path.{◌≡◌}
use mathlib.Core.List.{List, []}
use mathlib.Core.Option.{none}
use Prim.Native.Nat.{ℕ, ◌≤◌}
use native.Mathlib.Omega.{arith}
use lib.ListN.{length}
use borrow.Author.Tests.{eq-eqb, le-ltb}
use Rattle.rows.specs.declared.Table.{Table}
use Rattle.rows.specs.declared.Table.TheVariants.{Context, Mapping, Access, View}
use Rattle.rows.specs.Rows.{limit}
use Rattle.image_layout.specs.Layout.{count, header, layout_of, image_end}
use Rattle.image_judge.specs.Faults.{table_fault, rows_fault}
use Rattle.image.specs.Image.{sized_fault, image_fault}
use Rattle.image.specs.Store.{room}
use Rattle.image.proofs.Surveys.{image-tests, image-layout}
use Rattle.table_update.specs.Exchange.{table_rows}
use Rattle.image_layout.proofs.Limits.{within-limits}
use Rattle.table_update.proofs.Stores.{count_of, length-table, within-rows, layout-rows}
use Rattle.table_update.proofs.Rooms.{rows_room}

pub record Accepted (w : List ℕ) : Type 0 where
  pub end_is : image_end w ≡ length w
  pub few : (t : Table) → length (table_rows t w) ≤ limit t
  pub rows_sound : (t : Table) → table_fault t [] (table_rows t w) ≡ none

pub accepted-image : (w : List ℕ) → Accepted w → image_fault w ≡ none
unfolding image_fault sized_fault rows_fault layout_of
accepted-image w a =
    let l : (t : Table) → count_of t w ≤ limit t = λ t. omega (arith, length-table t w, a.few t) in
    rw (
      le-ltb (length w) header (omega (arith, a.end_is)),
      within-limits (count 0 w) (count 1 w) (count 2 w) (count 3 w) (l Context) (l Mapping) (l Access) (l View),
      eq-eqb (image_end w) (length w) a.end_is,
      a.rows_sound Context,
      a.rows_sound Mapping,
      a.rows_sound Access,
      a.rows_sound View,
    )

module _ (w : List ℕ) (h : image_fault w ≡ none) where
  pub image-accepted : Accepted w
  image-accepted =
      let t = image-tests w h in
      record { end_is = t.1; few = within-rows w t.0; rows_sound = layout-rows w (image-layout w h) }

  pub image_room : length w ≤ room
  image_room =
      let a = image-accepted in
      omega (arith, rows_room w (omega (arith, a.end_is)) a.few a.rows_sound, a.end_is)
