-- What document 01's examples P11 and P12 say of images, and a fresh store, made by reading P11; proved in proofs/Examples.antt. Assumes nothing.
use Rattle.std.specs.Prelude.{◌≡◌, List, ℕ}
use Rattle.std.proofs.Math.Option.{none, some}
use Rattle.std.specs.Prelude.{Ok}
use Rattle.rows.specs.Tables.{Tables, no_rows}
use Rattle.image.specs.Image.{image_fault}
use Rattle.image_judge.specs.Faults.{tables_in}
use Rattle.image.specs.Store.{held}
use Rattle.image.specs.Examples.{p11, empty_context, p12}
use Rattle.image_transfer.specs.Types.{Loaded}
use Rattle.image_transfer.specs.Transfer.{image_of, Reads}

-- the tables are written so; nothing is wrong with the image, and it holds them
pub record IsImage (tables : Tables) (image : List ℕ) : Type 0 where
  pub written : image_of tables ≡ image
  pub sound : image_fault image ≡ none
  pub tables_are : tables_in image ≡ tables

abbrev pub P11 : Type 0
P11 = IsImage no_rows p11

abbrev pub P12 : Type 0
P12 = IsImage empty_context p12

-- document 01: "A fresh store has no rows"
abbrev pub Freshens : Type 0
Freshens = (found after : List ℕ) (r : Loaded) → Reads p11 found after r → (r ≡ (Ok tt)) × (held after ≡ some no_rows)
