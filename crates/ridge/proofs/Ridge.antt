-- The bytes of `ridge_image` have no fault, and the tables read off them are the Ridge tables: both sides compute. Assumes nothing.
use mathlib.Core.Path.{◌≡◌, refl}
use mathlib.Core.Option.{none}
use Rattle.numbers.specs.Order.{same, before}
use Rattle.rows.specs.Fields.{sequence_fault, integer_fault, faults}
use Rattle.rows.specs.Rows.{key_fields, row_fields}
use Rattle.image_layout.specs.Layout.{laid_out, layout_of}
use Rattle.image_judge.specs.Faults.{rows_fault, table_fault, tables_at, tables_in}
use Rattle.image.specs.Image.{image_fault, sized_fault}
use Rattle.ridge.specs.Ridge.{ridge_tables, ridge_image, RidgeImageHolds}

sound : image_fault ridge_image ≡ none
unfolding image_fault sized_fault rows_fault table_fault faults sequence_fault integer_fault laid_out layout_of key_fields row_fields before same
sound = refl

tables_are : tables_in ridge_image ≡ ridge_tables
unfolding tables_at laid_out layout_of row_fields
tables_are = refl

pub ridge-image : RidgeImageHolds
ridge-image = record { sound = sound; tables_are = tables_are }
