-- Reading and writing are each other's inverse, of rows and of the two calls: statements, proved in proofs/Inverse.antt. Assumes nothing.
use Rattle.std.specs.Prelude.{◌≡◌, List, ℕ, ◌≤◌, length, take}
use Rattle.std.proofs.Math.Option.{none, some}
use Rattle.std.specs.Prelude.{Ok}
use Rattle.answers.specs.Types.{Written}
use Rattle.numbers.specs.BigEndian.{Octets}
use Rattle.rows.specs.Tables.{Tables}
use Rattle.image.specs.Image.{image_fault}
use Rattle.image_judge.specs.Faults.{tables_in}
use Rattle.image.specs.Store.{held}
use Rattle.image_transfer.specs.Types.{Loaded}
use Rattle.image_transfer.specs.Transfer.{image_of, overlaid, Reads, Writes}

-- ---- rows

-- reading what was written gives the same rows
abbrev pub WrittenIsRead : Type 0
WrittenIsRead =
    (store : List ℕ) (t : Tables) → Octets store → held store ≡ some t → (image_fault (image_of t) ≡ none) × (tables_in (image_of t) ≡ t)

-- writing what was read gives the same bytes
abbrev pub ReadIsWritten : Type 0
ReadIsWritten = (image : List ℕ) → Octets image → image_fault image ≡ none → image_of (tables_in image) ≡ image

-- so an accepted image is the only one of its rows
abbrev pub OnlyImage : Type 0
OnlyImage = (v w : List ℕ) → Octets v → Octets w → image_fault v ≡ none → image_fault w ≡ none → tables_in v ≡ tables_in w → v ≡ w

-- ---- the calls

-- an image written from one store and read into another leaves the same rows there
abbrev pub Restores : Type 0
Restores =
    (store buffer written found after : List ℕ) (n : ℕ) (r : Loaded)
    → Octets store → Writes (held store) buffer written (Ok n) → Reads (take n written) found after r
    → (r ≡ (Ok tt)) × (held after ≡ held store)

-- an image read into a store and written from it is the same
abbrev pub Rewrites : Type 0
Rewrites =
    (image found store buffer written : List ℕ) (r : Written)
    → Octets image → Reads image found store (Ok tt) → Writes (held store) buffer written r → length image ≤ length buffer
    → (r ≡ Ok (length image)) × (written ≡ overlaid image buffer)
