-- What is wrong with a table image, if anything is (document 01, the last rows of "Where each number is met"). Assumes nothing.
use Rattle.std.specs.Prelude.{Bool, true, false, cond, List, ℕ, ◌+◌, eqb, leb, ltb, length}
use Rattle.std.proofs.Math.Option.{Option, some}
use Rattle.answers.specs.declared.Fault.{Fault}
use Rattle.answers.specs.declared.Fault.TheVariants.{Torn, TableFull}
use Rattle.image_layout.specs.Layout.{laid_out, count, image_length, within_limits, header}
use Rattle.image_judge.specs.Faults.{rows_fault}

-- a count above its limit; the total length not one that fits; the rows
unfoldable pub sized_fault : (ℕ → ℕ → Bool) → List ℕ → ℕ → ℕ → ℕ → ℕ → Option Fault
sized_fault fit w c m a v =
    cond (within_limits c m a v)
    (cond (fit (image_length (c + m + a + v) w) (length w)) (rows_fault w (laid_out w c m a v)) (some Torn))
    (some TableFull)

-- the image at the front of w; before all, fewer bytes than its header has
abbrev pub front_fault : (ℕ → ℕ → Bool) → List ℕ → Option Fault
front_fault fit w = cond (ltb (length w) header) (some Torn) (sized_fault fit w (count 0 w) (count 1 w) (count 2 w) (count 3 w))

-- w is the image, exactly
unfoldable pub image_fault : List ℕ → Option Fault
image_fault w = front_fault eqb w

-- the end of an image fits a length: where that is to be the whole image, exactly
abbrev pub fits : Bool → ℕ → ℕ → Bool
fits true end len = eqb end len
fits false end len = leb end len
