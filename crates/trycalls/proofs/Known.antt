-- Where it is known what the file has and the input has left, it is known what is written: what was read is that, unless a read failed or the input is longer
-- than all reads. Assumes nothing.
use Rattle.std.proofs.Common.{◌≡◌, ℕ, ◌+◌, ◌<◌, List, None, Some, IfSome, length, take, subst}
use Rattle.std.specs.Prelude.{Option as StdOption}
use mathlib.Core.Logic.{⊎_elim, inl, inr}
use Rattle.std.specs.Io.KnownBytes.{Appends}
use Rattle.image.specs.Image.{image_fault}
use Rattle.image.specs.Store.{room as largest}
use Rattle.program_io.specs.Outside.{Outside}
use Rattle.program_io.specs.Files.{TablesFile}
use Rattle.program_io.specs.Desk.{Moved, ReadToEnd, most_reads}
use Rattle.program_io.proofs.Moved.{moved-held, input-known, tables-known}
use Rattle.trycalls.specs.Runs.{Written, WritesBehind, Tells}

module _ (tables input text : List ℕ) where
  -- what was written is what is to be written for what the input is known to have
  abbrev WrittenFor : StdOption (List ℕ) → Type 0
  WrittenFor unread = IfSome unread (λ xs. length xs < most_reads → Written (image_fault tables) tables xs text)

  written-for : (unread : StdOption (List ℕ)) → IfSome unread (λ xs. length xs < most_reads → input ≡ xs)
      → Written (image_fault tables) tables input text → WrittenFor unread
  written-for None h w = tt
  written-for (Some xs) h w = λ l. subst (λ u. Written (image_fault tables) tables u text) (h l) w

  written-always : (unread : StdOption (List ℕ)) → ((xs : List ℕ) → Written (image_fault tables) tables xs text) → WrittenFor unread
  written-always None h = tt
  written-always (Some xs) h = λ l. h xs

  known-written : (known unread held holds : StdOption (List ℕ)) → IfSome known (λ file. tables ≡ take (largest + 1) file) → WrittenFor unread
      → Appends held holds text
      → IfSome known (λ file. IfSome unread (λ xs. length xs < most_reads → WritesBehind held holds (take (largest + 1) file) xs))
  known-written None unread held holds t s a = tt
  known-written (Some file) None held holds t s a = tt
  known-written (Some file) (Some xs) held holds t s a = λ l. record {
    text = text;
    written = subst (λ w. Written (image_fault w) w xs text) t (s l);
    appended = a;
  }

module _ {known : StdOption (List ℕ)} {from to : Outside} {tables input text : List ℕ} (file : TablesFile known tables) (moved : Moved from to input text) where
  -- the lines are played
  pub tells-plays : ReadToEnd to input → Written (image_fault tables) tables input text → Tells known from to
  tells-plays r w =
      ⊎_elim inl
      (λ t. ⊎_elim inl
      (λ i. inr (known-written tables input text known from.unread from.held to.held t (written-for tables input text from.unread i w) (moved-held moved)))
      (input-known moved r))
      (tables-known file)

  -- the tables are refused, whatever the input is
  pub tells-refusal : ((xs : List ℕ) → Written (image_fault tables) tables xs text) → Tells known from to
  tells-refusal same =
      ⊎_elim inl
      (λ t. inr (known-written tables input text known from.unread from.held to.held t (written-always tables input text from.unread same) (moved-held moved)))
      (tables-known file)
