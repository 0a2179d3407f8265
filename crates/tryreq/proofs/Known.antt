-- Where it is known what the file has and the input has left, it is known what is written: what was read is that, unless a read failed or the input is longer
-- than all reads. Assumes nothing.
use Rattle.std.proofs.Common.{◌≡◌, ℕ, ◌+◌, ◌<◌, List, None, Some, IfSome, ap, ◌∙◌, length, take, subst}
use Rattle.std.specs.Prelude.{Option}
use mathlib.Core.Logic.{⊎_elim, inl, inr}
use Rattle.std.specs.Io.KnownBytes.{Appends}
use Rattle.image.specs.Store.{room as largest}
use Rattle.program_io.specs.Outside.{Outside}
use Rattle.program_io.specs.Files.{TablesFile}
use Rattle.program_io.specs.Desk.{Moved, ReadToEnd, most_reads}
use Rattle.program_io.proofs.Moved.{moved-held, input-known, tables-known}
use Rattle.request_lines.specs.Report.{written}
use Rattle.tryreq.specs.Runs.{Tells}

module _ (tables input : List ℕ) where
  -- what was written is the same for what the input is known to have
  abbrev SameFor : Option (List ℕ) → Type 0
  SameFor unread = IfSome unread (λ xs. length xs < most_reads → written tables input ≡ written tables xs)

  same-for : (unread : Option (List ℕ)) → IfSome unread (λ xs. length xs < most_reads → input ≡ xs) → SameFor unread
  same-for None h = tt
  same-for (Some xs) h = λ l. ap (written tables) (h l)

  same-always : (unread : Option (List ℕ)) → ((xs : List ℕ) → written tables input ≡ written tables xs) → SameFor unread
  same-always None h = tt
  same-always (Some xs) h = λ l. h xs

  known-written : (known unread held holds : Option (List ℕ)) → IfSome known (λ file. tables ≡ take (largest + 1) file) → SameFor unread
      → Appends held holds (written tables input)
      → IfSome known (λ file. IfSome unread (λ xs. length xs < most_reads → Appends held holds (written (take (largest + 1) file) xs)))
  known-written None unread held holds t s a = tt
  known-written (Some file) None held holds t s a = tt
  known-written (Some file) (Some xs) held holds t s a = λ l. subst (Appends held holds) (s l ∙ ap (λ w. written w xs) t) a

module _ {known : Option (List ℕ)} {from to : Outside} {tables input : List ℕ} (file : TablesFile known tables)
    (moved : Moved from to input (written tables input)) where
  -- the lines are answered
  pub tells-answers : ReadToEnd to input → Tells known from to
  tells-answers r =
      ⊎_elim inl
      (λ t. ⊎_elim inl (λ i. inr (known-written tables input known from.unread from.held to.held t (same-for tables input from.unread i) (moved-held moved))) (input-known moved r))
      (tables-known file)

  -- the tables are refused, whatever the input is
  pub tells-refusal : ((xs : List ℕ) → written tables input ≡ written tables xs) → Tells known from to
  tells-refusal same =
      ⊎_elim inl (λ t. inr (known-written tables input known from.unread from.held to.held t (same-always tables input from.unread same) (moved-held moved))) (tables-known file)
