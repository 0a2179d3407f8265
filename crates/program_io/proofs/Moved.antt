-- What is moved is known where the outside is: what was read stood at the front of what the input had, and what was written stands behind what the output
-- held. So all that a file and an input have is what was read of them, unless a read failed or the reads that may be made were used up. Assumes nothing.
use Rattle.std.proofs.Common.{◌≡◌, ℕ, ◌+◌, ◌<◌, List, ◌++◌, None, Some, IfSome, sym, ap, ◌∙◌, append-nil, length, take, length-append, arith}
use Rattle.std.specs.Prelude.{◌⊎◌, Option}
use mathlib.Core.Logic.{⊎_elim, inl, inr}
use Rattle.std.specs.Io.KnownBytes.{Consumes, Appends, IsAtEnd}
use Rattle.std.proofs.KnownBytes.{Consumes-nil, Consumes-trans, Appends-nil, Appends-trans}
use Rattle.image.specs.Store.{room as largest}
use Rattle.program_io.specs.Outside.{Outside, InputFailed}
use Rattle.program_io.specs.Files.{TablesFile, read_from_file}
use Rattle.program_io.specs.Desk.{Moved, nothing_moved, read_on, written_on, ReadToEnd, most_reads}

pub moved-unread : {from to : Outside} {input text : List ℕ} → Moved from to input text → Consumes from.unread to.unread input
moved-unread {from} nothing_moved = Consumes-nil from.unread
moved-unread (read_on piece gives m) = Consumes-trans _ _ _ _ piece (moved-unread m) gives
moved-unread (written_on more takes m) = moved-unread m

pub moved-held : {from to : Outside} {input text : List ℕ} → Moved from to input text → Appends from.held to.held text
moved-held {from} nothing_moved = Appends-nil from.held
moved-held (read_on piece gives m) = moved-held m
moved-held (written_on more takes m) = Appends-trans _ _ _ _ more (moved-held m) takes

-- ---- all that there was

all-read : (had has : Option (List ℕ)) (input : List ℕ) → Consumes had has input → (length input < most_reads → IsAtEnd has)
    → IfSome had (λ xs. length xs < most_reads → input ≡ xs)
all-read None has input p e = tt
all-read (Some xs) None input p e = absurd p
all-read (Some xs) (Some ys) input p e = λ l.
    let n : length xs ≡ length input + length ys = ap length p ∙ length-append input ys in
    sym (p ∙ ap (λ u. input ++ u) (e (omega (arith, n, l))) ∙ append-nil input)

pub input-known : {from to : Outside} {input text : List ℕ} → Moved from to input text → ReadToEnd to input
    → InputFailed ⊎ IfSome from.unread (λ xs. length xs < most_reads → input ≡ xs)
input-known m r = ⊎_elim inl (λ e. inr (all-read _ _ _ (moved-unread m) e)) r

pub tables-known : {known : Option (List ℕ)} {octets : List ℕ} → TablesFile known octets
    → InputFailed ⊎ IfSome known (λ xs. octets ≡ take (largest + 1) xs)
tables-known (read_from_file octets read) = read.whole
