-- What the program `tryreq` reads and writes (document 01). Assumes nothing.
use Rattle.std.specs.Prelude.{◌≡◌, true, false, cond, ◌⊎◌, List, [], ℕ, ◌+◌, ◌-◌, ◌≤◌, ◌<◌, length, take, Option, IfSome}
use Rattle.std.specs.Io.KnownBytes.{Appends}
use Rattle.std.proofs.Math.Option.{none}
use Rattle.rows.specs.Tables.{Tables}
use Rattle.image.specs.Image.{image_fault}
use Rattle.image.specs.Store.{room as largest}
use Rattle.text_values.specs.Texts.{Puts}
use Rattle.program_io.specs.declared.Desk.{Desk}
use Rattle.program_io.specs.Outside.{Outside, InputFailed}
use Rattle.program_io.specs.Files.{TablesFile}
use Rattle.program_io.specs.Lines.{lines_of}
use Rattle.program_io.specs.Desk.{Moved, OutputFailed, ReadToEnd, piece_room, most_reads}
use Rattle.request_lines.specs.Answers.{line_answer}
use Rattle.request_lines.specs.Report.{most_told, told, report, written}

-- Where it is known what the file has and the input has left, what is written behind what the output held is what document 01 has written for the two, unless a
-- read failed, or the input is longer than all reads that may be made. Of a file that is too long as many octets count as show it.
abbrev pub Tells : Option (List ℕ) → (from to : Outside) → Type 0
Tells known from to =
    InputFailed
    ⊎ IfSome known (λ file.
    IfSome from.unread (λ input. length input < most_reads → Appends from.held to.held (written (take (largest + 1) file) input)))

-- A run: of the file `tables.bin` and of standard input. Where standard output took what was written, that is what document 01 has written for the two, and
-- the input was read to its end, unless the tables are refused. It took less only where a write failed. `known` is what the file is known to have, and the
-- outside was as `from` says before the run, and is as `to` says behind it.
pub record Runs (known : Option (List ℕ)) (from to : Outside) (d : Desk) : Type 0 where
  pub tables : List ℕ
  pub input : List ℕ
  pub file : TablesFile known tables
  pub moved : d.writable ≡ true → Moved from to input (written tables input)
  pub ended : d.writable ≡ true → image_fault tables ≡ none → d.reads ≡ 0
  pub read_all : d.writable ≡ true → image_fault tables ≡ none → ReadToEnd to input
  pub tells : d.writable ≡ true → Tells known from to
  pub closed : d.writable ≡ false → OutputFailed

-- ---- its parts

-- the lines of the input are answered
pub record Reports (t : Tables) (from to : Outside) (d : Desk) : Type 0 where
  pub input : List ℕ
  pub moved : d.writable ≡ true → Moved from to input (report t 0 (lines_of input))
  pub ended : d.writable ≡ true → d.reads ≡ 0
  pub read_all : d.writable ≡ true → ReadToEnd to input
  pub closed : d.writable ≡ false → OutputFailed

-- what is told of the line that was found, if one was
abbrev pub told_of : Tables → Desk → List ℕ → List ℕ
told_of t d line = cond d.found (told d.number (line_answer t (take d.len line))) []

-- it stands behind what is told already
pub record Answers (t : Tables) (d : Desk) (line out out' : List ℕ) (used r : ℕ) : Type 0 where
  pub puts : Puts (told_of t d line) used out out' r
  pub within : r ≤ used + most_told

-- of what is told all is to be written or nothing, so that there is room for another answer
pub record Due (used n : ℕ) : Type 0 where
  pub all_or_none : (n ≡ used) ⊎ (n ≡ 0)
  pub within : n ≤ used
  pub room : used - n + most_told ≤ piece_room
