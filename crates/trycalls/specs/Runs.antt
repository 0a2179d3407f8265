-- What the program `trycalls` reads and writes. Assumes nothing.
use Rattle.std.specs.Prelude.{◌≡◌, ◌⊎◌, true, false, List, [], ◌∷◌, ◌++◌, ℕ, ◌+◌, ◌<◌, length, take, IfSome}
use Rattle.std.specs.Prelude.{Option as StdOption}
use Rattle.std.specs.Io.KnownBytes.{Appends}
use Rattle.std.proofs.Math.Option.{Option, none, some}
use Rattle.answers.specs.declared.Fault.{Fault}
use Rattle.answers.specs.Numbers.{fault_number}
use Rattle.image_judge.specs.Faults.{tables_in}
use Rattle.image.specs.Image.{image_fault}
use Rattle.image.specs.Store.{held, room as largest}
use Rattle.program_io.specs.declared.Desk.{Desk}
use Rattle.program_io.specs.Outside.{Outside, InputFailed}
use Rattle.program_io.specs.Files.{TablesFile}
use Rattle.program_io.specs.Lines.{lines_of}
use Rattle.program_io.specs.Desk.{Moved, OutputFailed, ReadToEnd, new_line, Writes, most_reads}
use Rattle.request_lines.specs.Report.{told}
use Rattle.call_plays.specs.Plays.{Plays}
use Rattle.call_lines.specs.Lines.{line_asks, line_text}

-- ---- lines played one after the other

-- the first line is played, and `GoesOn` says what the others do to the store that it leaves and what is written for them
pub record PlaysFirst (n : ℕ) (found line text : List ℕ) (GoesOn : List ℕ → List ℕ → Type 0) : Type 0 where
  pub next : List ℕ
  pub answer : List ℕ
  pub later : List ℕ
  pub plays : Plays (line_asks line) found next answer
  pub goes_on : GoesOn next later
  pub text_is : text ≡ line_text (n + 1) answer ++ later

-- n lines stood before them: each is played on the store that the one before left, and its number and its answer are written
unfoldable pub Played : ℕ → (found : List ℕ) → List (List ℕ) → (text after : List ℕ) → Type 0
Played n found [] text after = (text ≡ []) × (after ≡ found)
Played n found (line ∷ lines) text after = PlaysFirst n found line text (λ next later. Played (n + 1) next lines later after)

-- ---- a run

-- the lines are played on a store that holds the tables
pub record OnTables (tables input text : List ℕ) : Type 0 where
  pub store : List ℕ
  pub after : List ℕ
  pub holds : held store ≡ some (tables_in tables)
  pub played : Played 0 store (lines_of input) text after

-- what is written for tables and an input: the tables' fault, or the answers to the lines
abbrev pub Written : Option Fault → (tables input text : List ℕ) → Type 0
Written (some f) tables input text = text ≡ told 0 (fault_number f)
Written none tables input text = OnTables tables input text

-- that is written behind what the output held
pub record WritesBehind (held holds : StdOption (List ℕ)) (tables input : List ℕ) : Type 0 where
  pub text : List ℕ
  pub written : Written (image_fault tables) tables input text
  pub appended : Appends held holds text

-- Where it is known what the file has and the input has left, what is written behind what the output held is what is to be written for the two, unless a read
-- failed, or the input is longer than all reads that may be made. Of a file that is too long as many octets count as show it.
abbrev pub Tells : StdOption (List ℕ) → (from to : Outside) → Type 0
Tells known from to =
    InputFailed
    ⊎ IfSome known (λ file.
    IfSome from.unread (λ input. length input < most_reads → WritesBehind from.held to.held (take (largest + 1) file) input))

-- A run: of the file `tables.bin` and of standard input. Where standard output took what was written, that is what is to be written for the two, and the
-- input was read to its end, unless the tables are refused. It took less only where a write failed. `known` is what the file is known to have, and the
-- outside was as `from` says before the run, and is as `to` says behind it.
pub record Runs (known : StdOption (List ℕ)) (from to : Outside) (d : Desk) : Type 0 where
  pub tables : List ℕ
  pub input : List ℕ
  pub text : List ℕ
  pub file : TablesFile known tables
  pub moved : d.writable ≡ true → Moved from to input text
  pub written : d.writable ≡ true → Written (image_fault tables) tables input text
  pub ended : d.writable ≡ true → image_fault tables ≡ none → d.reads ≡ 0
  pub read_all : d.writable ≡ true → image_fault tables ≡ none → ReadToEnd to input
  pub tells : d.writable ≡ true → Tells known from to
  pub closed : d.writable ≡ false → OutputFailed

-- ---- its parts

-- the lines of the input are played
pub record Serves (from to : Outside) (d : Desk) (found after : List ℕ) : Type 0 where
  pub input : List ℕ
  pub text : List ℕ
  pub moved : d.writable ≡ true → Moved from to input text
  pub played : d.writable ≡ true → Played 0 found (lines_of input) text after
  pub ended : d.writable ≡ true → d.reads ≡ 0
  pub read_all : d.writable ≡ true → ReadToEnd to input
  pub closed : d.writable ≡ false → OutputFailed

-- the line that was found, if one was, is played and its answer written
pub record Answers (held holds : StdOption (List ℕ)) (d r : Desk) (line found after : List ℕ) : Type 0 where
  pub text : List ℕ
  pub writes : Writes held holds d r text
  pub played : (n : ℕ) → d.number ≡ n + length (new_line d line) → Played n found (new_line d line) text after
