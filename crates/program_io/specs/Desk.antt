-- The desk at which the programs that answer lines work: what was read of standard input and written to standard output, and the lines taken.
-- Assumes nothing.
use Rattle.std.specs.Prelude.{◌≡◌, ◌⊎◌, Bool, true, false, cond, List, [], ◌∷◌, ◌++◌, ℕ, suc, ◌+◌, ◌-◌, ◌*◌, ◌≤◌, ◌<◌, length, take, drop, Option}
use Rattle.std.specs.Io.KnownBytes.{Consumes, Appends, IsAtEnd}
use Rattle.numbers.specs.Laid.{laid}
use Rattle.text_words.specs.Words.{run}
use Rattle.program_io.specs.Outside.{Outside, outside, InputFailed}
use Rattle.program_io.specs.Lines.{lines_of, keep, kept, goes_on}
use Rattle.program_io.specs.declared.Desk.{Desk}

-- ---- what was read and written

-- Since the outside was as `from` says, `input` was read of standard input and `text` was handed to standard output, piece by piece, and now it is as `to`
-- says: a piece that was read stood at the front of what the input had left, and a text that was written stands behind what the output held, where these are
-- known. Where they are not, the contracts of the system's calls say how many octets they move and not which, so that a name stands for it: only the proofs of
-- `start`, `read` and `write` make one.
pub data Moved (from : Outside) : Outside → List ℕ → List ℕ → Type 0 where
  nothing_moved : Moved from from [] []
  read_on : {input text : List ℕ} {had has held : Option (List ℕ)} (piece : List ℕ) → Consumes had has piece → Moved from (outside had held) input text
      → Moved from (outside has held) (input ++ piece) text
  written_on : {input text : List ℕ} {unread held holds : Option (List ℕ)} (more : List ℕ) → Appends held holds more
      → Moved from (outside unread held) input text → Moved from (outside unread holds) input (text ++ more)

-- A write failed, so that standard output takes no more: only the proof of `write` makes one.
data WriteFailed : Type 0 where
  write_failed : WriteFailed

pub OutputFailed : Type 0
OutputFailed = WriteFailed

pub output_failed : OutputFailed
unfolding OutputFailed
output_failed = write_failed

-- ---- sizes

-- octets that are read at once
abbrev pub piece_room : ℕ
piece_room = 65536

-- reads that may be made: 2^47
abbrev pub most_reads : ℕ
most_reads = 140737488355328

-- more lines than there are octets in all reads: 2^63
abbrev pub most_lines : ℕ
most_lines = 9223372036854775808

-- the piece is where the desk says, and the lines that may still come can be counted
pub record Ready (d : Desk) (piece : List ℕ) : Type 0 where
  pub piece_length : length piece ≡ piece_room
  pub at_in : d.at ≤ d.end
  pub end_in : d.end ≤ length piece
  pub counts : d.number + (d.end - d.at) + piece_room * d.reads ≤ most_lines

-- the octets of the piece that are not taken yet
abbrev pub left : Desk → List ℕ → List ℕ
left d piece = drop d.at (take d.end piece)

-- no more octets than this are still to be taken
abbrev pub pending : Desk → ℕ
pending d = (d.end - d.at) + suc piece_room * d.reads

-- ---- the lines taken

-- the line that was found, if one was
abbrev pub new_line : Desk → List ℕ → List (List ℕ)
new_line d line = cond d.found (take d.len line ∷ []) []

-- standard input, of which `input` was read, has nothing left, unless a read failed or the reads that may be made are used up
abbrev pub ReadToEnd : Outside → List ℕ → Type 0
ReadToEnd to input = InputFailed ⊎ (length input < most_reads → IsAtEnd to.unread)

-- `lines` are the lines taken of what was read; what is to come, whatever it is, makes the rest of the input's lines with what is begun and left.
-- Where standard output is closed, nothing is said of what was read and written.
pub record Taken (from to : Outside) (d : Desk) (piece line text : List ℕ) (lines : List (List ℕ)) : Type 0 where
  pub closed : d.writable ≡ false → OutputFailed
  pub input : List ℕ
  pub moved : d.writable ≡ true → Moved from to input text
  pub number_is : d.number ≡ length lines
  -- the octets of the line that is begun, of which `line` has what is kept
  pub begun : List ℕ
  pub one_line : run 10 begun ≡ length begun
  pub keeps : keep begun ≡ take d.begun line
  pub cut : d.writable ≡ true → (later : List ℕ) → (d.reads ≡ 0 → later ≡ [])
      → kept (lines_of (input ++ later)) ≡ lines ++ kept (lines_of (begun ++ (left d piece ++ later)))
  -- each read gave an octet at least; none may be made where one gave none, or all are made
  pub counted : d.writable ≡ true → 0 < d.reads → most_reads ≤ d.reads + length input
  pub read_all : d.writable ≡ true → d.reads ≡ 0 → ReadToEnd to input

-- all of the input is read, and these are its lines
pub record AllTaken (from to : Outside) (d : Desk) (text : List ℕ) (lines : List (List ℕ)) : Type 0 where
  pub closed : d.writable ≡ false → OutputFailed
  pub input : List ℕ
  pub moved : d.writable ≡ true → Moved from to input text
  pub number_is : d.number ≡ length lines
  pub all : d.writable ≡ true → kept (lines_of input) ≡ lines
  pub ended : d.writable ≡ true → d.reads ≡ 0
  pub read_all : d.writable ≡ true → ReadToEnd to input

-- ---- what the calls do

-- a desk where nothing is read or written yet
pub record Opens (r : Desk) : Type 0 where
  pub taken : (from : Outside) (piece line : List ℕ) → Taken from from r piece line [] []
  pub ready : (piece : List ℕ) → length piece ≡ piece_room → Ready r piece
  pub none_begun : r.begun ≡ 0

-- the same desk, open or closed
abbrev pub with_writable : Bool → Desk → Desk
with_writable b d = record
    { reads = d.reads; writable = b; at = d.at; end = d.end; number = d.number; begun = d.begun; found = d.found; len = d.len }

-- a text is written, or the desk is closed: standard output held `held`, and holds `holds`
pub record Writes (held holds : Option (List ℕ)) (d r : Desk) (more : List ℕ) : Type 0 where
  pub moves : r.writable ≡ true → {from : Outside} {unread : Option (List ℕ)} {input text : List ℕ} → Moved from (outside unread held) input text
      → Moved from (outside unread holds) input (text ++ more)
  pub same : r ≡ with_writable r.writable d
  pub stays_closed : r.writable ≡ true → d.writable ≡ true
  pub closes : r.writable ≡ false → d.writable ≡ true → OutputFailed

-- the same desk, with another piece
abbrev pub with_piece : ℕ → ℕ → ℕ → Desk → Desk
with_piece reads at end d = record
    { reads = reads; writable = d.writable; at = at; end = end; number = d.number; begun = d.begun; found = d.found; len = d.len }

-- a piece is read, or the input has ended: standard input had `had` left, and has `has` left
pub record Reads (had has : Option (List ℕ)) (d r : Desk) (piece' : List ℕ) : Type 0 where
  pub moves : {from : Outside} {held : Option (List ℕ)} {input text : List ℕ} → Moved from (outside had held) input text
      → Moved from (outside has held) (input ++ take r.end piece') text
  pub same : r ≡ with_piece r.reads 0 r.end d
  pub end_in : r.end ≤ length piece'
  pub ends : r.end ≡ 0 → r.reads ≡ 0
  pub fewer : 0 < r.end → suc r.reads ≡ d.reads
  pub at_end : 0 < length piece' → r.end ≡ 0 → InputFailed ⊎ IsAtEnd has

-- there is a piece to take lines from, or the input has ended
pub record Refills (had has : Option (List ℕ)) (d r : Desk) (piece piece' : List ℕ) : Type 0 where
  pub taken : {from : Outside} {held : Option (List ℕ)} {line text : List ℕ} {lines : List (List ℕ)} → Taken from (outside had held) d piece line text lines
      → Taken from (outside has held) r piece' line text lines
  pub ready : Ready r piece'
  pub no_more : pending r ≤ pending d
  pub used_up : r.writable ≡ true → r.at ≡ r.end → r.reads ≡ 0
  pub same_begun : r.begun ≡ d.begun

-- a line, or what the piece has of it, is taken
pub record NextLine (d r : Desk) (piece line line' : List ℕ) : Type 0 where
  pub taken : {from to : Outside} {text : List ℕ} {lines : List (List ℕ)} → Taken from to d piece line text lines
      → Taken from to r piece line' text (lines ++ new_line r line')
  pub ready : Ready r piece
  pub less : pending r < pending d
  pub len_in : r.len ≤ length line'
  pub begun_in : r.begun ≤ length line'
  pub line_is : line' ≡ laid d.begun (goes_on d.begun (length line) (left d piece)) line

-- what is begun at the input's end is the last line
pub record LastLine (d r : Desk) : Type 0 where
  pub taken : {from to : Outside} {piece line text : List ℕ} {lines : List (List ℕ)} → Taken from to d piece line text lines → d.begun ≤ length line
      → d.at ≡ d.end → (d.writable ≡ true → d.reads ≡ 0) → AllTaken from to r text (lines ++ new_line r line)
  pub len_in : r.len ≤ d.begun
