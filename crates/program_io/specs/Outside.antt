-- What the programs read and write, as far as it is known. A contract names the octets that a reader has left and those that a writer holds: at readers and
-- writers over memory they are known, and at a file, a pipe or a terminal they are not. Assumes nothing.
use Rattle.std.specs.Prelude.{◌≡◌, ◌⊎◌, List, [], ℕ, ◌<◌, Option}
use Rattle.std.specs.Io.KnownBytes.{Consumes, IsAtEnd}

-- the octets that standard input has left and those that standard output holds, where they are known
pub record Outside : Type 0 where
  pub unread : Option (List ℕ)
  pub held : Option (List ℕ)

abbrev pub outside : Option (List ℕ) → Option (List ℕ) → Outside
outside unread held = record { unread = unread; held = held }

-- A read failed. No contract says which reads fail, so that a name stands for it: only the proof of `read_some` makes one.
data ReadFailed : Type 0 where
  read_failed : ReadFailed

pub InputFailed : Type 0
InputFailed = ReadFailed

pub input_failed : InputFailed
unfolding InputFailed
input_failed = read_failed

-- A reader that had `had` left gave `piece` and has `has` left. Where it gave nothing, and there was room, it is at its end, or the read failed.
pub record ReadsSome (had has : Option (List ℕ)) (room : ℕ) (piece : List ℕ) : Type 0 where
  pub gives : Consumes had has piece
  pub at_end : 0 < room → piece ≡ [] → InputFailed ⊎ IsAtEnd has
