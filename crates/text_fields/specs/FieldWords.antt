-- What a word of a line says of a field, in the form of the image: a name or mask in hex, a subtree dotted, a number in decimal.
-- A field that its bytes can hold is taken even if it is out of range, so that the call it is handed to judges it; what they cannot hold is malformed.
-- Assumes nothing.
use Rattle.std.specs.Prelude.{cond, List, ◌∷◌, ℕ, suc, ◌*◌, leb, ltb, length}
use Rattle.std.proofs.Math.Option.{Option, none, some}
use Rattle.numbers.specs.BigEndian.{Width, octet, quad, bound, bytes, bytes_of}
use Rattle.rows.specs.Fields.{Field, sequence, integer}
use Rattle.text_words.specs.Words.{decimal, hex_octets, dotted}

-- the most that one octet holds: of parts, behind their count, and of a number
abbrev pub octet_most : ℕ
octet_most = 255

-- parts behind their count
abbrev pub counted : Width → Option (List ℕ) → Option (List ℕ)
counted w none = none
counted w (some x) = cond (leb (length x) octet_most) (some (length x ∷ bytes_of w x)) none

-- a number in its bytes
abbrev pub numbered : Width → Option ℕ → Option (List ℕ)
numbered w none = none
numbered w (some x) = cond (ltb x (bound w)) (some (bytes w x)) none

abbrev pub field_said : Field → List ℕ → Option (List ℕ)
field_said (sequence octet lo hi) w = counted octet (hex_octets w)
field_said (sequence quad lo hi) w = counted quad (dotted w)
field_said (integer width lo hi) w = numbered width (decimal w)

-- a word, and the space in front of the next, make no more bytes than this
abbrev pub word_bytes : List ℕ → ℕ
word_bytes w = 4 * suc (length w)
