-- What is known of octets that came from a file. Where a contract names what the file has, they are that; of a file of the system it does not say which octets
-- it has, so that a name stands for it: only `load` makes one. Assumes nothing.
use Rattle.std.specs.Prelude.{◌≡◌, ◌⊎◌, List, [], ℕ, ◌+◌, take, Option, Some, None, IfSome}
use Rattle.std.specs.Io.{StartsWith}
use Rattle.image.specs.Store.{room as largest}
use Rattle.program_io.specs.Outside.{InputFailed}

-- the octets of a file, where they are known: where there is none, or it did not open, there are none
abbrev pub octets_of : {F : Type 0} → (F → Option (List ℕ)) → Option F → Option (List ℕ)
octets_of remaining None = Some []
octets_of remaining (Some file) = remaining file

-- `octets` were read of an open file, for which there was so much room: of what it is known to have they are the front, and all, as far as there was room,
-- unless a read failed
pub record ReadsFile (known : Option (List ℕ)) (room : ℕ) (octets : List ℕ) : Type 0 where
  pub front : IfSome known (λ file. StartsWith file octets)
  pub whole : InputFailed ⊎ IfSome known (λ file. octets ≡ take room file)

-- these octets are those of `tables.bin`, as far as there is room for them
pub data TablesFile (known : Option (List ℕ)) : List ℕ → Type 0 where
  read_from_file : (octets : List ℕ) → ReadsFile known (largest + 1) octets → TablesFile known octets
