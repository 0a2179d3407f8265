-- For every store and every list of calls there is a run: whatever a call is lent, it ends with an answer, and the next one goes on from what it left.
-- A store and what edits are handed are bytes, as lent slices hold them. Assumes nothing.
use Rattle.std.specs.Prelude.{◌≡◌, List, [], ◌∷◌, ℕ}
use Rattle.numbers.specs.BigEndian.{Octets}
use Rattle.calls.specs.Does.{Call, HandsOctets}
use Rattle.isolation.specs.Isolation.{Told, calls, Run}

abbrev pub AllHandOctets : List Call → Type 0
AllHandOctets [] = Unit {0}
AllHandOctets (c ∷ cs) = HandsOctets c × AllHandOctets cs

-- a run of these calls
pub record RunOf (s : List ℕ) (cs : List Call) : Type 0 where
  pub told : List Told
  pub end : List ℕ
  pub run : Run s told end
  pub calls_are : calls told ≡ cs

abbrev pub EveryListRuns : Type 0
EveryListRuns = (s : List ℕ) → Octets s → (cs : List Call) → AllHandOctets cs → RunOf s cs
