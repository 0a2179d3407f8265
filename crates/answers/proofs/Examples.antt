-- The counts compute: the answers of document 01's P1 to P9, counted from a fresh tally and from one whose counts are all at their last value. Assumes nothing.
use Rattle.std.proofs.Common.{◌≡◌, ℕ, List, [], ◌∷◌, refl}
use Rattle.answers.specs.declared.Tally.{Tally}
use Rattle.answers.specs.Counts.{counted}

abbrev tally_of : ℕ → ℕ → ℕ → ℕ → Tally
tally_of a b c d = record { unknown_contexts = a; no_groups = b; no_views = c; unauthorized_accesses = d }

abbrev counted_all : Tally → List ℕ → Tally
counted_all t [] = t
counted_all t (answer ∷ answers) = counted_all (counted t answer) answers

abbrev answered : List ℕ
answered = 0 ∷ 5 ∷ 5 ∷ 0 ∷ 4 ∷ 4 ∷ 1 ∷ 2 ∷ 3 ∷ []

pub from-fresh : counted_all (tally_of 0 0 0 0) answered ≡ tally_of 1 1 1 4
from-fresh = refl

pub from_last : counted_all (tally_of 4294967295 4294967295 4294967295 4294967295) answered ≡ tally_of 0 0 0 3
from_last = refl
