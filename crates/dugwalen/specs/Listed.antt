-- The numbers that include/dugwalen.h lists, and that the C call hands back no other: a statement, proved in proofs/Listed.antt.
-- Assumes nothing.
use Rattle.std.specs.Prelude.{◌≡◌, Bool, true, List, [], ◌∷◌, ℕ, eqb}
use Rattle.numbers.specs.Lists.{any}
use Rattle.dugwalen.specs.CCall.{call_number}

abbrev pub listed : List ℕ
listed = 0 ∷ 1 ∷ 2 ∷ 3 ∷ 4 ∷ 5 ∷ 7 ∷ 9 ∷ 14 ∷ 15 ∷ []

abbrev pub is_listed : ℕ → Bool
is_listed n = any (eqb n) listed

-- whatever the image and the request are
abbrev pub AnswersListed : Type 0
AnswersListed =
    (image : List ℕ) (model : ℕ) (name : List ℕ) (level view : ℕ) (context variable : List ℕ)
    → is_listed (call_number image model name level view context variable) ≡ true
