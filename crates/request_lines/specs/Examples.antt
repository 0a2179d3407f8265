-- Document 01's example of the program `tryreq`: what is written for two lines on the image P12. Assumes nothing.
use Rattle.std.specs.Prelude.{◌≡◌, List, [], ◌∷◌, ℕ}
use Rattle.image.specs.Examples.{p12}
use Rattle.request_lines.specs.Report.{written}

-- `3 1 1 616e6e - 1.3.6.1`, `3 4 1 616e6e - 1.3`
abbrev pub two_lines : List ℕ
two_lines =
    51 ∷ 32 ∷ 49 ∷ 32 ∷ 49 ∷ 32 ∷ 54 ∷ 49 ∷ 54 ∷ 101 ∷ 54 ∷ 101 ∷ 32 ∷ 45 ∷ 32 ∷ 49 ∷ 46 ∷ 51 ∷ 46 ∷ 54 ∷ 46 ∷ 49 ∷ 10 ∷ 51 ∷ 32 ∷ 52
    ∷ 32 ∷ 49 ∷ 32 ∷ 54 ∷ 49 ∷ 54 ∷ 101 ∷ 54 ∷ 101 ∷ 32 ∷ 45 ∷ 32 ∷ 49 ∷ 46 ∷ 51 ∷ 10 ∷ []

-- `1 2`, `2 7`
abbrev pub P12Written : Type 0
P12Written = written p12 two_lines ≡ 49 ∷ 32 ∷ 50 ∷ 10 ∷ 50 ∷ 32 ∷ 55 ∷ 10 ∷ []
