-- A list with a part of it replaced, what lies behind the part moved along. Assumes nothing.
use Rattle.std.specs.Prelude.{List, ◌++◌, ℕ, ◌+◌, ◌-◌, length, take, drop}

-- w in which the `gone` elements at `at` give way to `new`; what stood behind them up to `end` follows, and what lies past its new end stays
abbrev pub spliced : List ℕ → ℕ → ℕ → ℕ → List ℕ → List ℕ
spliced w at gone end new =
    take at w ++ (new ++ (take (end - (at + gone)) (drop (at + gone) w) ++ drop (end - gone + length new) w))

-- w in which two parts do: the `had` elements at `place` give way to `head`, and the `gone` elements at `at`, behind them, to `new`
abbrev pub spliced_two : List ℕ → ℕ → ℕ → List ℕ → ℕ → ℕ → ℕ → List ℕ → List ℕ
spliced_two w place had head at gone end new =
    take place w ++ (head ++ (take (at - (place + had)) (drop (place + had) w) ++ (new
    ++ (take (end - (at + gone)) (drop (at + gone) w) ++ drop (end - gone - had + length head + length new) w))))
