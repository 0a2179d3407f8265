-- Lists that are the same in front. Assumes nothing.
use Rattle.std.specs.Prelude.{◌≡◌, Bool, ◌&&◌, List, ℕ, ◌+◌, ◌≤◌, ◌<◌, eqb, length, get_or}

-- both have n elements in front that are the same
pub record Alike (n : ℕ) (a b : List ℕ) : Type 0 where
  pub in_first : n ≤ length a
  pub in_second : n ≤ length b
  pub same : (i : ℕ) → i < n → get_or a i 0 ≡ get_or b i 0

-- the elements at a place are the same; the four from there on
abbrev same_at : List ℕ → List ℕ → ℕ → Bool
same_at a b i = eqb (get_or a i 0) (get_or b i 0)

abbrev pub four_same : List ℕ → List ℕ → ℕ → Bool
four_same a b i = same_at a b i && same_at a b (i + 1) && same_at a b (i + 2) && same_at a b (i + 3)
