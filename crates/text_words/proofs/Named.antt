-- What a word names among things that have words, by its place: the thing at that place, or none. Assumes nothing.
use mathlib.Core.Path.{◌≡◌, refl, sym, ap, ◌∙◌}
use mathlib.Core.List.{List, [], ◌∷◌}
use mathlib.Core.Option.{none}
use Prim.Native.Nat.{ℕ, ◌≤◌}
use lib.ListN.{length, drop, drop_of_length-le}
use Rattle.numbers.specs.Lists.{first, find}
use Rattle.numbers.specs.Order.{same}
use Rattle.numbers.proofs.Bools.{split as by}
use Rattle.text_words.specs.Words.{place}

module _ {A : Type 0} (word : A → List ℕ) where
  -- the words of things
  abbrev pub words_of : List A → List (List ℕ)
  words_of [] = []
  words_of (x ∷ xs) = word x ∷ words_of xs

  found : (w : List ℕ) (xs : List A) → first (drop (place w (words_of xs)) xs) ≡ find (λ x. same (word x) w) xs
  unfolding place
  found w [] = refl
  found w (x ∷ xs) = by (same (word x) w) (λ t. rw t) (λ f. rw f (found w xs))

  pub named-at : (w : List ℕ) (xs : List A) (n : ℕ) → n ≡ place w (words_of xs) → first (drop n xs) ≡ find (λ x. same (word x) w) xs
  named-at w xs n e = ap (λ m. first (drop m xs)) e ∙ found w xs

  pub named_none : (w : List ℕ) (xs : List A) (n : ℕ) → n ≡ place w (words_of xs) → length xs ≤ n → none ≡ find (λ x. same (word x) w) xs
  named_none w xs n e h = sym (ap first (drop_of_length-le xs h)) ∙ named-at w xs n e
