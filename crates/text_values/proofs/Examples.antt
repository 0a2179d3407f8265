-- Numbers as text: the definitions computed. Assumes nothing.
use mathlib.Core.Path.{◌≡◌, refl}
use mathlib.Core.List.{[], ◌∷◌}
use Rattle.text_values.specs.Texts.{digits, decimal_text}

-- 0, 10 and 18446744073709551615, as computed
zero-text : decimal_text 0 ≡ 48 ∷ []
unfolding decimal_text digits
zero-text = refl

ten-text : decimal_text 10 ≡ 49 ∷ 48 ∷ []
unfolding decimal_text digits
ten-text = refl

largest-text : decimal_text 18446744073709551615
    ≡ 49 ∷ 56 ∷ 52 ∷ 52 ∷ 54 ∷ 55 ∷ 52 ∷ 52 ∷ 48 ∷ 55 ∷ 51 ∷ 55 ∷ 48 ∷ 57 ∷ 53 ∷ 53 ∷ 49 ∷ 54 ∷ 49 ∷ 53 ∷ []
unfolding decimal_text digits
largest-text = refl
