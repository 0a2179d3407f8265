-- What is told of a line, put part by part: number, space, answer and newline. A number has at most 20 digits, so that all of it fits where the room
-- for it is left. Assumes nothing.
use mathlib.Core.Path.{◌≡◌, ap, ◌∙◌}
use mathlib.Core.List.{List, [], ◌∷◌, ◌++◌}
use Prim.Native.Nat.{ℕ, ◌+◌, ◌-◌, ◌≤◌}
use native.Mathlib.Omega.{arith}
use lib.ListN.{length, take, length-append}
use Rattle.text_values.specs.Texts.{decimal_text, Puts}
use Rattle.text_values.proofs.Digits.{length-decimal}
use Rattle.text_values.proofs.Puts.{Onward, start, step, last, front}
use Rattle.request_lines.specs.Report.{most_told, told}

module _ (number answer : ℕ) where
  -- what is left behind the number, the space and the answer
  abbrev pub left1 : List ℕ
  left1 = 32 ∷ (decimal_text answer ++ (10 ∷ []))

  abbrev pub left2 : List ℕ
  left2 = decimal_text answer ++ (10 ∷ [])

  abbrev pub left3 : List ℕ
  left3 = 10 ∷ []

  pub told-most : length (told number answer) ≤ most_told
  unfolding told
  told-most =
      omega (
        arith,
        length-append (decimal_text number) left1,
        length-append (decimal_text answer) left3,
        length-decimal number,
        length-decimal answer,
      )

  module _ (at : ℕ) (out : List ℕ) (h : at + most_told ≤ length out) where
    pub going0 : Onward (told number answer) at out (decimal_text number ++ left1) at out
    unfolding told
    going0 = start (omega (arith, told-most))

    module _ {a : ℕ} {w₁ : List ℕ} (p : Puts (decimal_text number) at out w₁ a) where
      pub going1 : Onward (told number answer) at out left1 a w₁
      going1 = step (decimal_text number) left1 going0 p

      module _ {b : ℕ} {w₂ : List ℕ} (q : Puts (32 ∷ []) a w₁ w₂ b) where
        pub going2 : Onward (told number answer) at out left2 b w₂
        going2 = step (32 ∷ []) left2 going1 q

        module _ {c : ℕ} {w₃ : List ℕ} (r : Puts (decimal_text answer) b w₂ w₃ c) where
          pub going3 : Onward (told number answer) at out left3 c w₃
          going3 = step (decimal_text answer) left3 going2 r

          pub told-put : {d : ℕ} {w₄ : List ℕ} → Puts (10 ∷ []) c w₃ w₄ d → Puts (told number answer) at out w₄ d × (d ≤ at + most_told)
          told-put s =
              let l = last left3 going3 s in
              (l, omega (arith, l.ends, told-most))

-- what is told at the front of a buffer
pub told-front : (number answer : ℕ) {out out' : List ℕ} {r : ℕ} → most_told ≤ length out → Puts (told number answer) 0 out out' r
    → take (r - 0) out' ≡ told number answer
told-front number answer {out} {out'} {r} h p =
    let z : r - 0 ≡ r = omega arith in
    ap (λ n. take n out') z ∙ front (omega (arith, told-most number answer)) p
