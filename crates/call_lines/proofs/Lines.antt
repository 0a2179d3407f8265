-- Laws of what a line asks for; and of the line that is printed: the number and a space stand in front and are short, so that the answer fits behind
-- them, and a newline behind it. Put part by part, they are the line. Assumes nothing.
use mathlib.Core.Path.{◌≡◌, ◌∙◌}
use mathlib.Core.List.{List, [], ◌∷◌, ◌++◌}
use mathlib.Core.Option.{Option, none, some, Option-elim}
use Prim.Native.Nat.{ℕ, ◌+◌, ◌≤◌, ◌<◌}
use native.Mathlib.Omega.{arith}
use lib.ListN.{length, length-append}
use Rattle.text_words.specs.Words.{longest}
use Rattle.text_values.specs.Texts.{decimal_text, Puts}
use Rattle.text_values.proofs.Digits.{length-decimal}
use Rattle.text_values.proofs.Puts.{Onward, start, step, last, kept}
use Rattle.call_verbs.specs.Calls.{Asked, line_said}
use Rattle.call_verbs.proofs.Calls.{long-line}
use Rattle.set_words.specs.SetWords.{set_said, set_words}
use Rattle.set_words.proofs.Sets.{set_long}
use Rattle.call_answers.specs.Answers.{Room}
use Rattle.call_plays.specs.Plays.{PutsPlay}
use Rattle.call_lines.specs.Lines.{line_asks, line_room, line_text, PutsLine}

-- ---- what a line asks for

module _ (line : List ℕ) where
  pub asks_set : {ws : List (List ℕ)} → set_words line ≡ some ws → line_asks line ≡ set_said ws
  unfolding line_asks Option-elim
  asks_set e = rw e

  pub asks-other : set_words line ≡ none → line_asks line ≡ line_said line
  unfolding line_asks Option-elim
  asks-other e = rw e

  pub long-asks : longest < length line → line_asks line ≡ none
  long-asks h = asks-other (set_long line h) ∙ long-line line h

-- ---- what is printed

line-length : (number : ℕ) (text : List ℕ) → length (line_text number text) ≤ 22 + length text
line-length number text =
    omega (arith, length-append (decimal_text number) (32 ∷ (text ++ (10 ∷ []))), length-append text (10 ∷ []), length-decimal number)

module _ (number : ℕ) {out : List ℕ} (room : line_room ≤ length out) {w₁ : List ℕ} {space : ℕ} (p : Puts (decimal_text number) 0 out w₁ space) where
  size : length w₁ ≡ length out
  size = kept (omega (arith, length-decimal number)) p

  pub space-fits : space + 1 ≤ length w₁
  space-fits = omega (arith, p.ends, length-decimal number, size)

  module _ {w₂ : List ℕ} {from : ℕ} (o : Puts (32 ∷ []) space w₁ w₂ from) where
    pub play-fits : Room from w₂
    play-fits = omega (arith, o.ends, p.ends, length-decimal number, kept space-fits o, size)

    module _ {call : Option Asked} {found after w₃ : List ℕ} {end : ℕ} (t : PutsPlay call found after from w₂ w₃ end) where
      whole : 0 + length (line_text number t.text) ≤ length out
      whole = omega (arith, line-length number t.text, t.told.short)

      left : Onward (line_text number t.text) 0 out (10 ∷ []) end w₃
      left =
          let i = step (decimal_text number) (32 ∷ (t.text ++ (10 ∷ []))) (start whole) p in
          step t.text (10 ∷ []) (step (32 ∷ []) (t.text ++ (10 ∷ [])) i o) t.told.puts

      pub newline-fits : end + 1 ≤ length w₃
      newline-fits = left.fits

      pub puts-line : {w₄ : List ℕ} {r : ℕ} → Puts (10 ∷ []) end w₃ w₄ r → PutsLine call number found after out w₄ r
      puts-line l = record { text = t.text; plays = t.plays; puts = last (10 ∷ []) left l; fits = omega (arith, whole) }
