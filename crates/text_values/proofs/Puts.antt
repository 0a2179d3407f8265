-- A text put part by part.
-- What is still to be put is the rest of the text (`Onward`): laid where the writer stands, it gives the whole. A part put leaves the parts
-- behind it, and no part left is the text put. Assumes nothing.
use mathlib.Core.Path.{◌≡◌, refl, sym, ◌∙◌}
use mathlib.Core.List.{List, [], ◌∷◌, ◌++◌}
use Prim.Native.Nat.{ℕ, ◌+◌, ◌≤◌}
use native.Mathlib.Omega.{arith}
use lib.ListN.{length, take, set, length-append}
use Rattle.numbers.specs.Laid.{laid}
use Rattle.numbers.proofs.Laid.{laid_nil, laid-set, laid-laid, length-laid, take-laid}
use Rattle.text_values.specs.Texts.{Puts}

pub record Onward (text : List ℕ) (at : ℕ) (w₀ rest : List ℕ) (o : ℕ) (w : List ℕ) : Type 0 where
  pub lays : laid o rest w ≡ laid at text w₀
  pub ends : o + length rest ≡ at + length text
  pub fits : o + length rest ≤ length w
  pub kept : length w ≡ length w₀

module _ {text : List ℕ} {at : ℕ} {w₀ : List ℕ} where
  pub start : at + length text ≤ length w₀ → Onward text at w₀ text at w₀
  start h = record { lays = refl; ends = refl; fits = h; kept = refl }

  -- the part fits; the part is put
  pub room : (b rest : List ℕ) {o : ℕ} {w : List ℕ} → Onward text at w₀ (b ++ rest) o w → o + length b ≤ length w
  room b rest l = omega (arith, length-append b rest, l.fits)

  pub step : (b rest : List ℕ) {o r : ℕ} {w after : List ℕ} → Onward text at w₀ (b ++ rest) o w → Puts b o w after r
      → Onward text at w₀ rest r after
  step b rest {o} {r} {w} {after} l p =
      let h : o + length b ≤ length w = room b rest l in
      let e : o + length (b ++ rest) ≡ o + length b + length rest = omega (arith, length-append b rest) in
      record {
        lays = rw (p.lays, p.ends) (laid-laid o b rest w h ∙ l.lays);
        ends = rw p.ends (omega (arith, l.ends));
        fits = rw (p.lays, p.ends, length-laid o b w h) (omega (arith, l.fits));
        kept = rw (p.lays, length-laid o b w h) l.kept;
      }

  -- the last part, and none left
  pub last : (b : List ℕ) {o r : ℕ} {w after : List ℕ} → Onward text at w₀ b o w → Puts b o w after r → Puts text at w₀ after r
  last b l p = record { lays = p.lays ∙ l.lays; ends = p.ends ∙ l.ends }

  pub done : {o : ℕ} {w : List ℕ} → Onward text at w₀ [] o w → Puts text at w₀ w o
  done {o} {w} l = record { lays = sym (laid_nil o w) ∙ l.lays; ends = omega (arith, l.ends) }

-- two parts
pub both : (b c : List ℕ) {at r e : ℕ} {w after end : List ℕ} → at + length (b ++ c) ≤ length w
    → Puts b at w after r → Puts c r after end e → Puts (b ++ c) at w end e
both b c h p q = last c (step b c (start h) p) q

-- the second fits behind the first
pub behind : (b c : List ℕ) {at r : ℕ} {w after : List ℕ} → at + length (b ++ c) ≤ length w → Puts b at w after r → r + length c ≤ length after
behind b c h p = (step b c (start h) p).fits

-- the length stays
pub kept : {b : List ℕ} {at r : ℕ} {w after : List ℕ} → at + length b ≤ length w → Puts b at w after r → length after ≡ length w
kept {b} {at} {r} {w} h p = rw p.lays (length-laid at b w h)

-- what stands in front of its end
pub front : {b : List ℕ} {at r : ℕ} {w after : List ℕ} → at + length b ≤ length w → Puts b at w after r → take r after ≡ take at w ++ b
front {b} {at} {r} {w} h p = rw (p.lays, p.ends) (take-laid at b w h)

-- one octet stored, and two
pub puts_one : (at x : ℕ) (w : List ℕ) → at + 1 ≤ length w → Puts (x ∷ []) at w (set w at x) (at + 1)
puts_one at x w h = record { lays = laid-set at x w (omega arith); ends = refl }

pub puts-two : (at x y : ℕ) (w : List ℕ) → at + 2 ≤ length w → Puts (x ∷ y ∷ []) at w (set (set w at x) (at + 1) y) (at + 2)
puts-two at x y w h =
    let l : length (laid at (x ∷ []) w) ≡ length w = length-laid at (x ∷ []) w (omega arith) in
    record {
      lays = rw (laid-set at x w (omega arith), laid-set (at + 1) y (laid at (x ∷ []) w) (omega arith)) (laid-laid at (x ∷ []) (y ∷ []) w (omega arith));
      ends = refl;
    }
