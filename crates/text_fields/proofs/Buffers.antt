-- A count put in front of what was laid behind its place. Assumes nothing.
use mathlib.Core.Path.{◌≡◌, refl, sym, ap, ◌∙◌}
use mathlib.Core.List.{List, [], ◌∷◌, ◌++◌, append_assoc}
use mathlib.Core.Option.{Option, some}
use Prim.Native.Nat.{ℕ, suc, ◌+◌, ◌≤◌, ◌<◌}
use native.Mathlib.Numerals.{add-one}
use native.Mathlib.Omega.{arith}
use lib.ListN.{length, take, drop, set, get_or}
use lib.Seq.{length-take-le, take-suc, set_at}
use Rattle.numbers.specs.BigEndian.{octet, bytes_of}
use Rattle.numbers.specs.Laid.{laid}
use Rattle.numbers.proofs.Laid.{take-laid}
use Rattle.text_words.specs.Words.{Filling}

pub laid-front : (from c : ℕ) (x w : List ℕ) → from < length w → set (laid (from + 1) x w) from c ≡ laid from (c ∷ x) w
laid-front from c x w h =
    let g = get_or w from 0 in
    let r = x ++ drop (from + 1 + length x) w in
    let s : take (from + 1) w ≡ take from w ++ (g ∷ []) = rw (add-one from) (take-suc w from 0 h) in
    let n : from + 1 + length x ≡ from + suc (length x) = omega arith in
    ap (λ u. set (u ++ r) from c) s ∙ ap (λ u. set u from c) (append_assoc (take from w) (g ∷ []) r)
    ∙ set_at (take from w) g r c from (length-take-le from w (omega arith))
    ∙ ap (λ m. take from w ++ (c ∷ (x ++ drop m w))) n

-- octets are their own bytes
pub bytes_of-octet : (xs : List ℕ) → bytes_of octet xs ≡ xs
bytes_of-octet [] = refl
bytes_of-octet (x ∷ xs) = ap (λ u. x ∷ u) (bytes_of-octet xs)

-- what was read into a buffer from its front on
pub record Whole (n most : ℕ) (out : List ℕ) (said : Option (List ℕ)) : Type 0 where
  pub is : said ≡ some (take n out)
  pub size : length (take n out) ≡ n
  pub short : n ≤ most

pub whole : {n most : ℕ} {found out : List ℕ} {said : Option (List ℕ)} → Filling n 0 most found out said → Whole n most out said
whole {n} {most} {found} {out} f =
    let e : take n out ≡ f.of =
    ap (take n) f.lays ∙ ap (λ m. take m (laid 0 f.of found)) f.ends ∙ take-laid 0 f.of found (omega (arith, f.ends, f.inside)) in
    record { is = f.is ∙ ap some (sym e); size = ap length e ∙ omega (arith, f.ends); short = omega (arith, f.short) }
