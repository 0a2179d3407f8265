-- A buffer filled with a list from a place on, element by element: what is filled is laid there, and one element more is laid behind it.
-- Assumes nothing.
use mathlib.Core.Path.{◌≡◌, sym, ap, refl, ◌∙◌}
use mathlib.Core.List.{List, [], ◌∷◌, ◌++◌}
use Prim.Native.Nat.{ℕ, ◌+◌, ◌≤◌, ◌<◌}
use native.Mathlib.Omega.{arith}
use lib.ListN.{length, take, get_or, set}
use lib.Seq.{length-take-le, take-add, take_all, drop-cons}
use Rattle.numbers.specs.Laid.{laid}
use Rattle.numbers.proofs.Laid.{laid_nil, laid-set, laid-laid, length-laid}

-- s in w from `at` on, as far as i
pub record FilledFrom (at : ℕ) (s w out : List ℕ) (i : ℕ) : Type 0 where
  pub passed : i ≤ length s
  pub same : length out ≡ length w
  pub so_far : out ≡ laid at (take i s) w

module _ {at : ℕ} {s w : List ℕ} where
  pub from_start : FilledFrom at s w w 0
  from_start = record { passed = omega arith; same = refl; so_far = sym (laid_nil at w) }

  module _ {out : List ℕ} {i : ℕ} (f : FilledFrom at s w out i) where
    pub from_next : (x : ℕ) → x ≡ get_or s i 0 → i < length s → at + length s ≤ length w → FilledFrom at s w (set out (at + i) x) (i + 1)
    from_next x e h r =
        let l : length (take i s) ≡ i = length-take-le i s f.passed in
        let q : set out (at + i) x ≡ laid (at + i) (x ∷ []) out = laid-set (at + i) x out (omega (arith, f.same)) in
        let m : take i s ++ (x ∷ []) ≡ take (i + 1) s =
        sym (take-add i 1 s ∙ ap (λ u. take i s ++ take 1 u) (drop-cons s i 0 h) ∙ ap (λ y. take i s ++ (y ∷ [])) (sym e)) in
        let n : set out (at + i) x ≡ laid at (take (i + 1) s) w =
        q ∙ ap (laid (at + i) (x ∷ [])) f.so_far ∙ ap (λ k. laid (at + k) (x ∷ []) (laid at (take i s) w)) (sym l)
        ∙ laid-laid at (take i s) (x ∷ []) w (omega arith) ∙ ap (λ u. laid at u w) m in
        record {
          passed = omega arith;
          same = ap length n ∙ length-laid at (take (i + 1) s) w (omega (arith, length-take-le (i + 1) s (omega arith)));
          so_far = n;
        }

    pub from_end : length s ≤ i → out ≡ laid at s w
    from_end h = f.so_far ∙ ap (λ u. laid at u w) (take_all i s h)
