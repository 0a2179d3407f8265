-- Laws of a list laid into another, in the place of as many elements as it has.
-- Laid one behind the other, two lists are laid as one (`laid-laid`): so is a store of one element, a part that was lent and came
-- back, and a buffer that is filled from the left by one element or several at a time (`Filled`). Assumes nothing.
use mathlib.Core.Path.{◌≡◌, refl, sym, ap, ◌∙◌}
use mathlib.Core.List.{List, [], ◌∷◌, ◌++◌, append_assoc, append-nil}
use Prim.Native.Nat.{ℕ, ◌+◌, ◌≤◌, ◌<◌}
use native.Mathlib.Nat.{add-zero, add_assoc}
use native.Mathlib.Numerals.{add-one}
use native.Mathlib.Omega.{arith}
use lib.ListN.{length, take, drop, set, get_or, length-append, length-drop, take-append-drop, drop_of_length-le}
use lib.Seq.{length-take-le, take_at, drop_at, drop-drop, take-add, take_all, drop-cons, set_split, take-length, paste}
use Rattle.numbers.specs.Laid.{laid}

pub laid_nil : (at : ℕ) (w : List ℕ) → laid at [] w ≡ w
laid_nil at w = rw (add-zero at) (take-append-drop at w)

module _ (at : ℕ) (b w : List ℕ) (room : at + length b ≤ length w) where
  front : length (take at w) ≡ at
  front = length-take-le at w (omega arith)

  pub length-laid : length (laid at b w) ≡ length w
  length-laid =
      omega (
        arith,
        front,
        length-append (take at w) (b ++ drop (at + length b) w),
        length-append b (drop (at + length b) w),
        length-drop
            (at + length b) w,
      )

  -- what stands before its end, and what behind it
  head : length (take at w ++ b) ≡ at + length b
  head = omega (arith, front, length-append (take at w) b)

  pub take-laid : take (at + length b) (laid at b w) ≡ take at w ++ b
  take-laid = rw (← append_assoc (take at w) b (drop (at + length b) w)) (take_at (take at w ++ b) _ _ head)

  pub drop-laid : drop (at + length b) (laid at b w) ≡ drop (at + length b) w
  drop-laid = rw (← append_assoc (take at w) b (drop (at + length b) w)) (drop_at (take at w ++ b) _ _ head)

pub laid-laid : (at : ℕ) (a b w : List ℕ) → at + length a ≤ length w → laid (at + length a) b (laid at a w) ≡ laid at (a ++ b) w
laid-laid at a b w h =
    let n = at + length a in
    let d : drop (n + length b) (laid at a w) ≡ drop (n + length b) w =
    sym (drop-drop (length b) n (laid at a w)) ∙ ap (drop (length b)) (drop-laid at a w h) ∙ drop-drop (length b) n w in
    let l : n + length b ≡ at + length (a ++ b) = add_assoc at (length a) (length b) ∙ ap (λ m. at + m) (sym (length-append a b)) in
    rw (take-laid at a w h, d, l)
    (append_assoc (take at w) a _ ∙ ap (λ u. take at w ++ u) (sym (append_assoc a b _)))

-- one element stored
pub laid-set : (at x : ℕ) (w : List ℕ) → at < length w → set w at x ≡ laid at (x ∷ []) w
laid-set at x w h = rw (add-one at) (set_split w at x h)

-- a part lent, which came back as b
pub laid-part : (at k : ℕ) (b w : List ℕ) → length b ≡ k → take at w ++ (b ++ drop k (drop at w)) ≡ laid at b w
laid-part at k b w h = rw (drop-drop k at w, h)

-- a copy of all of b
pub laid-paste : (at : ℕ) (b w : List ℕ) → paste w at b (length b) ≡ laid at b w
laid-paste at b w = rw (take-length b) (append_assoc (take at w) b (drop (at + length b) w))

-- laid over the whole
pub laid-whole : (b w : List ℕ) → length b ≡ length w → laid 0 b w ≡ b
laid-whole b w h = rw (drop_of_length-le w {i = 0 + length b} (omega arith)) (append-nil b)

-- ---- a buffer filled with s from the left

pub record Filled (s w out : List ℕ) (i : ℕ) : Type 0 where
  pub passed : i ≤ length s
  pub same : length out ≡ length w
  pub so_far : out ≡ laid 0 (take i s) w

pub filled-start : (s w : List ℕ) → Filled s w w 0
filled-start s w = record { passed = omega arith; same = refl; so_far = refl }

pub filled_more : {s w out : List ℕ} {i : ℕ} → Filled s w out i → (b : List ℕ) → take (length b) (drop i s) ≡ b → i + length b ≤ length s
    → length s ≤ length w → Filled s w (laid i b out) (i + length b)
filled_more {s} {w} {out} {i} f b e h r =
    let n : length (take i s) ≡ i = length-take-le i s f.passed in
    let k : 0 + length (take i s) ≡ i = omega arith in
    record {
      passed = h;
      same = length-laid i b out (omega (arith, f.same)) ∙ f.same;
      so_far =
          ap (laid i b) f.so_far
          ∙ ap (λ m. laid m b (laid 0 (take i s) w)) (sym k)
          ∙ laid-laid 0 (take i s) b w (omega arith)
          ∙ ap (λ u. laid 0 u w) (sym (take-add i (length b) s ∙ ap (λ u. take i s ++ u) e));
    }

pub filled_next : {s w out : List ℕ} {i : ℕ} → Filled s w out i → (x : ℕ) → x ≡ get_or s i 0 → i < length s → length s ≤ length w
    → Filled s w (set out i x) (i + 1)
filled_next {s} {w} {out} {i} f x e h r =
    rw (laid-set i x out (omega (arith, f.same))) (filled_more f (x ∷ []) (rw (drop-cons s i 0 h) (ap (λ y. y ∷ []) (sym e))) (omega arith) r)

pub filled-end : {s w out : List ℕ} {i : ℕ} → Filled s w out i → length s ≤ i → length s ≡ length w → out ≡ s
filled-end {s} {w} {out} {i} f h l = f.so_far ∙ ap (λ u. laid 0 u w) (take_all i s h) ∙ laid-whole s w l
