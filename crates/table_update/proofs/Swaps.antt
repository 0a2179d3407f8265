-- Rows swapped in the bytes of an image: the bytes are split once, and new parts stand for two of them.
-- An image's rows are those on the left of the place, those that go out and those on the right; ahead of all rows' bytes stand all their
-- lengths. The lengths of the new rows stand for those of the rows that go out, and their bytes do, and what results is the image of the
-- rows on the left, the new ones and those on the right (`swapped`). Assumes nothing.
use mathlib.Core.Path.{◌≡◌, sym, ◌∙◌}
use mathlib.Core.List.{List, ◌++◌, append_assoc}
use Prim.Native.Nat.{ℕ, ◌+◌, ◌*◌}
use native.Mathlib.Omega.{arith}
use lib.ListN.{length, length-append}
use Rattle.splice.specs.Splice.{spliced_two}
use Rattle.splice.proofs.Splices.{two-app}
use Rattle.table_update.proofs.Written.{concatenated, concatenated-append, heads, heads-append, length-heads}

-- rows in bytes, with what lies ahead of them and behind
abbrev pub laid : List ℕ → List (List ℕ) → List ℕ → List ℕ
laid front rows rest = front ++ (heads rows ++ (concatenated rows ++ rest))

-- the bytes of the rows that go out lie from `from` on, and their lengths from `place` on
pub record Swap (w : List ℕ) (from gone place had end : ℕ) : Type 0 where
  pub front : List ℕ
  pub left : List (List ℕ)
  pub out : List (List ℕ)
  pub right : List (List ℕ)
  pub rest : List ℕ
  pub bytes_are : w ≡ laid front (left ++ (out ++ right)) rest
  pub place_is : place ≡ length front + 2 * length left
  pub had_is : had ≡ length out
  pub from_is : from ≡ length front + 2 * (length left + length out + length right) + length (concatenated left)
  pub gone_is : gone ≡ length (concatenated out)
  pub end_is : end ≡ from + gone + length (concatenated right)

-- split at the lengths of the rows that go out, and at their bytes
laid-parts : (front : List ℕ) (left out right : List (List ℕ)) (rest : List ℕ) → laid front (left ++ (out ++ right)) rest
    ≡ (front ++ heads left) ++ (heads out ++ ((heads right ++ concatenated left) ++ (concatenated out ++ (concatenated right ++ rest))))
laid-parts front left out right rest = simp (heads-append, concatenated-append, append_assoc)

module _ {w : List ℕ} {from gone place had end : ℕ} (s : Swap w from gone place had end) (new : List (List ℕ)) where
  both : (tail : List ℕ) × (spliced_two w place (2 * had) (heads new) from gone end (concatenated new)
      ≡ (s.front ++ heads s.left) ++ (heads new ++ ((heads s.right ++ concatenated s.left) ++
      (concatenated new ++ (concatenated s.right ++ tail)))))
  both =
      two-app w place (2 * had) (heads new) from gone end (concatenated new)
      (s.front ++ heads s.left) (heads s.out) (heads s.right ++ concatenated s.left) (concatenated s.out) (concatenated s.right) s.rest
      (s.bytes_are ∙ laid-parts s.front s.left s.out s.right s.rest)
      (simp (length-append, length-heads) (omega (arith, s.place_is)))
      (omega (arith, length-heads s.out, s.had_is))
      (simp (length-append, length-heads) (omega (arith, s.place_is, s.had_is, s.from_is)))
      (sym s.gone_is) (sym s.end_is)

  pub swapped : (tail : List ℕ) × (spliced_two w place (2 * had) (heads new) from gone end (concatenated new) ≡ laid s.front
      (s.left ++ (new ++ s.right)) tail)
  swapped = (both.0, both.1 ∙ sym (laid-parts s.front s.left new s.right both.0))
