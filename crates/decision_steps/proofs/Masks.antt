-- Laws of a mask's bits: a bit as a shift and `& 1` give it, and a missing octet, read as 255, of which every bit is 1. Assumes nothing.
use mathlib.Core.Path.{◌≡◌, refl, ap}
use mathlib.Core.Bool.{true}
use mathlib.Core.List.{List, [], ◌∷◌}
use Prim.Native.Nat.{ℕ, zero, suc, ◌-◌, ◌/◌, ◌%◌, ◌^◌, ◌≤◌, ◌<◌}
use native.Mathlib.Omega.{arith}
use lib.Dec.{eqb}
use lib.Bits.{bit_and, and_mask}
use lib.ListN.{length, get_or, get_or-eq_default}
use Rattle.decision_steps.specs.Decision.{mask_bit}

ones_bit : (j : ℕ) → j ≤ 7 → 255 / 2 ^ j % 2 ≡ 1
ones_bit zero h = refl
ones_bit (suc zero) h = refl
ones_bit (suc (suc zero)) h = refl
ones_bit (suc (suc (suc zero))) h = refl
ones_bit (suc (suc (suc (suc zero)))) h = refl
ones_bit (suc (suc (suc (suc (suc zero))))) h = refl
ones_bit (suc (suc (suc (suc (suc (suc zero)))))) h = refl
ones_bit (suc (suc (suc (suc (suc (suc (suc zero))))))) h = refl
ones_bit (suc (suc (suc (suc (suc (suc (suc (suc j)))))))) h = absurd (omega arith)

-- within the list it does not matter what a missing octet is read as
get_or-within : (v : List ℕ) (k d e : ℕ) → k < length v → get_or v k d ≡ get_or v k e
get_or-within [] k d e h = absurd (omega arith)
get_or-within (x ∷ v) zero d e h = refl
get_or-within (x ∷ v) (suc k) d e h = get_or-within v k d e (omega arith)

module _ (mask : List ℕ) (i : ℕ) where
  pub bit-taken : i / 8 < length mask → eqb (bit_and (get_or mask (i / 8) 0 / 2 ^ (7 - i % 8)) 1) 1 ≡ mask_bit mask i
  unfolding mask_bit
  bit-taken h = rw (get_or-within mask (i / 8) 0 255 h) (ap (λ n. eqb n 1) (and_mask (get_or mask (i / 8) 255 / 2 ^ (7 - i % 8)) 1))

  pub bit-missing : length mask ≤ i / 8 → true ≡ mask_bit mask i
  unfolding mask_bit
  bit-missing h = rw (get_or-eq_default mask 255 h, ones_bit (7 - i % 8) (omega arith))
