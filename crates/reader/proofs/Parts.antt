-- What a part that was read says of the parts, for callers: it lies inside, and the reader moved on behind it; at the end there is none.
-- Assumes nothing.
use mathlib.Core.Path.{◌≡◌, refl, sym, ap, ◌∙◌}
use mathlib.Core.Bool.{Bool, true, false, cond}
use mathlib.Core.List.{List}
use Prim.Native.Nat.{ℕ, ◌+◌, ◌-◌}
use native.Mathlib.Omega.{arith}
use lib.Dec.{ltb}
use lib.ListN.{length, get_or}
use Rattle.std.specs.Prelude.{Some, None}
use Rattle.reader.specs.declared.Read.{Read}
use Rattle.reader.specs.Reading.{part_at, behind, read_from}

of-cond : (b : Bool) (y x : ℕ) → cond b (Some y) None ≡ Some x → (b ≡ true) × (y ≡ x)
of-cond true y x e = (refl, cc)
of-cond false y x e = let z : ◌≡◌ {A = ℕ} 0 1 = cc in absurd (omega arith)

end-cond : (b : Bool) (y : ℕ) → cond b (Some y) None ≡ None → b ≡ false
end-cond true y e = let z : ◌≡◌ {A = ℕ} 0 1 = cc in absurd (omega arith)
end-cond false y e = refl

pub record PartRead (parts : List ℕ) (at x next left : ℕ) : Type 0 where
  pub inside : ltb at (length parts) ≡ true
  pub is : get_or parts at 0 ≡ x
  pub next_is : next ≡ at + 1
  pub left_is : left ≡ length parts - (at + 1)

module _ (parts : List ℕ) (at : ℕ) {r : Read} (said : r ≡ read_from parts at) where
  part_is : r.part ≡ part_at parts at
  part_is = ap (λ (u : Read). u.part) said

  pub part-read : {x : ℕ} → r.part ≡ Some x → PartRead parts at x r.at r.left
  part-read {x} e =
      let f = of-cond (ltb at (length parts)) (get_or parts at 0) x (sym part_is ∙ e) in
      let n : behind parts at ≡ at + 1 = rw f.0 in
      record {
        inside = f.0;
        is = f.1;
        next_is = ap (λ (u : Read). u.at) said ∙ n;
        left_is = ap (λ (u : Read). u.left) said ∙ ap (λ m. length parts - m) n;
      }

  pub no_part : r.part ≡ None → ltb at (length parts) ≡ false
  no_part e = end-cond (ltb at (length parts)) (get_or parts at 0) (sym part_is ∙ e)
