-- An edit weighed: in another table it changes nothing, and in this one it is counted by its operation. Assumes nothing.
use mathlib.Core.Path.{◌≡◌, refl}
use mathlib.Core.Bool.{true, false}
use mathlib.Core.List.{[]}
use Prim.Native.Nat.{ℕ, ◌+◌}
use native.Mathlib.Omega.{arith}
use Rattle.numbers.proofs.Bools.{clash}
use Rattle.rows.specs.declared.Table.{Table}
use Rattle.edit_rules.specs.declared.Operation.{Operation}
use Rattle.edit_rules.specs.declared.Operation.TheVariants.{Create, Change, Remove}
use Rattle.edit_rules.specs.Edits.{edit_of, is_create}
use Rattle.set_rules.specs.declared.Weight.{Weight}
use Rattle.set_rules.specs.Sets.{same_table}
use Rattle.set_rules.specs.Made.{is_removal, weighed}

abbrev weight_of : (creates removals first : ℕ) → Weight
weight_of c r f = record { creates = c; removals = r; first = f }

weight-same : {c d r s f g : ℕ} → c ≡ d → r ≡ s → f ≡ g → weight_of c r f ≡ weight_of d s g
weight-same p q e = rw (p, q, e)

module _ (t : Table) (p : ℕ) (u : Table) (w : Weight) where
  pub weighed-elsewhere : (o : Operation) → same_table t u ≡ false → w ≡ weighed t p (edit_of o u []) w
  weighed-elsewhere Create s = rw s (weight-same (omega arith) (omega arith) refl)
  weighed-elsewhere Change s = weight-same (omega arith) (omega arith) refl
  weighed-elsewhere Remove s = rw s (weight-same (omega arith) (omega arith) refl)

  module _ (s : same_table t u ≡ true) where
    pub weighed-create : (o : Operation) → is_create o ≡ true → weight_of (1 + w.creates) w.removals p ≡ weighed t p (edit_of o u []) w
    weighed-create Create k = rw s (weight-same refl (omega arith) refl)
    weighed-create Change k = clash k refl
    weighed-create Remove k = clash k refl

    pub weighed-removal : (o : Operation) → is_removal o ≡ true → weight_of w.creates (1 + w.removals) w.first ≡ weighed t p (edit_of o u []) w
    weighed-removal Create k = clash k refl
    weighed-removal Change k = clash k refl
    weighed-removal Remove k = rw s (weight-same (omega arith) refl refl)

    pub weighed-change : (o : Operation) → is_create o ≡ false → is_removal o ≡ false → w ≡ weighed t p (edit_of o u []) w
    weighed-change Create k j = clash {b = true} refl k
    weighed-change Change k j = weight-same (omega arith) (omega arith) refl
    weighed-change Remove k j = clash {b = true} refl j
