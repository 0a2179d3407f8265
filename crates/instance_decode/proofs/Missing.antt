-- What is missing is handed on as no instance. Assumes nothing.
use mathlib.Core.Path.{◌≡◌, refl, ap, ◌∙◌}
use Rattle.std.specs.Prelude.{Option, Some, None, Result, Ok, Err}
use Rattle.std.specs.Option.{ok_or}
use Rattle.std.specs.Result.{IsErr, IsErrAnd}
use Rattle.answers.specs.declared.Fault.{Fault}
use Rattle.answers.specs.declared.Fault.TheVariants.{NotAnInstance}
use Rattle.answers.proofs.Results.{refusal}

pub missing : {A B : Type 0} (o : Option A) {s : Result A Fault} {r : Result B Fault} {e : Fault} → s ≡ ok_or o NotAnInstance → s ≡ Err e
    → IsErr r × IsErrAnd r (λ x. x ≡ e) → (o ≡ None) × (r ≡ Err NotAnInstance)
missing None {e = e} v w p = let z : e ≡ NotAnInstance = cc in (refl, refusal p ∙ ap Err z)
missing (Some x) v w p = cc

pub present : {A : Type 0} (o : Option A) {s : Result A Fault} {x : A} → s ≡ ok_or o NotAnInstance → s ≡ Ok x → o ≡ Some x
present None v w = cc
present (Some y) v w = cc
