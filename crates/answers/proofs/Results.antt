-- What a `?` hands on is the refusal that it met. Assumes nothing.
use mathlib.Core.Path.{◌≡◌, sym, ◌∙◌, ap}
use Rattle.std.specs.Result.{IsErr, IsErrAnd}
use Rattle.std.specs.declared.result.Result.{Result}
use Rattle.std.specs.declared.result.Result.TheVariants.{Err}
use Rattle.std.proofs.lemmas.Result.{err_from_is_err_and}

pub refusal : {A E : Type 0} {r : Result A E} {e : E} → IsErr r × IsErrAnd r (λ x. x ≡ e) → r ≡ Err e
refusal {r = r} p = let q = err_from_is_err_and r p.1 in q.1 ∙ ap Err q.2

-- of a call that answers the same
pub handed_on : {A E : Type 0} {r s : Result A E} {e : E} → s ≡ Err e → IsErr r × IsErrAnd r (λ x. x ≡ e) → r ≡ s
handed_on was p = refusal p ∙ sym was
