-- `decision_steps::fits` meets its contract: an exact match compares the whole context, a prefix match its front of the prefix's length,
-- and a prefix that is longer than the context begins it not. Assumes nothing.
use mathlib.Core.Path.{◌≡◌, ap, ◌∙◌}
use Prim.Native.Nat.{◌-◌}
use native.Mathlib.Omega.{arith}
use lib.ListN.{length, take}
use Rattle.numbers.specs.Order.{same}
use Rattle.decision_steps.specs.Bytes.{name_at}
use Rattle.decision_steps.proofs.Layouts.{length-name}
use Rattle.decision_steps.proofs.Steps.{fits-exact, fits-longer, fits-front}
use Rattle.decision_steps.proofs.fits.Goals as goal

pub returns-then-row-matching-eq-EXACT : goal.returns-then-row-matching-eq-EXACT
returns-then-row-matching-eq-EXACT c = c.is_name.ensures ∙ fits-exact _ _ _ c.if-row-matching-eq-EXACT.true

pub returns-then-context_name-k : goal.returns-then-context_name-k
returns-then-context_name-k c = fits-longer _ _ _ c.if-row-matching-eq-EXACT.false (omega (arith, length-name c.args.row.now c.args.at c.requires.prefix))

pub returns : goal.returns
returns c =
    let name = name_at c.args.row.now c.args.at in
    let e : c.wide-k.result - 0 ≡ length name = omega (arith, c.wide-k.ensures.equal, length-name c.args.row.now c.args.at c.requires.prefix) in
    c.is_name-2.ensures ∙ ap (λ k. same name (take k c.args.context_name.now)) e ∙ fits-front _ _ _ c.if-row-matching-eq-EXACT.false
