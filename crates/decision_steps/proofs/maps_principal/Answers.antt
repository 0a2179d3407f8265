-- `decision_steps::maps_principal` meets its contract: the model lies at 0 of the row, the security name at 4 and the status at its end,
-- and each test is one part of the definition. Assumes nothing.
use mathlib.Core.Path.{refl, sym, ap, ◌∙◌}
use native.Mathlib.Omega.{arith}
use Rattle.decision_steps.specs.Decision.{maps_principal}
use Rattle.decision_steps.proofs.Layouts.{mapping-at}
use Rattle.decision_steps.proofs.Steps.{maps-model, maps-name, maps-status}
use Rattle.decision_steps.proofs.maps_principal.Goals as goal

pub quad_at-requires : goal.quad_at-requires
quad_at-requires c =
    (mapping-at _ _ refl c.requires).model

pub returns-then-quad_at-security_model : goal.returns-then-quad_at-security_model
returns-then-quad_at-security_model c =
    maps-model _ _ _ (λ e. c.if-quad_at-security_model.true (c.quad_at.ensures.value ∙ e))
    ∙ sym (ap (maps_principal c.args.security_model c.args.security_name.now) (mapping-at _ _ refl c.requires).holds)

pub is_name-requires : goal.is_name-requires
is_name-requires c =
    (mapping-at _ _ refl c.requires).name

pub returns-then-not-is_name : goal.returns-then-not-is_name
returns-then-not-is_name c =
    maps-name _ _ _ (sym c.is_name.ensures ∙ c.if-not-is_name.true)
    ∙ sym (ap (maps_principal c.args.security_model c.args.security_name.now) (mapping-at _ _ refl c.requires).holds)

pub is_active-requires : goal.is_active-requires
is_active-requires c =
    omega (arith, (mapping-at _ _ refl c.requires).model)

pub returns : goal.returns
returns c =
    c.is_active.ensures
    ∙ maps-status _ _ _ (sym c.quad_at.ensures.value ∙ c.if-quad_at-security_model.false) (sym c.is_name.ensures ∙ c.if-not-is_name.false)
    ∙ sym (ap (maps_principal c.args.security_model c.args.security_name.now) (mapping-at _ _ refl c.requires).holds)
