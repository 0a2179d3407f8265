-- The decision by the standing that steps 1 to 4 came to: its cause refuses, and its view is decided in. Assumes nothing.
use mathlib.Core.Path.{◌≡◌, sym, ap, ◌∙◌}
use mathlib.Core.List.{List}
use Prim.Native.Nat.{ℕ}
use Rattle.std.specs.Prelude.{Ok, Err}
use Rattle.answers.specs.declared.Cause.{Cause}
use Rattle.answers.specs.declared.Decision.TheVariants.{Refused}
use Rattle.image_layout.specs.declared.Layout.{Layout}
use Rattle.image_judge.specs.Faults.{tables_at}
use Rattle.decision_steps.specs.Request.{asked}
use Rattle.decision_steps.specs.Decision.{step5, decision, by_authority}
use Rattle.decision_steps.proofs.Parts.{decision-parts}
use Rattle.decision_parts.specs.declared.NamedView.{NamedView}
use Rattle.decision_parts.specs.declared.Authorized.{Authorized}
use Rattle.decision_parts.specs.Parts.{ViewIn, rows_of, saying, Authorizes}

module _ {w : List ℕ} {l : Layout} {model : ℕ} {name : List ℕ} {level view : ℕ} {context : List ℕ} {r : Authorized}
    (k : Authorizes w l model name level view context r) where
  by-standing : (variable : List ℕ) → by_authority variable (saying w r.standing) ≡ decision (tables_at w l) (asked model name level view context variable)
  by-standing variable =
      ap (by_authority variable) k.standing.is ∙ sym (decision-parts (tables_at w l) (asked model name level view context variable))

  pub denied-decision : {cause : Cause} (variable : List ℕ) → r.standing ≡ Err cause
      → Refused cause ≡ decision (tables_at w l) (asked model name level view context variable)
  denied-decision variable e = sym (ap (λ u. by_authority variable (saying w u)) e) ∙ by-standing variable

  pub viewed-decision : {v : NamedView} (variable : List ℕ) → r.standing ≡ Ok v
      → step5 variable (rows_of w v) ≡ decision (tables_at w l) (asked model name level view context variable)
  viewed-decision variable e = sym (ap (λ u. by_authority variable (saying w u)) e) ∙ by-standing variable

  pub viewed-in : {v : NamedView} → r.standing ≡ Ok v → ViewIn w v
  viewed-in e = let s = rw e at k.standing in s.lies
