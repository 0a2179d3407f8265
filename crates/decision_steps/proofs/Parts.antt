-- The decision is its two parts: what steps 1 to 4 come to, and step 5 of the variable by it. Each step goes on or refuses alike in both. Assumes nothing.
use mathlib.Core.Path.{◌≡◌, refl}
use mathlib.Core.List.{List}
use mathlib.Core.Option.{Option, none, some}
use Prim.Native.Nat.{ℕ}
use Rattle.answers.specs.declared.Cause.{Cause}
use Rattle.answers.specs.declared.Decision.{Decision}
use Rattle.numbers.specs.Lists.{find}
use Rattle.rows.specs.Tables.{Tables}
use Rattle.decision_steps.specs.Request.{Request}
use Rattle.decision_steps.specs.Decision.{bears_context, maps_principal, chosen_access, view_for, view_rows, or_refused, if_any}
use Rattle.decision_steps.specs.Decision.{decision, Authority, or_denied, authority, by_authority}

step-parts : {A : Type 0} (variable : List ℕ) (cause : Cause) (o : Option A) (f : A → Decision) (g : A → Authority)
    → ((x : A) → f x ≡ by_authority variable (g x)) → or_refused cause o f ≡ by_authority variable (or_denied cause o g)
step-parts variable cause none f g h = refl
step-parts variable cause (some x) f g h = h x

pub decision-parts : (t : Tables) (q : Request) → decision t q
    ≡ by_authority q.variable_name (authority t q.security_model q.security_name q.security_level q.view_type q.context_name)
unfolding decision authority
decision-parts t q =
    let v = q.variable_name in
    step-parts v _ (find (bears_context q.context_name) t.vacm_context_table) _ _ (λ c.
    step-parts v _ (find (maps_principal q.security_model q.security_name) t.vacm_security_to_group_table) _ _ (λ m.
    step-parts v _ (chosen_access m.group_name q.security_model q.security_level q.context_name t.vacm_access_table) _ _ (λ a.
    step-parts v _ (if_any (view_rows (view_for q.view_type a) t.vacm_view_tree_family_table)) _ _ (λ rs. refl))))
