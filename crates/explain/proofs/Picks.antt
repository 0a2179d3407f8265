-- The view row that is picked is step 5's by what steps 1 to 4 came to: each step goes on or stops alike in both, and a view without rows has none to
-- pick. By a standing, a cause has no row, and in a view the row found is the one picked; so row and
-- decision are those of the tables. Assumes nothing.
use mathlib.Core.Path.{◌≡◌, refl, sym, ap, ◌∙◌}
use mathlib.Core.List.{List, [], ◌∷◌}
use mathlib.Core.Option.{Option, none, some, map}
use Prim.Native.Nat.{ℕ}
use Rattle.std.specs.Prelude.{Ok, Err, None}
use Rattle.answers.specs.declared.Cause.{Cause}
use Rattle.answers.specs.declared.Cause.TheVariants.{NoSuchContext, NoGroupName, NoAccessEntry, NoSuchView, NotInView}
use Rattle.answers.specs.declared.Decision.{Decision}
use Rattle.answers.specs.declared.Decision.TheVariants.{Refused}
use Rattle.numbers.specs.Lists.{find}
use Rattle.rows.specs.declared.Table.TheVariants.{View}
use Rattle.rows.specs.Rows.{ContextRow, MappingRow, AccessRow, ViewRow, view_of}
use Rattle.rows.specs.Tables.{Tables}
use Rattle.image_layout.specs.declared.Layout.{Layout}
use Rattle.image_judge.specs.Faults.{tables_at}
use Rattle.decision_steps.specs.Request.{Request, asked}
use Rattle.decision_steps.specs.Decision.{bears_context, maps_principal, chosen_access, view_for, view_rows, chosen_view, if_any, viewed, or_denied, authority}
use Rattle.decision_steps.specs.Decision.{or_refused, by_type, decision, by_authority, if_found, mapping_row, access_row}
use Rattle.decision_steps.proofs.Parts.{decision-parts}
use Rattle.decision_find.specs.Types.{Found}
use Rattle.decision_find.specs.Found.{bytes_at, Chosen}
use Rattle.decision_find.proofs.Chosen.{held_none, chosen, chosen-as}
use Rattle.decision_parts.specs.declared.NamedView.{NamedView}
use Rattle.decision_parts.specs.Types.{Standing}
use Rattle.decision_parts.specs.declared.Authorized.{Authorized}
use Rattle.decision_parts.specs.Parts.{ViewIn, rows_of, saying, StandingIn, Authorizes}
use Rattle.explain_rules.specs.Explanation.{view_picked}
use Rattle.explain.specs.declared.Judged.{Judged}
use Rattle.explain.specs.Judges.{row_by, Judges}

module _ (variable : List ℕ) where
  in-view : (rs : List ViewRow) → chosen_view variable rs ≡ row_by variable (or_denied NoSuchView (if_any rs) viewed)
  unfolding chosen_view
  in-view [] = refl
  in-view (r ∷ rs) = refl

  by-access : (o : Option AccessRow) (rows : AccessRow → List ViewRow)
      → if_found o (λ a. chosen_view variable (rows a))
      ≡ row_by variable (or_denied NoAccessEntry o (λ a. or_denied NoSuchView (if_any (rows a)) viewed))
  by-access none rows = refl
  by-access (some a) rows = in-view (rows a)

  by-steps : (c : Option ContextRow) (m : Option MappingRow) (access : MappingRow → Option AccessRow) (rows : AccessRow → List ViewRow)
      → if_found (if_found (if_found c (λ x. m)) access) (λ a. chosen_view variable (rows a))
      ≡ row_by variable (or_denied NoSuchContext c (λ x.
      or_denied NoGroupName m (λ y. or_denied NoAccessEntry (access y) (λ a. or_denied NoSuchView (if_any (rows a)) viewed))))
  by-steps none m access rows = refl
  by-steps (some x) none access rows = refl
  by-steps (some x) (some y) access rows = by-access (access y) rows

pub view-picked : (t : Tables) (q : Request) → view_picked t q
    ≡ row_by q.variable_name (authority t q.security_model q.security_name q.security_level q.view_type q.context_name)
unfolding view_picked access_row mapping_row authority
view-picked t q =
    by-steps q.variable_name (find (bears_context q.context_name) t.vacm_context_table)
    (find (maps_principal q.security_model q.security_name) t.vacm_security_to_group_table)
    (λ m. chosen_access m.group_name q.security_model q.security_level q.context_name t.vacm_access_table)
    (λ a. view_rows (view_for q.view_type a) t.vacm_view_tree_family_table)

-- ---- by a standing

module _ {w : List ℕ} (variable : List ℕ) {s : Standing} where
  pub judged-denied : {cause : Cause} → s ≡ Err cause → Judges w variable (saying w s) (record { view = None; decision = Refused cause })
  judged-denied e = rw e (record { view_is = chosen (held_none View w) refl; decision_is = refl })

  module _ {v : NamedView} (e : s ≡ Ok v) where
    pub view_in : StandingIn w s → ViewIn w v
    view_in h = rw e at h

    pub judged-viewed : {f : Found} {d : Decision} → Chosen View view_of w f (chosen_view variable (rows_of w v))
        → d ≡ or_refused NotInView (map view_of (bytes_at w f)) by_type → Judges w variable (saying w s) (record { view = f; decision = d })
    judged-viewed k d = rw e (record { view_is = k; decision_is = d ∙ ap (λ o. or_refused NotInView o by_type) k.is })

-- ---- on the tables of a layout

module _ {w : List ℕ} {l : Layout} {model : ℕ} {name : List ℕ} {level view : ℕ} {context : List ℕ} {r : Authorized}
    (k : Authorizes w l model name level view context r) (variable : List ℕ) {j : Judged} (h : Judges w variable (saying w r.standing) j) where
  pub judged-view : Chosen View view_of w j.view (view_picked (tables_at w l) (asked model name level view context variable))
  judged-view =
      chosen-as h.view_is (ap (row_by variable) k.standing.is ∙ sym (view-picked (tables_at w l) (asked model name level view context variable)))

  pub judged-decision : j.decision ≡ decision (tables_at w l) (asked model name level view context variable)
  judged-decision =
      h.decision_is
      ∙ ap (by_authority variable) k.standing.is
      ∙ sym (decision-parts (tables_at w l) (asked model name level view context variable))
