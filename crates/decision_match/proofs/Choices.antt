-- What a call that hands back a row comes to, by what the survey of its store answered: its fault, 6 or 7, or, past both, the choice among the rows of
-- the table that is held. Assumes nothing.
use mathlib.Core.Path.{◌≡◌, sym, ap}
use mathlib.Core.Bool.{Bool, true}
use mathlib.Core.List.{List, map}
use mathlib.Core.Option.{Option}
use Prim.Native.Nat.{ℕ, ◌≤◌}
use native.Mathlib.Omega.{arith}
use lib.ListN.{length}
use Rattle.std.specs.Prelude.{Err}
use Rattle.answers.specs.declared.Fault.{Fault}
use Rattle.numbers.proofs.Bools.{and_left, and_right}
use Rattle.rows.specs.Fields.{within}
use Rattle.rows.specs.Rows.{access_of, view_of}
use Rattle.rows.specs.Tables.{Tables}
use Rattle.rows.proofs.Sound.{within-least, within-most}
use Rattle.image_layout.specs.declared.Layout.{Layout}
use Rattle.image_layout.specs.Layout.{rows_in, layout_of}
use Rattle.image_judge.specs.Faults.{surveyed, tables_at}
use Rattle.image.specs.Store.{call_fault, held}
use Rattle.image.proofs.Surveys.{Called, call-refused}
use Rattle.decision_steps.specs.Request.{longest_name, most_parts}
use Rattle.decision_steps.specs.Decision.{chosen_access, chosen_view}
use Rattle.decision_find.specs.Found.{rows_of_view}
use Rattle.decision_parts.proofs.Standings.{view-named}
use Rattle.decision_match.specs.Matches.{faulty, chosen, choice, legal_view, view_choice, legal_access, access_choice}

-- ---- a call refused, of any table

module _ (w : List ℕ) {f : Fault} where
  choice-refused : {R : Type 0} (legal : Bool) (choose : Tables → Option R) → Err f ≡ surveyed (call_fault w legal) (layout_of w)
      → choice (held w) legal choose ≡ faulty f
  choice-refused legal choose e = call-refused (λ g. choice (held w) legal choose ≡ faulty g) w legal e (λ n. rw n) (λ t h l. rw (h, l))

  pub view-refused : (name variable : List ℕ) → Err f ≡ surveyed (call_fault w (legal_view (length name) (length variable))) (layout_of w)
      → view_choice (held w) name variable ≡ faulty f
  unfolding view_choice
  view-refused name variable e = choice-refused (legal_view (length name) (length variable)) _ e

  pub access-refused : (group context : List ℕ) (model level : ℕ)
      → Err f ≡ surveyed (call_fault w (legal_access (length group) (length context) model level)) (layout_of w)
      → access_choice (held w) group context model level ≡ faulty f
  unfolding access_choice
  access-refused group context model level e = choice-refused (legal_access (length group) (length context) model level) _ e

-- ---- past both

pub few-parts : (name variable : List ℕ) → legal_view (length name) (length variable) ≡ true → length variable ≤ most_parts
few-parts name variable l = within-most 1 most_parts (length variable) (and_right (within 1 longest_name (length name)) _ l)

pub view-legal : (w name variable : List ℕ) (l : Layout) → Called w (legal_view (length name) (length variable)) l
    → view_choice (held w) name variable ≡ chosen (chosen_view variable (rows_of_view name w l.views))
unfolding view_choice tables_at
view-legal w name variable l k =
    let some = within-least 1 longest_name (length name) (and_left (within 1 longest_name (length name)) _ k.in_range) in
    rw (k.holds, k.in_range)
    (ap (λ rs. chosen (chosen_view variable rs)) (sym (view-named name (map view_of (rows_in w l.views)) (λ z. omega (arith, some, z)))))

pub access-legal : (w group context : List ℕ) (model level : ℕ) (l : Layout) → Called w (legal_access (length group) (length context) model level) l
    → access_choice (held w) group context model level ≡ chosen (chosen_access group model level context (map access_of (rows_in w l.accesses)))
unfolding access_choice tables_at
access-legal w group context model level l k = rw (k.holds, k.in_range)
