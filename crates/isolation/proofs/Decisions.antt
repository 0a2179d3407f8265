-- A member's decision goes by the circle's rows.
-- Step by step: a mapping row of the member is in the circle and maps it to the group; a candidate of the group is in the circle;
-- the access row chosen is one of the candidates, so its view is chosen or empty, and the rows of a chosen view are in the circle.
-- So each of the steps 1 to 4 scans the same rows whether or not the others are there, and step 5 goes by what they come to. Assumes nothing.
use mathlib.Core.Path.{◌≡◌, refl, sym, ap, ◌∙◌}
use mathlib.Core.Bool.{Bool, true, ◌&&◌}
use mathlib.Core.List.{List, [], ◌∷◌}
use mathlib.Core.Option.{Option, none, some}
use Prim.Native.Nat.{ℕ}
use lib.Dec.{eqb}
use lib.ListN.{length}
use borrow.Author.Tests.{eqb-true}
use Rattle.numbers.specs.Lists.{keep, every, any, find, OnSome}
use Rattle.numbers.proofs.Bools.{split, and_left, and_right}
use Rattle.numbers.proofs.Orders.{same_true}
use Rattle.numbers.proofs.Keeps.{every-keep, every-kept, every-both, every-top, keep-keep, first-is, find-is}
use Rattle.rows.specs.declared.Table.TheVariants.{Context, Mapping, Access, View}
use Rattle.rows.specs.Rows.{MappingRow, AccessRow, ViewRow}
use Rattle.rows.specs.Tables.{Tables}
use Rattle.decision_steps.specs.Request.{Request}
use Rattle.answers.specs.declared.Cause.TheVariants.{NoSuchView, NoAccessEntry, NoGroupName}
use Rattle.decision_steps.specs.Decision.{bears_context, maps_principal, candidate, of_model, longest_prefix, highest_level}
use Rattle.decision_steps.specs.Decision.{chosen_access, view_for, in_view, view_rows, if_any, decision, Authority, viewed, or_denied, authority, by_authority}
use Rattle.decision_steps.proofs.Parts.{decision-parts}
use Rattle.isolation.specs.Isolation.{Circle, row_in, chosen_or_empty, names_chosen}
use Rattle.isolation.proofs.Tables.{find-keep}
use Rattle.isolation.proofs.Circles.{implied, circle_rows, row_fits, Orderly}

-- ---- the access row chosen is one of the candidates

every-model : (g : AccessRow → Bool) (model : ℕ) (rs : List AccessRow) → every g rs ≡ true → every g (of_model model rs) ≡ true
every-model g model rs a =
    split (any (λ r. eqb r.security_model model) rs) (λ e. rw e (every-keep g (λ r. eqb r.security_model model) rs a)) (λ e. rw e a)

chosen_is : (g : AccessRow → Bool) (group : List ℕ) (model level : ℕ) (context : List ℕ) (rs : List AccessRow) → every g rs ≡ true
    → OnSome (λ r. candidate group model level context r && g r ≡ true) (chosen_access group model level context rs)
unfolding chosen_access
chosen_is g group model level context rs a =
    let c : AccessRow → Bool = candidate group model level context in
    let h : AccessRow → Bool = λ r. c r && g r in
    let b : every h (keep c rs) ≡ true = every-both c g (keep c rs) (every-kept c rs) (every-keep g c rs a) in
    first-is h (highest_level (longest_prefix (of_model model (keep c rs))))
    (every-top h (λ r. r.security_level) (longest_prefix (of_model model (keep c rs)))
    (every-top h (λ r. length r.context_prefix) (of_model model (keep c rs)) (every-model h model (keep c rs) b)))

module _ (w : Circle) where
  -- ---- step 4

  view_in : (name : List ℕ) (r : ViewRow) → w.chosen name ≡ true → in_view name r ≡ true → row_in w View r ≡ true
  unfolding in_view
  view_in name r h e = rw (same_true r.view_name name (and_left _ _ e)) h

  view-rows : (name : List ℕ) (rs : List ViewRow) → chosen_or_empty w name ≡ true → view_rows name (keep (row_in w View) rs) ≡ view_rows name rs
  view-rows [] rs h = refl
  view-rows (x ∷ name) rs h = keep-keep (row_in w View) (in_view (x ∷ name)) rs (λ r e. view_in (x ∷ name) r h e)

  view-for : (view_type : ℕ) (a : AccessRow) → names_chosen w a ≡ true → chosen_or_empty w (view_for view_type a) ≡ true
  unfolding view_for
  view-for view_type a h =
      split (eqb view_type 1) (λ e. rw e read)
      (λ e. split (eqb view_type 2) (λ q. rw (e, q) write) (λ q. rw (e, q) notify))
    where
      read : chosen_or_empty w a.read_view_name ≡ true
      read = and_left _ _ (and_left _ _ h)

      write : chosen_or_empty w a.write_view_name ≡ true
      write = and_right (chosen_or_empty w a.read_view_name) _ (and_left _ _ h)

      notify : chosen_or_empty w a.notify_view_name ≡ true
      notify = and_right (chosen_or_empty w a.read_view_name && chosen_or_empty w a.write_view_name) _ h

  -- ---- step 3

  candidate-in : (model level : ℕ) (context : List ℕ) (a : AccessRow) → candidate w.group model level context a ≡ true
      → row_in w Access a ≡ true
  unfolding candidate
  candidate-in model level context a e = and_left _ _ (and_left _ _ (and_left _ _ (and_left _ _ e)))

  access-rows : (model level : ℕ) (context : List ℕ) (rs : List AccessRow)
      → chosen_access w.group model level context (keep (row_in w Access) rs) ≡ chosen_access w.group model level context rs
  unfolding chosen_access
  access-rows model level context rs =
      rw (keep-keep (row_in w Access) (candidate w.group model level context) rs (candidate-in model level context))

  -- ---- step 2

  mapping-in : (model : ℕ) (name : List ℕ) (m : MappingRow) → w.member model name ≡ true → maps_principal model name m ≡ true
      → row_in w Mapping m ≡ true
  unfolding maps_principal
  mapping-in model name m h e =
      let p : m.security_model ≡ model = eqb-true _ _ (and_left _ _ (and_left _ _ e)) in
      let q : m.security_name ≡ name = same_true _ _ (and_right (eqb m.security_model model) _ (and_left _ _ e)) in
      rw (p, q) h

  -- ---- steps 1 to 4, and the decision

  module _ (t : Tables) (i : Orderly w t) where
    module _ (model : ℕ) (name : List ℕ) (level view : ℕ) (context : List ℕ) where
      -- by the views of the circle, or by all
      step-3 : (o : Option AccessRow) → OnSome (λ a. candidate w.group model level context a && row_fits w Access a ≡ true) o
          → or_denied NoAccessEntry o (λ a. or_denied NoSuchView (if_any (view_rows (view_for view a) (circle_rows w t).vacm_view_tree_family_table)) viewed)
          ≡ or_denied NoAccessEntry o (λ a. or_denied NoSuchView (if_any (view_rows (view_for view a) t.vacm_view_tree_family_table)) viewed)
      step-3 none h = refl
      step-3 (some a) h =
          let n : row_in w Access a ≡ true = candidate-in model level context a (and_left _ _ h) in
          let f : row_fits w Access a ≡ true = and_right (candidate w.group model level context a) _ h in
          ap (λ rs. or_denied NoSuchView (if_any rs) viewed)
          (view-rows (view_for view a) t.vacm_view_tree_family_table (view-for view a (implied (row_in w Access a) _ f n)))

      abbrev behind : Tables → MappingRow → Authority
      behind u m =
          or_denied NoAccessEntry (chosen_access m.group_name model level context u.vacm_access_table) (λ a.
          or_denied NoSuchView (if_any (view_rows (view_for view a) u.vacm_view_tree_family_table)) viewed)

      module _ (h : w.member model name ≡ true) where
        step-2 : (o : Option MappingRow) → OnSome (λ m. (maps_principal model name m ≡ true) × (row_fits w Mapping m ≡ true)) o
            → or_denied NoGroupName o (behind (circle_rows w t)) ≡ or_denied NoGroupName o (behind t)
        step-2 none k = refl
        step-2 (some m) k =
            let n : row_in w Mapping m ≡ true = mapping-in model name m h k.0 in
            let g : m.group_name ≡ w.group = same_true _ _ (and_left _ _ (implied (row_in w Mapping m) _ k.1 n)) in
            rw (g, access-rows model level context t.vacm_access_table)
            (step-3 (chosen_access w.group model level context t.vacm_access_table)
            (chosen_is (row_fits w Access) w.group model level context t.vacm_access_table i.accesses.1))

        pub authority-keep : authority (circle_rows w t) model name level view context ≡ authority t model name level view context
        unfolding authority
        authority-keep =
            let p : MappingRow → Bool = maps_principal model name in
            let ms = t.vacm_security_to_group_table in
            rw (find-keep (row_in w Context) (bears_context context) t.vacm_context_table (λ c e. refl))
            (rw (find-keep (row_in w Mapping) p ms (λ m e. mapping-in model name m h e))
            (rw (step-2 (find p ms) (find-is p (row_fits w Mapping) ms i.mappings.1))))

    pub decision-keep : (q : Request) → w.member q.security_model q.security_name ≡ true → decision (circle_rows w t) q ≡ decision t q
    decision-keep q h =
        decision-parts (circle_rows w t) q
        ∙ ap (by_authority q.variable_name)
        (authority-keep q.security_model q.security_name q.security_level q.view_type q.context_name h)
        ∙ sym (decision-parts t q)
