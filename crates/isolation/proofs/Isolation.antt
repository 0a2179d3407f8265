-- The isolation theorem.
-- Where the circles of two stores agree key by key, their circles' rows are equal, since the tables ascend (`Ascending`). Each of the two lists is what
-- the shared calls alone would be told and leave on these rows (`Alone`); these are the same in both. The circle's rows being equal at the end, so is
-- the row at each of the circle's keys: the circle goes by the key, and a row at such a key is kept. Fresh stores agree. Assumes nothing.
use mathlib.Core.Path.{◌≡◌, refl, sym, ap, ◌∙◌}
use mathlib.Core.Bool.{Bool, true, false, and-true}
use mathlib.Core.List.{List}
use mathlib.Core.Option.{some}
use Prim.Native.Nat.{ℕ}
use Rattle.numbers.specs.Lists.{keep}
use Rattle.numbers.proofs.Bools.{split}
use Rattle.numbers.proofs.Orders.{same_true, same_refl}
use Rattle.numbers.proofs.Keeps.{every-all, every-imp}
use Rattle.numbers.proofs.Greatest.{Ascends, ascends-keep}
use Rattle.numbers.proofs.Ascending.{ascends_same}
use Rattle.rows.specs.declared.Table.TheVariants.{Context, Mapping, Access, View}
use Rattle.rows.specs.Tables.{Tables, no_rows}
use Rattle.image.specs.Store.{held}
use Rattle.table_update.specs.Tables.{row_at}
use Rattle.edit_rules.specs.TableRows.{context_index, mapping_index, access_index, view_index}
use Rattle.edit_rows.proofs.Stores.{held-ascends}
use Rattle.isolation.specs.Isolation.{Told, calls, Fresh, Circle, row_in, picked, implies, Alike, SameRows}
use Rattle.isolation.specs.Isolation.{Isolated, Settled, Agreeing, IsolatedFrom}
use Rattle.isolation.proofs.Tables.{row_at-keep, row_at-unkept}
use Rattle.isolation.proofs.Circles.{circle_rows, mapping-same, access-same, view-same, row_fits, Orderly}
use Rattle.isolation.proofs.Alone.{trace, final, Kept, Alone, alone}

-- ---- equal rows of the circle, key by key, and back

module _ {R : Type 0} (index_of : R → List ℕ) (p : R → Bool) where
  alike-keep : (i : List ℕ) (xs ys : List R) → ((x : R) → i ≡ index_of x → p x ≡ true) → keep p xs ≡ keep p ys → Alike index_of i xs ys
  alike-keep i xs ys c e = sym (row_at-keep index_of p i xs c) ∙ ap (row_at index_of i) e ∙ row_at-keep index_of p i ys c

  keep-alike : ((x y : R) → index_of x ≡ index_of y → p y ≡ p x) → (xs ys : List R) → Ascends index_of xs → Ascends index_of ys
      → ((z : R) → p z ≡ true → Alike index_of (index_of z) xs ys) → keep p xs ≡ keep p ys
  keep-alike g xs ys a b h =
      ascends_same index_of (keep p xs) (keep p ys) (ascends-keep index_of p xs a) (ascends-keep index_of p ys b)
      (λ z. split (p z)
      (λ k.
      let c : (x : R) → index_of z ≡ index_of x → p x ≡ true = λ x e. g z x e ∙ k in
      row_at-keep index_of p (index_of z) xs c ∙ h z k ∙ sym (row_at-keep index_of p (index_of z) ys c))
      (λ k.
      let c : (x : R) → index_of z ≡ index_of x → p x ≡ false = λ x e. g z x e ∙ k in
      row_at-unkept index_of p (index_of z) xs c ∙ sym (row_at-unkept index_of p (index_of z) ys c)))

module _ (w : Circle) where
  same_rows : (s t : List ℕ) (a b : Tables) → held s ≡ some a → held t ≡ some b → circle_rows w a ≡ circle_rows w b → SameRows w s t
  same_rows s t a b p q e = record {
    one = a;
    other = b;
    one_held = p;
    other_held = q;
    contexts = λ name. alike-keep context_index (row_in w Context) _ a.vacm_context_table b.vacm_context_table (λ x k. refl)
        (ap (λ (u : Tables). u.vacm_context_table) e);
    mappings = λ model name h. alike-keep mapping_index (row_in w Mapping) _ a.vacm_security_to_group_table b.vacm_security_to_group_table
        (λ x k. mapping-same w model name x k ∙ h) (ap (λ (u : Tables). u.vacm_security_to_group_table) e);
    accesses = λ prefix model level. alike-keep access_index (row_in w Access) _ a.vacm_access_table b.vacm_access_table
        (λ x k. access-same w w.group prefix model level x k ∙ same_refl w.group) (ap (λ (u : Tables). u.vacm_access_table) e);
    views = λ name subtree h. alike-keep view_index (row_in w View) _ a.vacm_view_tree_family_table b.vacm_view_tree_family_table
        (λ x k. view-same w name subtree x k ∙ h) (ap (λ (u : Tables). u.vacm_view_tree_family_table) e);
  }

  same-circle : {s t : List ℕ} (y : SameRows w s t) → circle_rows w y.one ≡ circle_rows w y.other
  same-circle {s} {t} y =
      let a = held-ascends s y.one_held in
      let b = held-ascends t y.other_held in
      rw (
        keep-alike context_index (row_in w Context) (λ x z e. refl) y.one.vacm_context_table y.other.vacm_context_table (a Context) (b Context)
            (λ z k. y.contexts z.context_name),
        keep-alike mapping_index (row_in w Mapping) (λ x z e. mapping-same w x.security_model x.security_name z e)
            y.one.vacm_security_to_group_table y.other.vacm_security_to_group_table (a Mapping) (b Mapping)
            (λ z k. y.mappings z.security_model z.security_name k),
        keep-alike access_index (row_in w Access)
            (λ x z e. access-same w x.group_name x.context_prefix x.security_model x.security_level z e)
            y.one.vacm_access_table y.other.vacm_access_table (a Access) (b Access)
            (λ z k. rw (same_true z.group_name w.group k) (y.accesses z.context_prefix z.security_model z.security_level)),
        keep-alike view_index (row_in w View) (λ x z e. view-same w x.view_name x.subtree z e)
            y.one.vacm_view_tree_family_table y.other.vacm_view_tree_family_table (a View) (b View) (λ z k. y.views z.view_name z.subtree k),
      )

  -- ---- orderly tables are settled, and settled tables that are held are orderly

  fits-nothing : (b : Bool) → implies b true ≡ true
  fits-nothing true = refl
  fits-nothing false = refl

  orderly-settled : (s : List ℕ) (t : Tables) → held s ≡ some t → Settled w t → Orderly w t
  orderly-settled s t e y =
      let a = held-ascends s e in
      record {
        contexts = (a Context, every-all (row_fits w Context) t.vacm_context_table (λ r. refl));
        mappings = (a Mapping, every-imp _ (row_fits w Mapping) t.vacm_security_to_group_table (λ r h. rw and-true h) y.members_grouped);
        accesses = (a Access, y.views_chosen);
        views = (a View, every-all (row_fits w View) t.vacm_view_tree_family_table (λ r. fits-nothing (row_in w View r)));
      }

  settled-orderly : (t : Tables) → Orderly w t → Settled w t
  settled-orderly t i = record {
    members_grouped = every-imp (row_fits w Mapping) _ t.vacm_security_to_group_table (λ r h. rw and-true at h) i.mappings.1;
    views_chosen = i.accesses.1;
  }

  -- ---- two lists

  two : {s t : List ℕ} {xs ys : List Told} {a b : Tables} → circle_rows w a ≡ circle_rows w b → calls (picked w xs) ≡ calls (picked w ys)
      → Alone w a xs s → Alone w b ys t → (picked w xs ≡ picked w ys) × Agreeing w s t
  unfolding same_rows
  two {s} {t} {xs} {ys} {a} {b} r e x y =
      let u : trace (circle_rows w a) (calls (picked w xs)) ≡ trace (circle_rows w b) (calls (picked w ys)) = rw (r, e) in
      let v : final (circle_rows w a) (calls (picked w xs)) ≡ final (circle_rows w b) (calls (picked w ys)) = rw (r, e) in (
        x.answers ∙ u ∙ sym y.answers,
        record {
          same_rows = same_rows s t x.tables y.tables x.tables_held y.tables_held (x.rows ∙ v ∙ sym y.rows);
          one_settled = settled-orderly x.tables x.orderly;
          other_settled = settled-orderly y.tables y.orderly;
        },
      )

-- of any circle and any two lists, from any two stores whose circles agree
pub isolation-from : (w : Circle) → IsolatedFrom w
isolation-from w s t s' t' xs ys g rx ry c =
    let y = g.same_rows in
    let kx : Kept w rx = record {
      members_inside = c.members_inside.0;
      members_grouped = c.members_grouped.0;
      views_chosen = c.views_chosen.0;
      never_full = c.never_full.0;
      others_refused = c.others_refused.0;
      walks_confined = c.walks_confined.0;
    } in
    let ky : Kept w ry = record {
      members_inside = c.members_inside.1;
      members_grouped = c.members_grouped.1;
      views_chosen = c.views_chosen.1;
      never_full = c.never_full.1;
      others_refused = c.others_refused.1;
      walks_confined = c.walks_confined.1;
    } in
    two w (same-circle w y) c.same_calls
    (alone w rx y.one y.one_held (orderly-settled w s y.one y.one_held g.one_settled) kx)
    (alone w ry y.other y.other_held (orderly-settled w t y.other y.other_held g.other_settled) ky)

-- fresh stores agree
pub fresh-agree : (w : Circle) (s t : List ℕ) → Fresh s → Fresh t → Agreeing w s t
unfolding same_rows
fresh-agree w s t f g = record {
  same_rows = same_rows w s t no_rows no_rows f g refl;
  one_settled = record { members_grouped = refl; views_chosen = refl };
  other_settled = record { members_grouped = refl; views_chosen = refl };
}

-- demand 3
pub isolation : (w : Circle) → Isolated w
isolation w s t s' t' xs ys f g rx ry c =
    let r = isolation-from w s t s' t' xs ys (fresh-agree w s t f g) rx ry c in (r.0, r.1.same_rows)
