-- What steps 1 to 4 come to by what the code finds.
-- Step 4: the empty name names no view; of any other the rows up to the last of the view hold all its rows, so that there is a view where such a row is.
-- Steps 1 to 3: each goes on with what it finds and is denied where that is nothing, so one law a step says what it comes to. Assumes nothing.
use mathlib.Core.Path.{◌≡◌, refl, sym, ap, ◌∙◌}
use mathlib.Core.Bool.{true, false}
use mathlib.Core.List.{List, [], ◌∷◌, map}
use mathlib.Core.Option.{Option, none, some}
use Prim.Native.Nat.{ℕ, zero, suc, ◌+◌, ◌-◌, ◌≤◌}
use native.Mathlib.Omega.{arith}
use lib.ListN.{length, take, drop, length-drop}
use lib.Seq.{length-take-le, take-take, drop-drop}
use borrow.Author.Tests.{lt-ltb}
use Rattle.std.specs.Prelude.{Ok, Err, Some, None}
use Rattle.std.specs.Option.{is_some}
use Rattle.answers.specs.declared.Cause.TheVariants.{NoSuchContext, NoGroupName, NoAccessEntry, NoSuchView}
use Rattle.numbers.specs.Lists.{keep, find}
use Rattle.numbers.proofs.Bools.{clash}
use Rattle.numbers.proofs.Keeps.{keep-any}
use Rattle.rows.specs.declared.Table.{Table}
use Rattle.rows.specs.declared.Table.TheVariants.{Mapping, Access}
use Rattle.rows.specs.Rows.{ContextRow, MappingRow, AccessRow, ViewRow, context_of, mapping_of, access_of, view_of}
use Rattle.image_layout.specs.declared.Extent.{Extent}
use Rattle.image_layout.specs.declared.Layout.{Layout}
use Rattle.image_layout.specs.Layout.{rows_in}
use Rattle.image_layout.proofs.Walks.{piece}
use Rattle.image_judge.specs.Faults.{tables_at}
use Rattle.decision_steps.specs.Decision.{bears_context, maps_principal, chosen_access, view_for, in_view, view_rows, if_any}
use Rattle.decision_steps.specs.Decision.{Authority, denied, viewed, or_denied, authority, mapping_row, access_row}
use Rattle.decision_find.specs.Types.{Found}
use Rattle.decision_find.specs.declared.ViewRows.{ViewRows}
use Rattle.decision_find.specs.Found.{Lies, Chosen, rows_of_view, ToLast}
use Rattle.decision_find.proofs.Chosen.{held_none, chosen, chosen-as, row-at, no_row}
use Rattle.decision_parts.specs.Types.{Standing}
use Rattle.decision_parts.specs.Parts.{part, over_rows, Says, Authorizes}

-- ---- a part of a part

part-front : (a k n : ℕ) (v : List ℕ) → a + k ≤ n → take k (drop a (take n v)) ≡ take k (drop a v)
part-front zero k n v h = take-take k n v (omega arith)
part-front (suc a) k zero v h = absurd (omega arith)
part-front (suc a) k (suc n) [] h = refl
part-front (suc a) k (suc n) (x ∷ v) h = part-front a k n v (omega arith)

pub part-part : (w : List ℕ) (at end a b : ℕ) → a ≤ b → at + b ≤ end → part (part w at end) a b ≡ part w (at + a) (at + b)
part-part w at end a b h k =
    let n : b - a ≡ at + b - (at + a) = omega arith in
    part-front a (b - a) (end - at) (drop at w) (omega arith)
    ∙ ap (take (b - a)) (drop-drop a at w)
    ∙ ap (λ m. take m (drop (at + a) w)) n

-- ---- step 4

-- the same by another name
pub says-as : {w : List ℕ} {r : Standing} {a b : Authority} → Says w r a → a ≡ b → Says w r b
says-as k e = record { lies = k.lies; is = k.is ∙ e }

over : List ViewRow → Authority
over rs = or_denied NoSuchView (if_any rs) viewed

over-some : (rs : List ViewRow) → (rs ≡ [] → ⊥) → viewed rs ≡ over rs
unfolding over
over-some [] h = absurd (h refl)
over-some (r ∷ rs) h = refl

-- a name that is not empty names a view
pub view-named : (name : List ℕ) (rs : List ViewRow) → (length name ≡ 0 → ⊥) → keep (in_view name) rs ≡ view_rows name rs
view-named [] rs h = absurd (h refl)
view-named (x ∷ name) rs h = refl

module _ (w : List ℕ) (views : Extent) (from to : ℕ) where
  module _ (h : from ≡ to → ⊥) (p : Lies w from to) {v : ViewRows} (k : ToLast (part w from to) w views v) where
    named : keep (in_view (part w from to)) (map view_of (rows_in w views)) ≡ view_rows (part w from to) (map view_of (rows_in w views))
    named =
        view-named (part w from to) (map view_of (rows_in w views))
        (λ z. h (omega (arith, p.starts, p.ends, length-take-le (to - from) (drop from w) (omega (arith, p.starts, p.ends, length-drop from w)))))

    pub view-some : (v.rows.count ≡ 0 → ⊥)
        → Says w (Ok (record { from = from; to = to; rows = v })) (over_rows (part w from to) (map view_of (rows_in w views)))
    unfolding over
    view-some z = record {
      lies = record { named = p; lies = k.lies };
      is = ap viewed k.kept
          ∙ over-some (rows_of_view (part w from to) w views)
          (λ n. clash (k.some ∙ lt-ltb 0 v.rows.count (omega arith)) (keep-any (in_view (part w from to)) (map view_of (rows_in w views)) n))
          ∙ ap over named;
    }

-- ---- steps 1 to 3

-- whether a row was found says whether there is one to choose
module _ {R : Type 0} {t : Table} {of : List ℕ → R} {w : List ℕ} {choice : Option R} where
  pub none-found : (found : Found) → Chosen t of w found choice → is_some found ≡ false → choice ≡ none
  none-found (Some (a, e)) k h = clash refl h
  none-found None k h = no_row k refl

  pub one-found : (found : Found) → Chosen t of w found choice → is_some found ≡ true → (r : R) × (choice ≡ some r)
  one-found (Some (a, e)) k h = (of (piece w a e), (row-at k refl).is)
  one-found None k h = clash h refl

module _ (w : List ℕ) (l : Layout) (model : ℕ) (name : List ℕ) (level view : ℕ) (context : List ℕ) where
  abbrev context_choice : Option ContextRow
  context_choice = find (bears_context context) (map context_of (rows_in w l.contexts))

  abbrev mapping_choice : Option MappingRow
  mapping_choice = find (maps_principal model name) (map mapping_of (rows_in w l.mappings))

  abbrev access_choice : MappingRow → Option AccessRow
  access_choice m = chosen_access m.group_name model level context (map access_of (rows_in w l.accesses))

  abbrev come : Authority → Type 0
  come a = a ≡ authority (tables_at w l) model name level view context

  no_context : context_choice ≡ none → come (denied NoSuchContext)
  unfolding authority tables_at
  no_context e = sym (rw e)

  no_mapping : context_choice ≡ none → none ≡ mapping_row (tables_at w l) model name context
  unfolding mapping_row tables_at
  no_mapping e = sym (rw e)

  no_access : mapping_row (tables_at w l) model name context ≡ none → none ≡ access_row (tables_at w l) model name level context
  unfolding access_row
  no_access e = sym (rw e)

  -- step 1 finds nothing
  pub denied-context : context_choice ≡ none
      → Authorizes w l model name level view context (record { mapping = None; access = None; standing = Err NoSuchContext })
  denied-context e = record {
    mapping = chosen (held_none Mapping w) (no_mapping e);
    access = chosen (held_none Access w) (no_access (sym (no_mapping e)));
    standing = record { lies = tt; is = no_context e };
  }

  module _ {c : ContextRow} (e : context_choice ≡ some c) {m : Found} (g : Chosen Mapping mapping_of w m mapping_choice) where
    mapping_is : mapping_choice ≡ mapping_row (tables_at w l) model name context
    unfolding mapping_row tables_at
    mapping_is = sym (rw e)

    no-group : mapping_choice ≡ none → come (denied NoGroupName)
    unfolding authority tables_at
    no-group f = sym (rw (e, f))

    -- step 2
    pub denied-group : mapping_choice ≡ none
        → Authorizes w l model name level view context (record { mapping = m; access = None; standing = Err NoGroupName })
    denied-group f = record {
      mapping = chosen-as g mapping_is;
      access = chosen (held_none Access w) (no_access (sym mapping_is ∙ f));
      standing = record { lies = tt; is = no-group f };
    }

    module _ {r : MappingRow} (f : mapping_choice ≡ some r) {a : Found} (k : Chosen Access access_of w a (access_choice r)) where
      access_is : access_choice r ≡ access_row (tables_at w l) model name level context
      unfolding access_row mapping_row tables_at
      access_is = sym (rw (e, f))

      no-entry : access_choice r ≡ none → come (denied NoAccessEntry)
      unfolding authority tables_at
      no-entry h = sym (rw (e, f, h))

      by-entry : {x : AccessRow} → access_choice r ≡ some x → come (over_rows (view_for view x) (map view_of (rows_in w l.views)))
      unfolding authority tables_at
      by-entry h = sym (rw (e, f, h))

      authorizes : {s : Standing} → Says w s (authority (tables_at w l) model name level view context)
          → Authorizes w l model name level view context (record { mapping = m; access = a; standing = s })
      authorizes s = record { mapping = chosen-as g mapping_is; access = chosen-as k access_is; standing = s }

      -- step 3
      pub denied-entry : access_choice r ≡ none
          → Authorizes w l model name level view context (record { mapping = m; access = a; standing = Err NoAccessEntry })
      denied-entry h = authorizes (record { lies = tt; is = no-entry h })

      -- step 4 of the access row
      pub by_row : {x : AccessRow} {s : Standing} → access_choice r ≡ some x → Says w s (over_rows (view_for view x) (map view_of (rows_in w l.views)))
          → Authorizes w l model name level view context (record { mapping = m; access = a; standing = s })
      by_row h s = authorizes (says-as s (by-entry h))
