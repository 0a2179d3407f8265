-- What the call of a set promises of a sound store, by what the code finds, in its order.
-- The tables that it judges by are those that the store holds; a set whose edits are all judged Done is in order, so that room as it is counted is room on
-- the rows that would stand afterwards; and where there is room, the removals and then the other edits made leave what the set leaves (`Promises` of crate
-- `set_rules`). Assumes nothing.
use mathlib.Core.Path.{◌≡◌, refl, sym, ap, ap₂, subst, ◌∙◌}
use mathlib.Core.Bool.{true, false}
use mathlib.Core.List.{List, [], ◌∷◌}
use mathlib.Core.Option.{some}
use Prim.Native.Nat.{ℕ, zero, suc, ◌-◌, ◌≤◌}
use native.Mathlib.Omega.{arith}
use lib.ListN.{length, length-map}
use Rattle.std.specs.Prelude.{Ok, Err}
use Rattle.answers.specs.declared.Refusal.TheVariants.{Faulty}
use Rattle.answers.specs.declared.Fault.TheVariants.{OutOfRange, NotASet}
use Rattle.numbers.specs.BigEndian.{Octets}
use Rattle.numbers.proofs.BigEndian.{octets-take, octets-drop}
use Rattle.numbers.proofs.Bools.{and_left}
use Rattle.rows.specs.declared.Shape.TheVariants.{Row, Key}
use Rattle.rows.specs.declared.Table.{Table}
use Rattle.rows.specs.declared.Table.TheVariants.{Context, Mapping, Access, View}
use Rattle.rows.specs.Fields.{within}
use Rattle.rows.specs.Tables.{Tables}
use Rattle.rows.proofs.Sound.{within-most}
use Rattle.image_layout.specs.declared.Layout.{Layout}
use Rattle.image_layout.specs.Layout.{layout_of, extent_of}
use Rattle.image_judge.specs.Faults.{tables_at}
use Rattle.image.specs.Store.{is_sound, held}
use Rattle.decision_parts.specs.Types.{Standing}
use Rattle.table_update.specs.Exchange.{table_rows}
use Rattle.table_update.proofs.Splits.{length-rows}
use Rattle.edit_rules.specs.Types.{Edited}
use Rattle.edit_rules.specs.TableRows.{row_of, rows_of}
use Rattle.edit_rules.specs.Edits.{Edit, Caller, shape_of, index_of_edit, legal_caller}
use Rattle.edit_rules.proofs.Outcomes.{tables, rows_in_lem}
use Rattle.edit_rows.proofs.Stores.{store_rows, held-sound, held-ascends}
use Rattle.edit_rights.specs.Standing.{Stands}
use Rattle.edits.specs.Calls.{principal_judged}
use Rattle.set_rules.specs.declared.SetAnswer.{SetAnswer}
use Rattle.set_rules.specs.declared.SetEdit.{SetEdit}
use Rattle.set_rules.specs.declared.EditSet.{EditSet}
use Rattle.set_rules.specs.Sets.{most_edits, is_set, is_done, answer_at, or_next, first_refused, applied_all, room}
use Rattle.set_rules.specs.Handed.{place_in, edits_from, edits_of, AllOctets}
use Rattle.set_rules.specs.Made.{weight, counted_room, of_shape, Makes}
use Rattle.set_rules.specs.Promise.{PrincipalSets}
use Rattle.set_rules.proofs.Order.{Ready, room-counted}
use Rattle.set_rules.proofs.Accepted.{undone, ready_of}
use Rattle.set_rules.proofs.Promises.{held-limited, not-a-set, not-a-caller, edit-refused, room-judged, room-none, set-refused, set-accepted, makes-all}
use Rattle.set_judge.specs.Asked.{judged_with, Limited}
use Rattle.set_judge.proofs.Places.{length-edits, weight-bytes}

octets-edits : (xs : List SetEdit) (bytes : List ℕ) → Octets bytes → (i n : ℕ) → AllOctets (edits_from xs bytes i n)
octets-edits xs bytes b i zero = tt
octets-edits xs bytes b i (suc n) =
    let x = place_in xs i in (octets-take (x.end - x.from) _ (octets-drop x.from bytes b), octets-edits xs bytes b (suc i) n)

refused-same : (f g : Edit → Edited) → ((e : Edit) → f e ≡ g e) → (p : ℕ) (es : List Edit) → first_refused f p es ≡ first_refused g p es
refused-same f g h p [] = refl
refused-same f g h p (e ∷ es) = ap₂ (λ v a. or_next (answer_at v p) a) (h e) (refused-same f g h (suc p) es)

-- room is counted by the rows of each table, whatever the edits' bytes
counted_same : (xs : List SetEdit) (bytes : List ℕ) (n : ℕ) (f g : Table → ℕ) → ((t : Table) → f t ≡ g t)
    → counted_room f (edits_from xs [] 0 n) ≡ counted_room g (edits_from xs bytes 0 n)
unfolding counted_room
counted_same xs bytes n f g h =
    let w : (t : Table) → weight t 1 (edits_from xs [] 0 n) ≡ weight t 1 (edits_from xs bytes 0 n) = λ t. weight-bytes xs bytes t 1 0 n in
    rw (h Context, h Mapping, h Access, h View, w Context, w Mapping, w Access, w View)

module _ (c : Caller) (x : EditSet) (bytes : List ℕ) (b : Octets bytes) (w : List ℕ) (h : is_sound w ≡ true) where
  abbrev es : List Edit
  es = edits_of x bytes

  abbrev ts : Tables
  ts = tables (store_rows w)

  rows-held : held w ≡ some ts
  rows-held = held-sound w h

  -- a refusal with this answer
  refusal : {a r : SetAnswer} → r ≡ a → PrincipalSets c es w w a → PrincipalSets c es w w r
  refusal e p = subst (λ v. PrincipalSets c es w w v) (sym e) p

  pub no-set : is_set es ≡ false → {r : SetAnswer} → r ≡ answer_at (Err (Faulty NotASet)) 0 → PrincipalSets c es w w r
  no-set s e = refusal e (set-refused c es w rows-held (not-a-set ts c es s) refl)

  module _ (s : is_set es ≡ true) where
    pub few : x.count ≤ most_edits
    unfolding is_set
    few = omega (arith, within-most 1 most_edits (length es) (and_left (within 1 most_edits (length es)) _ s), length-edits x.edits bytes 0 x.count)

    pub no-caller : legal_caller c ≡ false → {r : SetAnswer} → r ≡ answer_at (Err (Faulty OutOfRange)) 0 → PrincipalSets c es w w r
    no-caller l e = refusal e (set-refused c es w rows-held (not-a-caller ts c es s l) refl)

    module _ (k : legal_caller c ≡ true) {l : Layout} (q : l ≡ layout_of w) where
      tables-laid : tables_at w l ≡ ts
      unfolding tables_at
      tables-laid = rw q

      -- as many rows as the layout counts
      counts : (t : Table) → (extent_of t l).count ≡ length (rows_of t ts)
      counts t =
          ap (λ d. (extent_of t d).count) q ∙ sym (length-rows w (extent_of t (layout_of w)))
          ∙ sym (ap length (rows_in_lem (store_rows w) t) ∙ length-map (table_rows t w) (row_of t))

      pub limited : Limited l
      limited t = omega (arith, counts t, held-limited w rows-held t)

      module _ {standing : Standing} (y : Stands w l c standing) {a : SetAnswer} (e : a ≡ first_refused (judged_with w l standing) 1 es) where
        -- judged by its standing as by the tables
        judged-with : (d : Edit) → judged_with w l standing d ≡ principal_judged (tables_at w l) c d
        unfolding judged_with principal_judged
        judged-with d = rw (k, y.judges (shape_of d.operation) d.table (index_of_edit d))

        judged-is : first_refused (principal_judged ts c) 1 es ≡ a
        judged-is =
            sym (e ∙ refused-same (judged_with w l standing) (principal_judged (tables_at w l) c) judged-with 1 es
            ∙ ap (λ u. first_refused (principal_judged u c) 1 es) tables-laid)

        pub refused : (a.answer ≡ (Ok tt) → ⊥) → PrincipalSets c es w w a
        refused n = set-refused c es w rows-held (edit-refused ts c es s k judged-is (undone a.answer n)) (undone a.answer n)

        module _ (d : a.answer ≡ (Ok tt)) {r : SetAnswer} (f : r ≡ counted_room (λ t. (extent_of t l).count) (edits_from x.edits [] 0 x.count)) where
          done : is_done (first_refused (principal_judged ts c) 1 es).answer ≡ true
          done = ap (λ (v : SetAnswer). is_done v.answer) judged-is ∙ ap is_done d

          in_order : Ready ts es
          in_order = ready_of ts c es (held-ascends w rows-held) (octets-edits x.edits bytes b 0 x.count) s done

          room_is : r ≡ room (applied_all ts es) es
          room_is =
              f ∙ counted_same x.edits bytes x.count (λ t. (extent_of t l).count) (λ t. length (rows_of t ts)) counts ∙ room-counted ts es in_order

          pub full : (r.answer ≡ (Ok tt) → ⊥) → PrincipalSets c es w w r
          full n = set-refused c es w rows-held (room-judged ts c es s k done ∙ sym room_is) (undone r.answer n)

          module _ (g : r.answer ≡ (Ok tt)) where
            spare : is_done (room (applied_all ts es) es).answer ≡ true
            spare = ap (λ (v : SetAnswer). is_done v.answer) (sym room_is) ∙ ap is_done g

            pub accepted : (mid after : List ℕ) → Makes (of_shape Key es) w mid → Makes (of_shape Row es) mid after → PrincipalSets c es w after r
            accepted mid after m n =
                let z = room-none (applied_all ts es) es spare in
                subst (λ v. PrincipalSets c es w after v) (sym (room_is ∙ z))
                (set-accepted c es w rows-held (room-judged ts c es s k done ∙ z)
                (makes-all c es w rows-held (octets-edits x.edits bytes b 0 x.count) s done spare mid after m n))
