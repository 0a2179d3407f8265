-- Principals' sets of edits beside the circle.
-- A member's set whose rows are all of the circle does with the circle's rows alone what it does with all rows, with the same answer and position: whether
-- it is a set does not go by the tables; each edit is judged by the circle's rows as by all (`PrincipalEdits`), and so the first refusal is the same; and
-- applied one after the other, each edit leaves the circle's rows of what it leaves (`Edits`), since rows that fit keep the tables orderly. The circle's
-- rows are no more than all rows, so that where none of the tables is over, none is there. Another principal's set is refused, and so changes nothing, or
-- all its rows are outside the circle, and none of them shows. Assumes nothing.
use mathlib.Core.Path.{◌≡◌, refl, sym, ap, ap₂, ◌∙◌}
use mathlib.Core.Bool.{Bool, true, false, cond, not, ◌&&◌}
use mathlib.Core.List.{List, [], ◌∷◌}
use Prim.Native.Nat.{ℕ, suc, ◌≤◌}
use native.Mathlib.Omega.{arith}
use lib.Dec.{eqb, ltb}
use lib.ListN.{length}
use borrow.Author.Tests.{ltb-false, le-ltb}
use Rattle.std.specs.Prelude.{Ok, Err}
use Rattle.answers.specs.declared.Refusal.TheVariants.{Barred, Faulty}
use Rattle.numbers.specs.Lists.{every, any}
use Rattle.numbers.proofs.Bools.{split, clash, not-true, is_false, and_left, and_right, and-false-or, and-false-left, and-false-right, or-true, cond_map}
use Rattle.numbers.proofs.Bools.{or_left, or-false-left, or-false-right}
use Rattle.numbers.proofs.Keeps.{every-imp, every-both, any-every}
use Rattle.rows.specs.declared.Table.{Table}
use Rattle.rows.specs.Rows.{limit}
use Rattle.rows.specs.Tables.{Tables}
use Rattle.edit_rules.specs.Types.{Edited}
use Rattle.edit_rules.specs.TableRows.{rows_of}
use Rattle.edit_rules.specs.Edits.{Edit, Caller, is_create, legal_caller, applied}
use Rattle.edits.specs.Calls.{edited_number, principal_judged}
use Rattle.set_rules.specs.declared.SetAnswer.{SetAnswer}
use Rattle.set_rules.specs.Sets.{is_set, is_done, answer_at, or_next, first_refused, applied_all, first_create, is_over, room, set_judged, SetOutcome, principal_set}
use Rattle.calls.specs.Does.{by_set, set_edited}
use Rattle.isolation.specs.Isolation.{Circle, of_circle, is_member, implies, stays_inside, insiders_edit, keeps_to_group, keeps_to_views}
use Rattle.isolation.specs.Isolation.{finds_room, refuses_others}
use Rattle.isolation.proofs.Circles.{implied, circle_rows, Orderly}
use Rattle.isolation.proofs.Edits.{no_more, fits, fits_both, applied-circle, applied-out, applied-orderly}
use Rattle.isolation.proofs.PrincipalEdits.{judged-circle}
use Rattle.isolation.proofs.Numbers.{creates, lacks_room, lacks-creates, room-lacks, room-done}

done-zero : (r : Edited) → is_done r ≡ true → eqb (edited_number r) 0 ≡ true
done-zero (Ok tt) d = refl
done-zero (Err (Barred c)) d = clash d refl
done-zero (Err (Faulty f)) d = clash d refl

-- what each create passes, a set with a create passes
creates-pass : (b : Bool) (es : List Edit) → every (λ e. implies (is_create e.operation) b) es ≡ true → creates es ≡ true → b ≡ true
creates-pass b [] h k = clash k refl
creates-pass b (e ∷ es) h k =
    let x : implies (is_create e.operation) b ≡ true = and_left _ _ h in
    or-true (is_create e.operation) (creates es) k (λ a. implied (is_create e.operation) b x a)
    (λ a. creates-pass b es (and_right (implies (is_create e.operation) b) _ h) a)

module _ (w : Circle) where
  -- ---- applied one after the other

  all-circle : (t : Tables) (es : List Edit) → Orderly w t → every (of_circle w) es ≡ true → every (fits w) es ≡ true
      → applied_all (circle_rows w t) es ≡ circle_rows w (applied_all t es)
  all-circle t [] i h f = refl
  all-circle t (e ∷ es) i h f =
      ap (λ u. applied_all u es) (applied-circle w t e (and_left _ _ h) i)
      ∙ all-circle (applied t e) es (applied-orderly w t e (and_left _ _ f) i) (and_right (of_circle w e) _ h) (and_right (fits w e) _ f)

  all-out : (t : Tables) (es : List Edit) → any (of_circle w) es ≡ false → circle_rows w (applied_all t es) ≡ circle_rows w t
  all-out t [] h = refl
  all-out t (e ∷ es) h = all-out (applied t e) es (or-false-right (of_circle w e) _ h) ∙ applied-out w t e (or-false-left _ _ h)

  all-orderly : (t : Tables) (es : List Edit) → every (fits w) es ≡ true → Orderly w t → Orderly w (applied_all t es)
  all-orderly t [] f i = i
  all-orderly t (e ∷ es) f i = all-orderly (applied t e) es (and_right (fits w e) _ f) (applied-orderly w t e (and_left _ _ f) i)

  -- edits outside the circle fit
  out-fits : (es : List Edit) → any (of_circle w) es ≡ false → every (fits w) es ≡ true
  out-fits es h = every-imp _ (fits w) es (λ e o. or_left _ o) (any-every (of_circle w) es h)

  -- ---- room

  over-circle : (after : Tables) (t : Table) → is_over after t ≡ false → is_over (circle_rows w after) t ≡ false
  over-circle after t f =
      let a : length (rows_of t after) ≤ limit t = ltb-false (limit t) _ f in let b = no_more w t after in le-ltb (limit t) _ (omega arith)

  room-circle : (after : Tables) (es : List Edit) → every (finds_room (set_edited (room after es))) es ≡ true
      → room (circle_rows w after) es ≡ room after es
  room-circle after es q =
      let free : (t : Table) → lacks_room after es t ≡ false = λ t. is_false (lacks_room after es t)
      (λ l. clash (room-lacks after es t l) (not-true _ (creates-pass _ es q (lacks-creates after es t l)))) in
      room-done (circle_rows w after) es
      (λ t. and-false-or (ltb 0 (first_create t 1 es)) _ (free t) (λ a. and-false-left _ a)
      (λ a. and-false-right (ltb 0 (first_create t 1 es)) (over-circle after t a)))
      ∙ sym (room-done after es free)

  next-circle : (a : SetAnswer) (after : Tables) (es : List Edit) → every (finds_room (set_edited (or_next a (room after es)))) es ≡ true
      → or_next a (room (circle_rows w after) es) ≡ or_next a (room after es)
  unfolding or_next
  next-circle a after es q = split (is_done a.answer) (λ d. rw d (room-circle after es (rw d at q))) (λ d. rw d)

  module _ (t : Tables) (c : Caller) where
    refused-circle : Orderly w t → is_member w c ≡ true → (p : ℕ) (es : List Edit) → every (of_circle w) es ≡ true
        → first_refused (principal_judged (circle_rows w t) c) p es ≡ first_refused (principal_judged t c) p es
    refused-circle i m p [] h = refl
    refused-circle i m p (e ∷ es) h =
        ap₂ (λ v a. or_next (answer_at v p) a) (judged-circle w t c e i m (and_left _ _ h)) (refused-circle i m (suc p) es (and_right (of_circle w e) _ h))

    -- the circle's rows of what a set leaves
    abbrev circle_of_set : SetOutcome → SetOutcome
    circle_of_set o = record { answer = o.answer; rows = circle_rows w o.rows }

    module _ (es : List Edit) where
      abbrev accepted : Bool
      accepted = is_done (principal_set t c es).answer.answer

      -- the tables stay, or the set is accepted and applied
      set-either : (P : Tables → Type 0) → P t → (accepted ≡ true → P (applied_all t es)) → P (principal_set t c es).rows
      unfolding principal_set
      set-either P h k = split (is_done (set_judged t c es).answer) (λ d. rw d (k d)) (λ d. rw d h)

      -- ---- a member's set

      module _ (i : Orderly w t) (m : is_member w c ≡ true) (h : every (of_circle w) es ≡ true) (f : every (fits w) es ≡ true) where
        set-judged : every (finds_room (set_edited (set_judged t c es))) es ≡ true → set_judged (circle_rows w t) c es ≡ set_judged t c es
        unfolding set_judged
        set-judged q =
            split (is_set es)
            (λ s. split (legal_caller c)
            (λ l. rw (s, l)
            (ap₂ (λ a u. or_next a (room u es)) (refused-circle i m 1 es h) (all-circle t es i h f)
            ∙ next-circle (first_refused (principal_judged t c) 1 es) (applied_all t es) es (rw (s, l) at q)))
            (λ l. rw (s, l)))
            (λ s. rw s)

        set-circle : every (finds_room (set_edited (principal_set t c es).answer)) es ≡ true
            → principal_set (circle_rows w t) c es ≡ circle_of_set (principal_set t c es)
        unfolding principal_set
        set-circle q =
            ap₂ {C = SetOutcome} (λ a u. record { answer = a; rows = cond (is_done a.answer) u (circle_rows w t) }) (set-judged q) (all-circle t es i h f)
            ∙ ap {B = SetOutcome} (λ u. record { answer = set_judged t c es; rows = u })
            (sym (cond_map (circle_rows w) (is_done (set_judged t c es).answer) (applied_all t es) t))

      module _ (m : is_member w c ≡ true) (g : insiders_edit w (keeps_to_group w) (by_set c es) ≡ true)
          (v : insiders_edit w (keeps_to_views w) (by_set c es) ≡ true) where
        all_fit : every (fits w) es ≡ true
        all_fit =
            let a : Edit → Bool = λ e. implies (of_circle w e) (keeps_to_group w e) in
            every-imp _ (fits w) es (λ e k. fits_both w e (of_circle w e) (λ o. o) (and_left _ _ k) (and_right (a e) _ k))
            (every-both a _ es (implied (is_member w c) _ g m) (implied (is_member w c) _ v m))

        pub set-shared : Orderly w t → stays_inside w (by_set c es) ≡ true
            → insiders_edit w (finds_room (set_edited (principal_set t c es).answer)) (by_set c es) ≡ true
            → principal_set (circle_rows w t) c es ≡ circle_of_set (principal_set t c es)
        set-shared i st q =
            let o : every (of_circle w) es ≡ true = implied (is_member w c) _ st m in
            set-circle i m o all_fit
            (every-imp _ _ es (λ e k. implied (of_circle w e) _ (and_right (of_circle w e) _ k) (and_left _ _ k))
            (every-both (of_circle w) _ es o (implied (is_member w c) _ q m)))

        pub set-orderly : Orderly w t → Orderly w (principal_set t c es).rows
        set-orderly i = set-either (Orderly w) i (λ d. all-orderly t es all_fit i)

      -- ---- another's set

      module _ (m : is_member w c ≡ false) (r : refuses_others w (by_set c es) (set_edited (principal_set t c es).answer) ≡ true) where
        -- accepted, it is outside
        accepted-out : accepted ≡ true → any (of_circle w) es ≡ false
        accepted-out d =
            is_false (any (of_circle w) es)
            (λ o. clash (done-zero (principal_set t c es).answer.answer d) (not-true _ (implied (not (is_member w c) && any (of_circle w) es) _ r (rw (m, o)))))

        pub set_other : circle_rows w (principal_set t c es).rows ≡ circle_rows w t
        set_other = set-either (λ u. circle_rows w u ≡ circle_rows w t) refl (λ d. all-out t es (accepted-out d))

        pub set-other-orderly : Orderly w t → Orderly w (principal_set t c es).rows
        set-other-orderly i = set-either (Orderly w) i (λ d. all-orderly t es (out-fits es (accepted-out d)) i)
