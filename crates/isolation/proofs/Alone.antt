-- One list: its shared calls are told, and leave of the circle's rows, what they alone would be told and leave on the circle's rows.
-- By induction on the run: at each call the tables held are orderly, a shared call does the same with the circle's rows alone, and any other call
-- leaves them. The right side knows only the shared calls and the circle's rows at the start. Assumes nothing.
use mathlib.Core.Path.{◌≡◌, refl, sym, ap, ◌∙◌}
use mathlib.Core.Bool.{Bool, true}
use mathlib.Core.List.{List, [], ◌∷◌}
use mathlib.Core.Option.{some}
use Prim.Native.Nat.{ℕ}
use Rattle.numbers.proofs.Bools.{split}
use Rattle.rows.specs.Tables.{Tables}
use Rattle.image.specs.Store.{held}
use Rattle.calls.specs.Does.{Call, Reply}
use Rattle.calls.proofs.Steps.{step, does-step}
use Rattle.isolation.specs.Isolation.{Told, calls, Run, done, more, Along, Circle, shared, picked, stays_inside, insiders_edit, keeps_to_group}
use Rattle.isolation.specs.Isolation.{keeps_to_views, finds_room, refuses_others, WalksConfined}
use Rattle.isolation.proofs.Circles.{circle_rows, Orderly}
use Rattle.isolation.proofs.Steps.{step-shared, step_other, step-orderly}
use Rattle.isolation.proofs.Walks.{held-legal}

-- ---- a list of calls, each with its answer, and the tables at the end

unfoldable pub trace : Tables → List Call → List Told
trace t [] = []
trace t (c ∷ cs) = (c, (step t c).0) ∷ trace (step t c).1 cs

unfoldable pub final : Tables → List Call → Tables
final t [] = t
final t (c ∷ cs) = final (step t c).1 cs

-- a run on stores is the trace on the tables held
pub run-trace : {s s' : List ℕ} {ts : List Told} → Run s ts s' → (t : Tables) → held s ≡ some t
    → (trace t (calls ts) ≡ ts) × (held s' ≡ some (final t (calls ts)))
unfolding trace final
run-trace done t e = (refl, e)
run-trace (more {c = c} {r = r} b d run) t e =
    let h = does-step t d e in
    let ih = run-trace run (step t c).1 h.1 in
    (rw (← h.0) (ap (λ (l : List Told). (c, r) ∷ l) ih.0), ih.1)

module _ (w : Circle) where
  -- ---- the conditions on one list

  abbrev Each : (Call → Reply → Bool) → {s s' : List ℕ} {ts : List Told} → Run s ts s' → Type 0
  Each test run = Along (λ found c r. test c r ≡ true) run

  pub record Kept {s s' : List ℕ} {ts : List Told} (run : Run s ts s') : Type 0 where
    pub members_inside : Each (λ c r. stays_inside w c) run
    pub members_grouped : Each (λ c r. insiders_edit w (keeps_to_group w) c) run
    pub views_chosen : Each (λ c r. insiders_edit w (keeps_to_views w) c) run
    pub never_full : Each (λ c r. insiders_edit w (finds_room r) c) run
    pub others_refused : Each (λ c r. refuses_others w c r) run
    pub walks_confined : WalksConfined w run

  -- ---- one list, from tables t to the store s

  pub record Alone (t : Tables) (ts : List Told) (s : List ℕ) : Type 0 where
    pub tables : Tables
    pub tables_held : held s ≡ some tables
    pub orderly : Orderly w tables
    pub answers : picked w ts ≡ trace (circle_rows w t) (calls (picked w ts))
    pub rows : circle_rows w tables ≡ final (circle_rows w t) (calls (picked w ts))

  pub alone : {s s' : List ℕ} {ts : List Told} (run : Run s ts s') (t : Tables) → held s ≡ some t → Orderly w t → Kept run → Alone t ts s'
  unfolding trace final
  alone done t e i k = record { tables = t; tables_held = e; orderly = i; answers = refl; rows = refl }
  alone (more {s = s} {c = c} {r = r} {ts = ts} b d run) t e i k =
      let h = does-step t d e in
      let t' = (step t c).1 in
      let o : refuses_others w c (step t c).0 ≡ true = rw h.0 at k.others_refused.0 in
      let f : insiders_edit w (finds_room (step t c).0) c ≡ true = rw h.0 at k.never_full.0 in
      let i' : Orderly w t' = step-orderly w t c i k.members_grouped.0 k.views_chosen.0 o in
      let ih : Alone t' ts _ = alone run t' h.1 i' record {
        members_inside = k.members_inside.1;
        members_grouped = k.members_grouped.1;
        views_chosen = k.views_chosen.1;
        never_full = k.never_full.1;
        others_refused = k.others_refused.1;
        walks_confined = k.walks_confined.1;
      } in
      split (shared w c)
      (λ y.
      let q : step (circle_rows w t) c ≡ ((step t c).0, circle_rows w t') =
      step-shared w t c i (held-legal s b e) y k.members_inside.0 k.members_grouped.0 k.views_chosen.0 f (k.walks_confined.0 t e) in
      record {
        tables = ih.tables;
        tables_held = ih.tables_held;
        orderly = ih.orderly;
        answers = rw (y, q, ← h.0) (ap (λ (l : List Told). (c, r) ∷ l) ih.answers);
        rows = rw y (ih.rows ∙ ap (λ (u : Reply × Tables). final u.1 (calls (picked w ts))) (sym q));
      })
      (λ y.
      let q : circle_rows w t' ≡ circle_rows w t = step_other w t c y o in
      record {
        tables = ih.tables;
        tables_held = ih.tables_held;
        orderly = ih.orderly;
        answers = rw (y, ← q) ih.answers;
        rows = rw (y, ← q) ih.rows;
      })
