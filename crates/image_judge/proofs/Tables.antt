-- The rows of an image's four tables: their fault is that of the first table that has one (`fault-at`), and without any no table has one.
-- So judging the tables in turn settles it: the first that stops is the answer, and past the last there is no fault. Assumes nothing.
use mathlib.Core.Path.{◌≡◌, sym, ap, ap₂, ◌∙◌}
use mathlib.Core.List.{List, []}
use mathlib.Core.Option.{Option, none, some}
use Prim.Native.Nat.{ℕ, ◌+◌, ◌*◌}
use Rattle.std.specs.Prelude.{Ok}
use Rattle.std.specs.Prelude.{Err}
use Rattle.answers.specs.declared.Fault.{Fault}
use Rattle.rows.specs.Types.{Step}
use Rattle.rows.specs.declared.Table.{Table}
use Rattle.rows.specs.declared.Table.TheVariants.{Context, Mapping, Access, View}
use Rattle.rows.specs.Steps.{reached}
use Rattle.image_layout.specs.declared.Extent.{Extent}
use Rattle.image_layout.specs.declared.Layout.{Layout}
use Rattle.image_layout.specs.Layout.{extent, rows_in, end_of, following, extent_of}
use Rattle.image_layout.proofs.Layouts.{Within}
use Rattle.image_judge.specs.Faults.{table_fault, rows_fault, SoundLayout, surveyed}
use Rattle.image_judge.proofs.Sound.{reached-at, reached-bad, or_else_none}

-- ---- the fault of the rows

abbrev pub fault_in : List ℕ → Layout → Table → Option Fault
fault_in w l t = table_fault t [] (rows_in w (extent_of t l))

-- the tables before t have none
abbrev pub Passed : List ℕ → Layout → Table → Type 0
Passed w l Context = Unit {0}
Passed w l Mapping = fault_in w l Context ≡ none
Passed w l Access = (fault_in w l Context ≡ none) × (fault_in w l Mapping ≡ none)
Passed w l View = (fault_in w l Context ≡ none) × (fault_in w l Mapping ≡ none) × (fault_in w l Access ≡ none)

-- the table behind t; the last has none behind it
abbrev pub behind : Table → Table
behind Context = Mapping
behind Mapping = Access
behind Access = View
behind View = View

module _ (w : List ℕ) (l : Layout) where
  passed-on : (t : Table) → Passed w l t → fault_in w l t ≡ none → Passed w l (behind t)
  passed-on Context p e = e
  passed-on Mapping p e = (p, e)
  passed-on Access p e = (p.0, p.1, e)
  passed-on View p e = p

  fault-at : (t : Table) → Passed w l t → {f : Fault} → fault_in w l t ≡ some f → rows_fault w l ≡ some f
  unfolding rows_fault
  fault-at Context p e = rw e
  fault-at Mapping p e = rw (p, e)
  fault-at Access p e = rw (p.0, p.1, e)
  fault-at View p e = rw (p.0, p.1, p.2, e)

  no-fault : Passed w l View → fault_in w l View ≡ none → rows_fault w l ≡ none
  unfolding rows_fault
  no-fault p e = rw (p.0, p.1, p.2, e)

  pub rows-passed : rows_fault w l ≡ none → Passed w l View × (fault_in w l View ≡ none)
  unfolding rows_fault
  rows-passed h =
      let a = or_else_none (fault_in w l Context) _ h in
      let b = or_else_none (fault_in w l Mapping) _ a.1 in
      let c = or_else_none (fault_in w l Access) _ b.1 in
      ((a.0, b.0, c.0), c.1)

-- the extent x is that of table t, and judging it answered s
pub record Answered (t : Table) (w : List ℕ) (l : Layout) (x : Extent) (s : Step) : Type 0 where
  pub passed : Passed w l t
  pub place : x ≡ extent_of t l
  pub answer : s ≡ reached (table_fault t [] (rows_in w x)) (end_of w x)

module _ {t : Table} {w : List ℕ} {l : Layout} {x : Extent} {s : Step} (d : Answered t w l x s) where
  answered : s ≡ reached (fault_in w l t) (end_of w (extent_of t l))
  answered = d.answer ∙ ap (λ y. reached (table_fault t [] (rows_in w y)) (end_of w y)) d.place

  pub stops : {f : Fault} → s ≡ Err f → Err f ≡ surveyed (rows_fault w l) l
  stops {f} e = rw (fault-at w l t d.passed (reached-bad _ _ f (sym answered ∙ e)))

  goes : {a : ℕ} → s ≡ Ok a → (fault_in w l t ≡ none) × (end_of w (extent_of t l) ≡ a)
  goes {a} e = reached-at _ _ a (sym answered ∙ e)

  no-fault-in : {a : ℕ} → s ≡ Ok a → fault_in w l t ≡ none
  no-fault-in e = (goes e).0

  -- the table behind it begins where it ends
  module _ {a n : ℕ} {y : Extent} (e : s ≡ Ok a) (q : y ≡ extent (x.lengths + 2 * x.count) a n) (f : following w (extent_of t l) n ≡ extent_of (behind t) l) where
    pub next_place : y ≡ extent_of (behind t) l
    next_place = q ∙ ap₂ (λ z o. extent (z.lengths + 2 * z.count) o n) d.place (sym (goes e).1) ∙ f

    pub onward : {r : Step} → r ≡ reached (table_fault (behind t) [] (rows_in w y)) (end_of w y) → Answered (behind t) w l y r
    onward h = record { passed = passed-on w l t d.passed (no-fault-in e); place = next_place; answer = h }

-- the first and the last
pub begins : (w : List ℕ) (l : Layout) {x : Extent} {s : Step} → x ≡ l.contexts → s ≡ reached (table_fault Context [] (rows_in w x)) (end_of w x) → Answered Context w l x s
begins w l e h = record { passed = tt; place = e; answer = h }

pub lays : {w : List ℕ} {l : Layout} {x : Extent} {s : Step} → Answered View w l x s → {a : ℕ} → s ≡ Ok a → Ok l ≡ surveyed (rows_fault w l) l
lays {w} {l} d e = sym (rw (no-fault w l d.passed (no-fault-in d e)))

-- ---- the tables are sound

pub sound-tables : (w : List ℕ) (l : Layout) → Within w l → rows_fault w l ≡ none → SoundLayout w l
sound-tables w l i h =
    let p = rows-passed w l h in
    record {
      contexts_sound = record { inside = i.contexts_in; rows_sound = p.0.0 };
      mappings_sound = record { inside = i.mappings_in; rows_sound = p.0.1 };
      accesses_sound = record { inside = i.accesses_in; rows_sound = p.0.2 };
      views_sound = record { inside = i.views_in; rows_sound = p.1 };
    }
