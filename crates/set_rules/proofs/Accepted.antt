-- A set that is accepted, taken apart and put together.
-- Where each edit is judged Done, each is legal and finds its row as it wants it, and where the set is one their rows differ: it is in order (`ready_of`).
-- Where no table that it creates in is over its limit afterwards, there is room for its creates once its removals are made (`roomy_of`). So the edits
-- made one by one, the removals first, leave what the set leaves (`made-removals-first`). Assumes nothing.
use mathlib.Core.Path.{◌≡◌, refl, sym, ap, ◌∙◌}
use mathlib.Core.Bool.{true, false, not, ◌&&◌}
use mathlib.Core.List.{List, [], ◌∷◌}
use mathlib.Core.Logic.{◌⊎◌, inl, inr, ⊎_elim}
use mathlib.Core.Option.{Option, none, some}
use Prim.Native.Nat.{ℕ, suc, ◌+◌, ◌≤◌}
use native.Mathlib.Omega.{arith}
use lib.Dec.{ltb}
use lib.ListN.{length}
use borrow.Author.Tests.{ltb-false, not-true}
use Rattle.std.specs.Prelude.{Ok, Err}
use Rattle.answers.specs.declared.Refusal.TheVariants.{Barred, Faulty}
use Rattle.answers.specs.declared.Decision.{Decision}
use Rattle.answers.specs.declared.Decision.TheVariants.{Allowed, Refused}
use Rattle.answers.specs.declared.Fault.{Fault}
use Rattle.numbers.specs.BigEndian.{Octets}
use Rattle.numbers.specs.Lists.{any}
use Rattle.numbers.proofs.Bools.{split, clash, is_false, and_left, and_right, and-false-or, or-false-left, or-false-right}
use Rattle.numbers.proofs.Options.{map-none}
use Rattle.rows.specs.declared.Shape.TheVariants.{Row, Key}
use Rattle.rows.specs.declared.Table.{Table}
use Rattle.rows.specs.declared.Table.TheVariants.{Context, Mapping, Access, View}
use Rattle.rows.specs.Fields.{within}
use Rattle.rows.specs.Rows.{limit}
use Rattle.rows.specs.Tables.{Tables}
use Rattle.rows.proofs.Sound.{or_else_none}
use Rattle.table_update.specs.Exchange.{one_if}
use Rattle.edit_rules.specs.declared.Operation.{Operation}
use Rattle.edit_rules.specs.declared.Operation.TheVariants.{Create, Change, Remove}
use Rattle.edit_rules.specs.Types.{Edited}
use Rattle.edit_rules.specs.TableRows.{rows_of, storage_of}
use Rattle.edit_rules.specs.Edits.{Edit, Caller, edit_of, legal_caller, legal_edit, is_context, judgement, row_held, presence_fault, row_fault, faulted}
use Rattle.edit_rules.proofs.Outcomes.{faulty-done}
use Rattle.edits.specs.Calls.{allowed, principal_judged}
use Rattle.set_rules.specs.declared.SetAnswer.{SetAnswer}
use Rattle.set_rules.specs.Sets.{most_edits, same_table, same_key, keys_differ, is_set, is_done, or_next, answer_at, first_refused}
use Rattle.set_rules.specs.Sets.{applied_all, creates_in, first_create, is_over, room_in, room}
use Rattle.set_rules.specs.Handed.{AllOctets}
use Rattle.set_rules.specs.Made.{made_all, of_shape}
use Rattle.set_rules.proofs.Keys.{Apart, apart}
use Rattle.set_rules.proofs.Applied.{Ascending}
use Rattle.set_rules.proofs.Order.{All, ApartAll, InOrder, Ready, ready-shape, ready-rows, creates, removals, lengths}
use Rattle.set_rules.proofs.Order.{removals-first, Roomy, made-applied}

-- ---- the first refusal of two

pub or-next-done : (a b : SetAnswer) → is_done (or_next a b).answer ≡ true → (is_done a.answer ≡ true) × (is_done b.answer ≡ true)
unfolding or_next
or-next-done a b h = split (is_done a.answer) (λ d. (d, rw d at h)) (λ d. clash (rw d at h) d)

pub is-done : (r : Edited) → is_done r ≡ true → r ≡ (Ok tt)
is-done (Ok tt) e = refl
is-done (Err (Barred c)) e = clash e refl
is-done (Err (Faulty f)) e = clash e refl

pub undone : (r : Edited) → (r ≡ (Ok tt) → ⊥) → is_done r ≡ false
undone r n = is_false (is_done r) (λ e. n (is-done r e))

-- ---- an edit judged Done is in order

allowed-done : (d : Decision) (r : Edited) → allowed d r ≡ (Ok tt) → r ≡ (Ok tt)
allowed-done Allowed r e = e
allowed-done (Refused c) r e = let z : ◌≡◌ {A = ℕ} 0 1 = cc e in absurd (omega arith)

faulted-none : (f : Option Fault) → faulted f ≡ (Ok tt) → f ≡ none
faulted-none none e = refl
faulted-none (some f) e = absurd (faulty-done e)

pub judged-order : (ts : Tables) (c : Caller) (e : Edit) → principal_judged ts c e ≡ (Ok tt) → InOrder ts e
unfolding principal_judged row_fault
judged-order ts c e h =
    split (legal_caller c && legal_edit e)
    (λ l. split (is_context e.table) (λ k. absurd (faulty-done (rw (l, k) at h)))
    (λ k.
    let f : row_fault true ts e ≡ none = faulted-none _ (allowed-done (judgement ts c e) _ (rw (l, k) at h)) in
    record {
      legal = and_right (legal_caller c) _ l;
      present = ap (λ b. presence_fault e.operation (not b)) (sym (map-none (storage_of e.table) (row_held ts e))) ∙ (or_else_none _ _ f).0;
    }))
    (λ l. absurd (faulty-done (rw l at h)))

module _ (ts : Tables) (c : Caller) where
  all-in-order : (p : ℕ) (es : List Edit) → is_done (first_refused (principal_judged ts c) p es).answer ≡ true → All (InOrder ts) es
  all-in-order p [] h = tt
  all-in-order p (e ∷ es) h =
      let d = or-next-done (answer_at (principal_judged ts c e) p) (first_refused (principal_judged ts c) (suc p) es) h in
      (judged-order ts c e (is-done _ d.0), all-in-order (suc p) es d.1)

  -- edits whose keys differ are of different rows
  apart-each : (e : Edit) → Octets e.bytes → InOrder ts e → (ds : List Edit) → AllOctets ds → All (InOrder ts) ds → any (same_key e) ds ≡ false
      → All (Apart e) ds
  apart-each e b o [] bs os h = tt
  apart-each e b o (d ∷ ds) bs os h = (
    apart e d b bs.0 o.legal os.0.legal (or-false-left (same_key e d) _ h),
    apart-each e b o ds bs.1 os.1 (or-false-right (same_key e d) _ h),
  )

  apart-all : (es : List Edit) → AllOctets es → All (InOrder ts) es → keys_differ es ≡ true → ApartAll es
  apart-all [] bs os h = tt
  apart-all (e ∷ es) bs os h = (
    apart-each e bs.0 os.0 es bs.1 os.1 (not-true (any (same_key e) es) (and_left _ _ h)),
    apart-all es bs.1 os.1 (and_right (not (any (same_key e) es)) _ h),
  )

  pub ready_of : (es : List Edit) → Ascending ts → AllOctets es → is_set es ≡ true
      → is_done (first_refused (principal_judged ts c) 1 es).answer ≡ true → Ready ts es
  unfolding is_set
  ready_of es a bs s h =
      let o = all-in-order 1 es h in record { ascending = a; in_order = o; apart = apart-all es bs o (and_right (within 1 most_edits (length es)) _ s) }

-- ---- room

-- a table in which nothing is created
no-create : (t : Table) (p : ℕ) (es : List Edit) → first_create t (suc p) es ≡ 0 → creates t es ≡ 0
no-create t p [] h = refl
no-create t p (e ∷ es) h =
    split (creates_in t e) (λ k. let z : suc p ≡ 0 = rw k at h in absurd (omega arith)) (λ k. rw k (omega (arith, no-create t (suc p) es (rw k at h))))

-- the creates are among the edits that are handed rows, the removals among those that are handed keys
module _ (t : Table) where
  creates-shaped : (o : Operation) (u : Table) (v : List ℕ) (es : List Edit) → (creates t (of_shape Row es) ≡ creates t es) × (creates t (of_shape Key es) ≡ 0)
      → (creates t (of_shape Row (edit_of o u v ∷ es)) ≡ creates t (edit_of o u v ∷ es)) × (creates t (of_shape Key (edit_of o u v ∷ es)) ≡ 0)
  creates-shaped Create u v es ih = (ap (λ n. one_if (same_table t u) + n) ih.0, ih.1)
  creates-shaped Change u v es ih = (ap (λ n. 0 + n) ih.0, ih.1)
  creates-shaped Remove u v es ih = (omega (arith, ih.0), omega (arith, ih.1))

  shape-creates : (es : List Edit) → (creates t (of_shape Row es) ≡ creates t es) × (creates t (of_shape Key es) ≡ 0)
  shape-creates [] = (refl, refl)
  shape-creates (e ∷ es) = creates-shaped e.operation e.table e.bytes es (shape-creates es)

  removals-shaped : (o : Operation) (u : Table) (v : List ℕ) (es : List Edit) → removals t (of_shape Key es) ≡ removals t es
      → removals t (of_shape Key (edit_of o u v ∷ es)) ≡ removals t (edit_of o u v ∷ es)
  removals-shaped Create u v es ih = omega (arith, ih)
  removals-shaped Change u v es ih = omega (arith, ih)
  removals-shaped Remove u v es ih = ap (λ n. one_if (same_table t u) + n) ih

  shape-removals : (es : List Edit) → removals t (of_shape Key es) ≡ removals t es
  shape-removals [] = refl
  shape-removals (e ∷ es) = removals-shaped e.operation e.table e.bytes es (shape-removals es)

room-done : (after : Tables) (es : List Edit) (t : Table) → is_done (room_in after es t).answer ≡ true
    → (first_create t 1 es ≡ 0) ⊎ (length (rows_of t after) ≤ limit t)
room-done after es t h =
    split (ltb 0 (first_create t 1 es) && is_over after t) (λ k. clash (rw k at h) refl)
    (λ k. and-false-or (ltb 0 (first_create t 1 es)) _ k (λ a. inl (omega (arith, ltb-false 0 (first_create t 1 es) a)))
    (λ a. inr (omega (arith, ltb-false (limit t) (length (rows_of t after)) a))))

room-each : (after : Tables) (es : List Edit) → is_done (room after es).answer ≡ true → (t : Table) → is_done (room_in after es t).answer ≡ true
unfolding room
room-each after es h Context = (or-next-done _ _ h).0
room-each after es h Mapping = (or-next-done _ _ (or-next-done _ _ h).1).0
room-each after es h Access = (or-next-done _ _ (or-next-done _ _ (or-next-done _ _ h).1).1).0
room-each after es h View = (or-next-done _ _ (or-next-done _ _ (or-next-done _ _ h).1).1).1

abbrev pub Limited : Tables → Type 0
Limited ts = (t : Table) → length (rows_of t ts) ≤ limit t

module _ (ts : Tables) (es : List Edit) (l : Limited ts) (r : Ready ts es) (h : is_done (room (applied_all ts es) es).answer ≡ true) where
  abbrev ks : List Edit
  ks = of_shape Key es

  removals-roomy : Roomy ts ks
  removals-roomy t = omega (arith, l t, (shape-creates t es).1)

  roomy_of : Roomy (applied_all ts ks) (of_shape Row es)
  roomy_of t =
      let x = lengths ks ts (ready-shape Key ts es r) t in
      let y = lengths es ts r t in
      ⊎_elim
      (λ z. omega (arith, l t, x, (shape-creates t es).0, (shape-creates t es).1, shape-removals t es, no-create t 0 es z))
      (λ z. omega (arith, z, x, y, (shape-creates t es).0, (shape-creates t es).1, shape-removals t es))
      (room-done (applied_all ts es) es t (room-each (applied_all ts es) es h t))

  pub made-removals-first : made_all (made_all ts ks) (of_shape Row es) ≡ applied_all ts es
  made-removals-first =
      ap (λ u. made_all u (of_shape Row es)) (made-applied ks ts (ready-shape Key ts es r) removals-roomy)
      ∙ made-applied (of_shape Row es) (applied_all ts ks) (ready-rows es ts r) roomy_of
      ∙ removals-first es ts r

  -- and no table is over its limit in the end
  pub still-limited : Limited (applied_all ts es)
  still-limited t =
      let y = lengths es ts r t in
      ⊎_elim (λ z. omega (arith, l t, y, no-create t 0 es z)) (λ z. z) (room-done (applied_all ts es) es t (room-each (applied_all ts es) es h t))
