-- A set whose edits are in order: legal, of different rows, each finding its row as its operation wants it.
-- Applying one leaves the others in order, so the set makes each table longer by its creates and shorter by its removals (`lengths`), which is how room is
-- counted; the removals may come first; and edits made one by one, where there is room for the creates that are left, are the edits applied.
-- So an accepted set can be made with no table over its limit on the way (`Accepted`). Assumes nothing.
use mathlib.Core.Path.{◌≡◌, refl, sym, ap, ap₂, ◌∙◌}
use mathlib.Core.Bool.{Bool, true, false, cond, not, ◌&&◌}
use mathlib.Core.List.{List, [], ◌∷◌}
use mathlib.Core.Option.{none}
use Prim.Native.Nat.{ℕ, suc, ◌+◌, ◌≤◌}
use native.Mathlib.Omega.{arith}
use lib.Dec.{ltb}
use lib.ListN.{length}
use borrow.Author.Tests.{ltb-true, lt-ltb, lt-leb, eq-eqb}
use Rattle.numbers.specs.Lists.{is_none, keep}
use Rattle.numbers.proofs.Bools.{split, clash, test-ext}
use Rattle.numbers.proofs.Options.{map-none}
use Rattle.numbers.proofs.Orders.{same-sym, eqb-sym}
use Rattle.rows.specs.declared.Shape.{Shape}
use Rattle.rows.specs.declared.Shape.TheVariants.{Row, Key}
use Rattle.rows.specs.declared.Table.{Table}
use Rattle.rows.specs.declared.Table.TheVariants.{Context, Mapping, Access, View}
use Rattle.rows.specs.Fields.{or_else}
use Rattle.rows.specs.Rows.{limit}
use Rattle.rows.specs.Tables.{Tables}
use Rattle.table_update.specs.Exchange.{position, one_if}
use Rattle.edit_rules.specs.TableRows.{rows_of, storage_of}
use Rattle.edit_rules.specs.Edits.{Edit, shape_of, is_create, legal_edit, index_of_edit, row_held, presence_fault, row_fault, is_full, applied}
use Rattle.edits.specs.Calls.{owner_judged, owner_edit}
use Rattle.set_rules.specs.Sets.{creates_in, first_create, room_in, room, applied_all}
use Rattle.set_rules.specs.Made.{removes_in, weight, room_weighed, counted_room, made_all, has_shape, of_shape}
use Rattle.set_rules.proofs.Keys.{Apart}
use Rattle.set_rules.proofs.Applied.{Ascending, Present, ascending-after, held_after, swap, length-after}

-- ---- each of a list

module _ {A : Type 0} where
  abbrev pub All : (A → Type 0) → List A → Type 0
  All P [] = Unit {0}
  All P (x ∷ xs) = P x × All P xs

  pub all_both : (P Q R : A → Type 0) → ((x : A) → P x → Q x → R x) → (xs : List A) → All P xs → All Q xs → All R xs
  all_both P Q R f [] p q = tt
  all_both P Q R f (x ∷ xs) p q = (f x p.0 q.0, all_both P Q R f xs p.1 q.1)

  pub all_keep : (P : A → Type 0) (k : A → Bool) (xs : List A) → All P xs → All P (keep k xs)
  all_keep P k [] p = tt
  all_keep P k (x ∷ xs) p = split (k x) (λ e. rw e (p.0, all_keep P k xs p.1)) (λ e. rw e (all_keep P k xs p.1))

abbrev pub ApartAll : List Edit → Type 0
ApartAll [] = Unit {0}
ApartAll (e ∷ es) = All (Apart e) es × ApartAll es

apart-keep : (k : Edit → Bool) (es : List Edit) → ApartAll es → ApartAll (keep k es)
apart-keep k [] p = tt
apart-keep k (e ∷ es) p = split (k e) (λ q. rw q (all_keep (Apart e) k es p.0, apart-keep k es p.1)) (λ q. rw q (apart-keep k es p.1))

-- ---- in order

pub record InOrder (ts : Tables) (e : Edit) : Type 0 where
  pub legal : legal_edit e ≡ true
  pub present : Present ts e

pub record Ready (ts : Tables) (es : List Edit) : Type 0 where
  pub ascending : Ascending ts
  pub in_order : All (InOrder ts) es
  pub apart : ApartAll es

order-after : (ts : Tables) → Ascending ts → (e d : Edit) → Apart e d → InOrder ts d → InOrder (applied ts e) d
order-after ts a e d n o = record {
  legal = o.legal;
  present = ap (λ r. presence_fault d.operation (not (is_none r))) (held_after ts a e d n) ∙ o.present;
}

pub ready-next : (ts : Tables) (e : Edit) (es : List Edit) → Ready ts (e ∷ es) → Ready (applied ts e) es
ready-next ts e es r = record {
  ascending = ascending-after ts r.ascending e;
  in_order = all_both (Apart e) (InOrder ts) (InOrder (applied ts e)) (λ d n o. order-after ts r.ascending e d n o) es r.apart.0 r.in_order.1;
  apart = r.apart.1;
}

pub ready-shape : (s : Shape) (ts : Tables) (es : List Edit) → Ready ts es → Ready ts (of_shape s es)
ready-shape s ts es r = record {
  ascending = r.ascending;
  in_order = all_keep (InOrder ts) _ es r.in_order;
  apart = apart-keep _ es r.apart;
}

-- ---- how many rows there are afterwards

abbrev pub creates : Table → List Edit → ℕ
creates t [] = 0
creates t (e ∷ es) = one_if (creates_in t e) + creates t es

abbrev pub removals : Table → List Edit → ℕ
removals t [] = 0
removals t (e ∷ es) = one_if (removes_in t e) + removals t es

pub lengths : (es : List Edit) (ts : Tables) → Ready ts es → (t : Table)
    → length (rows_of t (applied_all ts es)) + removals t es ≡ length (rows_of t ts) + creates t es
lengths [] ts r t = refl
lengths (e ∷ es) ts r t =
    omega (arith, length-after ts r.ascending e r.in_order.0.present t, lengths es (applied ts e) (ready-next ts e es r) t)

-- as they are weighed
pub weight_is : (t : Table) (p : ℕ) (es : List Edit)
    → ((weight t p es).creates ≡ creates t es) × ((weight t p es).removals ≡ removals t es) × ((weight t p es).first ≡ first_create t p es)
weight_is t p [] = (refl, refl, refl)
weight_is t p (e ∷ es) =
    let w = weight_is t (suc p) es in
    (ap (λ n. one_if (creates_in t e) + n) w.0, ap (λ n. one_if (removes_in t e) + n) w.1, ap (cond (creates_in t e) p) w.2)

over-same : (l r n c after : ℕ) → after + r ≡ n + c → ltb (l + r) (n + c) ≡ ltb l after
over-same l r n c after e =
    test-ext _ _ (λ h. lt-ltb l after (omega (arith, ltb-true (l + r) (n + c) h))) (λ h. lt-ltb (l + r) (n + c) (omega (arith, ltb-true l after h)))

module _ (ts : Tables) (es : List Edit) (r : Ready ts es) where
  abbrev after : Tables
  after = applied_all ts es

  room-same : (t : Table) → room_weighed t (length (rows_of t ts)) (weight t 1 es) ≡ room_in after es t
  unfolding room_weighed
  room-same t =
      let w = weight_is t 1 es in
      rw (w.0, w.1, w.2, over-same (limit t) (removals t es) (length (rows_of t ts)) (creates t es) (length (rows_of t after)) (lengths es ts r t))

  -- room as it is counted
  pub room-counted : counted_room (λ t. length (rows_of t ts)) es ≡ room after es
  unfolding counted_room room
  room-counted = rw (room-same Context, room-same Mapping, room-same Access, room-same View)

-- ---- the removals first

not_key : (s : Shape) → has_shape Row s ≡ true → has_shape Key s ≡ false
not_key Row q = refl
not_key Key q = clash q refl

key-then : (s : Shape) → has_shape Row s ≡ false → has_shape Key s ≡ true
key-then Row q = clash {b = true} refl q
key-then Key q = refl

pass : (e : Edit) (ds : List Edit) (ts : Tables) → Ascending ts → All (Apart e) ds → applied (applied_all ts ds) e ≡ applied_all (applied ts e) ds
pass e [] ts a n = refl
pass e (d ∷ ds) ts a n = pass e ds (applied ts d) (ascending-after ts a d) n.1 ∙ ap (λ u. applied_all u ds) (sym (swap ts a e d n.0))

pub removals-first : (es : List Edit) (ts : Tables) → Ready ts es → applied_all (applied_all ts (of_shape Key es)) (of_shape Row es) ≡ applied_all ts es
removals-first [] ts r = refl
removals-first (e ∷ es) ts r =
    let ih = removals-first es (applied ts e) (ready-next ts e es r) in
    split (has_shape Row (shape_of e.operation))
    (λ q. rw (q, not_key (shape_of e.operation) q)
    (ap (λ u. applied_all u (of_shape Row es)) (pass e (of_shape Key es) ts r.ascending (all_keep (Apart e) _ es r.apart.0)) ∙ ih))
    (λ q. rw (q, key-then (shape_of e.operation) q) ih)

-- the others are in order once the removals are made
pub apart-sym : (d e : Edit) → Apart d e → Apart e d
apart-sym d e n = ap₂ ◌&&◌ (eqb-sym (position e.table) (position d.table)) (same-sym (index_of_edit e) (index_of_edit d)) ∙ n

order-past : (e : Edit) (ds : List Edit) (ts : Tables) → Ascending ts → All (Apart e) ds → InOrder ts e
    → Ascending (applied_all ts ds) × InOrder (applied_all ts ds) e
order-past e [] ts a n o = (a, o)
order-past e (d ∷ ds) ts a n o =
    order-past e ds (applied ts d) (ascending-after ts a d) n.1 (order-after ts a d e (apart-sym e d n.0) o)

pub ready-rows : (es : List Edit) (ts : Tables) → Ready ts es → Ready (applied_all ts (of_shape Key es)) (of_shape Row es)
ready-rows [] ts r = r
ready-rows (e ∷ es) ts r =
    split (has_shape Row (shape_of e.operation))
    (λ q.
    let ih = ready-rows es ts (record { ascending = r.ascending; in_order = r.in_order.1; apart = r.apart.1 }) in
    let o = order-past e (of_shape Key es) ts r.ascending (all_keep (Apart e) _ es r.apart.0) r.in_order.0 in
    rw (q, not_key (shape_of e.operation) q) (record {
      ascending = o.0;
      in_order = (o.1, ih.in_order);
      apart = (all_keep (Apart e) _ es r.apart.0, ih.apart);
    }))
    (λ q. rw (q, key-then (shape_of e.operation) q) (ready-rows es (applied ts e) (ready-next ts e es r)))

-- ---- made one by one

abbrev pub Roomy : Tables → List Edit → Type 0
Roomy ts es = (t : Table) → length (rows_of t ts) + creates t es ≤ limit t

fault-none : (ts : Tables) (e : Edit) → Present ts e → row_fault false ts e ≡ none
unfolding row_fault
fault-none ts e p =
    ap (λ b. or_else (presence_fault e.operation (not b)) none) (map-none (storage_of e.table) (row_held ts e))
    ∙ ap (λ f. or_else f none) p

not_full : (ts : Tables) (e : Edit) (n : ℕ) → length (rows_of e.table ts) + (one_if (creates_in e.table e) + n) ≤ limit e.table → is_full ts e ≡ false
unfolding is_full
not_full ts e n h =
    let t = e.table in
    split (is_create e.operation)
    (λ c.
    let k : creates_in t e ≡ true = rw (c, eq-eqb (position t) (position t) refl) in
    rw c (lt-leb (limit t) (length (rows_of t ts)) (omega (arith, rw k at h))))
    (λ c. rw c)

made_one : (ts : Tables) (e : Edit) → InOrder ts e → is_full ts e ≡ false → (owner_edit ts e).rows ≡ applied ts e
unfolding owner_edit owner_judged
made_one ts e o f = rw (o.legal, fault-none ts e o.present, f)

roomy-next : (ts : Tables) (e : Edit) (es : List Edit) → Ready ts (e ∷ es) → Roomy ts (e ∷ es) → Roomy (applied ts e) es
roomy-next ts e es r h t = omega (arith, h t, length-after ts r.ascending e r.in_order.0.present t)

pub made-applied : (es : List Edit) (ts : Tables) → Ready ts es → Roomy ts es → made_all ts es ≡ applied_all ts es
made-applied [] ts r h = refl
made-applied (e ∷ es) ts r h =
    ap (λ u. made_all u es) (made_one ts e r.in_order.0 (not_full ts e (creates e.table es) (h e.table)))
    ∙ made-applied es (applied ts e) (ready-next ts e es r) (roomy-next ts e es r h)
