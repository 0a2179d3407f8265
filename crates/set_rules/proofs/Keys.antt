-- The key at the front of what an edit is handed.
-- Its fields' bytes are those of its values, and make the same values again whatever follows them (`fronts-read`, `fronts-made`); so another edit has this key
-- exactly if it begins with its bytes (`begins-same`), and legal edits whose keys differ are of different indices (`apart`). Assumes nothing.
use mathlib.Core.Path.{◌≡◌, refl, sym, ap, ◌∙◌}
use mathlib.Core.Bool.{true, false, ◌&&◌}
use mathlib.Core.List.{List, [], ◌∷◌, ◌++◌, append_assoc, append-nil}
use mathlib.Core.Option.{none}
use Prim.Native.Nat.{ℕ}
use lib.ListN.{length, take, drop, length-append, take-append-drop}
use lib.Seq.{take-add, length-take-le}
use borrow.Author.Tests.{eqb-true}
use Rattle.numbers.specs.Lists.{is_none}
use Rattle.numbers.specs.Order.{same}
use Rattle.numbers.specs.BigEndian.{Octets}
use Rattle.numbers.proofs.BigEndian.{octets-drop}
use Rattle.numbers.proofs.Bools.{split, test-ext, and_left, and_right, and_both, and-false-left, and-false-right}
use Rattle.numbers.proofs.Options.{is-none}
use Rattle.numbers.proofs.Orders.{same_true, same-eq}
use Rattle.rows.specs.declared.Shape.{Shape}
use Rattle.rows.specs.declared.Shape.TheVariants.{Row, Key}
use Rattle.rows.specs.declared.Table.{Table}
use Rattle.rows.specs.Fields.{Field, fault, taken, field_bytes, row_bytes, legals, fronts, faults, values, span}
use Rattle.rows.specs.Rows.{key_fields, rest_fields, fields_of, index_of}
use Rattle.rows.proofs.Sound.{or_else_none}
use Rattle.rows.proofs.Appends.{row-split, faults-fronts, fronts-room}
use Rattle.rows.proofs.Inverse.{made, made-leaves, legals-first, legals-rest, legals-no-values, read, legal-read}
use Rattle.rows.proofs.Order.{same_bytes}
use Rattle.table_update.specs.Exchange.{position}
use Rattle.table_update.proofs.Stores.{position-inj}
use Rattle.edit_rules.specs.Edits.{Edit, shape_of, legal_edit, index_of_edit}
use Rattle.set_rules.specs.Sets.{same_table, key_legal, key_bytes, same_key}
use Rattle.set_rules.specs.Made.{begins}

-- ---- fields at the front

pub fronts-read : (ks : List Field) (v : List ℕ) → Octets v → fronts ks v ≡ none
    → (legals ks (values ks v) ≡ true) × (row_bytes ks (values ks v) ≡ take (span ks v) v)
unfolding fronts span legals
fronts-read [] v b h = (refl, refl)
fronts-read (k ∷ ks) v b h =
    let n = taken k v in
    let u = drop n v in
    let o = or_else_none (fault k v) (fronts ks u) h in
    let ih = fronts-read ks u (octets-drop n v b) o.1 in
    (and_both (legal-read k v b o.0) ih.0, rw (read k v b o.0, ih.1) (sym (take-add n (span ks u) v)))

pub fronts-made : (ks : List Field) (xs : List (List ℕ)) (r : List ℕ) → legals ks xs ≡ true
    → (fronts ks (row_bytes ks xs ++ r) ≡ none) × (span ks (row_bytes ks xs ++ r) ≡ length (row_bytes ks xs))
unfolding fronts span
fronts-made [] xs r h = (refl, refl)
fronts-made (k ∷ ks) [] r h = legals-no-values k ks h
fronts-made (k ∷ ks) (x ∷ xs) r h =
    let l = legals-first k ks x xs h in
    let s = row_bytes ks xs ++ r in
    let m = made k x s l in
    let ih = fronts-made ks xs r (legals-rest k ks x xs h) in (
      rw (append_assoc (field_bytes k x) (row_bytes ks xs) r, m.sound, made-leaves k x s l) ih.0,
      rw (append_assoc (field_bytes k x) (row_bytes ks xs) r, made-leaves k x s l, m.takes, ih.1) (sym (length-append (field_bytes k x) (row_bytes ks xs))),
    )

-- bytes begin as these fields do exactly if they have the same fields at their front
front_same : (ks : List Field) (v u : List ℕ) → Octets v → fronts ks v ≡ none
    → same (take (length (take (span ks v) v)) u) (take (span ks v) v) ≡ is_none (fronts ks u) && same (take (span ks v) v) (take (span ks u) u)
front_same ks v u b f =
    let r = fronts-read ks v b f in
    let key = take (span ks v) v in
    test-ext _ _
    (λ e.
    let q : take (length key) u ≡ key = same_true (take (length key) u) key e in
    let whole : u ≡ row_bytes ks (values ks v) ++ drop (length key) u =
    sym (take-append-drop (length key) u) ∙ ap (λ x. x ++ drop (length key) u) (q ∙ sym r.1) in
    let m = fronts-made ks (values ks v) (drop (length key) u) r.0 in
    let n : span ks u ≡ length key = ap (span ks) whole ∙ m.1 ∙ ap length r.1 in
    and_both (ap is_none (ap (fronts ks) whole ∙ m.0)) (same-eq key (take (span ks u) u) (sym q ∙ ap (λ j. take j u) (sym n))))
    (λ e.
    let g : fronts ks u ≡ none = is-none (fronts ks u) (and_left (is_none (fronts ks u)) _ e) in
    let q : key ≡ take (span ks u) u = same_true key (take (span ks u) u) (and_right (is_none (fronts ks u)) _ e) in
    let n : length key ≡ span ks u = ap length q ∙ length-take-le (span ks u) u (fronts-room ks u g) in
    same-eq (take (length key) u) key (ap (λ j. take j u) n ∙ sym q))

-- ---- the same of edits

pub same-table : (t u : Table) → same_table t u ≡ true → t ≡ u
same-table t u e = position-inj t u (eqb-true (position t) (position u) e)

begins-at : (t u : Table) (v x : List ℕ) → same_table t u ≡ true → Octets v → is_none (fronts (key_fields t) v) ≡ true
    → same (take (length (take (span (key_fields t) v) v)) x) (take (span (key_fields t) v) v)
    ≡ is_none (fronts (key_fields u) x) && same (take (span (key_fields t) v) v) (take (span (key_fields u) x) x)
begins-at t u v x s b l = rw (← same-table t u s) (front_same (key_fields t) v x b (is-none (fronts (key_fields t) v) l))

pub begins-same : (d e : Edit) → Octets d.bytes → key_legal d ≡ true → begins d.table (key_bytes d) e ≡ same_key d e
unfolding begins same_key key_legal key_bytes
begins-same d e b l =
    split (same_table d.table e.table) (λ s. rw (s, l) (begins-at d.table e.table d.bytes e.bytes s b l)) (λ s. rw s)

-- an edit whose key is not legal has none in common with another
pub illegal-apart : (d e : Edit) → key_legal d ≡ false → same_key d e ≡ false
unfolding same_key
illegal-apart d e l = and-false-right (same_table d.table e.table) (and-false-left _ l)

-- ---- legal edits

front-none : (s : Shape) (t : Table) (v : List ℕ) → faults (fields_of s t) v ≡ none → fronts (key_fields t) v ≡ none
front-none Row t v f = (or_else_none (fronts (key_fields t) v) _ (sym (faults-fronts (key_fields t) (rest_fields t) v) ∙ (rw (row-split t) at f))).0
front-none Key t v f =
    (or_else_none (fronts (key_fields t) v) _ (sym (faults-fronts (key_fields t) [] v) ∙ ap (λ ks. faults ks v) (append-nil (key_fields t)) ∙ f)).0

legal-front : (e : Edit) → legal_edit e ≡ true → fronts (key_fields e.table) e.bytes ≡ none
unfolding legal_edit
legal-front e l = front-none (shape_of e.operation) e.table e.bytes (is-none _ l)

index_same : (t u : Table) (v x : List ℕ) → same_table t u ≡ true → Octets v → Octets x → fronts (key_fields t) v ≡ none → fronts (key_fields u) x ≡ none
    → same (take (span (key_fields t) v) v) (take (span (key_fields u) x) x) ≡ same (index_of t v) (index_of u x)
index_same t u v x s b c f g =
    let ks = key_fields t in
    let e : u ≡ t = sym (same-table t u s) in
    let h : fronts ks x ≡ none = rw e at g in
    let p = fronts-read ks v b f in
    let q = fronts-read ks x c h in
    rw e (rw (← p.1, ← q.1) (same_bytes ks (values ks v) (values ks x) p.0 q.0))

-- edits of different rows
abbrev pub Apart : Edit → Edit → Type 0
Apart d e = same_table d.table e.table && same (index_of_edit d) (index_of_edit e) ≡ false

pub apart : (d e : Edit) → Octets d.bytes → Octets e.bytes → legal_edit d ≡ true → legal_edit e ≡ true → same_key d e ≡ false → Apart d e
unfolding same_key key_legal key_bytes index_of_edit
apart d e b c l m h =
    let f = legal-front d l in
    let g = legal-front e m in
    split (same_table d.table e.table)
    (λ s. rw s (sym (index_same d.table e.table d.bytes e.bytes s b c f g) ∙ (rw (s, f, g) at h)))
    (λ s. rw s)
