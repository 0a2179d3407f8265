-- Laws of fields one after the other: what the first of them take and hold, and what is left to the others.
-- Each goes along the first fields, with the bytes dropped twice put together. So it is for the key of a table's row, whose
-- fields come first. Assumes nothing.
use mathlib.Core.Path.{◌≡◌, refl, sym, ap, ◌∙◌}
use mathlib.Core.List.{List, [], ◌∷◌, ◌++◌}
use mathlib.Core.Option.{Option, none, some}
use Prim.Native.Nat.{ℕ, suc, ◌+◌, ◌≤◌}
use native.Mathlib.Nat.{add_assoc}
use native.Mathlib.Omega.{arith}
use lib.ListN.{length, take, drop, length-drop}
use lib.Seq.{drop-drop, take_at}
use Rattle.answers.specs.declared.Fault.{Fault}
use Rattle.rows.specs.declared.Table.{Table}
use Rattle.rows.specs.declared.Table.TheVariants.{Context, Mapping, Access, View}
use Rattle.rows.specs.Fields.{Field, fault, taken, value, or_else, fronts, faults, values, span}
use Rattle.rows.specs.Rows.{key_fields, rest_fields, row_fields}
use Rattle.rows.proofs.Sound.{field_room, or_else_none}

pub span-append : (ps qs : List Field) (v : List ℕ) → span (ps ++ qs) v ≡ span ps v + span qs (drop (span ps v) v)
unfolding span
span-append [] qs v = omega arith
span-append (p ∷ ps) qs v =
    ap (λ n. taken p v + n) (span-append ps qs (drop (taken p v) v))
    ∙ sym (add_assoc (taken p v) _ _)
    ∙ ap (λ u. taken p v + span ps (drop (taken p v) v) + span qs u) (drop-drop (span ps (drop (taken p v) v)) (taken p v) v)

pub values-append : (ps qs : List Field) (v : List ℕ) → values (ps ++ qs) v ≡ values ps v ++ values qs (drop (span ps v) v)
unfolding span
values-append [] qs v = refl
values-append (p ∷ ps) qs v =
    ap (λ u. value p v ∷ u) (values-append ps qs (drop (taken p v) v))
    ∙ ap (λ u. value p v ∷ (values ps (drop (taken p v) v) ++ values qs u)) (drop-drop (span ps (drop (taken p v) v)) (taken p v) v)

-- one value to a field
pub length-values : (ks : List Field) (v : List ℕ) → length (values ks v) ≡ length ks
length-values [] v = refl
length-values (k ∷ ks) v = ap suc (length-values ks (drop (taken k v) v))

-- the first values are the first fields'
pub values-front : (ps qs : List Field) (v : List ℕ) → take (length ps) (values (ps ++ qs) v) ≡ values ps v
values-front ps qs v = rw (values-append ps qs v) (take_at (values ps v) _ (length ps) (length-values ps v))

-- the fault of the first fields comes first, then that of the others
or-else-assoc : (o p q : Option Fault) → or_else (or_else o p) q ≡ or_else o (or_else p q)
or-else-assoc none p q = refl
or-else-assoc (some f) p q = refl

pub faults-fronts : (ps qs : List Field) (v : List ℕ) → faults (ps ++ qs) v ≡ or_else (fronts ps v) (faults qs (drop (span ps v) v))
unfolding fronts faults span
faults-fronts [] qs v = refl
faults-fronts (p ∷ ps) qs v =
    ap (or_else (fault p v)) (faults-fronts ps qs (drop (taken p v) v) ∙ rw (drop-drop (span ps (drop (taken p v) v)) (taken p v) v))
    ∙ sym (or-else-assoc (fault p v) _ _)

-- without a fault the first fields take bytes that are there, and the others have none
pub fronts-room : (ps : List Field) (v : List ℕ) → fronts ps v ≡ none → span ps v ≤ length v
unfolding fronts span
fronts-room [] v h = omega arith
fronts-room (p ∷ ps) v h =
    let m = taken p v in
    let n = or_else_none (fault p v) (fronts ps (drop m v)) h in
    omega (arith, field_room p v n.0, fronts-room ps (drop m v) n.1, length-drop m v)

module _ (ps qs : List Field) (v : List ℕ) (h : faults (ps ++ qs) v ≡ none) where
  parts : (fronts ps v ≡ none) × (faults qs (drop (span ps v) v) ≡ none)
  parts = or_else_none (fronts ps v) _ (sym (faults-fronts ps qs v) ∙ h)

  pub span-room : span ps v ≤ length v
  span-room = fronts-room ps v parts.0

  pub faults-append : faults qs (drop (span ps v) v) ≡ none
  faults-append = parts.1

-- ---- the rows of a table: the key's fields, then the others

pub row-split : (t : Table) → row_fields t ≡ key_fields t ++ rest_fields t
unfolding key_fields row_fields
row-split Context = refl
row-split Mapping = refl
row-split Access = refl
row-split View = refl

pub key_room : (t : Table) (v : List ℕ) → faults (row_fields t) v ≡ none → span (key_fields t) v ≤ length v
key_room t v h = span-room (key_fields t) (rest_fields t) v (rw (row-split t) at h)

-- the values of the key's fields are the first of the row's
pub key-values : (t : Table) (v : List ℕ) → take (length (key_fields t)) (values (row_fields t) v) ≡ values (key_fields t) v
key-values t v = rw (row-split t) (values-front (key_fields t) (rest_fields t) v)
