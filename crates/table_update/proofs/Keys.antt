-- A key's bytes against a row: the row's front, as long as the key, stands to the key as the row's index to the key's (`KeyOf`).
-- Only bytes as far as the key's length count in an order (`before-front`), and fronts that hold indices compare as these do, whatever
-- follows them (`Compares` of crate `rows`). A key is the front of a whole row, or stands by itself. Whole rows
-- that ascend by their indices rise, as the key sees them. Assumes nothing.
use mathlib.Core.Path.{◌≡◌, refl, sym, ap, ap₂, ◌∙◌}
use mathlib.Core.Bool.{true, false, ◌&&◌, ◌||◌, and-false, or-false}
use mathlib.Core.List.{List, [], ◌∷◌, ◌++◌, append-nil}
use mathlib.Core.Option.{none}
use Prim.Native.Nat.{ℕ}
use lib.Dec.{eqb, ltb}
use lib.ListN.{length, take, drop, take-append-drop}
use lib.Seq.{take_at}
use Rattle.numbers.specs.Lists.{every}
use Rattle.numbers.specs.Order.{same, before}
use Rattle.numbers.proofs.Bools.{split, clash, test-ext, and_left, and_both}
use Rattle.numbers.proofs.Orders.{same_true, same-eq, before-irrefl, before-asym, before-total}
use Rattle.numbers.proofs.Greatest.{Under, Ascends, under-trans}
use Rattle.rows.specs.declared.Table.{Table}
use Rattle.rows.specs.Fields.{Field, faults, span, values, index}
use Rattle.rows.specs.Rows.{key_fields, row_fields, rest_fields, index_of}
use Rattle.rows.proofs.Appends.{row-split}
use Rattle.numbers.specs.BigEndian.{Octets}
use Rattle.numbers.proofs.BigEndian.{octets-drop, octets-take}
use Rattle.rows.proofs.Inverse.{bytes-front, legals-front, bytes-again, legals-read}
use Rattle.rows.proofs.Order.{Compares, compares-row, compares-same, compares-keys}
use Rattle.image_layout.specs.declared.Extent.{Extent}
use Rattle.image_layout.specs.Layout.{cut, lengths_in, rows_in}
use Rattle.image_judge.specs.Faults.{table_fault}
use Rattle.image_judge.proofs.Sound.{whole-first, sound-rest}
use Rattle.table_update.specs.Exchange.{front, Rising}

-- ---- an order by the front

before-nil : (a : List ℕ) → before a [] ≡ false
unfolding before
before-nil [] = refl
before-nil (x ∷ a) = refl

before-front : (a b : List ℕ) → before (front b a) b ≡ before a b
unfolding before
before-front a [] = sym (before-nil a)
before-front [] (y ∷ b) = refl
before-front (x ∷ a) (y ∷ b) = ap (λ z. ltb x y || (eqb x y && z)) (before-front a b)

-- a front of r that holds i against a key that holds j
module _ (r key : List ℕ) {i j : List ℕ} (n : ℕ) (c : Compares (take n r) key i j) where
  whole : r ≡ take n r ++ drop n r
  whole = sym (take-append-drop n r)

  pub front-before : before (front key r) key ≡ before i j
  front-before =
      before-front r key ∙ ap₂ before whole (sym (append-nil key)) ∙ c.order (drop n r) []
      ∙ rw (before-nil (drop n r), and-false (same i j)) (or-false (before i j))

  pub front_same : same (front key r) key ≡ same i j
  front_same = test-ext _ _
      (λ e. let f : take n r ++ drop n r ≡ key ++ drop (length key) r =
      sym whole ∙ sym (take-append-drop (length key) r) ∙ ap (λ k. k ++ drop (length key) r) (same_true (front key r) key e) in
      and_left (same i j) _ (sym (c.equality (drop n r) (drop (length key) r)) ∙ same-eq _ _ f))
      (λ e. let f : take n r ≡ key = same_true (take n r) key (compares-same c ∙ e) in
      same-eq (front key r) key (ap (take (length key)) whole ∙ take_at (take n r) (drop n r) (length key) (ap length f) ∙ f))

-- ---- a key and a row

pub record Keyed (t : Table) (key i r : List ℕ) : Type 0 where
  pub before_is : before (front key r) key ≡ before (index_of t r) i
  pub same_is : same (front key r) key ≡ same (index_of t r) i

-- key is that of index i in table t
abbrev pub KeyOf : Table → List ℕ → List ℕ → Type 0
KeyOf t key i = (r : List ℕ) → Octets r → faults (row_fields t) r ≡ none → Keyed t key i r

-- the front of a whole row
pub key-of-row : (t : Table) (row : List ℕ) → Octets row → faults (row_fields t) row ≡ none → KeyOf t (take (span (key_fields t) row) row) (index_of t row)
key-of-row t row b f r d g =
    let c = compares-keys t r row d b g f in
    record { before_is = front-before r _ (span (key_fields t) r) c; same_is = front_same r _ (span (key_fields t) r) c }

-- the fields of a key, and nothing over
compares-key : (ps qs : List Field) (r key : List ℕ) → Octets r → Octets key → faults (ps ++ qs) r ≡ none → faults ps key ≡ none
    → Compares (take (span ps r) r) key (index ps (values ps r)) (index ps (values ps key))
compares-key ps qs r key d b g f =
    rw (← bytes-front ps qs r d g)
    (ap-key (bytes-again ps key b f) (compares-row ps (values ps r) (values ps key) (legals-front ps qs r d g) (legals-read ps key b f)))
  where
    ap-key : {p q i j k : List ℕ} → q ≡ k → Compares p q i j → Compares p k i j
    ap-key e c = rw (← e) c

pub key-of-key : (t : Table) (key : List ℕ) → Octets key → faults (key_fields t) key ≡ none → KeyOf t key (index_of t key)
key-of-key t key b f r d g =
    let c = compares-key (key_fields t) (rest_fields t) r key d b (rw (row-split t) at g) f in
    record { before_is = front-before r key (span (key_fields t) r) c; same_is = front_same r key (span (key_fields t) r) c }

-- how a row's index j stands to the key's, with what the tests say
pub data Stand (key i r j : List ℕ) : Type 0 where
  lower : before (front key r) key ≡ true → before j i ≡ true → Stand key i r j
  equal : before (front key r) key ≡ false → same (front key r) key ≡ true → j ≡ i → Stand key i r j
  upper : before (front key r) key ≡ false → same (front key r) key ≡ false → before i j ≡ true → Stand key i r j

pub stands : {t : Table} {key i r : List ℕ} → Keyed t key i r → Stand key i r (index_of t r)
stands {t} {key} {i} {r} k =
    split (before (front key r) key) (λ b. lower b (sym k.before_is ∙ b))
    (λ b. split (same (front key r) key) (λ s. equal b s (same_true (index_of t r) i (sym k.same_is ∙ s)))
    (λ s. upper b s (before-total (index_of t r) i (sym k.same_is ∙ s) (sym k.before_is ∙ b))))

-- ---- rows of which each is whole

abbrev pub Whole : Table → List (List ℕ) → Type 0
Whole t [] = Unit {0}
Whole t (r ∷ rs) = Octets r × (faults (row_fields t) r ≡ none) × Whole t rs

whole-cut : (t : Table) (prev ls v : List ℕ) → Octets v → table_fault t prev (cut ls v) ≡ none → Whole t (cut ls v)
whole-cut t prev [] v b h = tt
whole-cut t prev (l ∷ ls) v b h =
    (octets-take l v b, whole-first t prev _ _ h, whole-cut t (index_of t (take l v)) ls (drop l v) (octets-drop l v b) (sound-rest t prev _ _ h))

pub whole-rows : (t : Table) (w : List ℕ) (x : Extent) → Octets w → table_fault t [] (rows_in w x) ≡ none → Whole t (rows_in w x)
whole-rows t w x b h = whole-cut t [] (lengths_in w x) (drop x.rows w) (octets-drop x.rows w b) h

-- ---- rows that ascend rise, as a key sees them

module _ {t : Table} {key i : List ℕ} (k : KeyOf t key i) where
  -- a row of a greater index stands above the key
  above : {r j : List ℕ} → Stand key i r j → before i j ≡ true → before key (front key r) ≡ true
  above {r} {j} (lower b m) h = clash h (before-asym j i m)
  above {r} {j} (equal b m e) h = clash (rw e at h) (before-irrefl i)
  above {r} {j} (upper b m e) h = before-total (front key r) key m b

  all_above : (rs : List (List ℕ)) → Whole t rs → Under (index_of t) i rs → every (λ r. before key (front key r)) rs ≡ true
  all_above [] a u = refl
  all_above (r ∷ rs) a u = and_both (above (stands (k r a.0 a.1)) u.0) (all_above rs a.2 u.1)

  -- one that does not stand before the key has no lesser index, and those behind it have greater ones
  behind : {r j : List ℕ} → Stand key i r j → before (front key r) key ≡ false → (rs : List (List ℕ)) → Under (index_of t) j rs → Under (index_of t) i rs
  behind (lower b m) h rs u = clash b h
  behind (equal b m e) h rs u = rw e at u
  behind {r} {j} (upper b m e) h rs u = under-trans (index_of t) i j rs e u

  pub rising : (rs : List (List ℕ)) → Whole t rs → Ascends (index_of t) rs → Rising key rs
  rising [] a s = tt
  rising (r ∷ rs) a s = ((λ h. all_above rs a.2 (behind (stands (k r a.0 a.1)) h rs s.0)), rising rs a.2 s.1)
