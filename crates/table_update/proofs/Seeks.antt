-- A key sought in a table by bisection. The rows before lo stand before it, so that how many do, and whether the next has it, is settled by the rows that
-- are left (`Seeks`); from hi on none stands before it or has it (`Behind`). With a row that does not stand above the key, those in front of it stand
-- before it, since the rows rise (`passed`); so the row in the middle takes lo up, takes hi down, or is the key's place. Assumes nothing.
use mathlib.Core.Path.{◌≡◌, refl, sym, ap, ◌∙◌}
use mathlib.Core.Bool.{Bool, true, false}
use mathlib.Core.List.{List, [], ◌∷◌}
use Prim.Native.Nat.{ℕ, zero, suc, ◌+◌, ◌*◌, ◌≤◌, ◌<◌}
use native.Mathlib.Nat.{add-zero}
use native.Mathlib.Omega.{arith}
use lib.ListN.{drop, get_or}
use lib.Seq.{get_or-drop}
use Rattle.numbers.specs.Lists.{every}
use Rattle.numbers.specs.Order.{same, before}
use Rattle.numbers.proofs.Bools.{clash, is_true, and_left, and_right}
use Rattle.numbers.proofs.Orders.{same_refl, same-sym, before-irrefl, before-asym, before-not-same}
use Rattle.std.specs.declared.cmp.Ordering.{Ordering}
use Rattle.std.specs.declared.cmp.Ordering.TheVariants.{Less, Equal, Greater}
use Rattle.octets.specs.Order.{order}
use Rattle.octets.proofs.Orders.{order_below, order-equal, order-above}
use Rattle.image_layout.specs.declared.Extent.{Extent}
use Rattle.image_layout.specs.declared.Middle.{Middle}
use Rattle.image_layout.specs.Bisection.{Between, MiddleRow}
use Rattle.image_layout.specs.Layout.{pair, lengths_in, rows_in}
use Rattle.image_layout.proofs.Walks.{piece, Walk, pairs_next, rest-slice, rest-drop, none_left}
use Rattle.image_layout.proofs.Bisections.{between_start, between-up, between-down, row_inside, row-walk, rows-from}
use Rattle.table_update.specs.declared.Place.{Place}
use Rattle.table_update.specs.Exchange.{one_if, front, rows_before, is_held, Rising, PlaceIn, Sought}

-- ---- the rows at a place of a walk

-- the first of what is left stands there
get_or-first : {A : Type 0} (xs : List A) (i : ℕ) (d : A) → get_or xs i d ≡ get_or (drop i xs) 0 d
get_or-first xs i d = ap (λ j. get_or xs j d) (sym (add-zero i)) ∙ sym (get_or-drop i xs 0 d)

module _ {w : List ℕ} {x : Extent} {i g o : ℕ} (k : Walk w x i g o) where
  length_at : i < x.count → get_or (lengths_in w x) i 0 ≡ pair (drop g w)
  length_at h =
      get_or-first (lengths_in w x) i 0 ∙ ap (λ v. get_or v 0 0) (pairs_next w x.lengths x.count i g (pair (drop g w)) h k.length_place refl)

  row-at : i < x.count → get_or (rows_in w x) i [] ≡ piece w o (o + pair (drop g w))
  row-at h = get_or-first (rows_in w x) i [] ∙ ap (λ v. get_or v 0 []) (sym (rest-drop k) ∙ rest-slice k (pair (drop g w)) h refl)

-- the bytes of the row that is held at a place
pub held-row : {w : List ℕ} {x : Extent} {p : Place} → PlaceIn w x p → p.present ≡ true → piece w p.from p.end ≡ get_or (rows_in w x) p.row []
held-row {w} {x} {p} q h =
    let k : Walk w x p.row (x.lengths + 2 * p.row) p.from = record { passed = omega (arith, q.row_in); length_place = refl; row_place = q.from_is } in
    let n : one_if p.present ≡ 1 = ap one_if h in
    let m : p.row < x.count = omega (arith, q.row_in) in
    let e : p.end ≡ p.from + pair (drop (x.lengths + 2 * p.row) w) = q.end_is ∙ rw h (ap (λ l. p.from + l) (length_at k m)) in
    rw e (sym (row-at k m))

-- ---- rows that rise

every-at : {A : Type 0} (p : A → Bool) (m : ℕ) (xs : List A) {y : A} {ys : List A} → drop m xs ≡ y ∷ ys → every p xs ≡ true → p y ≡ true
every-at p zero xs e h = and_left (p _) _ (sym (ap (every p) e) ∙ h)
every-at p (suc m) [] e h = cc
every-at p (suc m) (x ∷ xs) e h = every-at p m xs e (and_right (p x) _ h)

-- those in front of one that does not stand above the key stand before it
module _ (key : List ℕ) {r : List ℕ} {others : List (List ℕ)} (a : before key (front key r) ≡ false) where
  passed : (m : ℕ) (rs : List (List ℕ)) → Rising key rs → drop m rs ≡ r ∷ others
      → (rows_before key rs ≡ m + rows_before key (r ∷ others)) × (is_held key rs ≡ is_held key (r ∷ others))
  unfolding rows_before is_held
  passed zero rs u e = (ap (rows_before key) e ∙ omega arith, ap (is_held key) e)
  passed (suc m) [] u e = (cc, cc)
  passed (suc m) (x ∷ rs) u e =
      let b : before (front key x) key ≡ true =
      is_true (before (front key x) key) (λ f. clash (every-at (λ s. before key (front key s)) m rs e (u.0 f)) a) in
      let q = passed m rs u.1 e in
      (rw b (omega (arith, q.0)), rw b q.1)

-- ---- the search

-- the place of row i, whose bytes lie from a to e
abbrev pub place : ℕ → ℕ → ℕ → Bool → Place
place i a e h = record { row = i; from = a; end = e; present = h }

-- the rows in front of row i stand before the key
pub record Seeks (key : List ℕ) (rs : List (List ℕ)) (i : ℕ) : Type 0 where
  rows_left : rows_before key rs ≡ i + rows_before key (drop i rs)
  held_left : is_held key rs ≡ is_held key (drop i rs)

-- no row stands before the key or has it
pub record Behind (key : List ℕ) (rs : List (List ℕ)) : Type 0 where
  rows_none : rows_before key rs ≡ 0
  held_none : is_held key rs ≡ false

-- the key's place is from lo to hi
pub record Search (w : List ℕ) (x : Extent) (key : List ℕ) (lo hi o : ℕ) : Type 0 where
  pub between : Between w x lo hi o
  seeks : Seeks key (rows_in w x) lo
  behind : Behind key (drop hi (rows_in w x))

pub search-start : (w : List ℕ) (x : Extent) (key : List ℕ) → Search w x key 0 x.count x.rows
unfolding rows_before is_held
search-start w x key = record {
  between = between_start w x;
  seeks = record { rows_left = omega arith; held_left = refl };
  behind = record { rows_none = rw (none_left w x); held_none = rw (none_left w x) };
}

-- none is left to look at
pub search-end : {w : List ℕ} {x : Extent} {key : List ℕ} {lo hi o : ℕ} → Search w x key lo hi o → hi ≤ lo → Sought w x key (place lo o o false)
search-end {w} {x} {key} {lo} {hi} {o} k h =
    let e : hi ≡ lo = omega (arith, k.between.ordered) in
    let b : Behind key (drop lo (rows_in w x)) = rw e at k.behind in
    record {
      place_in = record { row_in = omega (arith, k.between.within); from_is = k.between.place; end_is = sym (add-zero o) };
      row_is = omega (arith, k.seeks.rows_left, b.rows_none);
      present_is = sym (k.seeks.held_left ∙ b.held_none);
    }

-- the row in the middle stands to the key as d says
module _ {w : List ℕ} {x : Extent} {key : List ℕ} (u : Rising key (rows_in w x)) {lo hi o : ℕ} (k : Search w x key lo hi o) {r : Middle}
    (m : MiddleRow w x lo hi r) {d : Ordering} (e : d ≡ order (front key (piece w r.from r.end)) key) where
  abbrev row : List ℕ
  row = front key (piece w r.from r.end)

  here : drop r.row (rows_in w x) ≡ piece w r.from r.end ∷ drop (r.row + 1) (rows_in w x)
  here = rows-from k.between m

  -- it does not stand above the key
  at_row : before key row ≡ false
      → (rows_before key (rows_in w x) ≡ r.row + rows_before key (piece w r.from r.end ∷ drop (r.row + 1) (rows_in w x)))
      × (is_held key (rows_in w x) ≡ is_held key (piece w r.from r.end ∷ drop (r.row + 1) (rows_in w x)))
  at_row a = passed key a r.row (rows_in w x) u here

  pub search-up : d ≡ Less → Search w x key (r.row + 1) hi r.end
  unfolding rows_before is_held
  search-up z =
      let b : before row key ≡ true = order_below row key (sym e ∙ z) in
      let c = at_row (before-asym row key b) in
      record {
        between = between-up k.between m;
        seeks = record { rows_left = omega (arith, rw b at c.0); held_left = rw b at c.1 };
        behind = k.behind;
      }

  pub search-equal : d ≡ Equal → Sought w x key (place r.row r.from r.end true)
  unfolding rows_before is_held
  search-equal z =
      let y : row ≡ key = order-equal row key (sym e ∙ z) in
      let b : before row key ≡ false = rw y (before-irrefl key) in
      let c = at_row (rw y (before-irrefl key)) in
      let h = row_inside k.between m in
      record {
        place_in = record {
          row_in = omega (arith, h);
          from_is = m.place;
          end_is = m.end_is ∙ ap (λ l. r.from + l) (sym (length_at (row-walk k.between m) h));
        };
        row_is = omega (arith, rw b at c.0);
        present_is = sym (rw b at c.1 ∙ rw y (same_refl key));
      }

  pub search-down : d ≡ Greater → Search w x key lo r.row o
  unfolding rows_before is_held
  search-down z =
      let a : before key row ≡ true = order-above row key (sym e ∙ z) in
      let b : before row key ≡ false = before-asym key row a in
      let n : same row key ≡ false = same-sym row key ∙ before-not-same key row a in
      record {
        between = between-down k.between m;
        seeks = k.seeks;
        behind = record { rows_none = rw (here, b); held_none = rw (here, b) n };
      }
