-- An index parsed and made: each undoes the other.
-- What a field is parsed to is legal, and with what follows it is the index again (`parsed`). A legal value is parsed off the front of
-- the index made of it (`made`). So it is for fields in order, and for a whole index. Assumes nothing.
use mathlib.Core.Path.{◌≡◌, refl, sym, ap, ◌∙◌}
use mathlib.Core.Bool.{Bool, true, false, cond}
use mathlib.Core.List.{List, [], ◌∷◌, ◌++◌, append_assoc, append-nil}
use mathlib.Core.Option.{Option, none, some, map, some-injective, none-ne-some, bind}
use Prim.Native.Nat.{ℕ}
use native.Mathlib.Omega.{arith}
use lib.ListN.{length, take, drop, length-append, take-append-drop}
use lib.Seq.{length-take-le, take-append_seam, drop-append_seam}
use lib.Dec.{leb, eqb}
use borrow.Author.Tests.{leb-true, le-leb, eqb-true}
use Rattle.numbers.proofs.Bools.{clash, and_both}
use Rattle.rows.specs.Fields.{Field, sequence, integer, legal, legals, index_field, index}
use Rattle.rows.proofs.Inverse.{legals-first, legals-rest, legals-no-values, legals-no-fields}
use Rattle.instance_fields.specs.Indices.{Parsed, checked, parse_field, led, parse_fields, ended, parse_index}

-- a test that was passed
pub cond-some : {A : Type 0} (b : Bool) (o : Option A) (p : A) → cond b o none ≡ some p → (b ≡ true) × (o ≡ some p)
cond-some true o p e = (refl, e)
cond-some false o p e = absurd (none-ne-some p e)

no-parts : (v : List ℕ) → length v ≡ 0 → v ≡ []
no-parts [] h = refl
no-parts (x ∷ v) h = absurd (omega arith)

-- ---- a field

pub record ParsedAs (k : Field) (v : List ℕ) (p : Parsed (List ℕ)) : Type 0 where
  pub lawful : legal k p.holds ≡ true
  pub whole : v ≡ index_field k p.holds ++ p.rest

kept : (k : Field) (v : List ℕ) (q p : Parsed (List ℕ)) → v ≡ index_field k q.holds ++ q.rest → checked k q ≡ some p → ParsedAs k v p
kept k v q p w e =
    let c = cond-some (legal k q.holds) (some q) p e in
    let z : q ≡ p = some-injective q p c.1 in
    record { lawful = rw (← z) c.0; whole = rw (← z) w }

pub parsed : (k : Field) (v : List ℕ) (p : Parsed (List ℕ)) → parse_field k v ≡ some p → ParsedAs k v p
unfolding parse_field
parsed (sequence w lo hi) [] p e = absurd (none-ne-some p e)
parsed (sequence w lo hi) (n ∷ v) p e =
    let q : Parsed (List ℕ) = record { holds = take n v; rest = drop n v } in
    let c = cond-some (leb n (length v)) (checked (sequence w lo hi) q) p e in
    let l : length (take n v) ≡ n = length-take-le n v (leb-true n (length v) c.0) in
    kept (sequence w lo hi) (n ∷ v) q p (rw (l, take-append-drop n v)) c.1
parsed (integer w lo hi) [] p e = absurd (none-ne-some p e)
parsed (integer w lo hi) (x ∷ v) p e = kept (integer w lo hi) (x ∷ v) (record { holds = x ∷ []; rest = v }) p refl e

pub made : (k : Field) (x r : List ℕ) → legal k x ≡ true → parse_field k (index_field k x ++ r) ≡ some (record { holds = x; rest = r })
unfolding parse_field
made (sequence w lo hi) x r h =
    rw (le-leb (length x) (length (x ++ r)) (omega (arith, length-append x r)), take-append_seam x r, drop-append_seam x r, h)
made (integer w lo hi) [] r h = clash h refl
made (integer w lo hi) (x ∷ []) r h = rw h
made (integer w lo hi) (x ∷ y ∷ ys) r h = clash h refl

-- ---- fields in order

-- a step that was made, and what it was made on
pub then_some : {A B : Type 0} (o : Option A) (f : A → Option B) {y : B} → bind o f ≡ some y → (x : A) × ((o ≡ some x) × (f x ≡ some y))
unfolding bind
then_some none f {y} e = absurd (none-ne-some y e)
then_some (some x) f e = (x, (refl, e))

pub map-some : {A B : Type 0} (f : A → B) (o : Option A) {y : B} → map f o ≡ some y → (x : A) × ((o ≡ some x) × (f x ≡ y))
map-some f none {y} e = absurd (none-ne-some y e)
map-some f (some x) {y} e = (x, (refl, some-injective (f x) y e))

pub record ParsedAll (ks : List Field) (v : List ℕ) (xs : List (List ℕ)) (rest : List ℕ) : Type 0 where
  pub lawful : legals ks xs ≡ true
  pub whole : v ≡ index ks xs ++ rest

parsed-all : (ks : List Field) (v : List ℕ) (p : Parsed (List (List ℕ))) → parse_fields ks v ≡ some p → ParsedAll ks v p.holds p.rest
unfolding parse_fields legals bind
parsed-all [] v p e =
    let z : record { holds = []; rest = v } ≡ p = some-injective (record { holds = []; rest = v }) p e in
    rw (← z) (record { lawful = refl; whole = refl })
parsed-all (k ∷ ks) v p e =
    let a = then_some (parse_field k v) (λ q. map (led q.holds) (parse_fields ks q.rest)) e in
    let q = a.0 in
    let f = parsed k v q a.1.0 in
    let b = map-some (led q.holds) (parse_fields ks q.rest) a.1.1 in
    let g = parsed-all ks q.rest b.0 b.1.0 in
    rw (← b.1.1) (record {
      lawful = and_both f.lawful g.lawful;
      whole = f.whole ∙ ap (λ u. index_field k q.holds ++ u) g.whole
          ∙ sym (append_assoc (index_field k q.holds) (index ks b.0.holds) b.0.rest);
    })

made_all : (ks : List Field) (xs : List (List ℕ)) (r : List ℕ) → legals ks xs ≡ true
    → parse_fields ks (index ks xs ++ r) ≡ some (record { holds = xs; rest = r })
unfolding parse_fields bind
made_all [] [] r h = refl
made_all [] (x ∷ xs) r h = legals-no-fields x xs h
made_all (k ∷ ks) [] r h = legals-no-values k ks h
made_all (k ∷ ks) (x ∷ xs) r h =
    rw (
      append_assoc (index_field k x) (index ks xs) r,
      made k x (index ks xs ++ r) (legals-first k ks x xs h),
      made_all ks xs r
          (legals-rest k ks x xs h),
    )

-- ---- a whole index

pub index-parsed : (ks : List Field) (v : List ℕ) (xs : List (List ℕ)) → parse_index ks v ≡ some xs → (legals ks xs ≡ true) × (v ≡ index ks xs)
index-parsed ks v xs e =
    let a = then_some (parse_fields ks v) ended e in
    let p = a.0 in
    let c = cond-some (eqb (length p.rest) 0) (some p.holds) xs a.1.1 in
    let z : p.holds ≡ xs = some-injective p.holds xs c.1 in
    let f = parsed-all ks v p a.1.0 in
    let n : p.rest ≡ [] = no-parts p.rest (eqb-true (length p.rest) 0 c.0) in
    rw (← z) (f.lawful, f.whole ∙ ap (λ u. index ks p.holds ++ u) n ∙ append-nil (index ks p.holds))

pub index-made : (ks : List Field) (xs : List (List ℕ)) → legals ks xs ≡ true → parse_index ks (index ks xs) ≡ some xs
unfolding bind
index-made ks xs h =
    let e : parse_fields ks (index ks xs) ≡ some (record { holds = xs; rest = [] }) =
    ap (parse_fields ks) (sym (append-nil (index ks xs))) ∙ made_all ks xs [] h in
    rw e
