-- What is parsed whole is laid whole: the front is its bytes. Assumes nothing.
use mathlib.Core.Path.{◌≡◌, refl, sym, ap, ◌∙◌}
use mathlib.Core.Bool.{true, ◌&&◌}
use mathlib.Core.List.{List, [], ◌∷◌, ◌++◌}
use mathlib.Core.Option.{some, Option-elim, map, some-injective, none-ne-some}
use Prim.Native.Nat.{ℕ}
use lib.Dec.{leb, ltb}
use lib.ListN.{length, take, drop, get_or}
use lib.Seq.{length-take-le}
use borrow.Author.Tests.{leb-true}
use Rattle.numbers.proofs.Bools.{and_left, and_right}
use Rattle.numbers.specs.BigEndian.{Width, bound, bytes, bytes_of, fit}
use Rattle.rows.specs.Fields.{Field, sequence, integer, within, legal, field_bytes, row_bytes}
use Rattle.instance_fields.specs.Indices.{Parsed, checked, parse_field, led, parse_fields}
use Rattle.instance_fields.specs.Reading.{parts_front, field_front, key_front}
use Rattle.instance_fields.proofs.Indices.{cond-some, then_some, map-some}

parts-fit : (w : Width) (xs : List ℕ) → fit w xs ≡ true → parts_front w xs ≡ bytes_of w xs
unfolding parts_front
parts-fit w [] h = refl
parts-fit w (x ∷ xs) h =
    rw (and_left (ltb x (bound w)) (fit w xs) h) (ap (λ u. bytes w x ++ u) (parts-fit w xs (and_right (ltb x (bound w)) (fit w xs) h)))

pub field-front : (k : Field) (v : List ℕ) (p : Parsed (List ℕ)) → parse_field k v ≡ some p → field_front k v ≡ field_bytes k p.holds
unfolding parse_field field_front
field-front (sequence w lo hi) [] p e = absurd (none-ne-some p e)
field-front (sequence w lo hi) (n ∷ v) p e =
    let xs = take n v in
    let q : Parsed (List ℕ) = record { holds = take n v; rest = drop n v } in
    let c = cond-some (leb n (length v)) (checked (sequence w lo hi) q) p e in
    let d = cond-some (legal (sequence w lo hi) xs) (some q) p c.1 in
    let z : q ≡ p = some-injective q p d.1 in
    let l : length xs ≡ n = length-take-le n v (leb-true n (length v) c.0) in
    let i : within lo hi n ≡ true = ap (within lo hi) (sym l) ∙ and_left (within lo hi (length xs)) (fit w xs) d.0 in
    let f = parts-fit w xs (and_right (within lo hi (length xs)) (fit w xs) d.0) in
    rw (i, c.0, f) (ap (λ m. m ∷ bytes_of w xs) (sym l) ∙ ap (λ u. length u.holds ∷ bytes_of w u.holds) z)
field-front (integer w lo hi) [] p e = absurd (none-ne-some p e)
field-front (integer w lo hi) (x ∷ v) p e =
    let q : Parsed (List ℕ) = record { holds = x ∷ []; rest = v } in
    let d = cond-some (within lo hi x && ltb x (bound w)) (some q) p e in
    let z : q ≡ p = some-injective q p d.1 in
    rw d.0 (ap (λ u. bytes w (get_or u.holds 0 0)) z)

-- a field, and fields behind it
pub front-next : (k : Field) (ks : List Field) (v : List ℕ) (p : Parsed (List ℕ)) → parse_field k v ≡ some p
    → key_front (k ∷ ks) v ≡ field_bytes k p.holds ++ key_front ks p.rest
unfolding key_front Option-elim
front-next k ks v p e = rw e (ap (λ u. u ++ key_front ks p.rest) (field-front k v p e))

pub key-front : (ks : List Field) (v : List ℕ) (p : Parsed (List (List ℕ))) → parse_fields ks v ≡ some p → key_front ks v ≡ row_bytes ks p.holds
unfolding parse_fields key_front
key-front [] v p e = refl
key-front (k ∷ ks) v p e =
    let a = then_some (parse_field k v) (λ q. map (led q.holds) (parse_fields ks q.rest)) e in
    let q = a.0 in
    let b = map-some (led q.holds) (parse_fields ks q.rest) a.1.1 in
    front-next k ks v q a.1.0
    ∙ ap (λ u. field_bytes k q.holds ++ u) (key-front ks q.rest b.0 b.1.0)
    ∙ ap (λ u. row_bytes (k ∷ ks) u.holds) b.1.1
