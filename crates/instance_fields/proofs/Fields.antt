-- A field of an index parsed where it lies: by the part at its place, and for a sequence by the count there.
-- Either the index ends there, and both answers are nothing; or it begins there with that part, and the tests are the same. The parts that a
-- count counts are as many numbers of any size that fits. Assumes nothing.
use mathlib.Core.Path.{◌≡◌, refl, sym, ap}
use mathlib.Core.Bool.{Bool, true, false, cond, ◌&&◌}
use mathlib.Core.List.{List, [], ◌∷◌, ◌++◌}
use mathlib.Core.Option.{Option, none, some, bind, Option-elim}
use Prim.Native.Nat.{ℕ, zero, suc, ◌+◌, ◌-◌, ◌*◌, ◌≤◌, ◌<◌}
use native.Mathlib.Numerals.{add-one}
use native.Mathlib.Omega.{arith}
use lib.ListN.{length, take, drop, get_or, replicate, length-drop, drop_of_length-le}
use lib.Seq.{drop-cons, drop-drop, length-take-le}
use lib.Dec.{leb, ltb}
use borrow.Author.Tests.{ltb-true, ltb-false, leb-true, lt-ltb}
use Rattle.std.specs.Prelude.{Some, None}
use Rattle.std.proofs.lemmas.Option.{same_Some}
use Rattle.numbers.proofs.Bools.{split, and_left, and_right}
use Rattle.rows.proofs.Sound.{within-least, within-most}
use Rattle.rows.proofs.Steps.{within-yes}
use Rattle.rows.proofs.Bounds.{longest}
use Rattle.numbers.specs.BigEndian.{Width, octet, quad, size, bound, bytes, bytes_of, fit}
use Rattle.rows.specs.Fields.{sequence, integer, within, row_bytes}
use Rattle.instance_fields.specs.Types.{Part}
use Rattle.instance_fields.specs.Indices.{Parsed, parse_field, parse_fields}
use Rattle.instance_fields.specs.Reading.{part_at, counting, count_at, largest, any_part, parts_front, field_front, key_front}

pub drop-next : (xs : List ℕ) (i : ℕ) → i < length xs → drop i xs ≡ get_or xs i 0 ∷ drop (i + 1) xs
drop-next xs i h = rw (add-one i) (drop-cons xs i 0 h)

-- ---- the part that was found, and the count

found : (b : Bool) (y m l : ℕ) {x next left : ℕ} → cond {A = Part} b (Some (y, m, l)) None ≡ Some (x, next, left) → (b ≡ true) × ((y ≡ x) × ((m ≡ next) × (l ≡ left)))
found true y m l {x} {next} {left} e =
    let p = same_Some {A = ℕ × ℕ × ℕ} (y, m, l) (x, next, left) e in (refl, (ap (λ q. q.0) p, (ap (λ q. q.1) p, ap (λ q. q.2) p)))
found false y m l e = (cc, (cc, (cc, cc)))

guarded : (p : Part) {x next left : ℕ} → counting p ≡ Some (x, next, left) → (p ≡ Some (x, next, left)) × (x ≤ left)
guarded None e = let z : ◌≡◌ {A = ℕ} 0 1 = cc in absurd (omega arith)
guarded (Some (y, m, l)) {x} {next} {left} e =
    let f = found (leb y l) y m l e in
    (rw (f.1.0, f.1.1.0, f.1.1.1), rw (← f.1.0, ← f.1.1.1) (leb-true y l f.0))

pub record PartOf (lo hi : ℕ) (index : List ℕ) (at x next left : ℕ) : Type 0 where
  pub inside : at < length index
  pub least : lo ≤ x
  pub most : x ≤ hi
  pub next_is : next ≡ at + 1
  pub left_is : left ≡ length index - (at + 1)

module _ (lo hi : ℕ) (index : List ℕ) (at : ℕ) {x next left : ℕ} where
  pub part_of : part_at lo hi index at ≡ Some (x, next, left) → PartOf lo hi index at x next left
  part_of e =
      let y = get_or index at 0 in
      let f = found (ltb at (length index) && within lo hi y) y (at + 1) (length index - (at + 1)) e in
      let i : ltb at (length index) ≡ true = and_left (ltb at (length index)) (within lo hi y) f.0 in
      let r : within lo hi x ≡ true = rw (← f.1.0) (and_right (ltb at (length index)) (within lo hi y) f.0) in
      record {
        inside = ltb-true at (length index) i;
        least = within-least lo hi x r;
        most = within-most lo hi x r;
        next_is = sym f.1.1.0;
        left_is = sym f.1.1.1;
      }

  pub count_of : count_at lo hi index at ≡ Some (x, next, left) → PartOf lo hi index at x next left × (x ≤ left)
  count_of e = let g = guarded (part_at lo hi index at) e in (part_of g.0, g.1)

-- ---- a field parsed at a place

-- what follows the part that was found
abbrev pub after_part : List ℕ → Part → Option (Parsed (List ℕ))
after_part index None = none
after_part index (Some (x, next, left)) = some (record { holds = x ∷ []; rest = drop next index })

abbrev pub after_count : Width → List ℕ → Part → Option (Parsed (List ℕ))
after_count w index None = none
after_count w index (Some (n, next, left)) =
    cond (fit w (take n (drop next index))) (some (record { holds = take n (drop next index); rest = drop (next + n) index })) none

module _ (w : Width) (lo hi : ℕ) (index : List ℕ) (at : ℕ) where
  -- the index ends before the place
  off : ltb at (length index) ≡ false → drop at index ≡ []
  off e = drop_of_length-le index (ltb-false at (length index) e)

  -- it has a part there
  on : ltb at (length index) ≡ true → drop at index ≡ get_or index at 0 ∷ drop (at + 1) index
  on e = drop-next index at (ltb-true at (length index) e)

  pub parse-integer : hi < bound w → parse_field (integer w lo hi) (drop at index) ≡ after_part index (part_at lo hi index at)
  unfolding parse_field
  parse-integer h =
      let y = get_or index at 0 in
      split (ltb at (length index))
      (λ e. rw (on e, e) (split (within lo hi y) (λ q. rw (q, lt-ltb y (bound w) (omega (arith, within-most lo hi y q)))) (λ q. rw q)))
      (λ e. rw (off e, e))

  -- a count: as many parts are left behind it, or not
  counted : (n : ℕ) → parse_field (sequence w lo hi) (n ∷ drop (at + 1) index)
      ≡ after_count w index (counting (cond (within lo hi n) (Some (n, (at + 1), (length index - (at + 1)))) None))
  unfolding parse_field
  counted n =
      let v = drop (at + 1) index in
      rw (← length-drop (at + 1) index) (split (leb n (length v))
      (λ m. rw (m, length-take-le n v (leb-true n (length v) m), drop-drop n (at + 1) index) (split (within lo hi n) (λ q. rw (q, m)) (λ q. rw q)))
      (λ m. rw m (split (within lo hi n) (λ q. rw (q, m)) (λ q. rw q))))

  nothing : parse_field (sequence w lo hi) [] ≡ none
  unfolding parse_field
  nothing = refl

  pub parse-sequence : parse_field (sequence w lo hi) (drop at index) ≡ after_count w index (count_at lo hi index at)
  parse-sequence = split (ltb at (length index)) (λ e. rw (on e, e) (counted (get_or index at 0))) (λ e. rw (off e, e) nothing)

-- ---- what is laid of a field at a place

abbrev pub part_front : Width → Part → List ℕ
part_front w None = []
part_front w (Some (x, next, left)) = bytes w x

abbrev pub count_front : Width → List ℕ → Part → List ℕ
count_front w index None = []
count_front w index (Some (n, next, left)) = n ∷ parts_front w (take n (drop next index))

module _ (w : Width) (lo hi : ℕ) (index : List ℕ) (at : ℕ) where
  pub front-integer : hi < bound w → field_front (integer w lo hi) (drop at index) ≡ part_front w (part_at lo hi index at)
  unfolding field_front
  front-integer h =
      let y = get_or index at 0 in
      split (ltb at (length index))
      (λ e. rw (on w lo hi index at e, e)
      (split (within lo hi y) (λ q. rw (q, lt-ltb y (bound w) (omega (arith, within-most lo hi y q)))) (λ q. rw q)))
      (λ e. rw (off w lo hi index at e, e))

  counted-front : (n : ℕ) → field_front (sequence w lo hi) (n ∷ drop (at + 1) index)
      ≡ count_front w index (counting (cond (within lo hi n) (Some (n, (at + 1), (length index - (at + 1)))) None))
  unfolding field_front
  counted-front n =
      let v = drop (at + 1) index in
      rw (← length-drop (at + 1) index)
      (split (within lo hi n) (λ q. rw q (split (leb n (length v)) (λ m. rw m) (λ m. rw m))) (λ q. rw q))

  no_front : field_front (sequence w lo hi) [] ≡ []
  unfolding field_front
  no_front = refl

  pub front-sequence : field_front (sequence w lo hi) (drop at index) ≡ count_front w index (count_at lo hi index at)
  front-sequence =
      split (ltb at (length index)) (λ e. rw (on w lo hi index at e, e) (counted-front (get_or index at 0)))
      (λ e. rw (off w lo hi index at e, e) no_front)

-- ---- the parts of a sequence, each a field of its own

abbrev pub singles : List ℕ → List (List ℕ)
singles [] = []
singles (x ∷ xs) = (x ∷ []) ∷ singles xs

largest-is : (w : Width) (x : ℕ) → x < bound w → x ≤ largest w
largest-is octet x h = omega arith
largest-is quad x h = omega arith

pub largest-fits : (w : Width) → largest w < bound w
largest-fits octet = omega arith
largest-fits quad = omega arith

pub parse-parts : (w : Width) (n : ℕ) (v : List ℕ) → n ≤ length v
    → parse_fields (replicate n (any_part w)) v ≡ cond (fit w (take n v)) (some (record { holds = singles (take n v); rest = drop n v })) none
unfolding parse_fields parse_field bind
parse-parts w zero v h = refl
parse-parts w (suc n) [] h = absurd (omega arith)
parse-parts w (suc n) (x ∷ v) h =
    let i = parse-parts w n v (omega arith) in
    split (ltb x (bound w))
    (λ e. rw (e, within-yes 0 (largest w) x (omega arith) (largest-is w x (ltb-true x (bound w) e)), i)
    (split (fit w (take n v)) (λ q. rw q) (λ q. rw q)))
    (λ e. rw e (split (within 0 (largest w) x) (λ q. rw q) (λ q. rw q)))

pub parts-front : (w : Width) (n : ℕ) (v : List ℕ) → n ≤ length v → key_front (replicate n (any_part w)) v ≡ parts_front w (take n v)
unfolding key_front field_front parse_field parts_front Option-elim
parts-front w zero v h = refl
parts-front w (suc n) [] h = absurd (omega arith)
parts-front w (suc n) (x ∷ v) h =
    let i = parts-front w n v (omega arith) in
    split (ltb x (bound w)) (λ e. rw (e, within-yes 0 (largest w) x (omega arith) (largest-is w x (ltb-true x (bound w) e)), i))
    (λ e. rw e (split (within 0 (largest w) x) (λ q. rw q) (λ q. rw q)))

pub bytes-parts : (w : Width) (xs : List ℕ) → row_bytes (replicate (length xs) (any_part w)) (singles xs) ≡ bytes_of w xs
bytes-parts w [] = refl
bytes-parts w (x ∷ xs) = ap (λ u. bytes w x ++ u) (bytes-parts w xs)

pub longest-parts : (w : Width) (n : ℕ) → longest (replicate n (any_part w)) ≡ n * size w
longest-parts octet zero = refl
longest-parts quad zero = refl
longest-parts octet (suc n) = omega (arith, longest-parts octet n)
longest-parts quad (suc n) = omega (arith, longest-parts quad n)
