-- Laws of `moved`. To move elements in front of those that are moved on, or behind those that are moved back, is
-- to move more, since the places that are read still have what stood there; one store moves one element, and two copies by way of a block
-- move one block. Assumes nothing.
use mathlib.Core.Path.{◌≡◌, sym, ap, ap₂, ◌∙◌}
use mathlib.Core.List.{List, [], ◌++◌, append_assoc, append-nil}
use Prim.Native.Nat.{ℕ, ◌+◌, ◌-◌, ◌≤◌, ◌<◌}
use native.Mathlib.Nat.{add-zero}
use native.Mathlib.Numerals.{add-one}
use native.Mathlib.Omega.{arith}
use lib.ListN.{length, take, drop, get_or, set, drop_of_length-le, length-drop, take-append-drop}
use lib.Seq.{drop-append-le, drop_at, drop-cons, drop-drop, drop-paste, length-take-le, paste, set_split, take-add, take-append-le, take-length, take-paste}
use Rattle.splice.specs.Moves.{moved}

-- nothing is moved yet
pub moved_none : (w : List ℕ) (from to : ℕ) → w ≡ moved w from from to
moved_none w from to =
    let e : from - from ≡ 0 = omega arith in
    rw (e, add-zero) (sym (take-append-drop to w))

-- to its own place: nothing changes
pub moved_same : (w : List ℕ) (from end : ℕ) → w ≡ moved w from end from
moved_same w from end =
    let n : ℕ = end - from in
    rw (← drop-drop n from w, take-append-drop n (drop from w)) (sym (take-append-drop from w))

-- what is moved is a copy of what stands at `from`
moved-paste : (w : List ℕ) (from end to : ℕ) → moved w from end to ≡ paste w to (drop from w) (end - from)
moved-paste w from end to = sym (append_assoc (take to w) (take (end - from) (drop from w)) (drop (to + (end - from)) w))

-- a part that lies in a list's front
part-front : (k i : ℕ) (a b : List ℕ) → i + k ≤ length a → take k (drop i (a ++ b)) ≡ take k (drop i a)
part-front k i a b h =
    let l : length (drop i a) ≡ length a - i = length-drop i a in
    rw (drop-append-le i a b (omega arith)) (take-append-le k (drop i a) b (omega arith))

-- whatever comes behind a list's front, a part within the front is the list's
pub front_same : (w back : List ℕ) (n i k : ℕ) → i + k ≤ n → n ≤ length w → take k (drop i (take n w ++ back)) ≡ take k (drop i w)
front_same w back n i k h l =
    let len : length (take n w) ≡ n = length-take-le n w l in
    part-front k i (take n w) back (omega arith)
    ∙ sym (part-front k i (take n w) (drop n w) (omega arith)) ∙ ap (λ (u : List ℕ). take k (drop i u)) (take-append-drop n w)

-- lists that are the same from n on are the same from any place behind
pub drop_past : (u v : List ℕ) (n i : ℕ) → drop n u ≡ drop n v → n ≤ i → drop i u ≡ drop i v
drop_past u v n i e h =
    let k : i ≡ n + (i - n) = omega arith in
    rw (k, ← drop-drop (i - n) n u, ← drop-drop (i - n) n v, e)

-- k elements more in front of those that are moved on
module _ (w : List ℕ) (i k end to : ℕ) (h : i + k ≤ end) (l : i ≤ to) (r : to + (end - i) ≤ length w) where
  front-moved : moved (moved w (i + k) end (to + k)) i (i + k) to ≡ moved w i end to
  front-moved =
      let n : ℕ = end - (i + k) in
      let a : List ℕ = take (to + k) w in
      let back : List ℕ = take n (drop (i + k) w) ++ drop (to + k + n) w in
      let len : length a ≡ to + k = length-take-le (to + k) w (omega arith) in
      let front : take to (a ++ back) ≡ take to w = front_same w back (to + k) 0 to (omega arith) (omega arith) in
      let part : take k (drop i (a ++ back)) ≡ take k (drop i w) = front_same w back (to + k) i k (omega arith) (omega arith) in
      let behind : drop (to + k) (a ++ back) ≡ back = drop_at a back (to + k) len in
      let p : end - i ≡ k + n = omega arith in
      let both : take (end - i) (drop i w) ≡ take k (drop i w) ++ take n (drop (i + k) w) =
      ap (λ (m : ℕ). take m (drop i w)) p ∙ take-add k n (drop i w) ∙ ap (λ (u : List ℕ). take k (drop i w) ++ take n u) (drop-drop k i w) in
      let e : i + k - i ≡ k = omega arith in
      let m : to + (end - i) ≡ to + k + n = omega arith in
      rw (e, front, part, behind, both, m, append_assoc)

-- k elements more behind those that are moved back
module _ (w : List ℕ) (from j k to : ℕ) (l : to ≤ from) (h : from ≤ j) (r : j ≤ length w) where
  back-moved : moved (moved w from j to) j (j + k) (to + (j - from)) ≡ moved w from (j + k) to
  back-moved =
      let n : ℕ = j - from in
      let s : List ℕ = drop from w in
      let d : List ℕ = paste w to s n in
      let ls : length s ≡ length w - from = length-drop from w in
      let front : take (to + n) d ≡ take to w ++ take n s = take-paste w to s n (omega arith) (omega arith) in
      let behind : drop (to + n) d ≡ drop (to + n) w = drop-paste w to s n (omega arith) (omega arith) in
      let rest : (m : ℕ) → drop (to + n + m) d ≡ drop (to + n + m) w =
      λ m. sym (drop-drop m (to + n) d) ∙ ap (λ (u : List ℕ). drop m u) behind ∙ drop-drop m (to + n) w in
      let i : j ≡ to + n + (from - to) = omega arith in
      let part : drop j d ≡ drop j w = ap (λ (m : ℕ). drop m d) i ∙ rest (from - to) ∙ ap (λ (m : ℕ). drop m w) (sym i) in
      let q : from + n ≡ j = omega arith in
      let p : j + k - from ≡ n + k = omega arith in
      let both : take (j + k - from) s ≡ take n s ++ take k (drop j w) =
      ap (λ (m : ℕ). take m s) p ∙ take-add n k s ∙ ap (λ (u : List ℕ). take n s ++ take k u) (drop-drop n from w ∙ ap (λ (m : ℕ). drop m w) q) in
      let e : j + k - j ≡ k = omega arith in
      let m : to + (j + k - from) ≡ to + n + k = omega arith in
      rw (moved-paste w from j to, e, front, part, rest k, both, m) (simp append_assoc)

-- one store moves one element
pub moved-one : (w : List ℕ) (from to : ℕ) → from < length w → to < length w
    → set w to (get_or w from 0) ≡ moved w from (from + 1) to
moved-one w from to h l =
    let e : from + 1 - from ≡ 1 = omega arith in
    rw (e, drop-cons w from 0 h, add-one) (set_split w to (get_or w from 0) l)

-- the same as the loops have it, of a list that is moved so far
pub moved_front : (w₀ w : List ℕ) (i m j end by : ℕ) → w ≡ moved w₀ j end (j + by) → m ≡ j → i ≤ j → j ≤ end → end + by ≤ length w₀
    → moved w i m (i + by) ≡ moved w₀ i end (i + by)
moved_front w₀ w i m j end by e x h l r =
    let k : ℕ = j - i in
    let y : m ≡ i + k = omega arith in
    let n : j ≡ i + k = omega arith in
    let o : j + by ≡ i + by + k = omega arith in
    let u : w ≡ moved w₀ (i + k) end (i + by + k) = e ∙ ap₂ (λ (p q : ℕ). moved w₀ p end q) n o in
    rw (u, y) (front-moved w₀ i k end (i + by) (omega arith) (omega arith) (omega arith))

pub moved_back : (w₀ w : List ℕ) (from j m by : ℕ) → w ≡ moved w₀ from j (from - by) → by ≤ from → from ≤ j → j ≤ m → m ≤ length w₀
    → moved w j m (j - by) ≡ moved w₀ from m (from - by)
moved_back w₀ w from j m by e p h l r =
    let y : m ≡ j + (m - j) = omega arith in
    let n : j - by ≡ from - by + (j - from) = omega arith in
    rw (n, y, e) (back-moved w₀ from j (m - j) (from - by) (omega arith) h (omega arith))

-- a part that is copied into a block as long as it, and from there to `to`, is moved
pub moved-block : (w w₁ z b : List ℕ) (k from to : ℕ) → length z ≡ k → from + k ≤ length w
    → let s : List ℕ = take (from + k - from) (drop from w) in
    b ≡ paste z 0 s (length s) → w₁ ≡ paste w to b (length b) → w₁ ≡ moved w from (from + k) to
moved-block w w₁ z b k from to h l u v =
    let n : ℕ = from + k - from in
    let s : List ℕ = take n (drop from w) in
    let ld : length (drop from w) ≡ length w - from = length-drop from w in
    let ls : length s ≡ n = length-take-le n (drop from w) (omega arith) in
    let over : drop (0 + length s) z ≡ [] = drop_of_length-le z {i = 0 + length s} (omega arith) in
    let q : b ≡ s = u ∙ rw (take-length s, over) (append-nil s) in
    v ∙ rw (q, take-length s, ls) (append_assoc (take to w) s (drop (to + n) w))
