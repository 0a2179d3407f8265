-- Numbers and rows in bytes, written and read. Numbers go in two bytes each (`pairs_of`), rows one behind the other (`concatenated`), and both go
-- by parts. What is written is read back, whatever follows it: `pairs` of pairsOf, and `cut` of concatenated rows by their lengths. What is read
-- off bytes that are there is written back as it was, the bytes being below 256. Assumes nothing.
use mathlib.Core.Path.{◌≡◌, refl, sym, ap, ap₂, ◌∙◌}
use mathlib.Core.List.{List, [], ◌∷◌, ◌++◌, map, append_assoc}
use Prim.Native.Nat.{ℕ, zero, suc, ◌+◌, ◌*◌, ◌/◌, ◌%◌, ◌≤◌, ◌<◌}
use native.Mathlib.Omega.{arith}
use lib.ListN.{length, take, drop, set, length-append, length-drop, length-map}
use lib.Seq.{append_snoc, set_at, take-add, take_at, drop_at, drop-drop, length-take-le}
use Rattle.numbers.specs.BigEndian.{Octets}
use Rattle.numbers.proofs.BigEndian.{octets-drop}
use Rattle.image_layout.specs.Layout.{pair, pairs, total, cut}
pub use Rattle.image_layout.specs.Written.{pairs_of, concatenated, heads}

-- ---- lists one behind the other

module _ {A : Type 0} where
  pub concatenated-append : (a b : List (List A)) → concatenated (a ++ b) ≡ concatenated a ++ concatenated b
  concatenated-append [] b = refl
  concatenated-append (x ∷ a) b = rw (concatenated-append a b) (sym (append_assoc x (concatenated a) (concatenated b)))

  -- lists of the same lengths are told by what they are concatenated to
  pub concatenated-inj : (a b : List (List A)) → map length a ≡ map length b → concatenated a ≡ concatenated b → a ≡ b
  concatenated-inj [] [] e j = refl
  concatenated-inj [] (y ∷ b) e j = cc
  concatenated-inj (x ∷ a) [] e j = cc
  concatenated-inj (x ∷ a) (y ∷ b) e j =
      let l : length x ≡ length y = cc in
      let m : map length a ≡ map length b = cc in
      let p : x ≡ y = sym (take_at x (concatenated a) (length x) refl) ∙ ap (take (length x)) j ∙ take_at y (concatenated b) (length x) (sym l) in
      let q : concatenated a ≡ concatenated b = sym (drop_at x (concatenated a) (length x) refl) ∙ ap (drop (length x)) j ∙ drop_at y (concatenated b)
      (length x) (sym l) in
      ap₂ (λ u v. u ∷ v) p (concatenated-inj a b m q)

-- ---- numbers of two bytes

pub length-words : (ns : List ℕ) → length (pairs_of ns) ≡ 2 * length ns
length-words [] = refl
length-words (n ∷ ns) = omega (arith, length-words ns)

pub pairs-words : (ns v : List ℕ) → pairs (length ns) (pairs_of ns ++ v) ≡ ns
pairs-words [] v = refl
pairs-words (n ∷ ns) v =
    let e : n / 256 * 256 + n % 256 ≡ n = omega arith in
    ap₂ (λ m l. m ∷ l) e (pairs-words ns v)

two_bytes : (v : List ℕ) → Octets v → 2 ≤ length v → pairs_of (pair v ∷ []) ≡ take 2 v
two_bytes [] b h = absurd (omega arith)
two_bytes (x ∷ []) b h = absurd (omega arith)
two_bytes (x ∷ y ∷ v) b h =
    let k : y < 256 = b 1 in
    let p : (x * 256 + y) / 256 ≡ x = omega arith in
    let q : (x * 256 + y) % 256 ≡ y = omega arith in
    cc

pub pairs_of-pairs : (n : ℕ) (v : List ℕ) → Octets v → 2 * n ≤ length v → pairs_of (pairs n v) ≡ take (2 * n) v
pairs_of-pairs zero v b h = refl
pairs_of-pairs (suc n) v b h =
    let e : 2 + 2 * n ≡ 2 * suc n = omega arith in
    let i = pairs_of-pairs n (drop 2 v) (octets-drop 2 v b) (omega (arith, length-drop 2 v)) in
    ap₂ (λ p q. p ++ q) (two_bytes v b (omega arith)) i ∙ sym (take-add 2 (2 * n) v) ∙ ap (λ m. take m v) e

-- the lengths of lists, so written
module _ {A : Type 0} where
  pub heads-append : (a b : List (List A)) → heads (a ++ b) ≡ heads a ++ heads b
  heads-append [] b = refl
  heads-append (r ∷ a) b = ap (λ v. length r / 256 ∷ length r % 256 ∷ v) (heads-append a b)

  pub length-heads : (rs : List (List A)) → length (heads rs) ≡ 2 * length rs
  length-heads rs = length-words (map length rs) ∙ ap (λ n. 2 * n) (length-map rs length)

  pub pairs-heads : (rs : List (List A)) (v : List ℕ) → pairs (length rs) (heads rs ++ v) ≡ map length rs
  pairs-heads rs v = ap (λ n. pairs n (heads rs ++ v)) (sym (length-map rs length)) ∙ pairs-words (map length rs) v

  pub total-lengths : (rs : List (List A)) → total (map length rs) ≡ length (concatenated rs)
  total-lengths [] = refl
  total-lengths (r ∷ rs) = omega (arith, total-lengths rs, length-append r (concatenated rs))

  -- another list of so many in one of them's place is another number in the low byte
  pub set-heads : (a b : List (List A)) (r q : List A) (n c : ℕ) → length a ≡ n → length r < 256 → length q ≡ c → c < 256
      → set (heads (a ++ (r ∷ b))) (2 * n + 1) c ≡ heads (a ++ (q ∷ b))
  set-heads a b r q n c e h l k =
      let x : length r / 256 ≡ 0 = omega arith in
      let y : length q / 256 ≡ 0 = omega arith in
      let z : length q % 256 ≡ c = omega arith in
      let at : length (heads a ++ (0 ∷ [])) ≡ 2 * n + 1 = simp (length-append, length-heads) (omega arith) in
      rw (
        heads-append a (r ∷ b),
        heads-append a (q ∷ b),
        x,
        y,
        z,
        ← append_snoc (heads a) 0 (length r % 256 ∷ heads b),
        ← append_snoc (heads a) 0
            (c ∷ heads b),
      )
      (set_at (heads a ++ (0 ∷ [])) (length r % 256) (heads b) c (2 * n + 1) at)

-- ---- rows

pub cut-joined : (rs : List (List ℕ)) (v : List ℕ) → cut (map length rs) (concatenated rs ++ v) ≡ rs
cut-joined [] v = refl
cut-joined (r ∷ rs) v =
    let u = concatenated rs ++ v in
    ap (λ l. take (length r) l ∷ cut (map length rs) (drop (length r) l)) (append_assoc r (concatenated rs) v)
    ∙ rw (take_at r u (length r), drop_at r u (length r), cut-joined rs v)

pub cut-append : (a b v : List ℕ) → cut (a ++ b) v ≡ cut a v ++ cut b (drop (total a) v)
cut-append [] b v = refl
cut-append (l ∷ a) b v =
    ap (λ z. take l v ∷ z) (cut-append a b (drop l v) ∙ ap (λ u. cut a (drop l v) ++ cut b u) (drop-drop (total a) l v))

pub length_cut : (ls v : List ℕ) → length (cut ls v) ≡ length ls
length_cut [] v = refl
length_cut (l ∷ ls) v = ap suc (length_cut ls (drop l v))

-- rows that are there
pub lengths-cut : (ls v : List ℕ) → total ls ≤ length v → map length (cut ls v) ≡ ls
lengths-cut [] v h = refl
lengths-cut (l ∷ ls) v h =
    ap₂ (λ m ms. m ∷ ms) (length-take-le l v (omega arith)) (lengths-cut ls (drop l v) (omega (arith, length-drop l v)))

pub joined-cut : (ls v : List ℕ) → total ls ≤ length v → concatenated (cut ls v) ≡ take (total ls) v
joined-cut [] v h = refl
joined-cut (l ∷ ls) v h =
    ap (λ z. take l v ++ z) (joined-cut ls (drop l v) (omega (arith, length-drop l v))) ∙ sym (take-add l (total ls) v)
