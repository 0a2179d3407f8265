-- Lists that are the same in front: by one element more, by a run more. Assumes nothing.
use mathlib.Core.Path.{◌≡◌, refl, sym, ap, ◌∙◌}
use mathlib.Core.Bool.{Bool, true}
use mathlib.Core.List.{List, ◌++◌}
use Prim.Native.Nat.{ℕ, ◌+◌, ◌-◌, ◌*◌, ◌≤◌, ◌<◌}
use native.Mathlib.Omega.{arith}
use lib.Dec.{eqb}
use lib.ListN.{length, take, drop, get_or, length-drop, length-append, get_or-append}
use lib.Seq.{get_or-append-add, get_or-drop, take_all, length-take-le, drop-drop}
use borrow.Author.Tests.{eqb-true}
use Rattle.numbers.specs.BigEndian.{quad, numbers}
use Rattle.numbers.proofs.BigEndian.{length-numbers}
use Rattle.numbers.proofs.Bools.{and_left, and_right}
use Rattle.numbers.proofs.Orders.{Tri, below, equal, above, tri}
use Rattle.instance_encode.specs.Runs.{runs}
use Rattle.walk_alike.specs.Alike.{Alike, four_same}

module _ (a b : List ℕ) where
  pub alike-none : Alike 0 a b
  alike-none = record { in_first = omega arith; in_second = omega arith; same = λ i h. absurd (omega arith) }

  pub alike_next : (n m : ℕ) → m ≡ n + 1 → Alike n a b → n < length a → n < length b → get_or a n 0 ≡ get_or b n 0 → Alike m a b
  alike_next n m p s h k e = record { in_first = omega arith; in_second = omega arith; same = λ i l. go i l (tri i n) }
    where
      go : (i : ℕ) → i < m → Tri i n → get_or a i 0 ≡ get_or b i 0
      go i l (below _ _ q) = s.same i q
      go i l (equal _ _ q) = rw q e
      go i l (above _ _ q) = absurd (omega arith)

  pub alike-four : (n : ℕ) → Alike n a b → n + 4 ≤ length a → n + 4 ≤ length b → four_same a b n ≡ true → Alike (n + 4) a b
  alike-four n s h k e =
      let at : ℕ → Bool = λ i. eqb (get_or a i 0) (get_or b i 0) in
      let all : (at n ≡ true) × (at (n + 1) ≡ true) × (at (n + 2) ≡ true) × (at (n + 3) ≡ true) = search (and_left, and_right) in
      let one = alike_next n (n + 1) refl s (omega arith) (omega arith) (eqb-true _ _ all.0) in
      let two = alike_next (n + 1) (n + 2) (omega arith) one (omega arith) (omega arith) (eqb-true _ _ all.1) in
      let three = alike_next (n + 2) (n + 3) (omega arith) two (omega arith) (omega arith) (eqb-true _ _ all.2) in
      alike_next (n + 3) (n + 4) (omega arith) three (omega arith) (omega arith) (eqb-true _ _ all.3)

  pub alike-fewer : (n m : ℕ) → n ≤ m → Alike m a b → Alike n a b
  alike-fewer n m h s = record {
    in_first = omega (arith, s.in_first);
    in_second = omega (arith, s.in_second);
    same = λ i l. s.same i (omega arith);
  }

  module _ (c : List ℕ) where
    pub alike-front : (n : ℕ) → Alike n a b → Alike n a (b ++ c)
    alike-front n s = record {
      in_first = s.in_first;
      in_second = omega (arith, s.in_second, length-append b c);
      same = λ i h. s.same i h ∙ sym (get_or-append b c 0 i (omega (arith, s.in_second)));
    }

    pub alike-behind : (k n : ℕ) → k ≡ length b → Alike k a b → Alike n (drop k a) c → Alike (k + n) a (b ++ c)
    alike-behind k n e s t = record {
      in_first = omega (arith, s.in_first, t.in_first, length-drop k a);
      in_second = omega (arith, t.in_second, length-append b c);
      same = λ i h. go i h (tri i k);
    }
      where
        behind : (i : ℕ) → k ≤ i → i < k + n → get_or a i 0 ≡ get_or (b ++ c) i 0
        behind i m h =
            let p : k + (i - k) ≡ i = omega arith in
            let q : length b + (i - k) ≡ i = omega arith in
            ap (λ j. get_or a j 0) (sym p)
            ∙ sym (get_or-drop k a (i - k) 0)
            ∙ t.same (i - k) (omega arith)
            ∙ sym (get_or-append-add b c (i - k) 0)
            ∙ ap (λ j. get_or (b ++ c) j 0) q

        go : (i : ℕ) → i < k + n → Tri i k → get_or a i 0 ≡ get_or (b ++ c) i 0
        go i h (below _ _ m) = (alike-front k s).same i m
        go i h (equal _ _ q) = behind i (omega arith) h
        go i h (above _ _ m) = behind i (omega arith) h

-- an index in its three runs, as many of them as are the same
module _ (from quads : ℕ) (key parts : List ℕ) (room : from + 4 * quads ≤ length key) where
  abbrev middle : List ℕ
  middle = numbers quad quads (drop from key)

  abbrev rest : List ℕ
  rest = drop (from + 4 * quads) key

  -- what is lent from a place on
  abbrev tail : List ℕ → ℕ → List ℕ
  tail v k = take (length v - k) (drop k v)

  tail-is : (v : List ℕ) (k : ℕ) → tail v k ≡ drop k v
  tail-is v k = take_all (length v - k) (drop k v) (omega (arith, length-drop k v))

  front : length (take from key) ≡ from
  front = length-take-le from key (omega arith)

  module _ (p : ℕ) (s : Alike p parts (take (from - 0) key)) where
    firsts : Alike p parts (take from key)
    firsts = let e : from - 0 ≡ from = omega arith in rw (sym (ap (λ n. take n key) e)) s

    pub first_alike : Alike p parts (runs from quads key)
    first_alike = alike-front parts (take from key) (middle ++ rest) p firsts

  module _ (p : ℕ) (s : Alike p parts (take (from - 0) key)) (h : from ≤ p) where
    -- what is the same behind the first run
    behind-first : (r : ℕ) → Alike r (drop from parts) (middle ++ rest) → Alike (from + r) parts (runs from quads key)
    behind-first r t =
        alike-behind parts (take from key) (middle ++ rest) from r (sym front) (alike-fewer parts (take from key) from p h (firsts p s)) t

    module _ (q : ℕ) (t : Alike q (tail parts from) (numbers quad quads (tail key from))) where
      seconds : Alike q (drop from parts) middle
      seconds = rw (sym (tail-is parts from), sym (tail-is key from)) t

      pub second_alike : Alike (from + q) parts (runs from quads key)
      second_alike = behind-first q (alike-front (drop from parts) middle rest q seconds)

      pub third-alike : quads ≤ q → (r : ℕ) → Alike r (tail parts (from + quads)) (tail key (from + 4 * quads))
          → Alike (from + quads + r) parts (runs from quads key)
      third-alike k r u =
          let thirds : Alike r (drop quads (drop from parts)) rest =
          rw (drop-drop quads from parts, sym (tail-is parts (from + quads)), sym (tail-is key (from + 4 * quads))) u in
          alike-fewer parts (runs from quads key) (from + quads + r) (from + (quads + r)) (omega arith)
          (behind-first (quads + r)
          (alike-behind (drop from parts) middle rest quads r (sym (length-numbers quad quads (drop from key)))
          (alike-fewer (drop from parts) middle quads q k seconds) thirds))
