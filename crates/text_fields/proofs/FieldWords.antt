-- What a word says of a field: nothing, more than its bytes hold, or its bytes. Assumes nothing.
use mathlib.Core.Path.{◌≡◌, refl, ◌∙◌}
use Rattle.std.specs.Prelude.{Result, Ok, Err, Some, None}
use Rattle.std.specs.Result.{OkIff, result_ok}
use mathlib.Core.List.{List, [], ◌∷◌}
use mathlib.Core.Option.{Option, none, some}
use Prim.Native.Nat.{ℕ, ◌*◌, ◌≤◌, ◌<◌}
use native.Mathlib.Omega.{arith}
use lib.Dec.{ltb}
use lib.ListN.{length}
use borrow.Author.Tests.{le-leb, lt-leb, lt-ltb, le-ltb, ltb-true, ltb-false}
use Rattle.numbers.proofs.Bools.{split as by}
use Rattle.numbers.specs.BigEndian.{Width, octet, bound, bytes, bytes_of}
use Rattle.text_words.specs.Words.{digits_from, below32, decimal, hex_octets}
use Rattle.text_words.proofs.Words.{never, hex-length}
use Rattle.text_fields.specs.FieldWords.{octet_most, counted, numbered}

-- ---- parts behind their count

module _ (w : Width) {o : Option (List ℕ)} where
  pub counted_none : o ≡ none → counted w o ≡ none
  counted_none e = rw e

  module _ {x : List ℕ} (e : o ≡ some x) where
    pub counted-over : octet_most < length x → counted w o ≡ none
    counted-over h = rw (e, lt-leb (length x) octet_most h)

    pub counted-some : length x ≤ octet_most → counted w o ≡ some (length x ∷ bytes_of w x)
    counted-some h = rw (e, le-leb (length x) octet_most h)

-- a name has two digits for each octet
name-long-of : (o : Option (List ℕ)) → ((x : List ℕ) → o ≡ some x → octet_most < length x) → counted octet o ≡ none
name-long-of none h = refl
name-long-of (some x) h = counted-over octet {x = x} refl (h x refl)

pub name-long : (w : List ℕ) → 2 * octet_most < length w → counted octet (hex_octets w) ≡ none
name-long w l = name-long-of (hex_octets w) (λ x e. omega (arith, hex-length w x e (omega arith)))

pub name-short : (w x : List ℕ) → hex_octets w ≡ some x → length x ≤ length w → length w ≤ 2 * octet_most → length x ≤ octet_most
name-short w x e m l =
    by (ltb (length w) 2) (λ t. omega (arith, ltb-true (length w) 2 t))
    (λ f. omega (arith, hex-length w x e (ltb-false (length w) 2 f)))

-- ---- a number

module _ (w : Width) {o : Option ℕ} where
  pub numbered-none : o ≡ none → numbered w o ≡ none
  numbered-none e = rw e

  module _ {x : ℕ} (e : o ≡ some x) where
    pub numbered-over : bound w ≤ x → numbered w o ≡ none
    numbered-over h = rw (e, le-ltb x (bound w) h)

    pub numbered-some : x < bound w → numbered w o ≡ some (bytes w x)
    numbered-some h = rw (e, lt-ltb x (bound w) h)

below-most : (o : Option ℕ) (x : ℕ) → below32 o ≡ some x → x < 4294967296
below-most none x e = never e
below-most (some n) x e =
    by (ltb n 4294967296)
    (λ t. let q : some n ≡ some x = rw t at e in let y : n ≡ x = cc in rw (← y) (ltb-true n 4294967296 t))
    (λ f. never (rw f at e))

-- a word says no number that four bytes do not hold
pub decimal-below : (w : List ℕ) (x : ℕ) → decimal w ≡ some x → x < 4294967296
unfolding decimal
decimal-below [] x e = never e
decimal-below (c ∷ cs) x e = below-most (digits_from 0 (c ∷ cs)) x e

-- ---- a number that a smaller type holds, or not, where the failure is not told

pub ok-some : {E P : Type 0} {v x : ℕ} (r : Result ℕ E) → OkIff r P v → Some x ≡ result_ok r → P × (x ≡ v)
ok-some {v = v} {x} (Ok y) h e = let q : x ≡ y = cc in (h.0, q ∙ h.1)
ok-some {x = x} (Err f) h e = let z : ◌≡◌ {A = ℕ} 0 1 = cc in absurd (omega arith)

pub ok_none : {E P : Type 0} (v : ℕ) (r : Result ℕ E) → OkIff r P v → None ≡ result_ok r → P → ⊥
ok_none v (Ok y) h e p = let z : ◌≡◌ {A = ℕ} 0 1 = cc in omega arith
ok_none v (Err f) h e p = h p
