-- What a field without fault shows: its number is in its range, and its bytes are there.
-- The definitions answer by tests one inside the other, and without a fault each of them passed. Assumes nothing.
use mathlib.Core.Path.{◌≡◌, refl}
use mathlib.Core.Bool.{Bool, true, false, cond}
use mathlib.Core.List.{List, [], ◌∷◌}
use mathlib.Core.Option.{Option, none, some}
use Prim.Native.Nat.{ℕ, ◌+◌, ◌*◌, ◌≤◌}
use lib.ListN.{length, drop, get_or}
use lib.Dec.{leb, ltb, eqb}
use borrow.Author.Tests.{leb-true, eqb-true}
use Rattle.answers.specs.declared.Fault.{Fault}
use Rattle.numbers.proofs.Bools.{and_left, and_right}
use Rattle.numbers.specs.BigEndian.{Width, size, number}
use Rattle.rows.specs.Fields.{Field, sequence, integer, within, sequence_fault, integer_fault, fault, taken, faults, or_else}

-- a test that guards against a fault passed where there is none
pub cond-none : (b : Bool) (o : Option Fault) (f : Fault) → cond b o (some f) ≡ none → (b ≡ true) × (o ≡ none)
cond-none true o f e = (refl, e)
cond-none false o f e = (cc, cc)

module _ (lo hi n : ℕ) (e : within lo hi n ≡ true) where
  pub within-least : lo ≤ n
  within-least = leb-true lo n (and_left (leb lo n) (leb n hi) e)

  pub within-most : n ≤ hi
  within-most = leb-true n hi (and_right (leb lo n) (leb n hi) e)

module _ (s lo hi : ℕ) (v : List ℕ) (h : sequence_fault s lo hi v ≡ none) where
  passed : (within lo hi (get_or v 0 0) ≡ true) × (leb (1 + get_or v 0 0 * s) (length v) ≡ true)
  unfolding sequence_fault
  passed =
      let a = (cond-none (ltb 0 (length v)) _ _ h).1 in
      let b = cond-none (within lo hi (get_or v 0 0)) _ _ a in
      (b.0, (cond-none (leb (1 + get_or v 0 0 * s) (length v)) _ _ b.1).0)

  pub sequence-range : within lo hi (get_or v 0 0) ≡ true
  sequence-range = passed.0

  pub sequence-room : 1 + get_or v 0 0 * s ≤ length v
  sequence-room = leb-true (1 + get_or v 0 0 * s) (length v) passed.1

module _ (w : Width) (lo hi : ℕ) (v : List ℕ) (h : integer_fault w lo hi v ≡ none) where
  pub integer-range : within lo hi (number w v) ≡ true
  unfolding integer_fault
  integer-range = (cond-none (within lo hi (number w v)) _ _ (cond-none (leb (size w) (length v)) _ _ h).1).0

  pub integer-room : size w ≤ length v
  unfolding integer_fault
  integer-room = leb-true (size w) (length v) (cond-none (leb (size w) (length v)) _ _ h).0

-- any field takes bytes that are there
pub field_room : (k : Field) (v : List ℕ) → fault k v ≡ none → taken k v ≤ length v
field_room (sequence w lo hi) v h = sequence-room (size w) lo hi v h
field_room (integer w lo hi) v h = integer-room w lo hi v h

-- a row without fault: its first field has none, and what follows has none
pub or_else_none : (o p : Option Fault) → or_else o p ≡ none → (o ≡ none) × (p ≡ none)
or_else_none none p e = (refl, e)
or_else_none (some f) p e = (e, cc)

module _ (k : Field) (ks : List Field) (v : List ℕ) (h : faults (k ∷ ks) v ≡ none) where
  pub faults-first : fault k v ≡ none
  unfolding faults
  faults-first = (or_else_none (fault k v) _ h).0

  pub faults-rest : faults ks (drop (taken k v) v) ≡ none
  unfolding faults
  faults-rest = (or_else_none (fault k v) _ h).1

-- and no bytes are over
pub faults-end : (v : List ℕ) → faults [] v ≡ none → length v ≡ 0
unfolding faults
faults-end v h = eqb-true (length v) 0 (cond-none (eqb (length v) 0) _ _ h).0
