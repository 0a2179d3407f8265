-- The edits of a set by their places: from a place on the first is the one there, and past the last there are none; what they bring into a table and take
-- out of it does not look at their bytes. Assumes nothing.
use mathlib.Core.Path.{◌≡◌, refl, sym, ap, ◌∙◌}
use mathlib.Core.Bool.{Bool, true, false}
use mathlib.Core.List.{List, [], ◌∷◌}
use Prim.Native.Nat.{ℕ, zero, suc, ◌+◌, ◌-◌, ◌≤◌, ◌<◌}
use native.Mathlib.Omega.{arith}
use lib.ListN.{length}
use Rattle.numbers.specs.Lists.{any}
use Rattle.rows.specs.declared.Table.{Table}
use Rattle.table_update.specs.Exchange.{one_if}
use Rattle.edit_rules.specs.Types.{Edited}
use Rattle.edit_rules.specs.Edits.{Edit, edit_of}
use Rattle.set_rules.specs.declared.SetEdit.{SetEdit}
use Rattle.set_rules.specs.declared.Weight.{Weight}
use Rattle.set_rules.specs.Sets.{same_key, keys_differ, is_done, answer_at, or_next, first_refused, creates_in}
use Rattle.set_rules.specs.Handed.{edit_in, place_in, edits_from}
use Rattle.set_rules.specs.Made.{removes_in, weighed, weight}

module _ (xs : List SetEdit) (bytes : List ℕ) where
  pub edits-next : (i n : ℕ) → i < n → edits_from xs bytes i (n - i) ≡ edit_in (place_in xs i) bytes ∷ edits_from xs bytes (suc i) (n - suc i)
  edits-next i n h = let e : n - i ≡ suc (n - suc i) = omega arith in ap (edits_from xs bytes i) e

  pub edits-none : (i n : ℕ) → n ≤ i → edits_from xs bytes i (n - i) ≡ []
  edits-none i n h = let e : n - i ≡ 0 = omega arith in ap (edits_from xs bytes i) e

  pub length-edits : (i n : ℕ) → length (edits_from xs bytes i n) ≡ n
  length-edits i zero = refl
  length-edits i (suc n) = ap suc (length-edits (suc i) n)

  pub weight-bytes : (t : Table) (p i n : ℕ) → weight t p (edits_from xs [] i n) ≡ weight t p (edits_from xs bytes i n)
  weight-bytes t p i zero = refl
  weight-bytes t p i (suc n) = ap (weighed t p (edit_in (place_in xs i) bytes)) (weight-bytes t (suc p) (suc i) n)

-- no more come in or go than there are edits
one-most : (b : Bool) → one_if b ≤ 1
one-most true = omega arith
one-most false = omega arith

pub weight-most : (t : Table) (p : ℕ) (es : List Edit) → ((weight t p es).creates ≤ length es) × ((weight t p es).removals ≤ length es)
weight-most t p [] = (omega arith, omega arith)
weight-most t p (e ∷ es) =
    let ih = weight-most t (suc p) es in (omega (arith, ih.0, one-most (creates_in t e)), omega (arith, ih.1, one-most (removes_in t e)))

-- the edit before place i, in front of those from there on
pub weigh-next : (t : Table) (xs : List SetEdit) (i n : ℕ) → 0 < i → i ≤ n → {w : Weight} → w ≡ weight t (suc i) (edits_from xs [] i (n - i))
    → weighed t i (edit_of (place_in xs (i - 1)).operation (place_in xs (i - 1)).table []) w ≡ weight t (suc (i - 1)) (edits_from xs [] (i - 1) (n - (i - 1)))
weigh-next t xs i n p h {w} e =
    let j : suc (i - 1) ≡ i = omega arith in
    let d = edit_of (place_in xs (i - 1)).operation (place_in xs (i - 1)).table [] in
    ap (weighed t i d) e ∙ ap (λ k. weighed t k d (weight t (suc k) (edits_from xs [] k (n - k)))) (sym j)
    ∙ sym (ap (weight t (suc (i - 1))) (edits-next xs [] (i - 1) n (omega arith)))

-- weights of a set are small
pub weight-few : (t : Table) (xs : List SetEdit) (i n m : ℕ) {w : Weight} → w ≡ weight t (suc i) (edits_from xs [] i (n - i)) → n - i < m
    → (w.creates < m) × (w.removals < m)
weight-few t xs i n m e h =
    let k = weight-most t (suc i) (edits_from xs [] i (n - i)) in
    rw e (omega (arith, k.0, length-edits xs [] i (n - i)), omega (arith, k.1, length-edits xs [] i (n - i)))

-- whether one of the edits from place i on passes: the one there, or one behind it
module _ (test : Edit → Bool) (xs : List SetEdit) (bytes : List ℕ) (i n : ℕ) (h : i < n) where
  pub any_here : test (edit_in (place_in xs i) bytes) ≡ true → any test (edits_from xs bytes i (n - i)) ≡ true
  any_here e = rw (edits-next xs bytes i n h, e)

  pub any_next : test (edit_in (place_in xs i) bytes) ≡ false → any test (edits_from xs bytes (i + 1) (n - (i + 1))) ≡ any test (edits_from xs bytes i (n - i))
  any_next e = let j : i + 1 ≡ suc i = omega arith in rw (edits-next xs bytes i n h, e, j)

-- whether the keys of the edits from place i on differ: that of the one there from those behind it, and these
module _ (xs : List SetEdit) (bytes : List ℕ) (i n : ℕ) (h : i < n) where
  abbrev repeated : Bool
  repeated = any (same_key (edit_in (place_in xs i) bytes)) (edits_from xs bytes (suc i) (n - suc i))

  pub differ-here : repeated ≡ true → keys_differ (edits_from xs bytes i (n - i)) ≡ false
  differ-here e = rw (edits-next xs bytes i n h, e)

  pub differ-next : repeated ≡ false → keys_differ (edits_from xs bytes (i + 1) (n - (i + 1))) ≡ keys_differ (edits_from xs bytes i (n - i))
  differ-next e = let j : i + 1 ≡ suc i = omega arith in rw (edits-next xs bytes i n h, e, j)

-- the first refusal of the edits from place i on: that of the one there, or of those behind it
module _ (judged : Edit → Edited) (xs : List SetEdit) (bytes : List ℕ) (i n : ℕ) (h : i < n) where
  abbrev here : Edit
  here = edit_in (place_in xs i) bytes

  pub refused-here : is_done (judged here) ≡ false → first_refused judged (suc i) (edits_from xs bytes i (n - i)) ≡ answer_at (judged here) (i + 1)
  unfolding or_next
  refused-here e = let j : i + 1 ≡ suc i = omega arith in rw (edits-next xs bytes i n h, e, j)

  pub refused-next : is_done (judged here) ≡ true
      → first_refused judged (suc (i + 1)) (edits_from xs bytes (i + 1) (n - (i + 1))) ≡ first_refused judged (suc i) (edits_from xs bytes i (n - i))
  unfolding or_next
  refused-next e = let j : i + 1 ≡ suc i = omega arith in rw (edits-next xs bytes i n h, e, j)
