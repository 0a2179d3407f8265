-- Where a field without fault lies, by its form: where it ends, and what it holds as a part of the row's bytes. Assumes nothing.
use mathlib.Core.Path.{◌≡◌, sym, ap, ◌∙◌}
use mathlib.Core.Option.{none}
use mathlib.Core.List.{List}
use Prim.Native.Nat.{ℕ, ◌+◌, ◌-◌, ◌*◌, ◌≤◌}
use native.Mathlib.Omega.{arith}
use lib.ListN.{length, take, drop, get_or, length-drop}
use Rattle.numbers.specs.BigEndian.{octet, quad}
use Rattle.rows.specs.declared.Form.TheVariants.{Name, Subtree, Large, Small}
use Rattle.rows.specs.Fields.{sequence, integer, fault, value}
use Rattle.rows.proofs.Places.{sequence-at, integer-at, octets-at}
use Rattle.decision_steps.specs.Bytes.{identifier}
use Rattle.decision_steps.proofs.Identifiers.{identifier-take}
use Rattle.text_rows.specs.FieldText.{FieldIn}

module _ (lo hi : ℕ) (row : List ℕ) (at : ℕ) where
  -- a name: its count, and as many octets
  module _ (h : fault (sequence octet lo hi) (drop at row) ≡ none) where
    pub name-count : at + 1 ≤ length row
    name-count = let s = sequence-at octet lo hi row at h in omega arith

    pub name_in : (n : ℕ) → n ≡ get_or row at 0 → FieldIn (Name lo hi) row at (at + 1 + n)
    name_in n e = let s = sequence-at octet lo hi row at h in record { sound = h; ends = omega arith; inside = omega arith }

  pub name-start : {end : ℕ} → FieldIn (Name lo hi) row at end → at + 1 ≤ end
  name-start f = let s = sequence-at octet lo hi row at f.sound in omega (arith, f.ends)

  pub name-part : {end : ℕ} → FieldIn (Name lo hi) row at end → take (end - (at + 1)) (drop (at + 1) row) ≡ value (sequence octet lo hi) (drop at row)
  name-part {end} f =
      let s = sequence-at octet lo hi row at f.sound in
      let n : end - (at + 1) ≡ get_or row at 0 = omega (arith, f.ends) in
      ap (λ i. take i (drop (at + 1) row)) n ∙ sym (octets-at lo hi row at (omega arith))

  -- a subtree: its count, and as many numbers of four bytes
  module _ (h : fault (sequence quad lo hi) (drop at row) ≡ none) where
    pub subtree-count : at + 1 ≤ length row
    subtree-count = let s = sequence-at quad lo hi row at h in omega arith

    pub subtree-in : (n : ℕ) → n ≡ get_or row at 0 → FieldIn (Subtree lo hi) row at (at + 1 + 4 * n)
    subtree-in n e = let s = sequence-at quad lo hi row at h in record { sound = h; ends = omega arith; inside = omega arith }

  pub subtree-start : {end : ℕ} → FieldIn (Subtree lo hi) row at end → at + 1 ≤ end
  subtree-start f = let s = sequence-at quad lo hi row at f.sound in omega (arith, f.ends)

  pub subtree-part : {end : ℕ} → FieldIn (Subtree lo hi) row at end
      → identifier (take (end - (at + 1)) (drop (at + 1) row)) ≡ value (sequence quad lo hi) (drop at row)
  subtree-part {end} f =
      let s = sequence-at quad lo hi row at f.sound in
      let n : end - (at + 1) ≡ 4 * get_or row at 0 = omega (arith, f.ends) in
      ap (λ i. identifier (take i (drop (at + 1) row))) n
      ∙ identifier-take (get_or row at 0) (drop (at + 1) row) (omega (arith, length-drop (at + 1) row))
      ∙ sym s.reads

  -- a number of four bytes, and of one
  pub large-in : fault (integer quad lo hi) (drop at row) ≡ none → FieldIn (Large lo hi) row at (at + 4)
  large-in h = let s = integer-at quad lo hi row at h in record { sound = h; ends = omega arith; inside = s.room }

  pub small-in : fault (integer octet lo hi) (drop at row) ≡ none → FieldIn (Small lo hi) row at (at + 1)
  small-in h = let s = integer-at octet lo hi row at h in record { sound = h; ends = omega arith; inside = s.room }
