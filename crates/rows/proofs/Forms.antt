-- Fields by their places: the first n of a row, one after the other, and the key's before the others.
-- The field at a place is the next of those from there on, and past the n-th none is left. Assumes nothing.
use mathlib.Core.Path.{◌≡◌, refl, ap, ◌∙◌}
use mathlib.Core.List.{List, [], ◌∷◌}
use Prim.Native.Nat.{ℕ, suc, ◌+◌, ◌≤◌, ◌<◌}
use native.Mathlib.Numerals.{add-one}
use native.Mathlib.Omega.{arith}
use lib.ListN.{length, take, drop, drop_of_length-le}
use lib.Seq.{length-take-le, drop-cons, get_or-take}
use Rattle.numbers.specs.BigEndian.{octet}
use Rattle.rows.specs.declared.Table.{Table}
use Rattle.rows.specs.declared.Table.TheVariants.{Context, Mapping, Access, View}
use Rattle.rows.specs.declared.Form.{Form}
use Rattle.rows.specs.declared.Form.TheVariants.{Name, Subtree, Large, Small}
use Rattle.rows.specs.Fields.{Field, integer}
use Rattle.rows.specs.Forms.{field_of, room_of, field_in}
use Rattle.rows.specs.Rows.{key_fields, rest_fields, row_fields}
use Rattle.rows.proofs.Bounds.{longest_field}

module _ (ks : List Field) (n i : ℕ) where
  pub field-here : i < n → n ≤ length ks → drop i (take n ks) ≡ field_in ks i ∷ drop (i + 1) (take n ks)
  field-here h l =
      let d : Field = integer octet 1 2 in
      let m : i < length (take n ks) = omega (arith, length-take-le n ks l) in
      rw (add-one i) (drop-cons (take n ks) i d m ∙ ap (λ x. x ∷ drop (suc i) (take n ks)) (get_or-take n ks i d h))

  pub fields-gone : n ≤ i → n ≤ length ks → drop i (take n ks) ≡ []
  fields-gone h l = let m : length (take n ks) ≤ i = omega (arith, length-take-le n ks l) in drop_of_length-le (take n ks) m

-- a form's room is what its field allows
pub room-longest : (f : Form) → room_of f ≡ longest_field (field_of f)
room-longest (Name lo hi) = omega arith
room-longest (Subtree lo hi) = omega arith
room-longest (Large lo hi) = refl
room-longest (Small lo hi) = refl

-- the key's fields are the first
pub key-first : (t : Table) → take (length (key_fields t)) (row_fields t) ≡ key_fields t
unfolding key_fields row_fields
key-first Context = refl
key-first Mapping = refl
key-first Access = refl
key-first View = refl

pub key-within : (t : Table) → length (key_fields t) ≤ length (row_fields t)
unfolding key_fields row_fields
key-within Context = omega arith
key-within Mapping = omega arith
key-within Access = omega arith
key-within View = omega arith

-- and the others follow
pub rest-behind : (t : Table) → drop (length (key_fields t)) (take (length (row_fields t)) (row_fields t)) ≡ rest_fields t
unfolding key_fields row_fields
rest-behind Context = refl
rest-behind Mapping = refl
rest-behind Access = refl
rest-behind View = refl

-- what a proof of the code looks through
pub ruleset places = (key-first, key-within, rest-behind)
