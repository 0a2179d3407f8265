-- A row handed back. The bytes of the key at the front of a whole row are those of the key's fields (`rows`, proofs/Keys.antt); so what is laid into the
-- lent room is the key of the row that was chosen, and its length is the key's. A fault and none lay nothing. Assumes nothing.
use mathlib.Core.Path.{◌≡◌, refl, sym, ap, ◌∙◌}
use mathlib.Core.List.{List}
use mathlib.Core.Option.{Option, none, some}
use Prim.Native.Nat.{ℕ, ◌-◌}
use lib.ListN.{length, take, drop}
use Rattle.answers.specs.declared.Fault.{Fault}
use Rattle.numbers.specs.BigEndian.{Octets}
use Rattle.numbers.specs.Laid.{laid}
use Rattle.numbers.proofs.BigEndian.{octets-drop, octets-take}
use Rattle.rows.specs.declared.Table.{Table}
use Rattle.rows.specs.declared.Table.TheVariants.{Access, View}
use Rattle.rows.specs.Fields.{values, span}
use Rattle.rows.specs.Rows.{key_fields, row_fields, access_of, view_of}
use Rattle.rows.proofs.Keys.{front_bytes, front-legal, front_length}
use Rattle.image_layout.proofs.Walks.{piece}
use Rattle.decision_steps.specs.Bytes.{Whole}
use Rattle.decision_match.specs.Matches.{Choice, faulty, chosen, view_key_of, access_key_of, key_bytes, HandsBack}

pub piece-octets : (w : List ℕ) (a e : ℕ) → Octets w → Octets (piece w a e)
piece-octets w a e o = octets-take (e - a) (drop a w) (octets-drop a w o)

-- the fields of a key are the first of its row's
pub view-key : (v : List ℕ) → view_key_of (view_of v) ≡ values (key_fields View) v
unfolding key_fields row_fields
view-key v = refl

pub access-key : (v : List ℕ) → access_key_of (access_of v) ≡ values (key_fields Access) v
unfolding key_fields row_fields
access-key v = refl

module _ {R A : Type 0} {t : Table} {key_of : R → List (List ℕ)} {answer : Choice R → A} {number : A → ℕ} {found : List ℕ} where
  pub hands-faulty : {c : Choice R} {f : Fault} → c ≡ faulty f → HandsBack t key_of answer number c found found (answer (faulty f))
  hands-faulty e = rw e (record { answer_is = refl; number_is = refl; room_is = refl; key_legal = tt })

  pub hands_none : {choice : Option R} → choice ≡ none → HandsBack t key_of answer number (chosen choice) found found (answer (chosen none))
  hands_none e = rw e (record { answer_is = refl; number_is = refl; room_is = refl; key_legal = tt })

-- the row v of table t, read by `of`
module _ {R : Type 0} (t : Table) (of : List ℕ → R) (key_of : R → List (List ℕ)) (reads : (v : List ℕ) → key_of (of v) ≡ values (key_fields t) v)
    (v : List ℕ) (o : Octets v) (w : Whole t v) where
  key_is : key_bytes t (key_of (of v)) ≡ take (span (key_fields t) v) v
  key_is = ap (key_bytes t) (reads v) ∙ front_bytes t v o w

  pub key-counted : {n : ℕ} → n ≡ span (key_fields t) v → n ≡ length (key_bytes t (key_of (of v)))
  key-counted e = e ∙ sym (ap (λ xs. length (key_bytes t xs)) (reads v) ∙ front_length t v o w)

  pub hands-row : {A : Type 0} {answer : Choice R → A} {number : A → ℕ} {found after : List ℕ} {choice : Option R} (n : ℕ) {r : A}
      → choice ≡ some (of v) → n ≡ span (key_fields t) v → after ≡ laid 0 (take n v) found → r ≡ answer (chosen (some (of v)))
      → HandsBack t key_of answer number (chosen choice) found after r
  hands-row {number = number} {found = found} n c e l a = rw c (record {
    answer_is = a;
    number_is = ap number a;
    room_is = l ∙ ap (λ k. laid 0 k found) (ap (λ m. take m v) e ∙ sym key_is);
    key_legal = rw (reads v) (front-legal t v o w);
  })
