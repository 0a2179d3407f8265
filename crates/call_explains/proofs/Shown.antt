-- A row that was handed back lies whole at the front of its room, and its fields are those of the row shown; so what is told of the rooms is the text of
-- the explanation. And it is short. Assumes nothing.
use mathlib.Core.Path.{◌≡◌, refl, sym, ap, ◌∙◌}
use mathlib.Core.Bool.{true}
use mathlib.Core.List.{List, ◌∷◌, ◌++◌}
use mathlib.Core.Option.{Option, none, some, map}
use Prim.Native.Nat.{ℕ, ◌+◌, ◌-◌, ◌≤◌}
use native.Mathlib.Nat.{sub-zero}
use native.Mathlib.Omega.{arith}
use lib.ListN.{length, take, drop, length-append}
use lib.Seq.{take-append_seam}
use Rattle.std.specs.Prelude.{Some, None}
use Rattle.numbers.specs.Laid.{laid}
use Rattle.numbers.specs.Lists.{OnSome}
use Rattle.numbers.proofs.Laid.{laid_nil}
use Rattle.rows.specs.declared.Shape.{Shape}
use Rattle.rows.specs.declared.Table.{Table}
use Rattle.rows.specs.declared.Table.TheVariants.{Mapping, Access, View}
use Rattle.rows.specs.Fields.{legals, row_bytes, values, faults}
use Rattle.rows.specs.Rows.{row_fields}
use Rattle.rows.specs.Tables.{Tables}
use Rattle.rows.proofs.Inverse.{faults-made, values-made}
use Rattle.decision_steps.specs.Request.{Request}
use Rattle.explain_rules.specs.Types.{Shown}
use Rattle.explain_rules.specs.declared.Explained.{Explained}
use Rattle.explain_rules.specs.Explanation.{Explanation, explanation, shown, lent, Shows, Rooms, HandsBack}
use Rattle.text_values.specs.Texts.{decimal_text, Puts}
use Rattle.text_values.proofs.Digits.{length-decimal}
use Rattle.text_rows.specs.RowText.{row_text}
use Rattle.text_rows.proofs.TextLength.{length-entry}
use Rattle.call_answers.specs.Answers.{answer_room, Told}
use Rattle.call_explains.specs.Texts.{shown_text, text_of, explanation_text, RowIn, WholeIn, fields_in, handed_text}

-- ---- a row handed back

module _ {R : Type 0} (t : Table) (fields_of : R → List (List ℕ)) where
  abbrev bytes : R → List ℕ
  bytes x = row_bytes (row_fields t) (fields_of x)

  front : (b w : List ℕ) → take (length b) (laid 0 b w) ≡ b
  front b w = take-append_seam b (drop (0 + length b) w)

  whole : (row : Option R) (found : List ℕ) → OnSome (λ x. legals (row_fields t) (fields_of x) ≡ true) row
      → WholeIn t (shown (map bytes row)) (lent (map bytes row) found)
  whole none found h = tt
  whole (some x) found h = record {
    inside = omega (arith, length-append (bytes x) (drop (0 + length (bytes x)) found));
    sound = rw (front (bytes x) found) (faults-made (row_fields t) (fields_of x) h);
    legal = rw (front (bytes x) found, values-made (row_fields t) (fields_of x) h) h;
  }

  fields : (row : Option R) (found : List ℕ) → OnSome (λ x. legals (row_fields t) (fields_of x) ≡ true) row
      → fields_in t (shown (map bytes row)) (lent (map bytes row) found) ≡ map fields_of row
  fields none found h = refl
  fields (some x) found h = ap some (ap (values (row_fields t)) (front (bytes x) found) ∙ values-made (row_fields t) (fields_of x) h)

  module _ {row : Option R} {found after : List ℕ} {r : Shown} (s : Shows t fields_of row found after r) where
    pub shown-whole : WholeIn t r after
    shown-whole = rw (s.length_is, s.room_is) (whole row found s.legal)

    pub shown-fields : fields_in t r after ≡ map fields_of row
    shown-fields = rw (s.length_is, s.room_is) (fields row found s.legal)

-- ---- told from the room

module _ (t : Table) {s : Shown} (room : List ℕ) where
  module _ {n : ℕ} (q : s ≡ Some n) where
    pub row_in : WholeIn t s room → RowIn t n room
    row_in h = rw q at h

    pub row-sound : WholeIn t s room → faults (row_fields t) (take (n - 0) room) ≡ none
    row-sound h = rw (sub-zero n) (row_in h).sound

    pub row-text : shown_text t (fields_in t s room) ≡ 32 ∷ row_text t (values (row_fields t) (take (n - 0) room))
    row-text = rw (q, sub-zero n)

  module _ (q : s ≡ None) where
    pub none_told : {at : ℕ} {w : List ℕ} → Puts (shown_text t (fields_in t s room)) at w w at
    none_told {at} {w} = rw q (record { lays = sym (laid_nil at w); ends = omega arith })

-- ---- the text

same_text : {n n' : ℕ} {m m' a a' v v' : Option (List (List ℕ))} → n ≡ n' → m ≡ m' → a ≡ a' → v ≡ v' → text_of n m a v ≡ text_of n' m' a' v'
same_text e f g h = rw (e, f, g, h)

pub handed-text : {e : Explanation} {found after : Rooms} {r : Explained} → HandsBack e found after r → handed_text r after ≡ explanation_text e
handed-text k =
    same_text k.number_is (shown-fields Mapping _ k.mapping_is) (shown-fields Access _ k.access_is) (shown-fields View _ k.view_is)

-- of an equal request the same is told
pub told-as : (tables : Option Tables) {q q' : Request} {at : ℕ} {w out : List ℕ} {end : ℕ} → q ≡ q'
    → Told (explanation_text (explanation tables q)) at w out end → Told (explanation_text (explanation tables q')) at w out end
told-as tables e h = rw (← e) h

pub shown-short : (t : Table) (s : Shown) (room : List ℕ) → WholeIn t s room → length (shown_text t (fields_in t s room)) ≤ 901
shown-short t (Some n) room w = omega (arith, length-entry Shape.Row t (values (row_fields t) (take n room)) w.legal)
shown-short t None room w = omega arith

pub text-short : (n : ℕ) (m a v : Option (List (List ℕ))) → length (shown_text Mapping m) ≤ 901 → length (shown_text Access a) ≤ 901
    → length (shown_text View v) ≤ 901 → length (text_of n m a v) ≤ answer_room
text-short n m a v e f g =
    let x = shown_text Mapping m in
    let y = shown_text Access a in
    let z = shown_text View v in
    omega (arith, length-append (decimal_text n) (x ++ (y ++ z)), length-append x (y ++ z), length-append y z, length-decimal n, e, f, g)
