-- The edits of a set where they lie: one more lies behind those before it, so that these stay, and as many as a set has places are those that it is handed.
-- Assumes nothing.
use mathlib.Core.Path.{◌≡◌, refl, sym, ap, ◌∙◌}
use mathlib.Core.List.{List, [], ◌∷◌, ◌++◌}
use Prim.Native.Nat.{ℕ, suc, ◌+◌, ◌≤◌, ◌<◌}
use native.Mathlib.Nat.{add-zero}
use native.Mathlib.Omega.{arith}
use lib.Dec.{ltb}
use lib.ListN.{length, take, get_or, length-append, length-set, get_or-append}
use lib.Seq.{take-take, get_or-set_same, get_or-set_other, get_or_at}
use borrow.Author.Tests.{ltb-true, ltb-false}
use Rattle.numbers.proofs.Bools.{split as by}
use Rattle.edit_rules.specs.Edits.{Edit, edit_of}
use Rattle.set_rules.specs.declared.SetEdit.{SetEdit}
use Rattle.set_rules.specs.declared.EditSet.{EditSet}
use Rattle.set_rules.specs.Sets.{most_edits}
use Rattle.set_rules.specs.Handed.{edit_in, no_edit, place_in, edits_from, edits_of}
use Rattle.text_rows.specs.declared.Slot.{Slot}
use Rattle.line_fields.proofs.Fronts.{between-kept}
use Rattle.set_words.specs.Reading.{no_edits, placed, with_edit}

-- ---- an edit that lies in front of a place, and stays where what lies there does

record Held (x : SetEdit) (e : Edit) (w : List ℕ) (n : ℕ) : Type 0 where
  is : edit_in x w ≡ e
  forward : x.from ≤ x.end
  inside : x.end ≤ n

held_kept : {x : SetEdit} {e : Edit} {w after : List ℕ} {m n : ℕ} → Held x e w m → take m after ≡ take m w → m ≤ n → Held x e after n
held_kept {x} {e} {w} {after} {m} h k l = record {
  is = sym (ap (edit_of x.operation x.table) (between-kept x.from x.end m w after h.forward h.inside k)) ∙ h.is;
  forward = h.forward;
  inside = omega (arith, h.inside);
}

pub front-on : (m n : ℕ) (w after : List ℕ) → m ≤ n → take n after ≡ take n w → take m after ≡ take m w
front-on m n w after l e = sym (take-take m n after l) ∙ ap (take m) e ∙ take-take m n w l

-- ---- the edits of a set, as far as it has places

abbrev other : Edit
other = edit_in no_edit []

pub record Holds (s : EditSet) (es : List Edit) (w : List ℕ) (n : ℕ) : Type 0 where
  pub count_is : s.count ≡ length es
  pub room : length s.edits ≡ most_edits
  each : (i : ℕ) → i < length es → i < most_edits → Held (place_in s.edits i) (get_or es i other) w n

pub holds-none : (w : List ℕ) (n : ℕ) → Holds no_edits [] w n
holds-none w n = record { count_is = refl; room = refl; each = λ i h. absurd (omega arith) }

listed : (xs : List SetEdit) (w : List ℕ) (es : List Edit) (i : ℕ) → ((j : ℕ) → j < length es → edit_in (place_in xs (i + j)) w ≡ get_or es j other)
    → edits_from xs w i (length es) ≡ es
listed xs w [] i h = refl
listed xs w (e ∷ es) i h =
    let first : edit_in (place_in xs i) w ≡ e = rw (add-zero i) at (h 0 (omega arith)) in
    let rest : edits_from xs w (suc i) (length es) ≡ es =
    listed xs w es (suc i) (λ j l. let q : i + suc j ≡ suc i + j = omega arith in rw q at (h (suc j) (omega arith))) in
    rw (first, rest)

pub holds_on : {s : EditSet} {es : List Edit} {w : List ℕ} {m n : ℕ} → Holds s es w m → m ≤ n → Holds s es w n
holds_on h l = record { count_is = h.count_is; room = h.room; each = λ i a b. held_kept (h.each i a b) refl l }

pub holds-listed : {s : EditSet} {es : List Edit} {w : List ℕ} {n : ℕ} → Holds s es w n → length es ≤ most_edits → edits_of s w ≡ es
holds-listed {s} {es} {w} h l =
    rw h.count_is (listed s.edits w es 0 (λ j m. let z : 0 + j ≡ j = omega arith in rw z (h.each j m (omega arith)).is))

-- one more: it lies where its slot says, behind the others
module _ (e : Slot) (after : List ℕ) where
  abbrev pub new : Edit
  new = edit_in (placed e) after

module _ (e : Slot) (after : List ℕ) {s : EditSet} {es : List Edit} {w : List ℕ} {m n : ℕ} (h : Holds s es w m) (k : take m after ≡ take m w) (l : m ≤ n)
    (forward : e.from ≤ e.end) (inside : e.end ≤ n) where
  holds-new : length es < most_edits → Held (place_in (with_edit s e).edits (length es)) (get_or (es ++ (new e after ∷ [])) (length es) other) after n
  holds-new f =
      let x : place_in (with_edit s e).edits (length es) ≡ placed e =
      rw h.count_is (get_or-set_same s.edits (length es) (placed e) no_edit (omega (arith, h.room))) in
      rw (x, get_or_at es (new e after) [] other (length es) refl) (record { is = refl; forward = forward; inside = inside })

  holds-old : (i : ℕ) → i < length es → i < most_edits → Held (place_in (with_edit s e).edits i) (get_or (es ++ (new e after ∷ [])) i other) after n
  holds-old i a b =
      let x : place_in (with_edit s e).edits i ≡ place_in s.edits i =
      get_or-set_other s.edits s.count i (placed e) no_edit (λ q. omega (arith, h.count_is)) in
      rw (x, get_or-append es (new e after ∷ []) other i a) (held_kept (h.each i a b) k l)

  pub holds_more : Holds (with_edit s e) (es ++ (new e after ∷ [])) after n
  holds_more =
      let c : length (es ++ (new e after ∷ [])) ≡ length es + 1 = length-append es (new e after ∷ []) in
      record {
        count_is = omega (arith, h.count_is);
        room = length-set s.edits s.count (placed e) ∙ h.room;
        each = λ i a b.
            by (ltb i (length es)) (λ t. holds-old i (ltb-true i (length es) t) b)
            (λ f. let q : i ≡ length es = omega (arith, ltb-false i (length es) f) in rw q (holds-new (omega arith)));
      }
