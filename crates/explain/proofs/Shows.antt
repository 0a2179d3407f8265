-- A row shown. The bytes of a whole row are those of its fields, so that what is copied from where a row was found is the row that was picked; where none
-- was found, none was picked. And a whole row is no longer than the room. Assumes nothing.
use mathlib.Core.Path.{◌≡◌, refl, sym, ap, ◌∙◌}
use mathlib.Core.Bool.{true}
use mathlib.Core.List.{List}
use mathlib.Core.Option.{Option, none, some, map}
use Prim.Native.Nat.{ℕ, ◌-◌, ◌≤◌}
use native.Mathlib.Omega.{arith}
use lib.ListN.{length, drop, length-drop}
use lib.Seq.{length-take-le}
use Rattle.std.specs.Prelude.{Some, None}
use Rattle.numbers.specs.BigEndian.{Octets}
use Rattle.numbers.specs.Laid.{laid}
use Rattle.numbers.specs.Lists.{OnSome}
use Rattle.numbers.proofs.BigEndian.{octets-drop, octets-take}
use Rattle.rows.specs.declared.Table.{Table}
use Rattle.rows.specs.Fields.{values, legals, row_bytes}
use Rattle.rows.specs.Rows.{row_fields, row_max}
use Rattle.rows.proofs.Bounds.{longest-most, row-bounded}
use Rattle.rows.proofs.Inverse.{bytes-again, legals-read}
use Rattle.image_layout.proofs.Walks.{piece}
use Rattle.decision_steps.specs.Bytes.{Whole}
use Rattle.decision_find.specs.Types.{Found}
use Rattle.decision_find.specs.Found.{bytes_at, Lies, FoundIn, Chosen}
use Rattle.explain_rules.specs.Types.{Shown}
use Rattle.explain_rules.specs.Explanation.{shown, lent, Shows}

-- ---- what is copied

module _ (w room : List ℕ) {f : Found} {a e : ℕ} (q : f ≡ Some (a, e)) where
  pub found-lies : FoundIn w f → Lies w a e
  found-lies h = rw q at h

  pub found-short : OnSome (λ v. length v ≤ length room) (bytes_at w f) → length (piece w a e) ≤ length room
  found-short h = rw q at h

  pub shown-row : FoundIn w f → Some (e - a) ≡ shown (bytes_at w f)
  shown-row h =
      let l = found-lies h in
      rw q (ap Some (sym (length-take-le (e - a) (drop a w) (omega (arith, l.starts, l.ends, length-drop a w)))))

  pub lent_row : {after : List ℕ} → after ≡ laid 0 (piece w a e) room → after ≡ lent (bytes_at w f) room
  lent_row h = rw q h

module _ (w room : List ℕ) {f : Found} (q : f ≡ None) where
  pub shown-none : None ≡ shown (bytes_at w f)
  shown-none = rw q

  pub lent_none : room ≡ lent (bytes_at w f) room
  lent_none = rw q

-- ---- what it is

-- no longer than the room
fits : (t : Table) (o : Option (List ℕ)) {n : ℕ} → row_max ≤ n → OnSome (Whole t) o → OnSome (λ v. length v ≤ n) o
fits t none h w = tt
fits t (some v) h w = omega (arith, h, row-bounded t v w, longest-most t)

pub row_fits : {R : Type 0} {t : Table} {of : List ℕ → R} {w : List ℕ} {f : Found} {choice : Option R} {n : ℕ} → Chosen t of w f choice → row_max ≤ n
    → OnSome (λ v. length v ≤ n) (bytes_at w f)
row_fits {t = t} {w = w} {f = f} k h = fits t (bytes_at w f) h k.whole

found-octets : (w : List ℕ) (f : Found) → Octets w → OnSome Octets (bytes_at w f)
found-octets w (Some (at, end)) o = octets-take (end - at) (drop at w) (octets-drop at w o)
found-octets w None o = tt

-- a row of table t, read by `of`
module _ {R : Type 0} (t : Table) (of : List ℕ → R) (fields_of : R → List (List ℕ)) (reads : (v : List ℕ) → fields_of (of v) ≡ values (row_fields t) v) where
  again : (o : Option (List ℕ)) → OnSome Octets o → OnSome (Whole t) o → o ≡ map (λ x. row_bytes (row_fields t) (fields_of x)) (map of o)
  again none b w = refl
  again (some v) b w = ap some (sym (ap (row_bytes (row_fields t)) (reads v) ∙ bytes-again (row_fields t) v b w))

  legal-row : (o : Option (List ℕ)) → OnSome Octets o → OnSome (Whole t) o → OnSome (λ x. legals (row_fields t) (fields_of x) ≡ true) (map of o)
  legal-row none b w = tt
  legal-row (some v) b w = rw (reads v) (legals-read (row_fields t) v b w)

  pub row-shown : {w : List ℕ} {f : Found} {choice : Option R} → Octets w → Chosen t of w f choice → {r : Shown} {found after : List ℕ}
      → r ≡ shown (bytes_at w f) → after ≡ lent (bytes_at w f) found → Shows t fields_of choice found after r
  row-shown {w} {f} b k {found = found} e l =
      rw (← k.is) (record {
        length_is = e ∙ ap shown (again (bytes_at w f) (found-octets w f b) k.whole);
        room_is = l ∙ ap (λ o. lent o found) (again (bytes_at w f) (found-octets w f b) k.whole);
        legal = legal-row (bytes_at w f) (found-octets w f b) k.whole;
      })
