-- Every key has a place, and there are bytes in which a row is exchanged there: those that the splice and the new count make of the bytes found.
-- The place is told by the rows before the key; the splice moves as many bytes as it leaves; and octets put beside octets are octets. Assumes nothing.
use mathlib.Core.Path.{◌≡◌, refl, sym, ap, ◌∙◌}
use mathlib.Core.Bool.{cond}
use mathlib.Core.List.{List, [], ◌∷◌, ◌++◌}
use Prim.Native.Nat.{ℕ, zero, suc, ◌+◌, ◌-◌, ◌*◌, ◌/◌, ◌%◌, ◌<◌}
use native.Mathlib.Omega.{arith}
use lib.Dec.{ltb}
use lib.ListN.{length, take, drop, get_or, set, length-append, length-drop, length-take, take-append-drop}
use lib.Seq.{length-take-le}
use Rattle.rows.specs.declared.Table.{Table}
use Rattle.numbers.specs.BigEndian.{Octets}
use Rattle.numbers.proofs.BigEndian.{octets-drop, octets-take}
use Rattle.splice.specs.Splice.{spliced_two}
use Rattle.image_layout.specs.declared.Extent.{Extent}
use Rattle.image_layout.specs.Layout.{total, lengths_in, rows_in}
use Rattle.image_layout.proofs.Layouts.{total-append}
use Rattle.table_update.specs.declared.Place.{Place}
use Rattle.table_update.specs.Exchange.{count_at, one_if, rows_before, is_held, Sought, TablePlace, RoomFor, one_row, Exchanges}
use Rattle.table_update.proofs.Seeks.{place}
use Rattle.table_update.proofs.Splits.{length-rows}
use Rattle.table_update.proofs.Swaps.{Swap}
use Rattle.table_update.proofs.Exchanges.{swap, few-rows, exchanges-row, one-if-most}
use Rattle.table_update.proofs.Faults.{place-fits}

-- ---- a key's place

module _ (w : List ℕ) (x : Extent) (key : List ℕ) where
  abbrev at : ℕ
  at = rows_before key (rows_in w x)

  abbrev from : ℕ
  from = x.rows + total (take at (lengths_in w x))

  abbrev pub place_of : Place
  place_of = place at from (from + cond (is_held key (rows_in w x)) (get_or (lengths_in w x) at 0) 0) (is_held key (rows_in w x))

  pub place-sought : Sought w x key place_of
  place-sought =
      let l = lengths_in w x in
      let t : total (take at l) + total (drop at l) ≡ total l = sym (total-append (take at l) (drop at l)) ∙ ap total (take-append-drop at l) in
      record {
        place_in = record {
          row_in = omega (arith, place-fits key (rows_in w x), length-rows w x);
          from_is = omega (arith, t);
          end_is = refl;
        };
        row_is = refl;
        present_is = refl;
      }

-- ---- octets

octets-append : (a b : List ℕ) → Octets a → Octets b → Octets (a ++ b)
octets-append [] b p q i = q i
octets-append (x ∷ a) b p q zero = p 0
octets-append (x ∷ a) b p q (suc i) = octets-append a b (λ j. p (suc j)) q i

octets-set : (v : List ℕ) (n x : ℕ) → Octets v → x < 256 → Octets (set v n x)
octets-set [] n x p h i = p i
octets-set (y ∷ v) zero x p h zero = h
octets-set (y ∷ v) zero x p h (suc i) = p (suc i)
octets-set (y ∷ v) (suc n) x p h zero = p 0
octets-set (y ∷ v) (suc n) x p h (suc i) = octets-set v n x (λ j. p (suc j)) h i

octets-two : (a b : ℕ) → a < 256 → b < 256 → Octets (a ∷ b ∷ [])
octets-two a b p q zero = p
octets-two a b p q (suc zero) = q
octets-two a b p q (suc (suc i)) = omega arith

-- ---- a row exchanged

module _ {t : Table} {w : List ℕ} {x : Extent} {p : Place} {end : ℕ} (b : Octets w) (q : TablePlace t w x p end) (row : List ℕ) (d : Octets row)
    (r : RoomFor w p end row) where
  abbrev had : ℕ
  had = one_if p.present

  abbrev has : ℕ
  has = one_if (ltb 0 (length row))

  abbrev head : List ℕ
  head = take (2 * has) (length row / 256 ∷ length row % 256 ∷ [])

  abbrev length_at : ℕ
  length_at = x.lengths + 2 * p.row

  abbrev gone : ℕ
  gone = p.end - p.from

  abbrev moved : List ℕ
  moved = spliced_two w length_at (2 * had) head p.from gone end row

  abbrev pub after : List ℕ
  after = set moved (count_at t) (x.count + has - had)

  there : Swap w p.from gone length_at had end
  there = swap b q

  head-length : length head ≡ 2 * has
  head-length = omega (arith, length-take (2 * has) (length row / 256 ∷ length row % 256 ∷ []), one-if-most (ltb 0 (length row)))

  moved_length : length moved ≡ length w
  moved_length =
      let s = there in
      let e = q.image_in.end_in in
      let f = r.row_fits in
      let m = one-if-most (ltb 0 (length row)) in
      let a : length (take length_at w) ≡ length_at = length-take-le length_at w (omega (arith, s.place_is, s.from_is, s.had_is, s.end_is)) in
      let c : length (take (p.from - (length_at + 2 * had)) (drop (length_at + 2 * had) w)) ≡ p.from - (length_at + 2 * had) =
      length-take-le (p.from - (length_at + 2 * had)) (drop (length_at + 2 * had) w)
      (omega (arith, length-drop (length_at + 2 * had) w, s.place_is, s.from_is, s.had_is, s.end_is)) in
      let g : length (take (end - (p.from + gone)) (drop (p.from + gone) w)) ≡ end - (p.from + gone) =
      length-take-le (end - (p.from + gone)) (drop (p.from + gone) w) (omega (arith, length-drop (p.from + gone) w, s.end_is)) in
      simp (length-append, a, c, g, head-length, length-drop) (omega (arith, s.place_is, s.from_is, s.had_is, s.end_is, s.gone_is))

  pub after-exchanges : Exchanges t p.row (one_if p.present) (one_row row) w after
  after-exchanges =
      let n = length row in
      let e : n / 256 ≡ n / 256 % 256 = omega (arith, r.length_said) in
      exchanges-row b q row (ap (λ k. k ∷ n % 256 ∷ []) e) refl r.length_said refl refl refl refl moved_length

  pub after-octets : Octets after
  after-octets =
      let n = length row in
      octets-set moved (count_at t) (x.count + has - had)
      (octets-append (take length_at w) _ (octets-take length_at w b)
      (octets-append head _
      (octets-take (2 * has) (n / 256 ∷ n % 256 ∷ []) (octets-two (n / 256) (n % 256) (omega (arith, r.length_said)) (omega arith)))
      (octets-append (take (p.from - (length_at + 2 * had)) (drop (length_at + 2 * had) w)) _
      (octets-take (p.from - (length_at + 2 * had)) (drop (length_at + 2 * had) w) (octets-drop (length_at + 2 * had) w b))
      (octets-append row _ d
      (octets-append (take (end - (p.from + gone)) (drop (p.from + gone) w)) _
      (octets-take (end - (p.from + gone)) (drop (p.from + gone) w) (octets-drop (p.from + gone) w b))
      (octets-drop (end - gone - 2 * had + length head + length row) w b))))))
      (omega (arith, few-rows b q, one-if-most (ltb 0 n)))
