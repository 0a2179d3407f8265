-- Fields read one behind the other.
-- A field that was taken ends where the next begins, in the index and in the key (`Took`), and the two are laid as one. Where a field is not
-- taken, neither are fields that begin with it. So what is left to be read decides what all are read as (`OnWay`). Assumes nothing.
use mathlib.Core.Path.{◌≡◌, refl, sym, ap, ◌∙◌}
use mathlib.Core.List.{List, [], ◌∷◌, ◌++◌, append-nil}
use mathlib.Core.Option.{Option, none, some, map, Option-elim, bind}
use Prim.Native.Nat.{ℕ, suc, ◌+◌, ◌-◌, ◌≤◌, ◌<◌}
use native.Mathlib.Nat.{add-zero}
use native.Mathlib.Numerals.{add-one}
use native.Mathlib.Omega.{arith}
use lib.ListN.{length, drop, get_or, replicate, length-append}
use lib.Seq.{drop-cons, get_or-take}
use Rattle.std.specs.Prelude.{Some, None}
use Rattle.std.proofs.lemmas.Option.{some_pair_parts}
use Rattle.numbers.specs.BigEndian.{octet}
use Rattle.rows.proofs.Forms.{key-first}
use Rattle.rows.specs.declared.Table.{Table}
use Rattle.rows.specs.Fields.{Field, integer, field_bytes, row_bytes}
use Rattle.rows.specs.Forms.{field_in}
use Rattle.rows.specs.Rows.{key_fields, row_fields}
use Rattle.rows.proofs.Bounds.{longest_field, longest}
use Rattle.instance_fields.specs.Types.{Read}
use Rattle.numbers.specs.Laid.{laid}
use Rattle.instance_fields.specs.Indices.{Parsed, parse_field, led, parse_fields}
use Rattle.instance_fields.specs.Reading.{Reads, ReadsField, ReadsFields, field_front, key_front}
use Rattle.instance_fields.proofs.Indices.{parsed}
use Rattle.instance_fields.proofs.Fronts.{field-front, front-next}
use Rattle.instance_fields.proofs.Takes.{bytes_most}
use Rattle.numbers.proofs.Laid.{laid_nil, length-laid, laid-laid}

-- ---- what was taken, once the next places are known

pub record Took {A : Type 0} (bytes : A → List ℕ) (o : Option (Parsed A)) (index found after : List ℕ) (byte next end : ℕ) : Type 0 where
  pub it : Parsed A
  pub is : o ≡ some it
  pub rest_is : it.rest ≡ drop next index
  pub byte_is : end ≡ byte + length (bytes it.holds)
  pub buffer_is : after ≡ laid byte (bytes it.holds) found

-- what is parsed whole is laid whole
pub took : {A : Type 0} (bytes : A → List ℕ) (index found after : List ℕ) (byte : ℕ) (o : Option (Parsed A)) (front : List ℕ) {r : Read} {next end : ℕ}
    → ((p : Parsed A) → o ≡ some p → front ≡ bytes p.holds) → Reads bytes o index byte r → after ≡ laid byte front found → r ≡ Some (next, end)
    → Took bytes o index found after byte next end
took bytes index found after byte none front h e b n = let z : ◌≡◌ {A = ℕ} 0 1 = cc in absurd (omega arith)
took bytes index found after byte (some p) front {r} {next} {end} h t b n =
    let q = some_pair_parts t.next next t.end end (sym t.answer_is ∙ n) in
    record {
      it = p;
      is = refl;
      rest_is = rw (← q.0) t.rest_is;
      byte_is = rw (← q.1) t.byte_is;
      buffer_is = b ∙ ap (λ u. laid byte u found) (h p refl);
    }

pub untaken : {A : Type 0} (bytes : A → List ℕ) (index : List ℕ) (byte : ℕ) (o : Option (Parsed A)) {r : Read} → Reads bytes o index byte r → r ≡ None
    → o ≡ none
untaken bytes index byte none e b = refl
untaken bytes index byte (some p) t b = let f = t.answer_is in cc

-- ---- a field, and fields behind it

-- the first is not taken
module _ (k : Field) (ks : List Field) (index : List ℕ) (at : ℕ) (e : parse_field k (drop at index) ≡ none) where
  unread : (byte : ℕ) → ReadsFields (k ∷ ks) index at byte None
  unfolding parse_fields bind
  unread byte = rw e refl

  unread-front : key_front (k ∷ ks) (drop at index) ≡ field_front k (drop at index)
  unfolding key_front Option-elim
  unread-front = rw e (append-nil (field_front k (drop at index)))

-- none is left
nothing_left : (index : List ℕ) (at byte : ℕ) → ReadsFields [] index at byte (Some (at, byte))
unfolding parse_fields bind
nothing_left index at byte = record { next = at; end = byte; answer_is = refl; rest_is = refl; byte_is = sym (add-zero byte) }

-- the first is taken
module _ (k : Field) (index found mid : List ℕ) (at byte next end : ℕ)
    (t : Took (field_bytes k) (parse_field k (drop at index)) index found mid byte next end) (room : byte + longest_field k ≤ length found) where
  field-most : length (field_bytes k t.it.holds) ≤ longest_field k
  field-most = bytes_most k t.it.holds (parsed k (drop at index) t.it t.is).lawful

  inside : byte + length (field_bytes k t.it.holds) ≤ length found
  inside = omega (arith, field-most)

  advanced : end ≤ byte + longest_field k
  advanced = omega (arith, field-most, t.byte_is)

  same_length : length mid ≡ length found
  same_length = ap length t.buffer_is ∙ length-laid byte (field_bytes k t.it.holds) found inside

  join : (ks : List Field) (r : Read) (o : Option (Parsed (List (List ℕ)))) → Reads (row_bytes ks) o index end r
      → Reads (row_bytes (k ∷ ks)) (map (led t.it.holds) o) index byte r
  join ks r none e = e
  join ks r (some q) e = record {
    next = e.next;
    end = e.end;
    answer_is = e.answer_is;
    rest_is = e.rest_is;
    byte_is = omega (arith, e.byte_is, t.byte_is, length-append (field_bytes k t.it.holds) (row_bytes ks q.holds));
  }

  joined : (ks : List Field) (r : Read) → ReadsFields ks index next end r → ReadsFields (k ∷ ks) index at byte r
  unfolding parse_fields bind
  joined ks r e = rw (t.is, t.rest_is) (join ks r (parse_fields ks (drop next index)) e)

  joined-front : (ks : List Field) → key_front (k ∷ ks) (drop at index) ≡ field_bytes k t.it.holds ++ key_front ks (drop next index)
  joined-front ks = front-next k ks (drop at index) t.it t.is ∙ ap (λ v. field_bytes k t.it.holds ++ key_front ks v) t.rest_is

  joined-laid : (ks : List Field) → laid end (key_front ks (drop next index)) mid ≡ laid byte (key_front (k ∷ ks) (drop at index)) found
  joined-laid ks =
      let x = field_bytes k t.it.holds in
      let y = key_front ks (drop next index) in
      ap (λ n. laid n y mid) t.byte_is ∙ ap (laid (byte + length x) y) t.buffer_is ∙ laid-laid byte x y found inside
      ∙ ap (λ u. laid byte u found) (sym (joined-front ks))

-- ---- on the way through fields

-- from the place `at` on the fields ks are left; where they are read and laid from there, all are read and laid from the first place
pub record OnWay (all : List Field) (index found : List ℕ) (at₀ byte₀ : ℕ) (ks : List Field) (mid : List ℕ) (at byte : ℕ) : Type 0 where
  pub room : byte + longest ks ≤ length mid
  pub onward : (r : Read) → ReadsFields ks index at byte r → ReadsFields all index at₀ byte₀ r
  pub lays : laid byte (key_front ks (drop at index)) mid ≡ laid byte₀ (key_front all (drop at₀ index)) found

pub way-start : (all : List Field) (index found : List ℕ) (at byte : ℕ) → byte + longest all ≤ length found
    → OnWay all index found at byte all found at byte
way-start all index found at byte h = record { room = h; onward = λ r e. e; lays = refl }

module _ {all : List Field} {index found : List ℕ} {at₀ byte₀ : ℕ} {k : Field} {ks : List Field} {mid : List ℕ} {at byte : ℕ}
    (w : OnWay all index found at₀ byte₀ (k ∷ ks) mid at byte) {r : Read} (e : ReadsField k index at byte r)
    (after : List ℕ) (b : after ≡ laid byte (field_front k (drop at index)) mid) where
  pub way_next : {next end : ℕ} → r ≡ Some (next, end) → OnWay all index found at₀ byte₀ ks after next end
  way_next {next} {end} n =
      let v = drop at index in
      let t = took (field_bytes k) index mid after byte (parse_field k v) (field_front k v) (field-front k v) e b n in
      let h : byte + longest_field k ≤ length mid = omega (arith, w.room) in
      record {
        room = omega (arith, w.room, advanced k index mid after at byte next end t h, same_length k index mid after at byte next end t h);
        onward = λ r' e'. w.onward r' (joined k index mid after at byte next end t h ks r' e');
        lays = joined-laid k index mid after at byte next end t h ks ∙ w.lays;
      }

  module _ (n : r ≡ None) where
    none-taken : parse_field k (drop at index) ≡ none
    none-taken = untaken (field_bytes k) index byte (parse_field k (drop at index)) e n

    pub way-stop : ReadsFields all index at₀ byte₀ None
    way-stop = w.onward None (unread k ks index at none-taken byte)

    pub stop-lays : after ≡ laid byte₀ (key_front all (drop at₀ index)) found
    stop-lays = b ∙ ap (λ u. laid byte u mid) (sym (unread-front k ks index at none-taken)) ∙ w.lays

module _ {all : List Field} {index found : List ℕ} {at₀ byte₀ : ℕ} {mid : List ℕ} {at byte : ℕ} (w : OnWay all index found at₀ byte₀ [] mid at byte) where
  pub way_end : ReadsFields all index at₀ byte₀ (Some (at, byte))
  way_end = w.onward (Some (at, byte)) (nothing_left index at byte)

  pub end-lays : mid ≡ laid byte₀ (key_front all (drop at₀ index)) found
  unfolding key_front
  end-lays = sym (laid_nil byte mid) ∙ w.lays

-- ---- the next of fields alike, and of a key's fields: its first is known by a name of its own

module _ {all : List Field} {index found : List ℕ} {at₀ byte₀ : ℕ} {mid : List ℕ} {at byte : ℕ} {k : Field} where
  pub next-alike : {f : Field} (n i : ℕ) → k ≡ f → OnWay all index found at₀ byte₀ (replicate (n - i) f) mid at byte → i < n
      → OnWay all index found at₀ byte₀ (k ∷ replicate (n - (i + 1)) f) mid at byte
  next-alike n i e w h =
      let m : n - i ≡ suc (n - (i + 1)) = omega (arith, h) in
      rw e (rw m at w)

  pub next-of-key : (t : Table) (i : ℕ) → k ≡ field_in (row_fields t) i → OnWay all index found at₀ byte₀ (drop i (key_fields t)) mid at byte
      → i < length (key_fields t) → OnWay all index found at₀ byte₀ (k ∷ drop (i + 1) (key_fields t)) mid at byte
  next-of-key t i e w h =
      let d : Field = integer octet 1 2 in
      let g : get_or (key_fields t) i d ≡ get_or (row_fields t) i d =
      ap (λ ks. get_or ks i d) (sym (key-first t)) ∙ get_or-take (length (key_fields t)) (row_fields t) i d h in
      let m : drop i (key_fields t) ≡ field_in (row_fields t) i ∷ drop (i + 1) (key_fields t) =
      rw (add-one i) (drop-cons (key_fields t) i d h) ∙ ap (λ f. f ∷ drop (i + 1) (key_fields t)) g in
      rw e (rw m at w)
