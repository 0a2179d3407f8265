-- The fields of a line one after the other: the slots of those passed hold their values, and what the words left say of the kinds left makes
-- the rest (`OnWay`). A field lies behind those before it, so that their slots hold what they held. Assumes nothing.
use mathlib.Core.Path.{◌≡◌, refl, sym, ap, ◌∙◌}
use mathlib.Core.Bool.{Bool, true, false, true≢false}
use mathlib.Core.List.{List, [], ◌∷◌, ◌++◌, append_assoc, append-nil}
use mathlib.Core.Option.{Option, none, some, bind, map}
use Prim.Native.Nat.{ℕ, suc, ◌+◌, ◌*◌, ◌≤◌, ◌<◌}
use native.Mathlib.Numerals.{add-one}
use native.Mathlib.Omega.{arith}
use lib.Dec.{ltb}
use lib.ListN.{length, take, drop, set, length-append, drop_of_length-le, get_or-append}
use lib.Seq.{length-take-le, drop-cons, get_or-set_same, get_or-set_other, get_or_at, get_or-take}
use borrow.Author.Tests.{ltb-true, ltb-false}
use Rattle.numbers.proofs.Bools.{split as by}
use Rattle.numbers.specs.Laid.{laid}
use Rattle.text_words.specs.Words.{between, words_from}
use Rattle.text_words.proofs.Kept.{laid_kept, laid-between}
use Rattle.text_words.proofs.WordsFrom.{none_from, word_over}
use Rattle.line_fields.specs.declared.Kind.{Kind}
use Rattle.line_fields.specs.declared.Kind.TheVariants.{Number}
use Rattle.text_rows.specs.declared.Slot.{Slot}
use Rattle.line_fields.specs.Kinds.{Value, value_of, value_at, plain, Taken, taken, kind_said, values_said}
use Rattle.line_fields.specs.Slots.{in_parts, side, kind_in, slot_in, value_in, plain_slot, Within, Lies, Lent, ReadsFields}
use Rattle.line_fields.specs.Buffers.{buffers, kind_front, laid_in}
use Rattle.line_fields.proofs.Buffers.{kind-front}
use Rattle.line_fields.proofs.Fronts.{between-kept}

-- ---- the kinds left, by their places

pub kinds-here : (ks : List Kind) (n i : ℕ) → i < n → n ≤ length ks → drop i (take n ks) ≡ kind_in ks i ∷ drop (i + 1) (take n ks)
kinds-here ks n i h l =
    let m : i < length (take n ks) = omega (arith, length-take-le n ks l) in
    rw (add-one i) (drop-cons (take n ks) i Number m ∙ ap (λ k. k ∷ drop (suc i) (take n ks)) (get_or-take n ks i Number h))

pub kinds-gone : (ks : List Kind) (n i : ℕ) → n ≤ i → n ≤ length ks → drop i (take n ks) ≡ []
kinds-gone ks n i h l = let m : length (take n ks) ≤ i = omega (arith, length-take-le n ks l) in drop_of_length-le (take n ks) m

-- ---- one field more: its value, and in both buffers what lies before it stays

room : (b : Bool) {line : List ℕ} {at : ℕ} {bytes parts : List ℕ} → Lent line at bytes parts → 4 * at ≤ length (side b bytes parts)
room true l = omega (arith, l.line_short, l.at_in, l.parts_room)
room false l = omega (arith, l.line_short, l.at_in, l.bytes_room)

-- the front that was laid into its buffer is the value that its slot holds
pub record Adds (b : Bool) (s : Slot) (next at : ℕ) (line bytes bytes' parts parts' : List ℕ) (said : Option Taken) : Type 0 where
  pub lies : Lies s next (4 * at) at line said
  lays : side b bytes' parts' ≡ laid (4 * at) lies.of (side b bytes parts)
  other : side b parts' bytes' ≡ side b parts bytes

sided : (b : Bool) (at : ℕ) (x bytes parts : List ℕ) {bytes' parts' : List ℕ} → buffers bytes' parts' ≡ laid_in b at x (buffers bytes parts)
    → side b bytes' parts' ≡ laid at x (side b bytes parts)
sided true at x bytes parts e = ap (λ u. u.parts) e
sided false at x bytes parts e = ap (λ u. u.bytes) e

stays : (b : Bool) (at : ℕ) (x bytes parts : List ℕ) {bytes' parts' : List ℕ} → buffers bytes' parts' ≡ laid_in b at x (buffers bytes parts)
    → side b parts' bytes' ≡ side b parts bytes
stays true at x bytes parts e = ap (λ u. u.bytes) e
stays false at x bytes parts e = ap (λ u. u.parts) e

pub adds : (k : Kind) {s : Slot} {next at : ℕ} {line : List ℕ} (bytes parts : List ℕ) {bytes' parts' : List ℕ}
    → Lies s next (4 * at) at line (kind_said k (words_from at line))
    → buffers bytes' parts' ≡ laid_in (in_parts k) (4 * at) (kind_front k (words_from at line)) (buffers bytes parts)
    → Adds (in_parts k) s next at line bytes bytes' parts parts' (kind_said k (words_from at line))
adds k {at = at} {line = line} bytes parts l e = record {
  lies = l;
  lays =
      sided (in_parts k) (4 * at) (kind_front k (words_from at line)) bytes parts e
      ∙ ap (λ u. laid (4 * at) u (side (in_parts k) bytes parts)) (kind-front k (words_from at line) l.is);
  other = stays (in_parts k) (4 * at) (kind_front k (words_from at line)) bytes parts e;
}

module _ (b : Bool) {s : Slot} {next at : ℕ} {line bytes bytes' parts parts' : List ℕ} {said : Option Taken} (l : Lent line at bytes parts)
    (a : Adds b s next at line bytes bytes' parts parts' said) where
  pub adds-value : said ≡ some (taken (value_in s (side b bytes' parts')) (words_from next line))
  adds-value =
      let f = a.lies in
      let e : between s.from s.end (side b bytes' parts') ≡ f.of =
      ap (between s.from s.end) a.lays ∙ ap (λ n. between n s.end (laid (4 * at) f.of (side b bytes parts))) f.begins
      ∙ laid-between (4 * at) s.end f.of (side b bytes parts) f.ends (room b l) in
      f.is ∙ ap (λ x. some (taken (value_of s.operation s.table x) (words_from next line))) (sym e)

  own-kept : take (4 * at) (side b bytes' parts') ≡ take (4 * at) (side b bytes parts)
  own-kept = ap (take (4 * at)) a.lays ∙ laid_kept (4 * at) a.lies.of (side b bytes parts) (room b l)

adds-kept : (b : Bool) {s : Slot} {next at : ℕ} {line bytes bytes' parts parts' : List ℕ} {said : Option Taken} → Lent line at bytes parts
    → Adds b s next at line bytes bytes' parts parts' said → (c : Bool) → take (4 * at) (side c bytes' parts') ≡ take (4 * at) (side c bytes parts)
adds-kept true l a true = own-kept true l a
adds-kept true {at = at} l a false = ap (take (4 * at)) a.other
adds-kept false {at = at} l a true = ap (take (4 * at)) a.other
adds-kept false l a false = own-kept false l a

-- ---- what a slot holds, as long as what lies before a place stays

record Held (s : Slot) (v : Value) (w : List ℕ) (n : ℕ) : Type 0 where
  is : v ≡ value_in s w
  within : Within s n

held_kept : {s : Slot} {v : Value} {w after : List ℕ} {m n : ℕ} → Held s v w m → take m after ≡ take m w → m ≤ n → Held s v after n
held_kept {s} {v} {w} {after} {m} h k l = record {
  is =
      h.is
      ∙ ap (λ x. record { operation = s.operation; table = s.table; parts = x })
      (between-kept s.from s.end m w after h.within.forward h.within.inside k);
  within = record { forward = h.within.forward; inside = omega (arith, h.within.inside) };
}

-- ---- all of them

before : List Value → Option (List Value) → Option (List Value)
before vs o = map (λ r. vs ++ r) o

before-start : (o : Option (List Value)) → o ≡ before [] o
unfolding before
before-start none = refl
before-start (some vs) = refl

before-next : (vs : List Value) (v : Value) (o : Option (List Value)) → before vs (map (λ r. v ∷ r) o) ≡ before (vs ++ (v ∷ [])) o
unfolding before
before-next vs v none = refl
before-next vs v (some r) = ap some (sym (append_assoc vs (v ∷ []) r))

over : (vs : List Value) (ws : List (List ℕ)) → 1 ≤ length ws → before vs (values_said [] ws) ≡ none
unfolding before values_said
over vs [] l = absurd (omega arith)
over vs (w ∷ ws) l = refl

pub record OnWay (all : Option (List Value)) (line : List ℕ) (kinds : List Kind) (slots : List Slot) (bytes parts : List ℕ) (i next : ℕ)
    (left : List Kind) : Type 0 where
  done : List Value
  count : length done ≡ i
  makes : all ≡ before done (values_said left (words_from next line))
  pub lent : Lent line next bytes parts
  holds : (j : ℕ) → j < i → Held (slot_in slots j) (value_at j done) (side (in_parts (kind_in kinds j)) bytes parts) (4 * next)

pub way-start : (kinds left : List Kind) (slots : List Slot) {line : List ℕ} {at : ℕ} {bytes parts : List ℕ} → Lent line at bytes parts
    → OnWay (values_said left (words_from at line)) line kinds slots bytes parts 0 at left
way-start kinds left slots {line} {at} l = record {
  done = [];
  count = refl;
  makes = before-start (values_said left (words_from at line));
  lent = l;
  holds = λ j h. absurd (omega arith);
}

module _ {all : Option (List Value)} {line : List ℕ} {kinds : List Kind} {slots : List Slot} {bytes parts : List ℕ} {i at : ℕ} where
  module _ {left : List Kind} (y : OnWay all line kinds slots bytes parts i at (kind_in kinds i ∷ left)) where
    pub way-bad : kind_said (kind_in kinds i) (words_from at line) ≡ none → all ≡ none
    unfolding values_said bind before
    way-bad e = y.makes ∙ rw e

    module _ {s : Slot} {next : ℕ} {bytes' parts' : List ℕ} (h : i < length slots) (eb : length bytes' ≡ length bytes) (ep : length parts' ≡ length parts)
        (a : Adds (in_parts (kind_in kinds i)) s next at line bytes bytes' parts parts' (kind_said (kind_in kinds i) (words_from at line))) where
      abbrev new : Value
      new = value_in s (side (in_parts (kind_in kinds i)) bytes' parts')

      slot-new : slot_in (set slots i s) i ≡ s
      slot-new = get_or-set_same slots i s (plain_slot 0 0) h

      value-new : value_at i (y.done ++ (new ∷ [])) ≡ new
      value-new = get_or_at y.done new [] (plain []) i y.count

      holds-new : Held (slot_in (set slots i s) i) (value_at i (y.done ++ (new ∷ []))) (side (in_parts (kind_in kinds i)) bytes' parts') (4 * next)
      holds-new =
          let f = a.lies in
          let w : Within s (4 * next) = record { forward = omega (arith, f.begins, f.ends); inside = omega (arith, f.short) } in
          rw (slot-new, value-new) (record { is = refl; within = w })

      holds-old : (j : ℕ) → j < i
          → Held (slot_in (set slots i s) j) (value_at j (y.done ++ (new ∷ []))) (side (in_parts (kind_in kinds j)) bytes' parts') (4 * next)
      holds-old j l =
          let d : slot_in (set slots i s) j ≡ slot_in slots j = get_or-set_other slots i j s (plain_slot 0 0) (λ e. omega arith) in
          let e : value_at j (y.done ++ (new ∷ [])) ≡ value_at j y.done =
          get_or-append y.done (new ∷ []) (plain []) j (omega (arith, y.count)) in
          let m : 4 * at ≤ 4 * next = omega (arith, a.lies.ends, a.lies.short) in
          rw (d, e) (held_kept (y.holds j l) (adds-kept (in_parts (kind_in kinds i)) y.lent a (in_parts (kind_in kinds j))) m)

      pub way_next : OnWay all line kinds (set slots i s) bytes' parts' (i + 1) next left
      unfolding values_said bind
      way_next = record {
        done = y.done ++ (new ∷ []);
        count = length-append y.done (new ∷ []) ∙ omega (arith, y.count);
        makes = y.makes ∙ rw (adds-value (in_parts (kind_in kinds i)) y.lent a) (before-next y.done new (values_said left (words_from next line)));
        lent =
            record {
              line_short = y.lent.line_short;
              at_in = a.lies.next_in;
              bytes_room = rw eb y.lent.bytes_room;
              parts_room = rw ep y.lent.parts_room;
            };
        holds = λ j l.
            by (ltb j i) (λ u. holds-old j (ltb-true j i u))
            (λ u. let e : j ≡ i = omega (arith, ltb-false j i u) in rw e holds-new);
      }

  -- no kind is left: a word over, or all
  pub way_end : {n : ℕ} → OnWay all line kinds slots bytes parts i at [] → n ≡ i → n ≤ length kinds
      → ReadsFields (record { whole = ltb (length line) at; slots = slots }) (take n kinds) bytes parts all
  unfolding before values_said
  way_end {n} y e l = record {
    whole_is =
        λ t.
        record {
          values = y.done;
          are = y.makes ∙ rw (none_from at line (ltb-true (length line) at t)) (ap some (append-nil y.done));
          holds = λ j g.
              let m : j < n = omega (arith, g, length-take-le n kinds l) in
              let h = y.holds j (omega arith) in
              rw (get_or-take n kinds j Number m)
              (record {
                is = h.is;
                within = record {
                  forward = h.within.forward;
                  inside = omega (arith, h.within.inside, room (in_parts (kind_in kinds j)) y.lent);
                };
              });
        };
    not_whole = λ f. y.makes ∙ over y.done (words_from at line) (word_over at line (ltb-false (length line) at f));
  }

-- ---- what the code answers

pub fields-not : {slots : List Slot} {kinds : List Kind} (bytes parts : List ℕ) {said : Option (List Value)} → said ≡ none
    → ReadsFields (record { whole = false; slots = slots }) kinds bytes parts said
fields-not bytes parts n = record { whole_is = λ e. absurd (true≢false (sym e)); not_whole = λ e. n }
