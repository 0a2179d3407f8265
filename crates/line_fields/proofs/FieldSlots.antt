-- A field that is found: one word, a row or a key, or an edit, whose slot holds what the words say. Assumes nothing.
use mathlib.Core.Path.{◌≡◌, refl, sym, ap, ◌∙◌}
use mathlib.Core.Bool.{Bool, true, false}
use mathlib.Core.List.{List, []}
use mathlib.Core.Option.{Option, none, some, bind, Option-elim}
use Prim.Native.Nat.{ℕ, suc, ◌+◌, ◌*◌, ◌≤◌}
use native.Mathlib.Omega.{arith}
use lib.ListN.{length}
use Rattle.std.specs.Prelude.{Some, None}
use Rattle.numbers.specs.Laid.{laid}
use Rattle.numbers.proofs.Laid.{laid_nil}
use Rattle.edit_rules.specs.declared.Operation.{Operation}
use Rattle.text_words.specs.Types.{Filled}
use Rattle.text_words.specs.Words.{between, words_from, Fills}
use Rattle.text_words.proofs.WordsFrom.{WordAt, word-length}
use Rattle.text_fields.specs.RowWords.{Roomy}
use Rattle.text_rows.specs.EntryWords.{entry_said, entry_front, Enters}
use Rattle.text_rows.proofs.EntryWords.{unlaid}
use Rattle.line_fields.specs.declared.Kind.{Kind}
use Rattle.line_fields.specs.declared.Kind.TheVariants.{Number, Name, Identifier, Key, Edit}
use Rattle.text_rows.specs.Types.{Found}
use Rattle.line_fields.specs.Kinds.{one_word, operation_named, entered, edited, edit_said, kind_said}
use Rattle.line_fields.specs.Slots.{in_parts, side, word_found, Lent, Finds}
use Rattle.line_fields.specs.Buffers.{Buffers, buffers, word_front, edit_front, kind_front, laid_in}

-- room for what the words from a place on say
pub bytes-roomy : {line : List ℕ} {at : ℕ} {bytes parts : List ℕ} → Lent line at bytes parts → Roomy line at bytes (4 * at)
bytes-roomy l = record { line_short = l.line_short; at_in = l.at_in; room = omega (arith, l.line_short, l.bytes_room) }

-- no kind is said by no words
pub none_said : (k : Kind) (at : ℕ) (line : List ℕ) → words_from at line ≡ [] → kind_said k (words_from at line) ≡ none
unfolding kind_said entry_said
none_said Number at line e = rw e
none_said Name at line e = rw e
none_said Identifier at line e = rw e
none_said Key at line e = rw e
none_said Edit at line e = rw e

none-front : (k : Kind) (at : ℕ) (line : List ℕ) → words_from at line ≡ [] → kind_front k (words_from at line) ≡ []
unfolding kind_front entry_front
none-front Number at line e = rw e
none-front Name at line e = rw e
none-front Identifier at line e = rw e
none-front Key at line e = rw e
none-front Edit at line e = rw e

nothing-laid : (b : Bool) (at : ℕ) (bytes parts : List ℕ) → laid_in b at [] (buffers bytes parts) ≡ buffers bytes parts
nothing-laid true at bytes parts = ap (λ u. buffers bytes u) (laid_nil at parts)
nothing-laid false at bytes parts = ap (λ u. buffers u parts) (laid_nil at bytes)

pub none-lays : (k : Kind) (at : ℕ) (line bytes parts : List ℕ) → words_from at line ≡ []
    → buffers bytes parts ≡ laid_in (in_parts k) (4 * at) (kind_front k (words_from at line)) (buffers bytes parts)
none-lays k at line bytes parts e =
    sym (ap (λ u. laid_in (in_parts k) (4 * at) u (buffers bytes parts)) (none-front k at line e) ∙ nothing-laid (in_parts k) (4 * at) bytes parts)

-- ---- one word

module _ {at : ℕ} {line : List ℕ} {end : ℕ} (w : WordAt at line end) where
  pub word_room : (b : Bool) {bytes parts : List ℕ} → Lent line at bytes parts → 4 * at + suc (length (between at end line)) ≤ length (side b bytes parts)
  word_room true l = omega (arith, word-length w, w.inside, l.line_short, l.parts_room)
  word_room false l = omega (arith, word-length w, w.inside, l.line_short, l.bytes_room)

  -- and room for what the words behind it say, in its place
  pub behind-roomy : {bytes parts : List ℕ} → Lent line at bytes parts → Roomy line (end + 1) bytes (4 * at)
  behind-roomy l =
      record { line_short = l.line_short; at_in = omega (arith, w.inside); room = omega (arith, l.line_short, l.bytes_room, w.forward) }

  word-finds : (says : List ℕ → Option (List ℕ)) (filled : Filled) {most : ℕ} (found out : List ℕ)
      → Fills filled (4 * at) most found out (says (between at end line)) → most ≤ suc (length (between at end line))
      → Finds (word_found filled (4 * at) (end + 1)) (4 * at) at line (one_word says (words_from at line))
  word-finds says None found out f m = rw (w.is, f.is)
  word-finds says (Some n) found out f m = record {
    of = f.of;
    is = rw (w.is, f.is);
    begins = refl;
    ends = f.ends;
    short = omega (arith, f.short, word-length w);
    next_in = omega (arith, w.inside);
  }

  word-lays : (says : List ℕ → Option (List ℕ)) (filled : Filled) (most : ℕ) (found out : List ℕ)
      → Fills filled (4 * at) most found out (says (between at end line)) → out ≡ laid (4 * at) (word_front says (words_from at line)) found
  word-lays says None most found out f =
      let e : word_front says (words_from at line) ≡ [] = rw (w.is, f.is) in f.kept ∙ unlaid (4 * at) found e
  word-lays says (Some n) most found out f =
      let e : word_front says (words_from at line) ≡ f.of = rw (w.is, f.is) in f.lays ∙ ap (λ u. laid (4 * at) u found) (sym e)

  -- read into the buffer of its side, the word is found and laid there
  abbrev into : Bool → (bytes parts out : List ℕ) → Buffers
  into true bytes parts out = buffers bytes out
  into false bytes parts out = buffers out parts

  pub word_read : (b : Bool) (says : List ℕ → Option (List ℕ)) (filled : Filled) (most : ℕ) (bytes parts out : List ℕ)
      → Fills filled (4 * at) most (side b bytes parts) out (says (between at end line)) → most ≤ suc (length (between at end line))
      → Finds (word_found filled (4 * at) (end + 1)) (4 * at) at line (one_word says (words_from at line))
      × (into b bytes parts out ≡ laid_in b (4 * at) (word_front says (words_from at line)) (buffers bytes parts))
  word_read true says filled most bytes parts out f m =
      (word-finds says filled parts out f m, ap (λ u. buffers bytes u) (word-lays says filled most parts out f))
  word_read false says filled most bytes parts out f m =
      (word-finds says filled bytes out f m, ap (λ u. buffers u parts) (word-lays says filled most bytes out f))

-- ---- a row or a key

pub entry-finds : (o : Operation) (r : Found) (from at : ℕ) (line : List ℕ)
    → Enters r o from at line (entry_said o (words_from at line)) → Finds r from at line (entered o (entry_said o (words_from at line)))
entry-finds o None from at line n = ap (entered o) n
entry-finds o (Some (s, next)) from at line e = record {
  of = e.of;
  is = rw (e.is, e.operation_is);
  begins = e.begins;
  ends = e.ends;
  short = e.short;
  next_in = e.next_in;
}

-- ---- an edit: the operation's word, and what it is handed

module _ (w : List ℕ) (ws : List (List ℕ)) where
  pub edit-named : {o : Operation} → some o ≡ operation_named w → edited w ws ≡ entered o (entry_said o ws)
  unfolding bind
  edit-named e = rw (← e)

  pub edit-front : {o : Operation} → some o ≡ operation_named w → edit_front w ws ≡ entry_front o ws
  unfolding Option-elim
  edit-front e = rw (← e)

  -- no operation is named
  module _ (e : none ≡ operation_named w) where
    pub edit-other : edited w ws ≡ none
    unfolding bind
    edit-other = rw (← e)

    pub other-front : edit_front w ws ≡ []
    unfolding Option-elim
    other-front = rw (← e)

module _ {at : ℕ} {line : List ℕ} {end : ℕ} (w : WordAt at line end) where
  pub edit-finds : (r : Found) (from : ℕ) → Finds r from (end + 1) line (edited (between at end line) (words_from (end + 1) line))
      → Finds r from at line (edit_said (words_from at line))
  edit-finds None from n = rw w.is n
  edit-finds (Some (s, next)) from f = record {
    of = f.of;
    is = rw w.is f.is;
    begins = f.begins;
    ends = f.ends;
    short = omega (arith, f.short, w.forward);
    next_in = f.next_in;
  }

  pub edit-lays : (from : ℕ) (found : List ℕ) {out : List ℕ} → out ≡ laid from (edit_front (between at end line) (words_from (end + 1) line)) found
      → out ≡ laid from (kind_front Edit (words_from at line)) found
  unfolding kind_front
  edit-lays from found e = rw w.is e
