-- Laws of a row or a key said in words: the table's word, and the fields behind it. Assumes nothing.
use mathlib.Core.Path.{◌≡◌, refl, sym, ap, ◌∙◌}
use mathlib.Core.List.{List, [], ◌∷◌}
use mathlib.Core.Option.{Option, none, some, bind, Option-elim}
use Prim.Native.Nat.{ℕ, ◌+◌}
use native.Mathlib.Omega.{arith}
use lib.ListN.{take}
use Rattle.numbers.specs.Laid.{laid}
use Rattle.numbers.proofs.Laid.{laid_nil}
use Rattle.edit_rules.specs.declared.Operation.{Operation}
use Rattle.rows.specs.declared.Table.{Table}
use Rattle.rows.specs.Rows.{row_fields, fields_of}
use Rattle.edit_rules.specs.Edits.{shape_of}
use Rattle.text_words.specs.Words.{between, words_from}
use Rattle.text_words.proofs.Words.{never}
use Rattle.text_words.proofs.WordsFrom.{WordAt}
use Rattle.text_fields.specs.RowWords.{Said, fields_said, fields_front, Roomy, Placing}
use Rattle.text_fields.proofs.RowWords.{fields-front}
use Rattle.text_rows.specs.TableWords.{table_named}
use Rattle.text_rows.specs.EntryWords.{Counts, Entry, entry_of, entry_said, entry_front, Entering}

-- what is said whole is its front
front_of : (o : Operation) (t : Table) (ws : List (List ℕ)) (said : Option Said) {e : Entry} → fields_said (fields_of (shape_of o) t) ws ≡ said
    → entry_of t said ≡ some e → fields_front (fields_of (shape_of o) t) ws ≡ e.bytes
front_of o t ws none q e = never e
front_of o t ws (some s) {e = x} q e =
    let p : record { table = t; bytes = s.of; rest = s.rest } ≡ x = cc in fields-front (fields_of (shape_of o) t) ws q ∙ ap (λ u. u.bytes) p

front-named : (o : Operation) (t : Option Table) (ws : List (List ℕ)) {e : Entry} → bind t (λ t. entry_of t (fields_said (fields_of (shape_of o) t) ws)) ≡ some e
    → Option-elim t [] (λ t. fields_front (fields_of (shape_of o) t) ws) ≡ e.bytes
unfolding bind Option-elim
front-named o none ws e = never e
front-named o (some t) ws e = front_of o t ws (fields_said (fields_of (shape_of o) t) ws) refl e

pub entry-front : (o : Operation) (ws : List (List ℕ)) {e : Entry} → entry_said o ws ≡ some e → entry_front o ws ≡ e.bytes
unfolding entry_said entry_front
entry-front o [] e = never e
entry-front o (w ∷ ws) e = front-named o (table_named w) ws e

-- no word: nothing is said
module _ (o : Operation) (at : ℕ) (line : List ℕ) (e : words_from at line ≡ []) where
  pub missing-none : entry_said o (words_from at line) ≡ none
  unfolding entry_said
  missing-none = rw e

  pub missing-front : entry_front o (words_from at line) ≡ []
  unfolding entry_front
  missing-front = rw e

-- no byte is laid
pub unlaid : (from : ℕ) (found : List ℕ) {front : List ℕ} → front ≡ [] → found ≡ laid from front found
unlaid from found e = sym (ap (λ u. laid from u found) e ∙ laid_nil from found)

module _ (o : Operation) {at : ℕ} {line : List ℕ} {end : ℕ} (w : WordAt at line end) where
  -- the word names no table
  module _ (e : none ≡ table_named (between at end line)) where
    pub other_none : entry_said o (words_from at line) ≡ none
    unfolding entry_said bind
    other_none = rw (w.is, ← e)

    pub other-front : entry_front o (words_from at line) ≡ []
    unfolding entry_front Option-elim
    other-front = rw (w.is, ← e)

  pub fields-room : {out : List ℕ} {from : ℕ} → Roomy line at out from → Roomy line (end + 1) out from
  fields-room r = record { line_short = r.line_short; at_in = omega (arith, w.inside); room = omega (arith, r.room, w.forward) }

  module _ {t : Table} (e : some t ≡ table_named (between at end line)) {n : ℕ} (k : Counts n (shape_of o) t) where
    pub named-said : entry_said o (words_from at line) ≡ entry_of t (fields_said (take n (row_fields t)) (words_from (end + 1) line))
    unfolding entry_said bind
    named-said = rw (w.is, ← e, k.fields_are)

    pub named-front : entry_front o (words_from at line) ≡ fields_front (take n (row_fields t)) (words_from (end + 1) line)
    unfolding entry_front Option-elim
    named-front = rw (w.is, ← e, k.fields_are)

    pub entry-bad : fields_said (take n (row_fields t)) (words_from (end + 1) line) ≡ none → entry_said o (words_from at line) ≡ none
    entry-bad q = named-said ∙ ap (entry_of t) q

    pub entry-said : {to next from : ℕ} → Placing to next from (end + 1) line (fields_said (take n (row_fields t)) (words_from (end + 1) line))
        → Entering (record { operation = o; table = t; from = from; end = to }) next o from at line (entry_said o (words_from at line))
    entry-said p = record {
      of = p.of;
      is = named-said ∙ ap (entry_of t) p.is;
      operation_is = refl;
      begins = refl;
      ends = p.ends;
      next_in = p.next_in;
      short = omega (arith, p.short, w.forward);
    }

    pub entry-lays : (from : ℕ) (found : List ℕ) {out : List ℕ} → out ≡ laid from (fields_front (take n (row_fields t)) (words_from (end + 1) line)) found
        → out ≡ laid from (entry_front o (words_from at line)) found
    entry-lays from found q = q ∙ ap (λ u. laid from u found) (sym named-front)
