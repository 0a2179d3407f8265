-- Laws of what is left in the buffers: where the words from a place on begin, that what is said whole is its front, and one field more.
-- Assumes nothing.
use mathlib.Core.Path.{◌≡◌, refl, sym, ap, ◌∙◌}
use mathlib.Core.List.{List, [], ◌∷◌}
use mathlib.Core.Option.{Option, none, some, bind, map, Option-elim, get_or}
use Prim.Native.Nat.{ℕ, suc, ◌*◌, ◌≤◌}
use native.Mathlib.Omega.{arith}
use lib.Dec.{eqb, ltb}
use lib.ListN.{length, drop, length-drop}
use borrow.Author.Tests.{ltb-true, ltb-false}
use Rattle.numbers.proofs.Bools.{split as by}
use Rattle.edit_rules.specs.declared.Operation.{Operation}
use Rattle.edit_rules.specs.declared.Operation.TheVariants.{Remove}
use Rattle.text_words.specs.Words.{longer, split, words_from, hex_octets, dotted}
use Rattle.text_words.proofs.Words.{never, split-some}
use Rattle.text_words.proofs.WordsFrom.{none_from, some-from}
use Rattle.text_rows.specs.EntryWords.{Entry, entry_said, entry_front}
use Rattle.text_rows.proofs.EntryWords.{entry-front}
use Rattle.line_fields.specs.declared.Kind.{Kind}
use Rattle.line_fields.specs.declared.Kind.TheVariants.{Number, Name, Identifier, Key, Edit}
use Rattle.line_fields.specs.Kinds.{Value, value_of, plain, Taken, taken, one_word, number, entered, operation_named, kind_said}
use Rattle.line_fields.specs.Slots.{in_parts}
use Rattle.line_fields.specs.Buffers.{Buffers, word_front, kind_front, laid_in, spaced, place_in, field_into, fields_into}

-- ---- where words begin

spaced-longer : (x : ℕ) (ps : List (List ℕ)) → 1 ≤ length ps → spaced (longer x ps) ≡ suc (spaced ps)
unfolding spaced
spaced-longer x [] h = absurd (omega arith)
spaced-longer x (p ∷ ps) h = omega arith

spaced-split : (v : List ℕ) → spaced (split 32 v) ≡ suc (length v)
unfolding spaced split
spaced-split [] = refl
spaced-split (x ∷ xs) =
    by (eqb x 32) (λ e. rw e (omega (arith, spaced-split xs)))
    (λ e. rw e (spaced-longer x (split 32 xs) (split-some 32 xs) ∙ ap suc (spaced-split xs)))

pub place-from : (at : ℕ) (line : List ℕ) → at ≤ suc (length line) → place_in line (words_from at line) ≡ at
unfolding spaced
place-from at line h =
    by (ltb (length line) at)
    (λ t. let l = ltb-true (length line) at t in rw (none_from at line l) (omega arith))
    (λ f.
    let l = ltb-false (length line) at f in
    let s = spaced-split (drop at line) in
    let d = length-drop at line in
    rw (some-from at line l) (omega arith))

-- ---- what is said whole is its front

word-front : (says : List ℕ → Option (List ℕ)) (ws : List (List ℕ)) {f : Taken} → one_word says ws ≡ some f → word_front says ws ≡ f.value.parts
word-front says [] e = never e
word-front says (w ∷ ws) e = go (says w) e
  where
    go : (o : Option (List ℕ)) {f : Taken} → map (λ x. taken (plain x) ws) o ≡ some f → get_or o [] ≡ f.value.parts
    go none e = never e
    go (some x) {f} e = let q : taken (plain x) ws ≡ f = cc in ap (λ t. t.value.parts) q

entered-front : (o : Operation) (ws : List (List ℕ)) {f : Taken} → entered o (entry_said o ws) ≡ some f → entry_front o ws ≡ f.value.parts
entered-front o ws e = go (entry_said o ws) refl e
  where
    go : (s : Option Entry) {f : Taken} → entry_said o ws ≡ s → entered o s ≡ some f → entry_front o ws ≡ f.value.parts
    go none q e = never e
    go (some s) {f} q e =
        let p : taken (value_of o s.table s.bytes) s.rest ≡ f = cc in entry-front o ws q ∙ ap (λ t. t.value.parts) p

edited-front : (named : Option Operation) (ws : List (List ℕ)) {f : Taken} → bind named (λ o. entered o (entry_said o ws)) ≡ some f
    → Option-elim named [] (λ o. entry_front o ws) ≡ f.value.parts
unfolding bind Option-elim
edited-front none ws e = never e
edited-front (some o) ws e = entered-front o ws e

pub kind-front : (k : Kind) (ws : List (List ℕ)) {f : Taken} → kind_said k ws ≡ some f → kind_front k ws ≡ f.value.parts
unfolding kind_said kind_front
kind-front Number ws e = word-front number ws e
kind-front Name ws e = word-front hex_octets ws e
kind-front Identifier ws e = word-front dotted ws e
kind-front Key ws e = entered-front Remove ws e
kind-front Edit [] e = never e
kind-front Edit (w ∷ ws) e = edited-front (operation_named w) ws e

-- ---- one field more

module _ (k : Kind) (ks : List Kind) (at : ℕ) (line : List ℕ) (h : at ≤ suc (length line)) (b : Buffers) {after : Buffers}
    (lays : after ≡ laid_in (in_parts k) (4 * at) (kind_front k (words_from at line)) b) where
  field-into : field_into k line (words_from at line) b ≡ after
  field-into = ap (λ n. laid_in (in_parts k) (4 * n) (kind_front k (words_from at line)) b) (place-from at line h) ∙ sym lays

  pub into-stop : kind_said k (words_from at line) ≡ none → fields_into (k ∷ ks) line (words_from at line) b ≡ after
  unfolding fields_into Option-elim
  into-stop e = rw e field-into

  pub into_next : {v : Value} {ws : List (List ℕ)} → kind_said k (words_from at line) ≡ some (taken v ws)
      → fields_into (k ∷ ks) line (words_from at line) b ≡ fields_into ks line ws after
  unfolding fields_into Option-elim
  into_next {v} {ws} e = rw e (ap (fields_into ks line ws) field-into)
