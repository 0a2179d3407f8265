-- Laws of the words that name what a line asks for: where the next of them ends, the others begin, one octet on. Assumes nothing.
use mathlib.Core.Path.{◌≡◌, sym, ◌∙◌}
use mathlib.Core.Bool.{true, false}
use mathlib.Core.List.{List, []}
use Prim.Native.Nat.{ℕ, suc, ◌+◌, ◌≤◌}
use native.Mathlib.Omega.{arith}
use lib.ListN.{length}
use Rattle.numbers.specs.Order.{same}
use Rattle.text_words.specs.Words.{between, words, words_from}
use Rattle.text_words.proofs.WordsFrom.{WordAt, from_start}
use Rattle.call_verbs.specs.declared.Verb.{Verb}
use Rattle.call_verbs.specs.declared.Verb.TheVariants.{Unknown}
use Rattle.call_verbs.specs.declared.Named.{Named}
use Rattle.call_verbs.specs.Calls.{verbs, match_verbs, match_word, verb_named, match_phrase, phrase_of}
use Rattle.call_verbs.specs.Phrases.{Names}

-- ---- behind `match`

module _ {at : ℕ} {line : List ℕ} where
  pub match-missing : words_from at line ≡ [] → at ≤ suc (length line)
      → Names (record { verb = Unknown; next = at }) (match_phrase (words_from at line)) line
  match-missing e h = record { is = rw e; next_in = h }

  pub match-word : {end : ℕ} {v : Verb} → WordAt at line end → v ≡ verb_named match_verbs (between at end line)
      → Names (record { verb = v; next = end + 1 }) (match_phrase (words_from at line)) line
  match-word w e = record { is = rw (w.is, e); next_in = omega (arith, w.inside) }

-- ---- the first word

module _ {line : List ℕ} {end : ℕ} (w : WordAt 0 line end) where
  pub first-is-match : {r : Named} → same (between 0 end line) match_word ≡ true → Names r (match_phrase (words_from (end + 1) line)) line
      → Names r (phrase_of (words line)) line
  unfolding phrase_of
  first-is-match m n = record { is = rw (sym (from_start line) ∙ w.is, m) n.is; next_in = n.next_in }

  pub first-is-other : {v : Verb} → same (between 0 end line) match_word ≡ false → v ≡ verb_named verbs (between 0 end line)
      → Names (record { verb = v; next = end + 1 }) (phrase_of (words line)) line
  unfolding phrase_of
  first-is-other m e = record { is = rw (sym (from_start line) ∙ w.is, m, e); next_in = omega (arith, w.inside) }
