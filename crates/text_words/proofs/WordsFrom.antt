-- Laws of the words from a place on: the first of them ends where the others begin, one octet on. Assumes nothing.
use mathlib.Core.Path.{◌≡◌, sym, ap, ◌∙◌}
use mathlib.Core.List.{List, [], ◌∷◌}
use Prim.Native.Nat.{ℕ, ◌+◌, ◌-◌, ◌≤◌, ◌<◌}
use native.Mathlib.Omega.{arith}
use lib.Dec.{ltb, leb}
use lib.ListN.{length, drop, length-take, length-drop}
use borrow.Author.Tests.{le-leb, lt-leb, leb-true, leb-false, ltb-true, ltb-false}
use Rattle.std.specs.Prelude.{Some, None}
use Rattle.numbers.proofs.Bools.{split as by}
use Rattle.text_words.specs.Words.{between, split, run, words, words_from, word_at, Ends}
use Rattle.text_words.proofs.Words.{run-most, part-last, part-next, split-some}

-- ---- the words from a place on

module _ (at : ℕ) (line : List ℕ) where
  pub none_from : length line < at → words_from at line ≡ []
  unfolding words_from
  none_from h = rw (lt-leb at (length line) h)

  pub some-from : at ≤ length line → words_from at line ≡ split 32 (drop at line)
  unfolding words_from
  some-from h = rw (le-leb at (length line) h)

pub from_start : (line : List ℕ) → words_from 0 line ≡ words line
from_start line = some-from 0 line (omega arith)

-- the word from `at` to `end`, and those behind it
pub record WordAt (at : ℕ) (line : List ℕ) (end : ℕ) : Type 0 where
  pub is : words_from at line ≡ between at end line ∷ words_from (end + 1) line
  pub forward : at ≤ end
  pub inside : end ≤ length line

pub word-from : (at : ℕ) (line : List ℕ) (end : ℕ) → at ≤ length line → Ends 32 line at end → WordAt at line end
word-from at line end h e = record {
  is =
      some-from at line h
      ∙ by (ltb end (length line))
      (λ t.
      let i : end < length line = ltb-true end (length line) t in
      part-next 32 line at end e.ends i ∙ ap (λ u. between at end line ∷ u) (sym (some-from (end + 1) line (omega arith))))
      (λ f.
      let i : length line ≤ end = ltb-false end (length line) f in
      part-last 32 line at end e.ends (omega (arith, e.inside))
      ∙ ap (λ u. between at end line ∷ u) (sym (none_from (end + 1) line (omega arith))));
  forward = omega (arith, e.ends);
  inside = e.inside;
}

module _ (at : ℕ) (line : List ℕ) where
  -- the code's two answers
  pub at-end : length line < at → None ≡ word_at at line
  unfolding word_at
  at-end h = rw (lt-leb at (length line) h)

  pub at-word : at ≤ length line → (end : ℕ) → Ends 32 line at end → Some end ≡ word_at at line
  unfolding word_at
  at-word h end e = rw (le-leb at (length line) h, e.ends)

  pub word-missing : word_at at line ≡ None → words_from at line ≡ []
  unfolding word_at
  word-missing q =
      by (leb at (length line))
      (λ t. let m : Some (at + run 32 (drop at line)) ≡ None = rw t at q in cc)
      (λ f. none_from at line (leb-false at (length line) f))

  pub word-found : {end : ℕ} → word_at at line ≡ Some end → WordAt at line end
  unfolding word_at
  word-found {end} q =
      by (leb at (length line))
      (λ t.
      let m : Some (at + run 32 (drop at line)) ≡ Some end = rw t at q in
      let p : end ≡ at + run 32 (drop at line) = cc in
      let h : at ≤ length line = leb-true at (length line) t in
      word-from at line end h (record { ends = p; inside = omega (arith, run-most 32 (drop at line), length-drop at line) }))
      (λ f.
      let m : None ≡ Some end = rw f at q in
      let z : ◌≡◌ {A = ℕ} 0 1 = cc in
      absurd (omega arith))

-- ---- how long a word is

pub word-length : {at : ℕ} {line : List ℕ} {end : ℕ} → WordAt at line end → at + length (between at end line) ≡ end
word-length {at} {line} {end} w =
    omega (arith, w.forward, w.inside, length-take (end - at) (drop at line), length-drop at line)

-- ---- a word over

pub word_over : (at : ℕ) (line : List ℕ) → at ≤ length line → 1 ≤ length (words_from at line)
word_over at line h = rw (some-from at line h) (split-some 32 (drop at line))
