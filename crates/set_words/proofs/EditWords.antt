-- Laws of edits said in words: further on in a line there are no more words; what stands behind an edit, by the word there; and an edit where one is due,
-- what it says and what it leaves. Assumes nothing.
use mathlib.Core.Path.{◌≡◌, refl, sym, ap, ◌∙◌}
use mathlib.Core.Bool.{true, false}
use mathlib.Core.List.{List, [], ◌∷◌}
use mathlib.Core.Option.{Option, none, some, bind, map, Option-elim}
use Prim.Native.Nat.{ℕ, zero, suc, ◌+◌, ◌-◌, ◌*◌, ◌≤◌}
use native.Mathlib.Omega.{arith}
use lib.Dec.{eqb, ltb}
use lib.ListN.{length, drop}
use lib.Seq.{drop-drop}
use borrow.Author.Tests.{ltb-true, ltb-false}
use Rattle.numbers.specs.Order.{same}
use Rattle.numbers.proofs.Bools.{split as by}
use Rattle.numbers.proofs.Laid.{laid_nil}
use Rattle.numbers.proofs.Orders.{same_true}
use Rattle.edit_rules.specs.Edits.{Edit}
use Rattle.text_words.specs.Words.{between, longer, split, words_from}
use Rattle.text_words.proofs.Words.{never}
use Rattle.text_words.proofs.WordsFrom.{WordAt, none_from, some-from}
use Rattle.line_fields.specs.declared.Kind.TheVariants.{Edit as Kind-as-Edit}
use Rattle.line_fields.specs.Kinds.{Taken, kind_said}
use Rattle.line_fields.specs.Buffers.{Buffers, buffers, kind_front, place_in, field_into}
use Rattle.set_words.specs.declared.Behind.{Behind}
use Rattle.set_words.specs.SetWords.{separator, edit_by, behind_said, some_said, edits_said}
use Rattle.set_words.specs.Reading.{Parted, Over, Stands}
use Rattle.set_words.specs.Buffers.{behind_into, some_into, edits_into}

-- ---- how many words

longer-many : (x : ℕ) (ps : List (List ℕ)) → length ps ≤ length (longer x ps)
longer-many x [] = omega arith
longer-many x (p ∷ ps) = omega arith

split_one : (x : ℕ) (xs : List ℕ) → length (split 32 xs) ≤ length (split 32 (x ∷ xs))
unfolding split
split_one x xs = by (eqb x 32) (λ e. rw e (omega arith)) (λ e. rw e (longer-many x (split 32 xs)))

split-fewer : (n : ℕ) (v : List ℕ) → length (split 32 (drop n v)) ≤ length (split 32 v)
split-fewer zero v = omega arith
split-fewer (suc n) [] = omega arith
split-fewer (suc n) (x ∷ xs) = omega (arith, split-fewer n xs, split_one x xs)

pub words-fewer : (at next : ℕ) (line : List ℕ) → at ≤ next → length (words_from next line) ≤ length (words_from at line)
words-fewer at next line h =
    by (ltb (length line) next)
    (λ t. rw (none_from next line (ltb-true (length line) next t)) (omega arith))
    (λ f.
    let l : next ≤ length line = ltb-false (length line) next f in
    let m : at ≤ length line = omega arith in
    let e : at + (next - at) ≡ next = omega arith in
    let d : drop (next - at) (drop at line) ≡ drop next line = drop-drop (next - at) at line ∙ ap (λ n. drop n line) e in
    rw (some-from next line l, some-from at line m, ← d) (split-fewer (next - at) (drop at line)))

-- ---- behind an edit

module _ {at : ℕ} {line : List ℕ} {end : ℕ} (w : WordAt at line end) where
  pub parted : same (between at end line) separator ≡ true → Parted (end + 1) at line
  parted t = record {
    is = w.is ∙ ap (λ u. u ∷ words_from (end + 1) line) (same_true (between at end line) separator t);
    forward = omega (arith, w.forward);
    next_in = omega (arith, w.inside);
  }

  pub over : same (between at end line) separator ≡ false → Over at line
  over f = record { word = between at end line; rest = words_from (end + 1) line; is = w.is; other = f }

module _ {at : ℕ} {line : List ℕ} (o : Over at line) where
  pub over-said : (further : List (List ℕ) → Option (List Edit)) → behind_said further (words_from at line) ≡ none
  over-said further = rw (o.is, o.other)

  pub over-into : (further : List (List ℕ) → Buffers → Buffers) (b : Buffers) → behind_into further (words_from at line) b ≡ b
  over-into further b = rw (o.is, o.other)

-- as the code answers it
module _ {r : Behind} (at : ℕ) (line : List ℕ) where
  pub behind-none : r ≡ Behind.Nothing → Stands r at line → words_from at line ≡ []
  behind-none e s = rw e at s

  pub behind_more : {next : ℕ} → r ≡ Behind.Edit next → Stands r at line → Parted next at line
  behind_more e s = rw e at s

  pub behind-over : r ≡ Behind.Malformed → Stands r at line → Over at line
  behind-over e s = rw e at s

-- ---- an edit where one is due

pub some-due : (ws : List (List ℕ)) → 1 ≤ length ws → edits_said ws ≡ some_said (length ws) ws
unfolding edits_said
some-due [] h = absurd (omega arith)
some-due (w ∷ ws) h = refl

pub some-bad : (most : ℕ) (ws : List (List ℕ)) → kind_said Kind-as-Edit ws ≡ none → some_said most ws ≡ none
unfolding some_said bind
some-bad zero ws e = refl
some-bad (suc n) ws e = rw e

-- as many at most as there are words: the edit, and those behind it
pub record Further (most : ℕ) (ws : List (List ℕ)) (f : Taken) : Type 0 where
  pub n : ℕ
  pub enough : length ws ≤ suc n
  pub says : some_said most ws ≡ map (λ es. edit_by f.value ∷ es) (behind_said (some_said n) f.rest)
  pub leaves : (line : List ℕ) (b : Buffers) → some_into line most ws b ≡ behind_into (some_into line n) f.rest (field_into Kind-as-Edit line ws b)

pub some-found : (most : ℕ) (ws : List (List ℕ)) {f : Taken} → kind_said Kind-as-Edit ws ≡ some f → length ws ≤ most → Further most ws f
unfolding some_said some_into bind kind_said Option-elim
some-found zero [] e h = never e
some-found zero (w ∷ ws) e h = absurd (omega arith)
some-found (suc n) ws e h = record { n = n; enough = h; says = rw e; leaves = λ line b. rw e }

-- ---- what it leaves

module _ (line : List ℕ) where
  pub into-due : (ws : List (List ℕ)) (b : Buffers) → 1 ≤ length ws → edits_into line ws b ≡ some_into line (length ws) ws b
  unfolding edits_into
  into-due [] b h = absurd (omega arith)
  into-due (w ∷ ws) b h = refl

  pub into-bad : (most : ℕ) (ws : List (List ℕ)) (b : Buffers) → kind_said Kind-as-Edit ws ≡ none → length ws ≤ most
      → some_into line most ws b ≡ field_into Kind-as-Edit line ws b
  unfolding some_into kind_front Option-elim
  into-bad zero [] b e h = sym (ap (λ u. buffers u b.parts) (laid_nil (4 * place_in line []) b.bytes))
  into-bad zero (w ∷ ws) b e h = absurd (omega arith)
  into-bad (suc n) ws b e h = rw e
