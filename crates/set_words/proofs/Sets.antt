-- Laws of a set said in words: the word `set`; the principal, the edits behind it, and the first of the two that is not said. Assumes nothing.
use mathlib.Core.Path.{◌≡◌, sym, ◌∙◌}
use mathlib.Core.Bool.{true, false}
use mathlib.Core.List.{List}
use mathlib.Core.Option.{Option, none, some, bind}
use Prim.Native.Nat.{ℕ, ◌≤◌, ◌<◌}
use lib.ListN.{length}
use borrow.Author.Tests.{le-leb, lt-leb}
use Rattle.std.specs.Prelude.{Some, None}
use Rattle.numbers.specs.Order.{same}
use Rattle.edit_rules.specs.Edits.{Edit, Caller}
use Rattle.calls.specs.Does.{by_set}
use Rattle.text_words.specs.Types.{Word}
use Rattle.text_words.specs.Words.{longest, between}
use Rattle.text_words.proofs.WordsFrom.{WordAt, from_start}
use Rattle.call_verbs.specs.Calls.{calls}
use Rattle.set_words.specs.Types.{PrincipalRead}
use Rattle.set_words.specs.declared.Principal.{Principal}
use Rattle.set_words.specs.SetWords.{Calling, calling, edits_said, caller_said, set_said, set_word, set_words}
use Rattle.set_words.specs.Reading.{Begun, Begins, Called, Calls}

-- ---- the word `set`

pub set_long : (line : List ℕ) → longest < length line → set_words line ≡ none
unfolding set_words
set_long line h = rw (lt-leb (length line) longest h)

module _ {line : List ℕ} {end : ℕ} (w : WordAt 0 line end) (h : length line ≤ longest) where
  pub set-begun : same (between 0 end line) set_word ≡ true → Begun end line
  unfolding set_words
  set-begun t = record { is = rw (le-leb (length line) longest h, sym (from_start line) ∙ w.is, t); short = h; inside = w.inside }

  pub set_other : same (between 0 end line) set_word ≡ false → set_words line ≡ none
  unfolding set_words
  set_other f = rw (le-leb (length line) longest h, sym (from_start line) ∙ w.is, f)

-- as the code answers it
module _ {r : Word} (line : List ℕ) where
  pub word-begun : {end : ℕ} → r ≡ Some end → Begins r line → Begun end line
  word-begun e b = rw e at b

  pub word-other : r ≡ None → Begins r line → set_words line ≡ none
  word-other e b = rw e at b

-- ---- who calls, as the code answers it, and the set

module _ {r : PrincipalRead} (line bytes : List ℕ) {said : Option Calling} where
  pub caller-called : {p : Principal} → r ≡ Some p → Calls r line bytes said
      → Called p.model p.name p.level p.next line bytes said
  caller-called e c = rw e at c

  pub caller-none : r ≡ None → Calls r line bytes said → said ≡ none
  caller-none e c = rw e at c

module _ (ws : List (List ℕ)) where
  pub set-uncalled : caller_said ws ≡ none → set_said ws ≡ none
  unfolding set_said bind
  set-uncalled e = rw e

  module _ {c : Caller} {rest : List (List ℕ)} (e : caller_said ws ≡ some (calling c rest)) where
    pub set-unsaid : edits_said rest ≡ none → set_said ws ≡ none
    unfolding set_said bind
    set-unsaid q = rw (e, q)

    pub set-said : {es : List Edit} → edits_said rest ≡ some es → set_said ws ≡ some (calls (by_set c es))
    unfolding set_said bind
    set-said q = rw (e, q)
