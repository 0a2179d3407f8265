-- Laws of what a line asks for: none has more fields than a line has slots, and a line that is too long asks for nothing. Assumes nothing.
use mathlib.Core.Path.{◌≡◌}
use mathlib.Core.List.{List}
use mathlib.Core.Option.{none}
use Prim.Native.Nat.{ℕ, ◌≤◌, ◌<◌}
use native.Mathlib.Omega.{arith}
use lib.ListN.{length}
use borrow.Author.Tests.{lt-leb}
use Rattle.text_words.specs.Words.{longest}
use Rattle.line_fields.specs.Slots.{most_fields}
use Rattle.call_verbs.specs.declared.Verb.{Verb}
use Rattle.call_verbs.specs.declared.Verb.TheVariants.{Decide, Owner, Principal, Encode, Decode, Image, MatchView, MatchAccess, Walk, Explain}
use Rattle.call_verbs.specs.declared.Verb.TheVariants.{Unknown}
use Rattle.call_verbs.specs.Calls.{kinds_of, line_said}

pub kinds-few : (v : Verb) → length (kinds_of v) ≤ most_fields
kinds-few Decide = omega arith
kinds-few Owner = omega arith
kinds-few Principal = omega arith
kinds-few Encode = omega arith
kinds-few Decode = omega arith
kinds-few Image = omega arith
kinds-few MatchView = omega arith
kinds-few MatchAccess = omega arith
kinds-few Walk = omega arith
kinds-few Explain = omega arith
kinds-few Unknown = omega arith

pub long-line : (line : List ℕ) → longest < length line → line_said line ≡ none
unfolding line_said
long-line line h = rw (lt-leb (length line) longest h)
