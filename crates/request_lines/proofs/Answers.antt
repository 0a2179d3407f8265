-- Laws of the answer to a line: one that is too long or says no request is malformed, and otherwise the request that was read is answered.
-- Assumes nothing.
use mathlib.Core.Path.{◌≡◌, sym}
use mathlib.Core.List.{List}
use mathlib.Core.Option.{none, some}
use Prim.Native.Nat.{ℕ, ◌≤◌, ◌<◌}
use lib.ListN.{length}
use borrow.Author.Tests.{le-leb, lt-leb}
use Rattle.rows.specs.Tables.{Tables}
use Rattle.text_words.specs.Words.{longest, words, words_from}
use Rattle.text_words.proofs.WordsFrom.{from_start}
use Rattle.text_rows.specs.declared.Slot.{Slot}
use Rattle.line_fields.specs.Kinds.{values_said}
use Rattle.line_fields.specs.Requests.{request_kinds, request_in}
use Rattle.line_fields.specs.Slots.{Whole}
use Rattle.line_fields.proofs.RequestSlots.{request-said, request-none}
use Rattle.request_lines.specs.Answers.{malformed, request_answer, line_answer}

module _ (t : Tables) (line : List ℕ) where
  pub answer-long : longest < length line → malformed ≡ line_answer t line
  unfolding line_answer
  answer-long h = sym (rw (lt-leb (length line) longest h))

  module _ (h : length line ≤ longest) where
    pub answer-malformed : values_said request_kinds (words_from 0 line) ≡ none → malformed ≡ line_answer t line
    unfolding line_answer
    answer-malformed e = sym (rw (le-leb (length line) longest h, request-none (words line) (rw (from_start line) at e)))

    pub answer-said : {slots : List Slot} {bytes parts : List ℕ} → Whole slots request_kinds bytes parts (values_said request_kinds (words_from 0 line))
        → request_answer t (some (request_in slots bytes parts)) ≡ line_answer t line
    unfolding line_answer
    answer-said w = sym (rw (le-leb (length line) longest h, request-said (words line) (rw (from_start line) at w)))
