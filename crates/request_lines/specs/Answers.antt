-- The number that answers a line of words (document 01, the program `tryreq`). Assumes nothing.
use Rattle.std.specs.Prelude.{cond, List, ℕ, leb, length}
use Rattle.std.proofs.Math.Option.{Option, none, some}
use Rattle.answers.specs.Numbers.{answer_number}
use Rattle.rows.specs.Tables.{Tables}
use Rattle.decision_steps.specs.Request.{Request, legal_request}
use Rattle.decision_steps.specs.Decision.{if_legal}
use Rattle.text_words.specs.Words.{longest, words}
use Rattle.line_fields.specs.Requests.{request}

-- what a line is answered that says no request
abbrev pub malformed : ℕ
malformed = 7

abbrev pub request_answer : Tables → Option Request → ℕ
request_answer t none = malformed
request_answer t (some q) = answer_number (if_legal (legal_request q) t q)

unfoldable pub line_answer : Tables → List ℕ → ℕ
line_answer t line = cond (leb (length line) longest) (request_answer t (request (words line))) malformed
