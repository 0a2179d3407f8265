-- The C call (document 01, the end of "The table image"): what it is handed, as bytes and numbers, and the number that it answers.
-- Assumes nothing.
use Rattle.std.specs.Prelude.{Bool, cond, List, ℕ, ◌%◌, eqb, length}
use Rattle.std.proofs.Math.Option.{Option, none, some}
use Rattle.answers.specs.declared.Fault.{Fault}
use Rattle.answers.specs.declared.Fault.TheVariants.{OutOfRange}
use Rattle.answers.specs.Numbers.{answer_number, fault_number}
use Rattle.rows.specs.Tables.{Tables}
use Rattle.image_judge.specs.Faults.{tables_in}
use Rattle.image.specs.Image.{image_fault}
use Rattle.decision_steps.specs.Request.{asked}
use Rattle.decision_steps.specs.Decision.{answer_on}
use Rattle.decision_steps.specs.Bytes.{identifier}

-- "the variable as big-endian 4-byte parts": its bytes are so many fours, with no torn last part
abbrev pub in_parts : List ℕ → Bool
in_parts variable = eqb (length variable % 4) 0

-- "a torn last part is 7"; else the decision's number on the tables, or 7 where a field is out of range
unfoldable pub request_number : Tables → ℕ → List ℕ → ℕ → ℕ → List ℕ → List ℕ → ℕ
request_number tables model name level view context variable =
    cond (in_parts variable) (answer_number (answer_on tables (asked model name level view context (identifier variable)))) (fault_number OutOfRange)

abbrev pub refusal_or : Option Fault → ℕ → ℕ
refusal_or (some f) number = fault_number f
refusal_or none number = number

-- "Its answer is the image's refusal, judged before the request's fields, or the decision's number."
-- The image's bytes; security model, name and level, view type and context name; the variable's bytes.
unfoldable pub call_number : List ℕ → ℕ → List ℕ → ℕ → ℕ → List ℕ → List ℕ → ℕ
call_number image model name level view context variable =
    refusal_or (image_fault image) (request_number (tables_in image) model name level view context variable)
