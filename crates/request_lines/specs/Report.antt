-- What is written for an input of lines: a line number and an answer a line (document 01, the program `tryreq`).
-- Octets are ASCII: 10 newline, 32 space. Assumes nothing.
use Rattle.std.specs.Prelude.{List, [], ◌∷◌, ◌++◌, ℕ, ◌+◌}
use Rattle.std.proofs.Math.Option.{Option, none, some}
use Rattle.answers.specs.declared.Fault.{Fault}
use Rattle.answers.specs.Numbers.{fault_number}
use Rattle.rows.specs.Tables.{Tables}
use Rattle.image.specs.Image.{image_fault}
use Rattle.image_judge.specs.Faults.{tables_in}
use Rattle.text_values.specs.Texts.{decimal_text}
use Rattle.program_io.specs.Lines.{lines_of}
use Rattle.request_lines.specs.Answers.{line_answer}

-- ---- what is written

-- what is told of a line takes at most so many octets
abbrev pub most_told : ℕ
most_told = 42

-- the number of a line, and its answer
unfoldable pub told : ℕ → ℕ → List ℕ
told number answer = decimal_text number ++ (32 ∷ (decimal_text answer ++ (10 ∷ [])))

-- the answers to lines, n of which stand before them
unfoldable pub report : Tables → ℕ → List (List ℕ) → List ℕ
report t n [] = []
report t n (line ∷ lines) = told (n + 1) (line_answer t line) ++ report t (n + 1) lines

-- all that is written for an image and an input
abbrev pub written_for : Option Fault → Tables → List ℕ → List ℕ
written_for (some f) t input = told 0 (fault_number f)
written_for none t input = report t 0 (lines_of input)

unfoldable pub written : List ℕ → List ℕ → List ℕ
written image input = written_for (image_fault image) (tables_in image) input
