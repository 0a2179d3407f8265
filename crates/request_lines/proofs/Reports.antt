-- Laws of the report: what is told of one line more stands behind it, and of a line that is too long what is kept is told the same answer.
-- Assumes nothing.
use mathlib.Core.Path.{◌≡◌, refl, sym, ap, ◌∙◌}
use mathlib.Core.List.{List, [], ◌∷◌, ◌++◌, append_assoc, append-nil}
use Prim.Native.Nat.{ℕ, suc, ◌+◌, ◌<◌}
use native.Mathlib.Omega.{arith}
use lib.ListN.{length}
use borrow.Author.Tests.{lt-leb}
use Rattle.rows.specs.Tables.{Tables}
use Rattle.text_words.specs.Words.{longest}
use Rattle.program_io.specs.Lines.{kept}
use Rattle.program_io.proofs.Lines.{kept-one, kept-none, kept_same}
use Rattle.request_lines.specs.Answers.{malformed, line_answer}
use Rattle.request_lines.specs.Report.{told, report}

module _ (t : Tables) where
  -- one line more
  pub report-more : (n : ℕ) (lines : List (List ℕ)) (line : List ℕ)
      → report t n (lines ++ (line ∷ [])) ≡ report t n lines ++ told (n + length lines + 1) (line_answer t line)
  unfolding report
  report-more n [] line =
      let z : n + 1 ≡ n + 0 + 1 = omega arith in
      append-nil _ ∙ ap (λ m. told m (line_answer t line)) z
  report-more n (l ∷ lines) line =
      let z : n + 1 + length lines + 1 ≡ n + suc (length lines) + 1 = omega arith in
      ap (λ u. told (n + 1) (line_answer t l) ++ u) (report-more (n + 1) lines line ∙ ap (λ m. report t (n + 1) lines ++ told m (line_answer t line)) z)
      ∙ sym (append_assoc (told (n + 1) (line_answer t l)) (report t (n + 1) lines) _)

  pub report-none : (n : ℕ) → report t n [] ≡ []
  unfolding report
  report-none n = refl

  -- a line that is too long
  line-long : (line : List ℕ) → longest < length line → line_answer t line ≡ malformed
  unfolding line_answer
  line-long line h = rw (lt-leb (length line) longest h)

  pub report-kept : (n : ℕ) (lines : List (List ℕ)) → report t n (kept lines) ≡ report t n lines
  unfolding report
  report-kept n [] = ap (report t n) kept-none
  report-kept n (line ∷ lines) =
      ap (report t n) (kept-one line lines)
      ∙ ap (λ a. told (n + 1) a ++ report t (n + 1) (kept lines)) (kept_same (line_answer t) malformed line-long line)
      ∙ ap (λ u. told (n + 1) (line_answer t line) ++ u) (report-kept (n + 1) lines)
