-- How far the lines are answered: what is written and what is told but not written yet is the report of the lines taken. A line taken and told keeps it so,
-- and so do a text written and a piece read; at the input's end all of its lines are taken, and the report of what is kept of them is that of them.
-- Assumes nothing.
use mathlib.Core.Path.{◌≡◌, sym, ap, ◌∙◌}
use mathlib.Core.Bool.{Bool, true, false, cond}
use mathlib.Core.Logic.{⊎_elim}
use mathlib.Core.List.{List, [], ◌∷◌, ◌++◌, append_assoc, append-nil}
use Prim.Native.Nat.{ℕ, ◌+◌, ◌-◌, ◌≤◌}
use native.Mathlib.Omega.{arith}
use lib.ListN.{length, take, length-append}
use Rattle.std.specs.Prelude.{Option}
use Rattle.numbers.proofs.Laid.{laid_nil}
use Rattle.rows.specs.Tables.{Tables}
use Rattle.text_values.specs.Texts.{Puts}
use Rattle.text_values.proofs.Puts.{front, kept as Puts·kept}
use Rattle.program_io.specs.declared.Desk.{Desk}
use Rattle.program_io.specs.Lines.{lines_of}
use Rattle.program_io.specs.Outside.{Outside, outside}
use Rattle.program_io.specs.Desk.{new_line, Taken, Writes, Refills, NextLine, LastLine, Opens}
use Rattle.program_io.proofs.TakenLines.{taken-written, all-written}
use Rattle.request_lines.specs.Answers.{line_answer}
use Rattle.request_lines.specs.Report.{most_told, told, report}
use Rattle.request_lines.proofs.Told.{told-most}
use Rattle.request_lines.proofs.Reports.{report-more, report-none, report-kept}
use Rattle.tryreq.specs.Runs.{told_of, Answers, Due, Reports}

pub record Telling (t : Tables) (from to : Outside) (d : Desk) (piece line out : List ℕ) (used : ℕ) : Type 0 where
  pub text : List ℕ
  pub lines : List (List ℕ)
  pub taken : Taken from to d piece line text lines
  pub told_is : text ++ take used out ≡ report t 0 lines

module _ (t : Tables) where
  -- nothing is told yet
  pub telling-none : {d : Desk} → Opens d → (from : Outside) (piece line out : List ℕ) → Telling t from from d piece line out 0
  telling-none o from piece line out =
      record { text = []; lines = []; taken = o.taken from piece line; told_is = sym (report-none t 0) }

  -- ---- the answer to the line that was found, if one was

  module _ (d : Desk) (line out : List ℕ) (used : ℕ) where
    pub answers-none : d.found ≡ false → Answers t d line out out used used
    answers-none f = record { puts = rw f (record { lays = sym (laid_nil used out); ends = omega arith }); within = omega arith }

    pub answers-found : {out' : List ℕ} {r answer : ℕ} → d.found ≡ true → answer ≡ line_answer t (take (d.len - 0) line)
        → Puts (told d.number answer) used out out' r → r ≤ used + most_told → Answers t d line out out' used r
    answers-found {out'} {r} {answer} f e p w =
        let z : d.len - 0 ≡ d.len = omega arith in
        let q : Puts (told d.number (line_answer t (take d.len line))) used out out' r = rw (← (rw z at e)) p in
        record { puts = rw f q; within = w }

  -- what is told of a line takes no more room than there is
  told-of-most : (d : Desk) (line : List ℕ) → length (told_of t d line) ≤ most_told
  told-of-most d line = by-found d.found
    where
      by-found : (b : Bool) → length (cond b (told d.number (line_answer t (take d.len line))) []) ≤ most_told
      by-found true = told-most d.number (line_answer t (take d.len line))
      by-found false = omega arith

  -- the report of the lines and of the one that was found
  report-found : (d : Desk) (line : List ℕ) (lines : List (List ℕ)) → d.number ≡ length (lines ++ new_line d line)
      → report t 0 lines ++ told_of t d line ≡ report t 0 (lines ++ new_line d line)
  report-found d line lines n = by-found d.found n
    where
      by-found : (b : Bool) → d.number ≡ length (lines ++ cond b (take d.len line ∷ []) [])
          → report t 0 lines ++ cond b (told d.number (line_answer t (take d.len line))) [] ≡ report t 0 (lines ++ cond b (take d.len line ∷ []) [])
      by-found true n =
          let m : 0 + length lines + 1 ≡ d.number = omega (arith, n, length-append lines (take d.len line ∷ [])) in
          ap (λ x. report t 0 lines ++ told x (line_answer t (take d.len line))) (sym m) ∙ sym (report-more t 0 lines (take d.len line))
      by-found false n = append-nil (report t 0 lines) ∙ ap (report t 0) (sym (append-nil lines))

  -- what was told already and what is told of the line that was found
  module _ {d : Desk} {line out out' : List ℕ} {used used' : ℕ} (room : used + most_told ≤ length out) (a : Answers t d line out out' used used') where
    told-fits : used + length (told_of t d line) ≤ length out
    told-fits = omega (arith, told-of-most d line)

    pub out-same : length out' ≡ length out
    out-same = Puts·kept told-fits a.puts

    told-on : (text : List ℕ) (lines : List (List ℕ)) → text ++ take used out ≡ report t 0 lines → d.number ≡ length (lines ++ new_line d line)
        → text ++ take used' out' ≡ report t 0 (lines ++ new_line d line)
    told-on text lines e n =
        ap (λ u. text ++ u) (front told-fits a.puts)
        ∙ sym (append_assoc text (take used out) (told_of t d line))
        ∙ ap (λ u. u ++ told_of t d line) e
        ∙ report-found d line lines n

    -- a line of the piece
    pub telling-line : {from to : Outside} {d₀ : Desk} {piece line₀ : List ℕ} → Telling t from to d₀ piece line₀ out used → NextLine d₀ d piece line₀ line
        → Telling t from to d piece line out' used'
    telling-line s n =
        let x = n.taken s.taken in
        record { text = s.text; lines = _; taken = x; told_is = told-on s.text s.lines s.told_is x.number_is }

    -- the last line, and all that is told is written
    pub telling-last : {from : Outside} {unread held holds : Option (List ℕ)} {d₀ r : Desk} {piece : List ℕ}
        → Telling t from (outside unread held) d₀ piece line out used → LastLine d₀ d → d₀.begun ≤ length line → d₀.at ≡ d₀.end
        → (d₀.writable ≡ true → d₀.reads ≡ 0) → Writes held holds d r (take (used' - 0) out') → Reports t from (outside unread holds) r
    telling-last s n i e z w =
        let x = n.taken s.taken i e z in
        let y = all-written w x in
        let u : used' - 0 ≡ used' = omega arith in
        let k = told-on s.text s.lines s.told_is x.number_is in
        record {
          input = y.input;
          moved = λ o.
              let m = y.moved o in
              rw (← (ap (λ n. s.text ++ take n out') u ∙ k ∙ ap (report t 0) (sym (y.all o)) ∙ report-kept t 0 (lines_of y.input))) m;
          ended = y.ended;
          read_all = y.read_all;
          closed = y.closed;
        }

  module _ {from : Outside} {unread held : Option (List ℕ)} {d r : Desk} {piece line out : List ℕ} {used : ℕ}
      (s : Telling t from (outside unread held) d piece line out used) where
    -- all that is told is written, or nothing
    pub telling-written : {holds : Option (List ℕ)} {n : ℕ} → Due used n → Writes held holds d r (take (n - 0) out)
        → Telling t from (outside unread holds) r piece line out (used - n)
    telling-written {holds} {n} u w = record {
      text = s.text ++ take (n - 0) out;
      lines = s.lines;
      taken = taken-written w s.taken;
      told_is = ⊎_elim all none u.all_or_none ∙ s.told_is;
    }
      where
        all : n ≡ used → (s.text ++ take (n - 0) out) ++ take (used - n) out ≡ s.text ++ take used out
        all e =
            let a : n - 0 ≡ used = omega arith in
            let b : used - n ≡ 0 = omega arith in
            rw (a, b) (append-nil (s.text ++ take used out))

        none : n ≡ 0 → (s.text ++ take (n - 0) out) ++ take (used - n) out ≡ s.text ++ take used out
        none e =
            let a : n - 0 ≡ 0 = omega arith in
            let b : used - n ≡ used = omega arith in
            rw (a, b) (ap (λ u. u ++ take used out) (append-nil s.text))

    pub telling-refilled : {has : Option (List ℕ)} {piece' : List ℕ} → Refills unread has d r piece piece'
        → Telling t from (outside has held) r piece' line out used
    telling-refilled f = record { text = s.text; lines = s.lines; taken = f.taken s.taken; told_is = s.told_is }
