-- Laws of lines played one after the other. Lists of them join; of a line that is too long, what is kept is played as the line is. A line found and played
-- goes behind the lines taken, and at the input's end all of its lines are played. Assumes nothing.
use mathlib.Core.Path.{◌≡◌, refl, sym, ap, ◌∙◌}
use mathlib.Core.Bool.{true, false, cond}
use mathlib.Core.List.{List, [], ◌∷◌, ◌++◌, append_assoc, append-nil}
use mathlib.Core.Option.{none}
use Prim.Native.Nat.{ℕ, ◌+◌, ◌-◌, ◌≤◌}
use native.Mathlib.Omega.{arith}
use lib.ListN.{length, take, length-append}
use Rattle.std.specs.Prelude.{Option as StdOption}
use Rattle.numbers.proofs.Bools.{clash}
use Rattle.text_values.proofs.Puts.{front}
use Rattle.program_io.specs.declared.Desk.{Desk}
use Rattle.program_io.specs.Lines.{lines_of, keep, kept}
use Rattle.program_io.specs.Outside.{Outside, outside}
use Rattle.program_io.specs.Desk.{new_line, Taken, Opens, Writes, Refills, NextLine, LastLine}
use Rattle.program_io.proofs.Lines.{kept-one, kept-none, kept_same}
use Rattle.program_io.proofs.TakenLines.{taken-written, all-written}
use Rattle.call_plays.specs.Plays.{Plays}
use Rattle.call_lines.specs.Lines.{line_asks, line_text, PutsLine}
use Rattle.call_lines.proofs.Lines.{long-asks}
use Rattle.trycalls.specs.Runs.{Played, Serves, Answers}

-- ---- lists of lines

played-none : (n : ℕ) (found : List ℕ) → Played n found [] [] found
unfolding Played
played-none n found = (refl, refl)

-- a line alone
played-one : (n : ℕ) (found after line answer : List ℕ) → Plays (line_asks line) found after answer
    → Played n found (line ∷ []) (line_text (n + 1) answer) after
unfolding Played
played-one n found after line answer p = record {
  next = after;
  answer = answer;
  later = [];
  plays = p;
  goes_on = (refl, refl);
  text_is = sym (append-nil (line_text (n + 1) answer));
}

-- one after the other
played-both : (n m : ℕ) (found mid after : List ℕ) (xs ys : List (List ℕ)) (t u : List ℕ) → m ≡ n + length xs → Played n found xs t mid
    → Played m mid ys u after → Played n found (xs ++ ys) (t ++ u) after
unfolding Played
played-both n m found mid after [] ys t u e s r =
    let z : m ≡ n = omega arith in
    rw (s.0, ← s.1, ← z) r
played-both n m found mid after (x ∷ xs) ys t u e s r = record {
  next = s.next;
  answer = s.answer;
  later = s.later ++ u;
  plays = s.plays;
  goes_on = played-both (n + 1) m s.next mid after xs ys s.later u (omega arith) s.goes_on r;
  text_is = ap (λ v. v ++ u) s.text_is ∙ append_assoc (line_text (n + 1) s.answer) s.later u;
}

-- what is kept of lines is played as the lines
played-kept : (n : ℕ) (found after : List ℕ) (lines : List (List ℕ)) (text : List ℕ) → Played n found (kept lines) text after
    → Played n found lines text after
unfolding Played
played-kept n found after [] text s = rw kept-none at s
played-kept n found after (line ∷ lines) text s =
    let p : Played n found (keep line ∷ kept lines) text after = rw (kept-one line lines) at s in
    record {
      next = p.next;
      answer = p.answer;
      later = p.later;
      plays = rw (kept_same line_asks none long-asks line) at p.plays;
      goes_on = played-kept (n + 1) p.next after lines p.later p.goes_on;
      text_is = p.text_is;
    }

-- ---- the line that was found, if one was

module _ (d : Desk) (line found : List ℕ) where
  pub answers-none : {held : StdOption (List ℕ)} → d.found ≡ false → Answers held held d d line found found
  answers-none f = record {
    text = [];
    writes = record { moves = λ o {from} {unread} {input} {text} m. rw (append-nil text) m; same = refl; stays_closed = λ o. o; closes = λ e o. clash o e };
    played = λ n e. rw f (played-none n found);
  }

  pub answers-found : {held holds : StdOption (List ℕ)} {r : Desk} {after w out : List ℕ} {end : ℕ} → d.found ≡ true
      → PutsLine (line_asks (take (d.len - 0) line)) d.number found after w out end → Writes held holds d r (take (end - 0) out)
      → Answers held holds d r line found after
  answers-found {held} {holds} {r} {after} {w} {out} {end} f s h =
      let z : d.len - 0 ≡ d.len = omega arith in
      let y : end - 0 ≡ end = omega arith in
      let p : Plays (line_asks (take d.len line)) found after s.text = rw z at s.plays in
      record {
        text = take (end - 0) out;
        writes = h;
        played = λ n e.
            let m : d.number ≡ n + 1 = e ∙ ap (λ b. n + length (cond b (take d.len line ∷ []) [])) f in
            let u : take end out ≡ line_text d.number s.text = front (omega (arith, s.fits)) s.puts in
            let t : take (end - 0) out ≡ line_text (n + 1) s.text = ap (λ k. take k out) y ∙ u ∙ ap (λ k. line_text k s.text) m in
            rw (f, t) (played-one n found after (take d.len line) s.text p);
      }

-- ---- how far the lines are played

pub record Playing (from to : Outside) (d : Desk) (piece line found after : List ℕ) : Type 0 where
  pub text : List ℕ
  pub lines : List (List ℕ)
  pub taken : Taken from to d piece line text lines
  pub played : Played 0 found lines text after

pub playing-none : {d : Desk} → Opens d → (from : Outside) (piece line found : List ℕ) → Playing from from d piece line found found
playing-none o from piece line found = record { text = []; lines = []; taken = o.taken from piece line; played = played-none 0 found }

module _ {from : Outside} {unread held : StdOption (List ℕ)} {d : Desk} {piece line found after : List ℕ}
    (s : Playing from (outside unread held) d piece line found after) where
  pub playing-refilled : {has : StdOption (List ℕ)} {r : Desk} {piece' : List ℕ} → Refills unread has d r piece piece'
      → Playing from (outside has held) r piece' line found after
  playing-refilled f = record { text = s.text; lines = s.lines; taken = f.taken s.taken; played = s.played }

  -- the lines taken and the one that was found, played
  found-on : {holds : StdOption (List ℕ)} {n r : Desk} {line' next : List ℕ} (a : Answers held holds n r line' after next) → n.number ≡ length (s.lines ++ new_line n line')
      → Played 0 found (s.lines ++ new_line n line') (s.text ++ a.text) next
  found-on {holds} {n} {r} {line'} {next} a e =
      let k : n.number ≡ length s.lines + length (new_line n line') = e ∙ length-append s.lines (new_line n line') in
      played-both 0 (length s.lines) found after next s.lines (new_line n line') s.text a.text (omega arith) s.played
      (a.played (length s.lines) k)

  -- a line of the piece
  pub playing-line : {holds : StdOption (List ℕ)} {n r : Desk} {line' next : List ℕ} → NextLine d n piece line line'
      → Answers held holds n r line' after next → Playing from (outside unread holds) r piece line' found next
  playing-line h a =
      let x = h.taken s.taken in
      record { text = s.text ++ a.text; lines = _; taken = taken-written a.writes x; played = found-on a x.number_is }

  -- the last line
  pub playing-last : {holds : StdOption (List ℕ)} {n r : Desk} {next : List ℕ} → LastLine d n → d.begun ≤ length line → d.at ≡ d.end → (d.writable ≡ true → d.reads ≡ 0)
      → Answers held holds n r line after next → Serves from (outside unread holds) r found next
  playing-last {holds} {n} {r} {next} h i e z a =
      let x = h.taken s.taken i e z in
      let y = all-written a.writes x in
      record {
        input = y.input;
        text = s.text ++ a.text;
        moved = y.moved;
        played = λ o.
            played-kept 0 found next (lines_of y.input) (s.text ++ a.text) (rw (y.all o) (found-on a x.number_is));
        ended = y.ended;
        read_all = y.read_all;
        closed = y.closed;
      }
