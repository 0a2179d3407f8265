-- What the calls of a desk do to the lines taken. A line that goes on is begun with what the piece had of it, and one that a newline ends is taken; at
-- the input's end what is begun is the last line. Assumes nothing.
use mathlib.Core.Path.{◌≡◌, refl, sym, ap, ◌∙◌}
use mathlib.Core.Bool.{Bool, true, false}
use Rattle.std.specs.Prelude.{Option}
use mathlib.Core.List.{List, [], ◌∷◌, ◌++◌, append_assoc, append-nil}
use Prim.Native.Nat.{ℕ, suc, ◌+◌, ◌-◌, ◌≤◌, ◌<◌}
use native.Mathlib.Omega.{arith}
use lib.ListN.{length, take, drop, length-append, length-take}
use lib.Seq.{drop-drop, take-length, length-take-le, slice_empty, length-slice}
use Rattle.numbers.proofs.Bools.{split as by}
use Rattle.numbers.proofs.Laid.{length-laid}
use Rattle.text_words.specs.Words.{run, longest}
use Rattle.text_words.proofs.Words.{run-most}
use Rattle.program_io.specs.declared.Continued.{Continued}
use Rattle.program_io.specs.declared.Desk.{Desk}
use Rattle.program_io.specs.Lines.{lines_of, keep, kept, goes_on, Continues}
use Rattle.program_io.specs.Outside.{Outside, outside}
use Rattle.program_io.specs.Desk.{OutputFailed, Ready, left, Taken, AllTaken, Writes, NextLine, LastLine}
use Rattle.program_io.proofs.Lines.{one-line-nil, one-line-append, lines_cut, lines_none, lines-last, kept-one, kept-none, keep-on}

-- ---- a text is written

module _ {held holds : Option (List ℕ)} {d r : Desk} {more : List ℕ} (w : Writes held holds d r more) where
  same-reads : r.reads ≡ d.reads
  same-reads = ap (λ x. x.reads) w.same

  -- it was closed before, or is now
  pub still-closed : (d.writable ≡ false → OutputFailed) → r.writable ≡ false → OutputFailed
  still-closed c e = by d.writable (w.closes e) c

  pub taken-written : {from : Outside} {unread : Option (List ℕ)} {piece line text : List ℕ} {lines : List (List ℕ)}
      → Taken from (outside unread held) d piece line text lines → Taken from (outside unread holds) r piece line (text ++ more) lines
  taken-written {from} {unread} {piece} {line} {text} {lines} t = record {
    closed = still-closed t.closed;
    input = t.input;
    moved = λ o. w.moves o (t.moved (w.stays_closed o));
    number_is = ap (λ x. x.number) w.same ∙ t.number_is;
    begun = t.begun;
    one_line = t.one_line;
    keeps = t.keeps ∙ sym (ap (λ x. take x.begun line) w.same);
    cut = λ o later h.
        t.cut (w.stays_closed o) later (λ z. h (same-reads ∙ z))
        ∙ ap (λ v. lines ++ kept (lines_of (t.begun ++ (v ++ later)))) (sym (ap (λ x. left x piece) w.same));
    counted = λ o l. omega (arith, same-reads, t.counted (w.stays_closed o) (omega (arith, same-reads, l)));
    read_all = λ o z. t.read_all (w.stays_closed o) (sym same-reads ∙ z);
  }

  pub all-written : {from : Outside} {unread : Option (List ℕ)} {text : List ℕ} {lines : List (List ℕ)} → AllTaken from (outside unread held) d text lines
      → AllTaken from (outside unread holds) r (text ++ more) lines
  all-written t = record {
    closed = still-closed t.closed;
    input = t.input;
    moved = λ o. w.moves o (t.moved (w.stays_closed o));
    number_is = ap (λ x. x.number) w.same ∙ t.number_is;
    all = λ o. t.all (w.stays_closed o);
    ended = λ o. same-reads ∙ t.ended (w.stays_closed o);
    read_all = λ o. t.read_all (w.stays_closed o);
  }

  pub ready-written : {piece : List ℕ} → Ready d piece → Ready r piece
  ready-written {piece} h = rw w.same (record { piece_length = h.piece_length; at_in = h.at_in; end_in = h.end_in; counts = h.counts })

-- of a piece that is used up nothing is left
left-none : (d : Desk) (piece : List ℕ) → d.at ≡ d.end → left d piece ≡ []
left-none d piece e = rw e (slice_empty d.end piece)

-- ---- a line, or what the piece has of it

module _ {d : Desk} {c : Continued} {piece line line' : List ℕ} (ready : Ready d piece) (some : d.at < d.end) (room : length line ≡ suc longest)
    (begun_in : d.begun ≤ length line) (k : Continues c line line' d.begun (take d.end piece) d.at) where
  abbrev v : List ℕ
  v = left d piece

  -- how much there is to take
  many : length v ≡ d.end - d.at
  many = length-slice d.at d.end piece ready.end_in

  many-in : length (take d.end piece) ≡ d.end
  many-in = length-take-le d.end piece ready.end_in

  abbrev on : List ℕ
  on = goes_on d.begun (length line) v

  on_fits : d.begun + length on ≤ length line
  on_fits = simp length-take (omega (arith, begun_in))

  -- what stands at the front of the line now
  fronts : (h : List ℕ) → keep h ≡ take d.begun line → take c.begun line' ≡ keep (h ++ take (run 10 v) v)
  fronts h e =
      ap (λ n. take n line') k.begun_is
      ∙ ap (take (d.begun + length on)) k.line_is
      ∙ keep-on h (take (run 10 v) v) line d.begun room begun_in e

  pub len-fits : c.begun ≤ length line'
  len-fits = omega (arith, k.begun_is, on_fits, ap length k.line_is, length-laid d.begun on line on_fits)

  -- the piece ends within the line
  abbrev going : Desk
  going =
      record { reads = d.reads; writable = d.writable; at = d.end; end = d.end; number = d.number; begun = c.begun; found = false; len = 0 }

  pub line-goes-on : d.end ≤ c.end → NextLine d going piece line line'
  line-goes-on h =
      let r : run 10 v ≡ length v = omega (arith, k.ends, many, k.ends_in, many-in, run-most 10 v) in
      let w : take (run 10 v) v ≡ v = ap (λ n. take n v) r ∙ take-length v in
      record {
        taken = λ {from} {to} {text} {lines} t. record {
          closed = t.closed;
          input = t.input;
          moved = t.moved;
          number_is = t.number_is ∙ ap length (sym (append-nil lines));
          begun = t.begun ++ v;
          one_line = (one-line-append t.begun v (record { runs = t.one_line }) (record { runs = r })).runs;
          keeps = sym (fronts t.begun t.keeps ∙ ap (λ u. keep (t.begun ++ u)) w);
          cut = λ o later z.
              t.cut o later z
              ∙ ap (λ u. lines ++ kept (lines_of u)) (sym (append_assoc t.begun v later))
              ∙ ap (λ u. lines ++ kept (lines_of ((t.begun ++ v) ++ (u ++ later)))) (sym (left-none going piece refl))
              ∙ ap (λ u. u ++ kept (lines_of ((t.begun ++ v) ++ (left going piece ++ later)))) (sym (append-nil lines));
          counted = t.counted;
          read_all = t.read_all;
        };
        ready = record { piece_length = ready.piece_length; at_in = omega arith; end_in = ready.end_in; counts = omega (arith, ready.counts) };
        less = omega arith;
        len_in = omega arith;
        begun_in = len-fits;
        line_is = k.line_is;
      }

  -- a newline ends it
  abbrev ended : Desk
  ended =
      record { reads = d.reads; writable = d.writable; at = c.end + 1; end = d.end; number = d.number + 1; begun = 0; found = true; len = c.begun }

  pub line-ends : c.end < d.end → NextLine d ended piece line line'
  line-ends h =
      let r : run 10 v < length v = omega (arith, k.ends, many) in
      let n : d.at + (run 10 v + 1) ≡ c.end + 1 = omega (arith, k.ends) in
      let b : drop (run 10 v + 1) v ≡ left ended piece = drop-drop (run 10 v + 1) d.at (take d.end piece) ∙ ap (λ m. drop m (take d.end piece)) n in
      record {
        taken = λ {from} {to} {text} {lines} t.
            let f = fronts t.begun t.keeps in
            record {
              closed = t.closed;
              input = t.input;
              moved = t.moved;
              number_is = ap (λ m. m + 1) t.number_is ∙ sym (length-append lines (take c.begun line' ∷ []));
              begun = [];
              one_line = one-line-nil.runs;
              keeps = refl;
              cut = λ o later z.
                  t.cut o later z
                  ∙ ap (λ u. lines ++ kept u) (lines_cut t.begun v later (record { runs = t.one_line }) r)
                  ∙ ap (λ u. lines ++ u) (kept-one (t.begun ++ take (run 10 v) v) (lines_of (drop (run 10 v + 1) v ++ later)))
                  ∙ ap (λ u. lines ++ (u ∷ kept (lines_of (drop (run 10 v + 1) v ++ later)))) (sym f)
                  ∙ ap (λ u. lines ++ (take c.begun line' ∷ kept (lines_of (u ++ later)))) b
                  ∙ sym (append_assoc lines (take c.begun line' ∷ []) (kept (lines_of (left ended piece ++ later))));
              counted = t.counted;
              read_all = t.read_all;
            };
        ready = record { piece_length = ready.piece_length; at_in = omega arith; end_in = ready.end_in; counts = omega (arith, ready.counts, k.ends) };
        less = omega (arith, k.ends);
        len_in = len-fits;
        begun_in = omega arith;
        line_is = k.line_is;
      }

-- ---- the input's end

-- what is begun is the rest of the input
rest-begun : {from to : Outside} {d : Desk} {piece line text : List ℕ} {lines : List (List ℕ)} (t : Taken from to d piece line text lines)
    → d.at ≡ d.end → d.writable ≡ true → kept (lines_of t.input) ≡ lines ++ kept (lines_of t.begun)
rest-begun {from} {to} {d} {piece} {line} {text} {lines} t e o =
    ap (λ u. kept (lines_of u)) (sym (append-nil t.input))
    ∙ t.cut o [] (λ z. refl)
    ∙ ap (λ v. lines ++ kept (lines_of (t.begun ++ (v ++ [])))) (left-none d piece e)
    ∙ ap (λ u. lines ++ kept (lines_of u)) (append-nil t.begun)

keep-none : (h : List ℕ) → keep h ≡ [] → h ≡ []
keep-none [] e = refl
keep-none (x ∷ h) e = let z : suc (length (take longest h)) ≡ 0 = ap length e in absurd (omega arith)

keep_some : (h : List ℕ) → 0 < length (keep h) → 0 < length h
keep_some [] l = absurd (omega arith)
keep_some (x ∷ h) l = omega arith

abbrev finished : ℕ → Bool → ℕ → Desk → Desk
finished n b len d = record
    { reads = d.reads; writable = d.writable; at = d.at; end = d.end; number = n; begun = d.begun; found = b; len = len }

module _ (d : Desk) where
  -- a line that is begun is the last
  pub last-begun : 0 < d.begun → LastLine d (finished (d.number + 1) true d.begun d)
  last-begun l = record {
    taken = λ {from} {to} {piece} {line} {text} {lines} t i e z.
        let k = t.keeps in
        let some : 0 < length t.begun = keep_some t.begun (omega (arith, ap length k, length-take-le d.begun line i)) in
        record {
          closed = t.closed;
          input = t.input;
          moved = t.moved;
          number_is = ap (λ m. m + 1) t.number_is ∙ sym (length-append lines (take d.begun line ∷ []));
          all = λ o.
              rest-begun t e o
              ∙ ap (λ u. lines ++ kept u) (lines-last t.begun some (record { runs = t.one_line }))
              ∙ ap (λ u. lines ++ u) (kept-one t.begun [] ∙ ap (λ u. keep t.begun ∷ u) kept-none ∙ ap (λ u. u ∷ []) k);
          ended = z;
          read_all = λ o. t.read_all o (z o);
        };
    len_in = omega arith;
  }

  -- where none is begun, there is no other
  pub last_none : d.begun ≡ 0 → LastLine d (finished d.number false 0 d)
  last_none f = record {
    taken = λ {from} {to} {piece} {line} {text} {lines} t i e z.
        let b : t.begun ≡ [] = keep-none t.begun (t.keeps ∙ rw f) in
        record {
          closed = t.closed;
          input = t.input;
          moved = t.moved;
          number_is = t.number_is ∙ ap length (sym (append-nil lines));
          all = λ o.
              rest-begun t e o
              ∙ ap (λ u. lines ++ kept (lines_of u)) b
              ∙ ap (λ u. lines ++ kept u) lines_none
              ∙ ap (λ u. lines ++ u) kept-none;
          ended = z;
          read_all = λ o. t.read_all o (z o);
        };
    len_in = omega arith;
  }
