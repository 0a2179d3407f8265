-- Laws of one field judged where it lies: which answer each test that the code makes leads to.
-- Each rewrites the definition by what the tests showed, with the bytes that are left counted by the row's length and the place.
-- Assumes nothing.
use mathlib.Core.Path.{◌≡◌, refl, sym, ◌∙◌}
use mathlib.Core.Bool.{Bool, true, false, cond}
use mathlib.Core.List.{List, []}
use mathlib.Core.Option.{none, some}
use Prim.Native.Nat.{ℕ, ◌+◌, ◌-◌, ◌*◌, ◌≤◌, ◌<◌}
use native.Mathlib.Nat.{mul-zero}
use native.Mathlib.Omega.{arith}
use lib.ListN.{length, drop, get_or, length-drop}
use lib.Dec.{leb}
use borrow.Author.Tests.{le-leb, lt-leb, lt-ltb, le-ltb, eq-eqb, ne_eqb}
use Rattle.answers.specs.declared.Fault.TheVariants.{Torn, OutOfRange}
use Rattle.numbers.proofs.Bools.{and_both, and-false-left, and-false-right}
use Rattle.numbers.proofs.BigEndian.{get_d_front}
use Rattle.answers.specs.declared.Fault.{Fault}
use Rattle.std.specs.declared.result.Result.{Result}
use Rattle.std.specs.declared.result.Result.TheVariants.{Ok, Err}
use Rattle.numbers.specs.BigEndian.{Width, octet, size, number}
use Rattle.rows.specs.Fields.{within, sequence_fault, integer_fault, faults}
use Rattle.rows.specs.Steps.{reached, sequence_step, integer_step}

-- a range
module _ (lo hi n : ℕ) where
  pub within_low : n < lo → within lo hi n ≡ false
  within_low h = and-false-left (leb n hi) (lt-leb lo n h)

  pub within-high : hi < n → within lo hi n ≡ false
  within-high h = and-false-right (leb lo n) (lt-leb n hi h)

  pub within-yes : lo ≤ n → n ≤ hi → within lo hi n ≡ true
  within-yes h k = and_both (le-leb lo n h) (le-leb n hi k)

module _ (row : List ℕ) (at : ℕ) where
  module _ (s lo hi n : ℕ) (e : n ≡ get_or row at 0) where
    front : get_or (drop at row) 0 0 ≡ n
    front = get_d_front row at ∙ sym e

    pub sequence-none : length row ≤ at → Err Torn ≡ sequence_step s lo hi row at
    unfolding sequence_fault
    sequence-none h = rw (length-drop at row, le-ltb 0 (length row - at) (omega arith))

    pub sequence-out : at < length row → within lo hi n ≡ false → Err OutOfRange ≡ sequence_step s lo hi row at
    unfolding sequence_fault
    sequence-out h o = rw (length-drop at row, lt-ltb 0 (length row - at) (omega arith), front, o)

    pub sequence-short : at < length row → within lo hi n ≡ true → length row - at < 1 + n * s → Err Torn ≡ sequence_step s lo hi row at
    unfolding sequence_fault
    sequence-short h i l = rw (length-drop at row, lt-ltb 0 (length row - at) (omega arith), front, i, lt-leb (1 + n * s) (length row - at) l)

    pub sequence-whole : at < length row → within lo hi n ≡ true → 1 + n * s ≤ length row - at → Ok (at + (1 + n * s)) ≡ sequence_step s lo hi row at
    unfolding sequence_fault
    sequence-whole h i l = rw (length-drop at row, lt-ltb 0 (length row - at) (omega arith), front, i, le-leb (1 + n * s) (length row - at) l)

  module _ (w : Width) (lo hi : ℕ) where
    pub integer-short : length row - at < size w → Err Torn ≡ integer_step w lo hi row at
    unfolding integer_fault
    integer-short l = rw (length-drop at row, lt-leb (size w) (length row - at) l)

    module _ (n : ℕ) (e : n ≡ number w (drop at row)) (l : size w ≤ length row - at) where
      pub integer-out : within lo hi n ≡ false → Err OutOfRange ≡ integer_step w lo hi row at
      unfolding integer_fault
      integer-out o = rw (length-drop at row, le-leb (size w) (length row - at) l, ← e, o)

      pub integer-whole : within lo hi n ≡ true → Ok (at + size w) ≡ integer_step w lo hi row at
      unfolding integer_fault
      integer-whole i = rw (length-drop at row, le-leb (size w) (length row - at) l, ← e, i)

  -- the row's end
  pub over : (key : ℕ) → at < length row → Err Torn ≡ reached (faults [] (drop at row)) key
  unfolding faults
  over key h = rw (length-drop at row, ne_eqb (length row - at) 0 (λ e. omega arith))

  pub ended : (key : ℕ) → length row ≤ at → Ok key ≡ reached (faults [] (drop at row)) key
  unfolding faults
  ended key h = rw (length-drop at row, eq-eqb (length row - at) 0 (omega arith))

-- a number of one byte is a count of parts that take none
once : (b w : Bool) (n : ℕ) → reached (cond b (cond w (cond b none (some Torn)) (some OutOfRange)) (some Torn)) n
    ≡ reached (cond b (cond w none (some OutOfRange)) (some Torn)) n
once true true n = refl
once true false n = refl
once false w n = refl

pub octet-step : {s : Result ℕ Fault} (lo hi : ℕ) (row : List ℕ) (at : ℕ) → s ≡ sequence_step 0 lo hi row at → s ≡ integer_step octet lo hi row at
unfolding sequence_fault integer_fault
octet-step lo hi row at e =
    let v = drop at row in
    e ∙ rw (mul-zero (get_or v 0 0)) (once (leb 1 (length v)) (within lo hi (get_or v 0 0)) (at + 1))

-- what a proof of the code looks through
pub ruleset steps = (sequence-none, sequence-out, sequence-short, sequence-whole, integer-short, integer-out, integer-whole, over, ended)
