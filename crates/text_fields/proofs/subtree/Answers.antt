-- `text_fields::subtree` meets its contract: the sub-identifiers are read into a buffer of their own and put behind the place of their
-- count, which is put last (`laid-front`). Assumes nothing.
use mathlib.Core.Path.{◌≡◌, sym, ap, ◌∙◌}
use mathlib.Core.List.{◌∷◌}
use Prim.Native.Nat.{◌+◌, ◌-◌, ◌*◌}
use native.Mathlib.Nat.{sub-zero}
use native.Mathlib.Omega.{arith}
use lib.ListN.{length, take, set}
use Rattle.numbers.specs.BigEndian.{bytes_of, quad}
use Rattle.numbers.specs.Laid.{laid}
use Rattle.numbers.proofs.BigEndian.{length-bytes_of}
use Rattle.numbers.proofs.Laid.{laid-part}
use Rattle.text_words.specs.Words.{dotted, Unfilled}
use Rattle.text_words.proofs.Words.{unsaid}
use Rattle.text_fields.proofs.Buffers.{laid-front, Whole, whole}
use Rattle.text_fields.proofs.FieldWords.{counted_none, counted-over, counted-some, ok-some, ok_none}
use Rattle.text_fields.proofs.subtree.Goals as goal

pub returns-in_err-n : goal.returns-in_err-n
returns-in_err-n c = let u : Unfilled _ _ _ = c.in_err-n.ensures in rw c.from_residual.ensures (unsaid _ (counted_none quad u.is))

pub returns-in_err-count : goal.returns-in_err-count
returns-in_err-count c =
    let f : let w = c.args.word.now in Whole c.in_ok-n.n (length w) c.dotted.new.out (dotted w) = whole c.in_ok-n.ensures in
    let over = ok_none _ _ c.try_from.ensures c.in_err-count.ensures.value in
    rw c.from_residual-in_err-count.ensures (unsaid _ (counted-over quad f.is (omega (arith, f.size, over))))

pub slice_bounds-put_quads-end : goal.slice_bounds-put_quads-end
slice_bounds-put_quads-end c =
    let read : let w = c.args.word.now in Whole c.in_ok-n.n (length w) c.dotted.new.out (dotted w) = whole c.in_ok-n.ensures in
    omega (arith, (read).short, c.requires.room)

pub returns : goal.returns
returns c =
    let read : let w = c.args.word.now in Whole c.in_ok-n.n (length w) c.dotted.new.out (dotted w) = whole c.in_ok-n.ensures in
    let w = c.put_quads in
    let at = c.args.from in
    let out = c.args.out.now in
    let f = read in
    let n = c.in_ok-n.n in
    let fits = ok-some _ c.try_from.ensures c.in_ok-count.ensures.value in
    let held : c.in_ok-count.count ≡ n = omega (arith, fits.1) in
    let x = take n c.dotted.new.out in
    let q : w.new.out ≡ bytes_of quad x = rw (sub-zero n) at w.ensures in
    let z : length w.new.out ≡ at + 1 + 4 * n - (at + 1) = ap length q ∙ length-bytes_of quad x ∙ omega (arith, f.size) in
    record {
      of = length x ∷ bytes_of quad x;
      is = counted-some quad f.is (omega (arith, f.size, fits.0, fits.1));
      lays =
          rw held
          (ap (λ u. set u at n) (laid-part (at + 1) (at + 1 + 4 * n - (at + 1)) w.new.out out z ∙ ap (λ u. laid (at + 1) u out) q)
          ∙ ap (set (laid (at + 1) (bytes_of quad x) out) at) (sym f.size)
          ∙ laid-front at (length x) (bytes_of quad x) out (omega (arith, c.requires.room)));
      ends = omega (arith, length-bytes_of quad x, f.size);
      inside = omega (arith, f.short, c.requires.room);
      short = omega (arith, f.short);
    }
