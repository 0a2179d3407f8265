-- `line_fields::number` meets its contract: the number that the word says is put at its place. Assumes nothing.
use mathlib.Core.List.{◌∷◌, []}
use mathlib.Core.Option.{map}
use mathlib.Core.Path.{sym, ap}
use native.Mathlib.Omega.{arith}
use Rattle.numbers.proofs.Laid.{laid-set}
use Rattle.text_words.proofs.Words.{unsaid}
use Rattle.line_fields.proofs.number.Goals as goal

pub returns-in_err-x : goal.returns-in_err-x
returns-in_err-x c = rw c.from_residual.ensures (unsaid _ (ap (map (λ n. n ∷ [])) (sym c.in_err-x.ensures)))

pub returns : goal.returns
returns c =
    let x = c.in_ok-x.x in
    record {
      of = x ∷ [];
      is = ap (map (λ n. n ∷ [])) (sym c.in_ok-x.ensures);
      lays = laid-set c.args.from x c.args.out.now c.requires;
      ends = omega arith;
      inside = omega (arith, c.requires);
      short = omega arith;
    }
