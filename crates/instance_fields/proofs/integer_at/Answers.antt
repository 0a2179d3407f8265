-- `instance_fields::integer_at` meets its contract: the part at the place, if it is in range, and its bytes (`Takes`). What is in range fits.
-- Assumes nothing.
use mathlib.Core.Path.{sym, ◌∙◌}
use Rattle.instance_fields.specs.Reading.{width_of}
use Rattle.instance_fields.proofs.Takes.{number-bad, number-unlaid, number-taken, number-laid}
use Rattle.instance_fields.proofs.integer_at.Goals as goal

pub returns-in_err-x : goal.returns-in_err-x
returns-in_err-x c =
    let s = c.args in
    let e = sym c.number.ensures ∙ c.in_err-x.was in
    rw c.from_residual.ensures (record {
      reads = number-bad (width_of s.w) s.lo s.hi s.index.now s.at s.byte c.requires.fits e;
      lays = number-unlaid (width_of s.w) s.lo s.hi s.index.now s.at s.byte c.requires.fits e s.key.now;
    })

pub returns : goal.returns
returns c =
    let s = c.args in
    let e = sym c.number.ensures ∙ c.in_ok-x.was in
    let n = c.write_number in
    record {
      reads = number-taken (width_of s.w) s.lo s.hi s.index.now s.at s.byte c.requires.fits e n.result n.ensures.behind;
      lays = number-laid (width_of s.w) s.lo s.hi s.index.now s.at s.byte c.requires.fits e s.key.now _ n.ensures.written;
    }
