-- `program_io::next_line` meets its contract: the piece ends within the line, or a newline ends it (`TakenLines`). Assumes nothing.
use Rattle.std.proofs.Common.{◌≡◌, ◌-◌, arith}
use Rattle.program_io.proofs.TakenLines.{line-goes-on, line-ends}
use Rattle.program_io.proofs.next_line.Goals as goal

pub returns-then-c-end : goal.returns-then-c-end
returns-then-c-end c =
    let p = c.requires in
    let z : c.args.d.end - 0 ≡ c.args.d.end = omega arith in
    line-ends p.ready p.some p.room p.begun (rw z at c.continue_line-c.ensures) c.if-c-end.true

pub returns : goal.returns
returns c =
    let p = c.requires in
    let z : c.args.d.end - 0 ≡ c.args.d.end = omega arith in
    line-goes-on p.ready p.some p.room p.begun (rw z at c.continue_line-c.ensures) c.if-c-end.false
