-- `set_judge::bytes_of` meets its contract: the end and the beginning are brought back to those of the bytes (`Bytes`). Assumes nothing.
use Rattle.set_judge.proofs.Bytes.{clipped}
use Rattle.set_judge.proofs.bytes_of.Goals as goal

pub returns : goal.returns
returns c =
    let a = c.args in
    clipped a.x.from a.x.end a.bytes.now c.min-end.ensures c.min-from.ensures
