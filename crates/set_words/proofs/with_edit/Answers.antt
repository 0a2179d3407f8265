-- `set_words::with_edit` meets its contract: where no place is left nothing is stored, and to store there would change nothing. Assumes nothing.
use mathlib.Core.List.{List}
use mathlib.Core.Path.{sym, ap}
use Prim.Native.Nat.{◌+◌, ◌≤◌}
use native.Mathlib.Omega.{arith}
use lib.ListN.{length}
use lib.Seq.{set_out}
use Rattle.set_rules.specs.declared.SetEdit.{SetEdit}
use Rattle.set_rules.specs.declared.EditSet.{EditSet}
use Rattle.set_words.specs.Reading.{placed}
use Rattle.set_words.proofs.with_edit.Goals as goal

pub returns-then-n-ge-MOST_EDITS : goal.returns-then-n-ge-MOST_EDITS
returns-then-n-ge-MOST_EDITS c =
    let s = c.args.s in
    let one_more : List SetEdit → EditSet = λ xs. record { edits = xs; count = s.count + 1 } in
    let l : length s.edits ≤ s.count = omega (arith, c.if-n-ge-MOST_EDITS.true, c.requires.room) in
    ap one_more (sym (set_out s.edits s.count (placed c.args.e) l))
