-- The answers of the code, as the definitions name them. Assumes nothing.
use Rattle.std.specs.Prelude.{Result, Option}
use Rattle.answers.specs.declared.Fault.{Fault}
use Rattle.rows.specs.declared.Table.{Table}
use Rattle.instance_decode.specs.declared.Instance.{Instance}

abbrev pub Decoded : Type 0
Decoded = Result Instance Fault

abbrev pub Found : Type 0
Found = Option Table
