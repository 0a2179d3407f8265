-- A walk's answer as a number: the parts of the instance handed back. Assumes nothing.
use Rattle.std.specs.Prelude.{ℕ}
use Rattle.walk_rules.specs.declared.Walked.{Walked}
use Rattle.walk_rules.specs.declared.Walked.TheVariants.{Next, EndOfMibView, Denied, Faulty}

-- no instance has none
abbrev pub parts_of : Walked → ℕ
parts_of (Next parts table column bytes) = parts
parts_of EndOfMibView = 0
parts_of (Denied cause) = 0
parts_of (Faulty fault) = 0
