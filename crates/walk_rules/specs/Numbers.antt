-- Document 01's number for each case of a walk's answer, and document 02's 17. Assumes nothing.
use Rattle.std.specs.Prelude.{ℕ}
use Rattle.answers.specs.Numbers.{cause_number, fault_number}
use Rattle.walk_rules.specs.declared.Walked.{Walked}
use Rattle.walk_rules.specs.declared.Walked.TheVariants.{Next, EndOfMibView, Denied, Faulty}

abbrev pub walked_number : Walked → ℕ
walked_number (Next parts table column bytes) = 0
walked_number EndOfMibView = 17
walked_number (Denied cause) = cause_number cause
walked_number (Faulty fault) = fault_number fault
