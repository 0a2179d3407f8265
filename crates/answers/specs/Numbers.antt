-- Document 01's number for each case of an answer ("Where each number is met"). Assumes nothing.
use Rattle.std.specs.Prelude.{ℕ, Result}
use Rattle.std.specs.Prelude.{Ok, Err}
use Rattle.answers.specs.declared.Cause.{Cause}
use Rattle.answers.specs.declared.Cause.TheVariants.{NoSuchContext, NoGroupName, NoAccessEntry, NoSuchView, NotInView}
use Rattle.answers.specs.declared.Decision.{Decision}
use Rattle.answers.specs.declared.Decision.TheVariants.{Allowed, Refused}
use Rattle.answers.specs.declared.Fault.{Fault}
use Rattle.answers.specs.declared.Fault.TheVariants.{NotSound, OutOfRange, TableFull, RowAbsent, StorageForbids, ContextTable, NotAnInstance, Torn}
use Rattle.answers.specs.declared.Fault.TheVariants.{NotAscending, TooShort, RowHeld, NotASet}
use Rattle.answers.specs.Types.{Answer}
use Rattle.answers.specs.Types.{Written}

-- the five causes of RFC 3415, section 3.2
abbrev pub cause_number : Cause → ℕ
cause_number NoSuchContext = 1
cause_number NoGroupName = 2
cause_number NoAccessEntry = 3
cause_number NoSuchView = 4
cause_number NotInView = 5

-- success is 0
abbrev pub decision_number : Decision → ℕ
decision_number Allowed = 0
decision_number (Refused c) = cause_number c

abbrev pub fault_number : Fault → ℕ
fault_number NotSound = 6
fault_number OutOfRange = 7
fault_number TableFull = 9
fault_number RowAbsent = 10
fault_number StorageForbids = 11
fault_number ContextTable = 12
fault_number NotAnInstance = 13
fault_number Torn = 14
fault_number NotAscending = 15
fault_number TooShort = 16
fault_number RowHeld = 18
fault_number NotASet = 19

abbrev pub answer_number : Answer → ℕ
answer_number (Ok d) = decision_number d
answer_number (Err f) = fault_number f

-- success is 0, whatever it hands back
abbrev pub result_number : {T : Type 0} → Result T Fault → ℕ
result_number (Ok x) = 0
result_number (Err f) = fault_number f

-- a writer's success carries the length
abbrev pub written_number : Written → ℕ
written_number w = result_number w
