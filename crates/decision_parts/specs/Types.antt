-- The answers of the code, as the definitions name them. Assumes nothing.
use Rattle.std.specs.Prelude.{Result}
use Rattle.answers.specs.declared.Cause.{Cause}
use Rattle.decision_parts.specs.declared.NamedView.{NamedView}

abbrev pub Standing : Type 0
Standing = Result NamedView Cause
