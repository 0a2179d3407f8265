-- The answers of the code, as the definitions name them. Assumes nothing.
use Rattle.std.specs.Prelude.{Result}
use Rattle.answers.specs.declared.Fault.{Fault}
use Rattle.image_layout.specs.declared.Layout.{Layout}

abbrev pub Surveyed : Type 0
Surveyed = Result Layout Fault
