-- The answers of the code, as the definitions name them. Assumes nothing.
use Rattle.std.specs.Prelude.{ℕ, Result}
use Rattle.answers.specs.declared.Fault.{Fault}
use Rattle.image_layout.specs.declared.Layout.{Layout}

abbrev pub Prepared : Type 0
Prepared = Result (Layout × ℕ) Fault
