-- The answers of the code, as the definitions name them. Assumes nothing.
use Rattle.std.specs.Prelude.{Option}
use Rattle.set_words.specs.declared.Principal.{Principal}

abbrev pub PrincipalRead : Type 0
PrincipalRead = Option Principal
