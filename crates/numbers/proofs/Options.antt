-- Whether an option is none, as a test: what it tells, and that a map leaves it. Assumes nothing.
use mathlib.Core.Path.{◌≡◌, refl}
use mathlib.Core.Bool.{true}
use mathlib.Core.Option.{Option, none, some, map}
use Rattle.numbers.specs.Lists.{is_none}

pub is-none : {A : Type 0} (o : Option A) → is_none o ≡ true → o ≡ none
is-none none e = refl
is-none (some x) e = cc

pub map-none : {A B : Type 0} (f : A → B) (o : Option A) → is_none (map f o) ≡ is_none o
map-none f none = refl
map-none f (some x) = refl
