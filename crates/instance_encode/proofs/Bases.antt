-- The bases of the tables, in room for the longest: by table, a computation. Assumes nothing.
use mathlib.Core.Path.{◌≡◌, refl}
use mathlib.Core.List.{List, [], ◌∷◌, ◌++◌}
use Prim.Native.Nat.{ℕ}
use lib.ListN.{length, take}
use Rattle.rows.specs.declared.Table.{Table}
use Rattle.rows.specs.declared.Table.TheVariants.{Context, Mapping, Access, View}
use Rattle.instance_encode.specs.Instances.{base, longest_base}

base-front : (t : Table) → take (length (base t)) (take longest_base (base t ++ (0 ∷ []))) ≡ base t
base-front Context = refl
base-front Mapping = refl
base-front Access = refl
base-front View = refl

-- as many of its parts as the base has
pub base-taken : (t : Table) (n : ℕ) (v : List ℕ) → n ≡ length (base t) → v ≡ take longest_base (base t ++ (0 ∷ [])) → take n v ≡ base t
base-taken t n v e h = rw (e, h) (base-front t)
