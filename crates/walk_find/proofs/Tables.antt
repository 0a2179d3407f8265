-- The first instance of the tables: the first of the table in front that has one. Assumes nothing.
use mathlib.Core.Path.{◌≡◌, sym, ◌∙◌}
use mathlib.Core.Bool.{Bool}
use mathlib.Core.List.{List, ◌++◌}
use Prim.Native.Nat.{ℕ}
use Rattle.std.specs.Prelude.{Some, None}
use Rattle.numbers.specs.Lists.{find}
use Rattle.rows.specs.declared.Table.{Table}
use Rattle.walk_rules.specs.Walk.{Instance}
use Rattle.walk_find.specs.Types.{Met}
use Rattle.walk_find.specs.Met.{Meets}
use Rattle.walk_find.proofs.Stops.{find-front, find-behind}

module _ (p : Instance → Bool) (xs ys : List Instance) {w : List ℕ} {r : Met} where
  pub met-front : {t : Table} {column at end : ℕ} → r ≡ Some (t, column, at, end) → Meets w r (find p xs) → Meets w r (find p (xs ++ ys))
  met-front {t} {column} {at} {end} e m =
      let h : Meets w (Some (t, column, at, end)) (find p xs) = rw e at m in
      rw e (record { row = h.row; is = sym (find-front p xs ys (sym h.is)) })

  pub met-behind : {s : Met} → s ≡ None → Meets w s (find p xs) → Meets w r (find p ys) → Meets w r (find p (xs ++ ys))
  met-behind {s} e m n =
      let h : Meets w None (find p xs) = rw e at m in
      record { row = n.row; is = n.is ∙ sym (find-behind p xs ys (sym h.is)) }
