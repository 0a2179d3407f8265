-- The instances of ascending tables ascend, so the least that passes a test is the first that does.
-- In one column the index decides, since base and column are a common front. Between columns of one table the columns decide, which rise, and between
-- tables the bases, none of which begins another. In an ascending list no other is before the first. Assumes nothing.
use mathlib.Core.Path.{◌≡◌, refl, sym, ◌∙◌}
use mathlib.Core.Bool.{Bool, true, not, ◌&&◌}
use mathlib.Core.List.{List, [], ◌∷◌, ◌++◌, map}
use Prim.Native.Nat.{ℕ}
use lib.Dec.{ltb}
use borrow.Author.Tests.{ltb-true}
use Rattle.numbers.specs.Lists.{every, first, find}
use Rattle.numbers.specs.Order.{before}
use Rattle.numbers.proofs.Bools.{and_left, and_right, and_both, not-is-true, cond-true}
use Rattle.numbers.proofs.Orders.{before-append, before-cons-eq, before-cons-lt, before-irrefl, before-asym}
use Rattle.numbers.proofs.Keeps.{find_first}
use Rattle.numbers.proofs.Greatest.{Under, Ascends, ascends-keep}
use Rattle.rows.specs.declared.Table.{Table}
use Rattle.rows.specs.declared.Table.TheVariants.{Context, Mapping, Access, View}
use Rattle.rows.specs.Tables.{Tables}
use Rattle.instance_encode.specs.Instances.{base, columns, instance}
use Rattle.edit_rules.specs.TableRows.{RowOf, rows_of, row_index}
use Rattle.edit_rules.specs.Edits.{Caller}
use Rattle.walk_rules.specs.Walk.{Instance, instance_of, of_columns, of_table, instances, follows, least, next_instance}

abbrev id : Instance → List ℕ
id i = i.identifier

-- ---- the first of an ascending list

before-none : (k : List ℕ) (is : List Instance) → Under id k is → every (λ j. not (before j.identifier k)) is ≡ true
before-none k [] u = refl
before-none k (i ∷ is) u = and_both (not-is-true (before-asym k i.identifier u.0)) (before-none k is u.1)

least_first : (is : List Instance) → Ascends id is → least is ≡ first is
unfolding least
least_first [] a = refl
least_first (i ∷ is) a =
    cond-true _ _ (and_both (not-is-true (before-irrefl i.identifier)) (before-none i.identifier is a.0))

-- ---- one list behind another

abbrev AllUnder : List Instance → List Instance → Type 0
AllUnder [] js = Unit {0}
AllUnder (i ∷ is) js = Under id i.identifier js × AllUnder is js

under-append : (k : List ℕ) (is js : List Instance) → Under id k is → Under id k js → Under id k (is ++ js)
under-append k [] js u v = v
under-append k (i ∷ is) js u v = (u.0, under-append k is js u.1 v)

ascends-append : (is js : List Instance) → Ascends id is → Ascends id js → AllUnder is js → Ascends id (is ++ js)
ascends-append [] js a b u = b
ascends-append (i ∷ is) js a b u = (under-append i.identifier is js a.0 u.0, ascends-append is js a.1 b u.1)

all-under-append : (is js ks : List Instance) → AllUnder is js → AllUnder is ks → AllUnder is (js ++ ks)
all-under-append [] js ks u v = tt
all-under-append (i ∷ is) js ks u v = (under-append i.identifier js ks u.0 v.0, all-under-append is js ks u.1 v.1)

append-all-under : (is js ks : List Instance) → AllUnder is ks → AllUnder js ks → AllUnder (is ++ js) ks
append-all-under [] js ks u v = v
append-all-under (i ∷ is) js ks u v = (u.0, append-all-under is js ks u.1 v)

-- ---- what is before every instance of a column, of columns; every instance of columns before others

module _ (t : Table) (rs : List (RowOf t)) where
  under-column : (k : List ℕ) (column : ℕ) → ((index : List ℕ) → before k (instance t column index) ≡ true) → Under id k (map (instance_of t column) rs)
  under-column k column h = go rs
    where
      go : (ss : List (RowOf t)) → Under id k (map (instance_of t column) ss)
      go [] = tt
      go (s ∷ ss) = (h (row_index t s), go ss)

  column-under : (column : ℕ) (js : List Instance) → ((index : List ℕ) → Under id (instance t column index) js)
      → AllUnder (map (instance_of t column) rs) js
  column-under column js h = go rs
    where
      go : (ss : List (RowOf t)) → AllUnder (map (instance_of t column) ss) js
      go [] = tt
      go (s ∷ ss) = (h (row_index t s), go ss)

  under-columns : (k : List ℕ) (cs : List ℕ) → ((rest : List ℕ) → before k (base t ++ rest) ≡ true) → Under id k (of_columns t rs cs)
  under-columns k [] h = tt
  under-columns k (c ∷ cs) h = under-append k (map (instance_of t c) rs) (of_columns t rs cs) (under-column k c (λ index. h (c ∷ index))) (under-columns k cs h)

  columns-under : (cs : List ℕ) (js : List Instance) → ((rest : List ℕ) → Under id (base t ++ rest) js) → AllUnder (of_columns t rs cs) js
  columns-under [] js h = tt
  columns-under (c ∷ cs) js h =
      append-all-under (map (instance_of t c) rs) (of_columns t rs cs) js (column-under c js (λ index. h (c ∷ index))) (columns-under cs js h)

  -- ---- one table

  ascends-column : (column : ℕ) → Ascends (row_index t) rs → Ascends id (map (instance_of t column) rs)
  ascends-column column a = go rs a
    where
      under : (k : List ℕ) (ss : List (RowOf t)) → Under (row_index t) k ss → Under id (instance t column k) (map (instance_of t column) ss)
      under k [] u = tt
      under k (s ∷ ss) u =
          (before-append (base t) (column ∷ k) (column ∷ row_index t s) ∙ before-cons-eq column k (row_index t s) ∙ u.0, under k ss u.1)

      go : (ss : List (RowOf t)) → Ascends (row_index t) ss → Ascends id (map (instance_of t column) ss)
      go [] b = tt
      go (s ∷ ss) b = (under (row_index t s) ss b.0, go ss b.1)

  -- an instance of a column is before those of greater columns
  under-greater : (c : ℕ) (index : List ℕ) (cs : List ℕ) → every (λ d. ltb c d) cs ≡ true → Under id (instance t c index) (of_columns t rs cs)
  under-greater c index [] l = tt
  under-greater c index (d ∷ ds) l =
      under-append (instance t c index) (map (instance_of t d) rs) (of_columns t rs ds)
      (under-column (instance t c index) d
      (λ other. before-append (base t) (c ∷ index) (d ∷ other) ∙ before-cons-lt c d index other (ltb-true c d (and_left _ _ l))))
      (under-greater c index ds (and_right (ltb c d) _ l))

abbrev rising : List ℕ → Bool
rising [] = true
rising (c ∷ cs) = every (λ d. ltb c d) cs && rising cs

columns-rise : (t : Table) → rising (columns t) ≡ true
columns-rise Context = refl
columns-rise Mapping = refl
columns-rise Access = refl
columns-rise View = refl

ascends-columns : (t : Table) (rs : List (RowOf t)) (cs : List ℕ) → rising cs ≡ true → Ascends (row_index t) rs → Ascends id (of_columns t rs cs)
ascends-columns t rs [] h a = tt
ascends-columns t rs (c ∷ cs) h a =
    ascends-append (map (instance_of t c) rs) (of_columns t rs cs) (ascends-column t rs c a) (ascends-columns t rs cs (and_right (every (λ d. ltb c d) cs) _ h) a)
    (column-under t rs c (of_columns t rs cs) (λ index. under-greater t rs c index cs (and_left _ _ h)))

-- ---- the four tables

module _ (ts : Tables) (a : (t : Table) → Ascends (row_index t) (rows_of t ts)) where
  ascends-table : (t : Table) → Ascends id (of_table ts t)
  ascends-table t = ascends-columns t (rows_of t ts) (columns t) (columns-rise t) (a t)

  tables-apart : (s t : Table) → ((x y : List ℕ) → before (base s ++ x) (base t ++ y) ≡ true) → AllUnder (of_table ts s) (of_table ts t)
  tables-apart s t h =
      columns-under s (rows_of s ts) (columns s) (of_table ts t) (λ x. under-columns t (rows_of t ts) (base s ++ x) (columns t) (h x))

  instances-ascend : Ascends id (instances ts)
  unfolding before
  instances-ascend =
      let view = of_table ts View in
      let access = of_table ts Access in
      let mapping = of_table ts Mapping in
      let context = of_table ts Context in
      let behind : Ascends id (access ++ view) =
      ascends-append access view (ascends-table Access) (ascends-table View) (tables-apart Access View (λ x y. refl)) in
      let most : Ascends id (mapping ++ (access ++ view)) =
      ascends-append mapping (access ++ view) (ascends-table Mapping) behind
      (all-under-append mapping access view (tables-apart Mapping Access (λ x y. refl)) (tables-apart Mapping View (λ x y. refl))) in
      ascends-append context (mapping ++ (access ++ view)) (ascends-table Context) most
      (all-under-append context mapping (access ++ view) (tables-apart Context Mapping (λ x y. refl))
      (all-under-append context access view (tables-apart Context Access (λ x y. refl)) (tables-apart Context View (λ x y. refl))))

  -- the least that follows is the first that does
  pub next-first : (c : Caller) (identifier : List ℕ) → next_instance ts c identifier ≡ find (follows ts c identifier) (instances ts)
  unfolding next_instance
  next-first c identifier =
      least_first _ (ascends-keep id (follows ts c identifier) (instances ts) instances-ascend)
      ∙ sym (find_first (follows ts c identifier) (instances ts))
