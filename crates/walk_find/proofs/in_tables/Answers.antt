-- `walk_find::in_tables` meets its contract: the instances are those of the tables one behind the other, and the first of all is the first of the table in
-- front that has one (`Tables`). Assumes nothing.
use mathlib.Core.Bool.{Bool}
use mathlib.Core.List.{List, ◌++◌}
use Rattle.rows.specs.declared.Table.{Table}
use Rattle.rows.specs.declared.Table.TheVariants.{Context, Mapping, Access, View}
use Rattle.image_judge.specs.Faults.{tables_at}
use Rattle.decision_parts.specs.Parts.{rows_of}
use Rattle.walk_rules.specs.Walk.{Instance, of_table}
use Rattle.walk_find.specs.Met.{stops}
use Rattle.walk_find.proofs.Tables.{met-front, met-behind}
use Rattle.walk_find.proofs.in_tables.Goals as goal

-- the instances of a table, and of the tables from each on

pub returns-in_default : goal.returns-in_default
unfolding tables_at
returns-in_default c =
    let here : Instance → Bool = stops (rows_of c.args.w.now c.args.v) c.args.identifier.now in
    let of : Table → List Instance = λ t. of_table (tables_at c.args.w.now c.args.l) t in
    let accesses : List Instance = of Access ++ of View in
    let mappings : List Instance = of Mapping ++ accesses in
    met-front here (of Context) mappings c.in_default.is c.in_table-context.ensures

pub returns-in_default-mapping : goal.returns-in_default-mapping
unfolding tables_at
returns-in_default-mapping c =
    let here : Instance → Bool = stops (rows_of c.args.w.now c.args.v) c.args.identifier.now in
    let of : Table → List Instance = λ t. of_table (tables_at c.args.w.now c.args.l) t in
    let accesses : List Instance = of Access ++ of View in
    let mappings : List Instance = of Mapping ++ accesses in
    met-behind here (of Context) mappings c.in-None.is c.in_table-context.ensures
    (met-front here (of Mapping) accesses c.in_default-mapping.is c.in_table-mapping.ensures)

pub returns-in_default-access : goal.returns-in_default-access
unfolding tables_at
returns-in_default-access c =
    let here : Instance → Bool = stops (rows_of c.args.w.now c.args.v) c.args.identifier.now in
    let of : Table → List Instance = λ t. of_table (tables_at c.args.w.now c.args.l) t in
    let accesses : List Instance = of Access ++ of View in
    let mappings : List Instance = of Mapping ++ accesses in
    met-behind here (of Context) mappings c.in-None.is c.in_table-context.ensures
    (met-behind here (of Mapping) accesses c.in-None-mapping.is c.in_table-mapping.ensures
    (met-front here (of Access) (of View) c.in_default-access.is c.in_table-access.ensures))

pub returns : goal.returns
unfolding tables_at
returns c =
    let here : Instance → Bool = stops (rows_of c.args.w.now c.args.v) c.args.identifier.now in
    let of : Table → List Instance = λ t. of_table (tables_at c.args.w.now c.args.l) t in
    let accesses : List Instance = of Access ++ of View in
    let mappings : List Instance = of Mapping ++ accesses in
    met-behind here (of Context) mappings c.in-None.is c.in_table-context.ensures
    (met-behind here (of Mapping) accesses c.in-None-mapping.is c.in_table-mapping.ensures
    (met-behind here (of Access) (of View) c.in-None-access.is c.in_table-access.ensures c.in_table.ensures))
