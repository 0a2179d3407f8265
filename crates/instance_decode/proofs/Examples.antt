-- P10 holds: both sides of each equation compute. Assumes nothing.
use mathlib.Core.Path.{refl}
use mathlib.Core.Option.{bind}
use Rattle.numbers.specs.Order.{begins}
use Rattle.rows.specs.Rows.{key_fields}
use Rattle.instance_fields.specs.Indices.{parse_field, parse_fields}
use Rattle.instance_decode.specs.Decoding.{read_column, table_of, read_instance}
use Rattle.instance_decode.specs.Examples.{P10}

pub p10-holds : P10
unfolding begins key_fields parse_field parse_fields read_column table_of read_instance bind
p10-holds = record { encoded = refl; decoded = refl }
