-- `decision_find::find_mapping` meets its contract: the row that `find_row` finds is the first mapping row that maps the principal. Assumes nothing.
use Rattle.std.proofs.Common.{rules}
use Rattle.rows.specs.declared.Table.TheVariants.{Mapping}
use Rattle.rows.specs.Rows.{mapping_of}
use Rattle.decision_steps.specs.Decision.{maps_principal}
use Rattle.decision_find.proofs.Scans.{chosen-read}
use Rattle.decision_find.proofs.find_mapping.Goals as goal

pub returns : goal.returns
returns c = chosen-read mapping_of (maps_principal c.args.security_model c.args.security_name.now) _ (c.find_row.ensures.is Mapping _ c.requires (λ row b h. search rules))
