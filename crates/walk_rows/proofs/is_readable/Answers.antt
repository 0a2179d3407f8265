-- `walk_rows::is_readable` meets its contract: a listed column of a legal key is always encoded, and what is decided in the view is its instance.
-- Assumes nothing.
use mathlib.Core.Path.{◌≡◌, refl, ap, ◌∙◌}
use Rattle.instance_encode.proofs.Encoded.{encoded-always, encoded-room, encoded-few, encoded-parts}
use Rattle.rows.specs.Rows.{index_of}
use Rattle.decision_steps.specs.Decision.{step5}
use Rattle.decision_parts.specs.Parts.{rows_of}
use Rattle.instance_encode.specs.Instances.{instance}
use Rattle.walk_rules.specs.Walk.{is_allowed}
use Rattle.walk_rows.specs.Reading.{readable}
use Rattle.walk_rows.proofs.is_readable.Goals as goal

pub returns-in_default : goal.returns-in_default
returns-in_default c = absurd (encoded-always c.args.t _ c.args.key.now c.requires.listed c.requires.whole c.encode-written.ensures refl c.in_default.is)

pub slice_bounds-decide_variable_in-end : goal.slice_bounds-decide_variable_in-end
slice_bounds-decide_variable_in-end c = encoded-room c.args.t _ c.args.key.now c.requires.listed c.requires.whole c.encode-written.ensures refl c.in-Ok.is

pub decide_variable_in-requires : goal.decide_variable_in-requires
decide_variable_in-requires c = record { view = c.requires.view; parts = encoded-few c.args.t _ c.args.key.now c.requires.listed c.requires.whole c.encode-written.ensures refl c.in-Ok.is }

-- what is decided is the instance

pub returns : goal.returns
unfolding readable
returns c =
    let decided : let s = c.args in is_allowed c.decide_variable_in.result ≡ readable (rows_of s.w.now s.v) (instance s.t s.column (index_of s.t s.key.now)) = ap is_allowed (c.decide_variable_in.ensures ∙ ap (λ v. step5 v (rows_of c.args.w.now c.args.v)) (encoded-parts c.args.t _ c.args.key.now c.requires.listed c.requires.whole c.encode-written.ensures refl c.in-Ok.is)) in
    c.is_allowed.ensures ∙ decided
