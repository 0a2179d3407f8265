-- `set_judge::judge_room` meets its contract: the four tables in their order. Assumes nothing.
use mathlib.Core.Path.{ap₂, ◌∙◌}
use Rattle.rows.specs.declared.Table.TheVariants.{Context, Mapping, Access, View}
use Rattle.set_rules.specs.Sets.{or_next}
use Rattle.set_rules.specs.Made.{counted_room}
use Rattle.set_judge.proofs.judge_room.Goals as goal

pub room_in-contexts-requires : goal.room_in-contexts-requires
room_in-contexts-requires c = record { few = c.requires.few; rows = c.requires.limited Context }

pub room_in-mappings-requires : goal.room_in-mappings-requires
room_in-mappings-requires c = record { few = c.requires.few; rows = c.requires.limited Mapping }

pub room_in-accesses-requires : goal.room_in-accesses-requires
room_in-accesses-requires c = record { few = c.requires.few; rows = c.requires.limited Access }

pub room_in-views-requires : goal.room_in-views-requires
room_in-views-requires c = record { few = c.requires.few; rows = c.requires.limited View }

pub returns : goal.returns
unfolding counted_room
returns c =
    c.or_next-3.ensures
    ∙ ap₂ or_next c.room_in-contexts.ensures
    (c.or_next-2.ensures ∙ ap₂ or_next c.room_in-mappings.ensures (c.or_next.ensures ∙ ap₂ or_next c.room_in-accesses.ensures c.room_in-views.ensures))
