-- What comes back is told by its case: the key and the type of the row, that there is none, or the fault. Assumes nothing.
use mathlib.Core.Path.{◌≡◌}
use borrow.Author.Rules.{rules}
use Rattle.std.specs.Prelude.{Ok, Some, None}
use Rattle.decision_match.specs.Types.{ViewMatch}
use Rattle.rows.specs.Rows.{ViewRow}
use Rattle.image.specs.Store.{held}
use Rattle.decision_match.specs.Matches.{Choice, view_choice}
use Rattle.call_matches.proofs.Matched.{TypedAt, view-told, view-none-told, view-fault-told}
use Rattle.call_matches.proofs.tell_view_match.Goals as goal

pub slice_bounds-tell_typed-end : goal.slice_bounds-tell_typed-end
slice_bounds-tell_typed-end c =
    let choice : Choice ViewRow = let a = c.args in view_choice (held a.store.now) a.view_name.now a.variable_name.now in
    let found : ◌≡◌ {A = ViewMatch} c.match_view-matched.result (Ok (Some (c.in-Ok-Some.n, c.in-Ok-Some.family_type))) = search rules in
    let row : TypedAt (choice) c.match_view-matched.new.key c.in-Ok-Some.n c.in-Ok-Some.family_type = view-told choice _ c.match_view-matched.new.key c.match_view-matched.ensures found in
    (row).key.room

pub tell_typed-requires : goal.tell_typed-requires
tell_typed-requires c =
    let choice : Choice ViewRow = let a = c.args in view_choice (held a.store.now) a.view_name.now a.variable_name.now in
    let found : ◌≡◌ {A = ViewMatch} c.match_view-matched.result (Ok (Some (c.in-Ok-Some.n, c.in-Ok-Some.family_type))) = search rules in
    let row : TypedAt (choice) c.match_view-matched.new.key c.in-Ok-Some.n c.in-Ok-Some.family_type = view-told choice _ c.match_view-matched.new.key c.match_view-matched.ensures found in
    record { legal = (row).key.whole; room = c.requires }

pub returns-in-Ok-Some : goal.returns-in-Ok-Some
returns-in-Ok-Some c =
    let choice : Choice ViewRow = let a = c.args in view_choice (held a.store.now) a.view_name.now a.variable_name.now in
    let found : ◌≡◌ {A = ViewMatch} c.match_view-matched.result (Ok (Some (c.in-Ok-Some.n, c.in-Ok-Some.family_type))) = search rules in
    let row : TypedAt (choice) c.match_view-matched.new.key c.in-Ok-Some.n c.in-Ok-Some.family_type = view-told choice _ c.match_view-matched.new.key c.match_view-matched.ensures found in
    let r = row in
    rw (r.key.fields_are, r.text_is) at c.tell_typed.ensures

pub returns-in-Ok-None : goal.returns-in-Ok-None
returns-in-Ok-None c =
    let choice : Choice ViewRow = let a = c.args in view_choice (held a.store.now) a.view_name.now a.variable_name.now in
    let none_found : ◌≡◌ {A = ViewMatch} c.match_view-matched.result (Ok None) = search rules in
    rw (view-none-told choice _ c.match_view-matched.new.key c.match_view-matched.ensures none_found) at c.tell_none.ensures

pub returns-in-Err : goal.returns-in-Err
returns-in-Err c =
    let choice : Choice ViewRow = let a = c.args in view_choice (held a.store.now) a.view_name.now a.variable_name.now in
    rw (view-fault-told choice _ c.match_view-matched.new.key c.match_view-matched.ensures c.in-Err.is) at c.tell_fault.ensures
