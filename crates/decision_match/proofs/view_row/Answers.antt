-- `decision_match::view_row` meets its contract: the row found is the one to choose among the view's, and its key and its type are handed back; where
-- none is found, none matches. Assumes nothing.
use mathlib.Core.Path.{ap}
use mathlib.Core.Option.{Option}
use native.Mathlib.Omega.{arith}
use Rattle.std.specs.Prelude.{Ok, Some}
use Rattle.numbers.specs.BigEndian.{Octets}
use Rattle.rows.specs.declared.Table.TheVariants.{View}
use Rattle.rows.specs.Rows.{ViewRow, view_of}
use Rattle.image_layout.proofs.Walks.{piece}
use Rattle.decision_steps.specs.Decision.{chosen_view}
use Rattle.decision_find.specs.Found.{rows_of_view}
use Rattle.decision_find.proofs.Chosen.{RowAt, row-at, no_row}
use Rattle.decision_match.specs.Matches.{view_key_of}
use Rattle.decision_match.proofs.Hands.{piece-octets, view-key, hands_none, key-counted, hands-row}
use Rattle.decision_match.proofs.view_row.Goals as goal

-- where the call of `variable_row` stands

-- the choice

pub returns-in_default : goal.returns-in_default
returns-in_default c = hands_none (no_row c.variable_row.ensures c.in_default.is)

pub hand_key-k-requires : goal.hand_key-k-requires
hand_key-k-requires c =
    let choice : Option ViewRow = let a = c.args in chosen_view a.variable_name.now (rows_of_view a.view_name.now a.w.now a.x) in
    let row : RowAt View view_of c.args.w.now c.in-Some.at c.in-Some.to (choice) = row-at c.variable_row.ensures c.in-Some.is in
    record { whole = (row).whole; room = c.requires.room }

-- where the row was found, behind the call of `hand_key`

pub family_type-requires : goal.family_type-requires
family_type-requires c =
    let choice : Option ViewRow = let a = c.args in chosen_view a.variable_name.now (rows_of_view a.view_name.now a.w.now a.x) in
    let row : RowAt View view_of c.args.w.now c.in-Some.at c.in-Some.to (choice) = row-at c.variable_row.ensures c.in-Some.is in
    (row).whole

pub returns : goal.returns
returns c =
    let row-octets : Octets (piece c.args.w.now c.in-Some.at c.in-Some.to) = piece-octets c.args.w.now c.in-Some.at c.in-Some.to (λ i. omega (arith, c.type_inv.w i)) in
    let choice : Option ViewRow = let a = c.args in chosen_view a.variable_name.now (rows_of_view a.view_name.now a.w.now a.x) in
    let row : RowAt View view_of c.args.w.now c.in-Some.at c.in-Some.to (choice) = row-at c.variable_row.ensures c.in-Some.is in
    let h = c.hand_key-k in
    let v = piece c.args.w.now c.in-Some.at c.in-Some.to in
    let counted = key-counted View view_of view_key_of view-key v row-octets (row).whole h.ensures.counts in
    hands-row View view_of view_key_of view-key v row-octets (row).whole h.result (row).is h.ensures.counts h.ensures.lays
    (rw (← counted) (ap (λ k. Ok (Some (h.result, k))) c.family_type.ensures))
