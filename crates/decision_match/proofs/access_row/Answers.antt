-- `decision_match::access_row` meets its contract: the row found is the one to choose, and its key is handed back; where none is found, there is no
-- candidate. Assumes nothing.
use mathlib.Core.Path.{ap}
use mathlib.Core.List.{map}
use mathlib.Core.Option.{Option}
use native.Mathlib.Omega.{arith}
use Rattle.std.specs.Prelude.{Ok, Some}
use Rattle.numbers.specs.BigEndian.{Octets}
use Rattle.rows.specs.declared.Table.TheVariants.{Access}
use Rattle.rows.specs.Rows.{AccessRow, access_of}
use Rattle.image_layout.specs.Layout.{rows_in}
use Rattle.image_layout.proofs.Walks.{piece}
use Rattle.decision_steps.specs.Decision.{chosen_access}
use Rattle.decision_find.proofs.Chosen.{RowAt, row-at, no_row}
use Rattle.decision_match.specs.Matches.{access_key_of}
use Rattle.decision_match.proofs.Hands.{piece-octets, access-key, hands_none, key-counted, hands-row}
use Rattle.decision_match.proofs.access_row.Goals as goal

-- where the call of `find_access` stands

pub returns-in_default : goal.returns-in_default
returns-in_default c = hands_none (no_row c.find_access-found.ensures c.in_default.is)

pub hand_key-requires : goal.hand_key-requires
hand_key-requires c =
    let choice : Option AccessRow = let a = c.args in chosen_access a.group_name.now a.security_model a.security_level a.context_name.now (map access_of (rows_in a.w.now a.x)) in
    let row : RowAt Access access_of c.args.w.now c.in-Some.at c.in-Some.end (choice) = row-at c.find_access-found.ensures c.in-Some.is in
    record { whole = (row).whole; room = c.requires.room }

pub returns : goal.returns
returns c =
    let row-octets : Octets (piece c.args.w.now c.in-Some.at c.in-Some.end) = piece-octets c.args.w.now c.in-Some.at c.in-Some.end (λ i. omega (arith, c.type_inv.w i)) in
    let choice : Option AccessRow = let a = c.args in chosen_access a.group_name.now a.security_model a.security_level a.context_name.now (map access_of (rows_in a.w.now a.x)) in
    let row : RowAt Access access_of c.args.w.now c.in-Some.at c.in-Some.end (choice) = row-at c.find_access-found.ensures c.in-Some.is in
    let h = c.hand_key in
    let v = piece c.args.w.now c.in-Some.at c.in-Some.end in
    hands-row Access access_of access_key_of access-key v row-octets (row).whole h.result (row).is h.ensures.counts h.ensures.lays
    (ap (λ k. Ok (Some k)) ((key-counted Access access_of access_key_of access-key v row-octets (row).whole h.ensures.counts)))
