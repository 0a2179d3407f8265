-- What comes back is told by its case: the row's key, that there is none, or the fault. Assumes nothing.
use mathlib.Core.Path.{◌≡◌}
use borrow.Author.Rules.{rules}
use Rattle.std.specs.Prelude.{Ok, Some, None}
use Rattle.decision_match.specs.Types.{AccessMatch}
use Rattle.rows.specs.Rows.{AccessRow}
use Rattle.image.specs.Store.{held}
use Rattle.decision_match.specs.Matches.{Choice, access_choice}
use Rattle.call_matches.proofs.Matched.{AccessAt, access-told, access-none-told, access-fault-told}
use Rattle.call_matches.proofs.tell_access_match.Goals as goal

pub slice_bounds-tell_key-end : goal.slice_bounds-tell_key-end
slice_bounds-tell_key-end c =
    let choice : Choice AccessRow = let a = c.args in access_choice (held a.store.now) a.group_name.now a.context_name.now a.security_model a.security_level in
    let found : ◌≡◌ {A = AccessMatch} c.match_access-matched.result (Ok (Some c.in-Ok-Some.n)) = search rules in
    let row : AccessAt (choice) c.match_access-matched.new.key c.in-Ok-Some.n = access-told choice _ c.match_access-matched.new.key c.match_access-matched.ensures found in
    (row).key.room

pub tell_key-requires : goal.tell_key-requires
tell_key-requires c =
    let choice : Choice AccessRow = let a = c.args in access_choice (held a.store.now) a.group_name.now a.context_name.now a.security_model a.security_level in
    let found : ◌≡◌ {A = AccessMatch} c.match_access-matched.result (Ok (Some c.in-Ok-Some.n)) = search rules in
    let row : AccessAt (choice) c.match_access-matched.new.key c.in-Ok-Some.n = access-told choice _ c.match_access-matched.new.key c.match_access-matched.ensures found in
    record { legal = (row).key.whole; room = c.requires }

pub returns-in-Ok-Some : goal.returns-in-Ok-Some
returns-in-Ok-Some c =
    let choice : Choice AccessRow = let a = c.args in access_choice (held a.store.now) a.group_name.now a.context_name.now a.security_model a.security_level in
    let found : ◌≡◌ {A = AccessMatch} c.match_access-matched.result (Ok (Some c.in-Ok-Some.n)) = search rules in
    let row : AccessAt (choice) c.match_access-matched.new.key c.in-Ok-Some.n = access-told choice _ c.match_access-matched.new.key c.match_access-matched.ensures found in
    let r = row in
    rw (r.key.fields_are, r.text_is) at c.tell_key.ensures

pub returns-in-Ok-None : goal.returns-in-Ok-None
returns-in-Ok-None c =
    let choice : Choice AccessRow = let a = c.args in access_choice (held a.store.now) a.group_name.now a.context_name.now a.security_model a.security_level in
    let none_found : ◌≡◌ {A = AccessMatch} c.match_access-matched.result (Ok None) = search rules in
    rw
    (access-none-told choice _ c.match_access-matched.new.key c.match_access-matched.ensures none_found)
    at c.tell_none.ensures

pub returns-in-Err : goal.returns-in-Err
returns-in-Err c =
    let choice : Choice AccessRow = let a = c.args in access_choice (held a.store.now) a.group_name.now a.context_name.now a.security_model a.security_level in
    rw
    (access-fault-told choice _ c.match_access-matched.new.key c.match_access-matched.ensures c.in-Err.is)
    at c.tell_fault.ensures
