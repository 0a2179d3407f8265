-- `walk::walk_tables` meets its contract: steps 1 to 4 deny, or what is handed back is the first instance that the view lets be read, which is the
-- least that follows (`Walks`). Assumes nothing.
use Rattle.decision_parts.proofs.Decisions.{viewed-in}
use Rattle.walk_rules.specs.declared.Walked.{Walked}
use Rattle.walk.proofs.Reached.{hands-nothing}
use Rattle.walk.proofs.Walks.{walk-denied, walk-viewed}
use Rattle.walk.proofs.walk_tables.Goals as goal

pub in_tables-met-requires : goal.in_tables-met-requires
in_tables-met-requires c = record { tables = c.requires.tables; view = viewed-in c.authorize-authorized.ensures c.in-Ok.is }

pub hand_back-requires : goal.hand_back-requires
hand_back-requires c = record { met = c.in_tables-met.ensures.row; parts = c.requires.parts; room = c.requires.room }

pub returns-in-Err : goal.returns-in-Err
returns-in-Err c =
    rw (walk-denied c.authorize-authorized.ensures c.args.identifier.now c.requires.legal c.in-Err.is)
    (hands-nothing (Walked.Denied _) _ _ tt)

pub returns-in-Ok : goal.returns-in-Ok
returns-in-Ok c =
    rw (
      walk-viewed c.authorize-authorized.ensures c.args.identifier.now c.requires.legal c.in-Ok.is c.requires.tables,
      ← c.in_tables-met.ensures.is,
    ) c.hand_back.ensures
