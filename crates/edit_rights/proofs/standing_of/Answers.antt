-- `edit_rights::standing_of` meets its contract: what steps 1 to 4 come to is the caller's standing (`Written`). Assumes nothing.
use Rattle.edit_rules.specs.Edits.{caller_of}
use Rattle.edit_rights.proofs.Written.{stands-in}
use Rattle.edit_rights.proofs.standing_of.Goals as goal

pub returns : goal.returns
returns c =
    let a = c.args in
    stands-in (caller_of a.security_model a.security_name.now a.security_level) c.authorize-authorized.ensures
