-- `edit_rights::judge_by` meets its contract, standing by standing. Assumes nothing.
use mathlib.Core.Path.{sym, ap, subst, ◌∙◌}
use Rattle.rows.specs.Rows.{index_of}
use Rattle.edit_rights.specs.Standing.{StandingIn, judged_by}
use Rattle.edit_rights.proofs.judge_by.Goals as goal

pub judge_in-requires : goal.judge_in-requires
judge_in-requires c = record { view = subst (λ v. StandingIn c.args.w.now v) c.in-Ok.is c.requires.standing; whole = c.requires.whole }

pub returns-in-Err : goal.returns-in-Err
returns-in-Err c =
    let a = c.args in
    sym (ap (λ v. judged_by a.w.now v a.s a.t (index_of a.t a.key.now)) c.in-Err.is)

pub returns-in-Ok : goal.returns-in-Ok
returns-in-Ok c =
    let a = c.args in
    c.judge_in.ensures ∙ sym (ap (λ v. judged_by a.w.now v a.s a.t (index_of a.t a.key.now)) c.in-Ok.is)
