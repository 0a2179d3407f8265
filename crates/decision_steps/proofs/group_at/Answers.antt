-- `decision_steps::group_at` meets its contract: the group's name is the field after the security name, which lies at 4. Assumes nothing.
use mathlib.Core.Path.{refl, sym, ap}
use Rattle.decision_steps.proofs.Layouts.{mapping-at}
use Rattle.decision_steps.proofs.group_at.Goals as goal

pub after-requires : goal.after-requires
after-requires c = (mapping-at _ _ refl c.requires).name

pub returns : goal.returns
returns c =
    let l = mapping-at _ _ c.after.ensures.is c.requires in
    record { lies = l.group; is = sym (ap (λ m. m.group_name) l.holds) }
