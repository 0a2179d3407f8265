-- `decision_steps::view_at` meets its contract: behind the group, the prefix and six octets lie the names of the views for reading, writing
-- and notifying, one behind the other. Assumes nothing.
use mathlib.Core.Path.{refl, sym, ap, ◌∙◌}
use Rattle.decision_steps.specs.Decision.{view_for}
use Rattle.decision_steps.proofs.Layouts.{access-at, access-from}
use Rattle.decision_steps.proofs.Steps.{view-read, view-write, view-notify}
use Rattle.decision_steps.proofs.view_at.Goals as goal

-- the places by the answers of `after`

pub after-p-requires : goal.after-p-requires
after-p-requires c = (access-from _ _ _ refl refl c.requires).group

pub after-read-requires : goal.after-read-requires
after-read-requires c = (access-from _ _ _ c.after-p.ensures.is refl c.requires).prefix

pub returns-then-view_type-eq-READ : goal.returns-then-view_type-eq-READ
returns-then-view_type-eq-READ c =
    let l = access-from _ _ _ c.after-p.ensures.is c.after-read.ensures.is c.requires in
    record { lies = l.read; is = view-read _ _ c.if-view_type-eq-READ.true ∙ sym (ap (view_for _) l.holds) }

pub after-write-requires : goal.after-write-requires
after-write-requires c =
    (access-from _ _ _ c.after-p.ensures.is c.after-read.ensures.is c.requires).read

pub returns-then-view_type-eq-WRITE : goal.returns-then-view_type-eq-WRITE
returns-then-view_type-eq-WRITE c =
    let l = access-at _ _ _ _ _ c.after-p.ensures.is c.after-read.ensures.is c.after-write.ensures.is refl c.requires in
    record { lies = l.write; is = view-write _ _ c.if-view_type-eq-READ.false c.if-view_type-eq-WRITE.true ∙ sym (ap (view_for _) l.holds) }

pub after-requires : goal.after-requires
after-requires c =
    (access-at _ _ _ _ _ c.after-p.ensures.is c.after-read.ensures.is c.after-write.ensures.is refl c.requires).write

pub returns : goal.returns
returns c =
    let w = c.after-write in
    let l = access-at _ _ _ _ _ c.after-p.ensures.is c.after-read.ensures.is w.ensures.is c.after.ensures.is c.requires in
    record { lies = l.notify; is = view-notify _ _ c.if-view_type-eq-READ.false c.if-view_type-eq-WRITE.false ∙ sym (ap (view_for _) l.holds) }
