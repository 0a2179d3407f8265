-- `walk_rows::key_end` meets its contract: in each table the key ends behind its last name, that name and a number and a level, or its subtree
-- (`KeyEnds`), each of which lies where the fields of a whole row do. Assumes nothing.
use mathlib.Core.Path.{refl, ap, ◌∙◌}
use Prim.Native.Nat.{◌+◌, ◌*◌}
use native.Mathlib.Omega.{arith}
use Rattle.decision_steps.proofs.Layouts.{context-at, mapping-at, access-from, view-from}
use Rattle.walk_rows.proofs.KeyEnds.{context-end, mapping-end, access-end, view-end}
use Rattle.walk_rows.proofs.key_end.Goals as goal

pub after-requires : goal.after-requires
after-requires c = (context-at _ (rw c.in-Context.is at c.requires)).name

pub after-requires-in-Mapping : goal.after-requires-in-Mapping
after-requires-in-Mapping c = (mapping-at _ _ refl (rw c.in-Mapping.is at c.requires)).name

pub after-prefix-requires : goal.after-prefix-requires
after-prefix-requires c = (access-from _ _ _ refl refl (rw c.in-Access.is at c.requires)).group

pub after-requires-in-Access : goal.after-requires-in-Access
after-requires-in-Access c = (access-from _ _ _ c.after-prefix.ensures.is refl (rw c.in-Access.is at c.requires)).prefix

pub after-subtree-requires : goal.after-subtree-requires
after-subtree-requires c = (view-from _ _ refl (rw c.in-View.is at c.requires)).name

pub bounds-row-subtree : goal.bounds-row-subtree
bounds-row-subtree c = omega (arith, (view-from _ _ c.after-subtree.ensures.is (rw c.in-View.is at c.requires)).mask)

pub returns-in-Context : goal.returns-in-Context
returns-in-Context c = rw c.in-Context.is (c.after.ensures.is ∙ context-end _)

pub returns-in-Mapping : goal.returns-in-Mapping
returns-in-Mapping c = rw c.in-Mapping.is (c.after-in-Mapping.ensures.is ∙ mapping-end _)

pub returns-in-Access : goal.returns-in-Access
returns-in-Access c = rw c.in-Access.is (ap (λ n. n + 5) c.after-in-Access.ensures.is ∙ access-end _ _ c.after-prefix.ensures.is)

pub returns-in-View : goal.returns-in-View
returns-in-View c =
    rw c.in-View.is
    (ap (λ n. c.after-subtree.result + 1 + 4 * n) c.wide.ensures.equal ∙ view-end _ _ c.after-subtree.ensures.is)
