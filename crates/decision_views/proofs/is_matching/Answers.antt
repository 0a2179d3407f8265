-- `decision_views::is_matching` meets its contract. Of a whole view row the parts that are lent are the subtree's bytes and the mask's octets,
-- so what `is_below` answers is whether the row matches. Assumes nothing.
use mathlib.Core.Path.{◌≡◌, refl, sym, ap, ap₂, ◌∙◌}
use Prim.Native.Nat.{◌+◌, ◌*◌}
use native.Mathlib.Omega.{arith}
use Rattle.numbers.proofs.Bools.{and-false-right}
use Rattle.rows.specs.Rows.{view_of}
use Rattle.decision_steps.specs.Decision.{in_view, agrees, matches}
use Rattle.decision_steps.specs.Bytes.{identifier}
use Rattle.decision_steps.proofs.Layouts.{past_subtree, name-part, subtree-part, ViewAt, view-at, view-from}
use Rattle.decision_views.proofs.Membership.{and-holds}
use Rattle.decision_views.proofs.is_matching.Goals as goal

pub after-s-requires : goal.after-s-requires
after-s-requires c = (view-from _ _ refl c.requires).name

pub bounds-row-s : goal.bounds-row-s
bounds-row-s c = omega (arith, (view-from _ _ c.after-s.ensures.is c.requires).mask)

pub after-end-requires : goal.after-end-requires
after-end-requires c =
    let mask_is : c.after-s.result + 1 + 4 * c.wide.result ≡ past_subtree c.args.row.now c.after-s.result = ap (λ n. c.after-s.result + 1 + 4 * n) c.wide.ensures.equal in
    (view-at _ _ _ c.after-s.ensures.is mask_is c.requires).mask

pub returns-then-not-is_below : goal.returns-then-not-is_below
unfolding matches
returns-then-not-is_below c =
    let mask_is : c.after-s.result + 1 + 4 * c.wide.result ≡ past_subtree c.args.row.now c.after-s.result = ap (λ n. c.after-s.result + 1 + 4 * n) c.wide.ensures.equal in
    let places : ViewAt c.args.row.now c.after-s.result (c.after-s.result + 1 + 4 * c.wide.result) = view-at _ _ _ c.after-s.ensures.is mask_is c.requires in
    let below : let s = c.args in c.is_below.result ≡ matches (identifier s.variable.now) (view_of s.row.now) = let s = c.args in c.is_below.ensures ∙ ap₂ (λ a b. agrees a 0 (identifier b) (identifier s.variable.now)) (name-part s.row.now _ _ c.after-end.ensures.is) (subtree-part s.row.now c.after-s.result _ mask_is) ∙ ap (λ r. agrees r.mask 0 r.subtree (identifier s.variable.now)) (sym (places).holds) in
    let a = c.args in
    sym (and-false-right (in_view a.view_name.now (view_of a.row.now)) (sym below ∙ c.if-not-is_below.true))

pub returns : goal.returns
unfolding matches
returns c =
    let mask_is : c.after-s.result + 1 + 4 * c.wide.result ≡ past_subtree c.args.row.now c.after-s.result = ap (λ n. c.after-s.result + 1 + 4 * n) c.wide.ensures.equal in
    let places : ViewAt c.args.row.now c.after-s.result (c.after-s.result + 1 + 4 * c.wide.result) = view-at _ _ _ c.after-s.ensures.is mask_is c.requires in
    let below : let s = c.args in c.is_below.result ≡ matches (identifier s.variable.now) (view_of s.row.now) = let s = c.args in c.is_below.ensures ∙ ap₂ (λ a b. agrees a 0 (identifier b) (identifier s.variable.now)) (name-part s.row.now _ _ c.after-end.ensures.is) (subtree-part s.row.now c.after-s.result _ mask_is) ∙ ap (λ r. agrees r.mask 0 r.subtree (identifier s.variable.now)) (sym (places).holds) in
    c.is_in_view.ensures ∙ and-holds _ _ (sym below ∙ c.if-not-is_below.false)
