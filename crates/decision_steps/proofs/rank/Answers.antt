-- `decision_steps::rank` meets its contract. The places are those of a whole access row, by the answers of `after`.
-- A test that fails makes the row no candidate, of rank 0; a row that passes them all has the rank of its model, prefix and level.
-- Assumes nothing.
use mathlib.Core.Path.{◌≡◌, refl, sym, ap, ◌∙◌}
use mathlib.Core.Bool.{true}
use Prim.Native.Nat.{◌+◌, ◌-◌, ◌*◌}
use native.Mathlib.Omega.{arith}
use lib.ListN.{length, get_or}
use Rattle.numbers.specs.Order.{same}
use Rattle.decision_steps.specs.Decision.{is_active, context_fits}
use Rattle.decision_steps.specs.Bytes.{name_at, rank_of}
use Rattle.decision_steps.proofs.Layouts.{length-name, access-from}
use Rattle.decision_steps.proofs.Steps.{rank-group, rank-status, rank-context, rank-level, rank-model, rank-any, rank-own}
use Rattle.decision_steps.proofs.rank.Goals as goal

pub is_name-requires : goal.is_name-requires
is_name-requires c =
    (access-from _ _ _ refl refl c.requires).group

pub returns-then-not-is_name : goal.returns-then-not-is_name
returns-then-not-is_name c =
    rank-group _ _ _ _ _ (sym c.is_name.ensures ∙ c.if-not-is_name.true) ∙ sym (ap (rank_of _ _ _ _) (access-from _ _ _ refl refl c.requires).holds)

pub is_active-requires : goal.is_active-requires
is_active-requires c =
    omega (arith, (access-from _ _ _ refl refl c.requires).group)

pub returns-then-not-is_active : goal.returns-then-not-is_active
returns-then-not-is_active c =
    rank-status _ _ _ _ _ (sym c.is_active.ensures ∙ c.if-not-is_active.true) ∙ sym (ap (rank_of _ _ _ _) (access-from _ _ _ refl refl c.requires).holds)

pub after-p-requires : goal.after-p-requires
after-p-requires c =
    (access-from _ _ _ refl refl c.requires).group

pub after-m-requires : goal.after-m-requires
after-m-requires c = (access-from _ _ _ c.after-p.ensures.is refl c.requires).prefix

pub fits-requires : goal.fits-requires
fits-requires c =
    let l = access-from _ _ _ c.after-p.ensures.is c.after-m.ensures.is c.requires in record { prefix = l.prefix; octet = omega (arith, l.read) }

pub returns-then-not-fits : goal.returns-then-not-fits
returns-then-not-fits c =
    rank-context _ _ _ _ _ (sym c.fits.ensures ∙ c.if-not-fits.true) ∙ sym (ap (rank_of _ _ _ _) (access-from _ _ _ c.after-p.ensures.is c.after-m.ensures.is c.requires).holds)

pub bounds-row-m : goal.bounds-row-m
bounds-row-m c =
    omega (arith, (access-from _ _ _ c.after-p.ensures.is c.after-m.ensures.is c.requires).read)

pub returns-then-security_level-least : goal.returns-then-security_level-least
returns-then-security_level-least c =
    rank-level _ _ _ _ _ (rw c.wide-least.ensures.equal at c.if-security_level-least.true)
    ∙ sym (ap (rank_of _ _ _ _) (access-from _ _ _ c.after-p.ensures.is c.after-m.ensures.is c.requires).holds)

pub quad_at-own-requires : goal.quad_at-own-requires
quad_at-own-requires c =
    omega (arith, (access-from _ _ _ c.after-p.ensures.is c.after-m.ensures.is c.requires).read)

pub returns-then-own-eq-ANY_MODEL : goal.returns-then-own-eq-ANY_MODEL
returns-then-own-eq-ANY_MODEL c =
    let passed : let s = c.args in let row = s.row.now in (same (name_at row 0) s.group_name.now ≡ true) × (is_active (get_or row (length row - 1) 0) ≡ true) × (context_fits (get_or row (c.after-m.result + 5) 0) (name_at row c.after-p.result) s.context_name.now ≡ true) = (sym c.is_name.ensures ∙ c.if-not-is_name.false, sym c.is_active.ensures ∙ c.if-not-is_active.false, sym c.fits.ensures ∙ c.if-not-fits.false) in
    let base : let row = c.args.row.now in c.wide.result * 4 + c.wide-least.result ≡ length (name_at row c.after-p.result) * 4 + get_or row (c.after-m.result + 4) 0 = omega (arith, c.wide.ensures.equal, c.wide-least.ensures.equal, length-name c.args.row.now c.after-p.result (access-from _ _ _ c.after-p.ensures.is c.after-m.ensures.is c.requires).prefix) in
    let t = passed in
    base ∙ rank-any _ _ _ _ _ t.0 t.1 t.2 (rw c.wide-least.ensures.equal at c.if-security_level-least.false)
    (sym c.quad_at-own.ensures.value ∙ c.if-own-eq-ANY_MODEL.true)
    ∙ sym (ap (rank_of _ _ _ _) (access-from _ _ _ c.after-p.ensures.is c.after-m.ensures.is c.requires).holds)

pub returns-then-own-security_model : goal.returns-then-own-security_model
returns-then-own-security_model c =
    let passed : let s = c.args in let row = s.row.now in (same (name_at row 0) s.group_name.now ≡ true) × (is_active (get_or row (length row - 1) 0) ≡ true) × (context_fits (get_or row (c.after-m.result + 5) 0) (name_at row c.after-p.result) s.context_name.now ≡ true) = (sym c.is_name.ensures ∙ c.if-not-is_name.false, sym c.is_active.ensures ∙ c.if-not-is_active.false, sym c.fits.ensures ∙ c.if-not-fits.false) in
    let base : let row = c.args.row.now in c.wide.result * 4 + c.wide-least.result ≡ length (name_at row c.after-p.result) * 4 + get_or row (c.after-m.result + 4) 0 = omega (arith, c.wide.ensures.equal, c.wide-least.ensures.equal, length-name c.args.row.now c.after-p.result (access-from _ _ _ c.after-p.ensures.is c.after-m.ensures.is c.requires).prefix) in
    let t = passed in
    ap (λ n. 256 + n) base ∙ rank-own _ _ _ _ _ t.0 t.1 t.2 (rw c.wide-least.ensures.equal at c.if-security_level-least.false)
    (λ e. c.if-own-eq-ANY_MODEL.false (c.quad_at-own.ensures.value ∙ e)) (sym c.quad_at-own.ensures.value ∙ c.if-own-security_model.true)
    ∙ sym (ap (rank_of _ _ _ _) (access-from _ _ _ c.after-p.ensures.is c.after-m.ensures.is c.requires).holds)

pub returns : goal.returns
returns c =
    rank-model _ _ _ _ _ (λ e. c.if-own-eq-ANY_MODEL.false (c.quad_at-own.ensures.value ∙ e)) (λ e. c.if-own-security_model.false (c.quad_at-own.ensures.value ∙ e))
    ∙ sym (ap (rank_of _ _ _ _) (access-from _ _ _ c.after-p.ensures.is c.after-m.ensures.is c.requires).holds)
