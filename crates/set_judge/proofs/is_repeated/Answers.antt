-- `set_judge::is_repeated` meets its contract: a key that is not legal comes again nowhere, and a legal one where another edit of its table begins with its
-- bytes (`Keys` of crate `set_rules`). Assumes nothing.
use mathlib.Core.Path.{◌≡◌, refl, sym, ap, ap₂, ◌∙◌}
use mathlib.Core.Bool.{Bool, true, false}
use mathlib.Core.List.{List, [], ◌∷◌}
use mathlib.Core.Option.{none, some}
use Prim.Native.Nat.{ℕ, suc, ◌+◌, ◌-◌}
use native.Mathlib.Omega.{arith}
use lib.ListN.{take}
use Rattle.numbers.specs.BigEndian.{Octets}
use Rattle.numbers.specs.Lists.{any, is_none}
use Rattle.numbers.proofs.BigEndian.{octets-take, octets-drop}
use Rattle.numbers.proofs.Keeps.{any-ext}
use Rattle.rows.specs.Fields.{fronts, span}
use Rattle.rows.specs.Rows.{key_fields}
use Rattle.rows.proofs.Appends.{fronts-room}
use Rattle.rows.proofs.Walks.{reached-at, reached-bad}
use Rattle.edit_rules.specs.Edits.{Edit}
use Rattle.set_rules.specs.Sets.{key_legal, key_bytes, same_key}
use Rattle.set_rules.specs.Handed.{edit_in, place_in, edits_from}
use Rattle.set_rules.specs.Made.{begins}
use Rattle.set_rules.proofs.Keys.{begins-same, illegal-apart}
use Rattle.set_judge.proofs.is_repeated.Goals as goal

any_none : {A : Type 0} (p : A → Bool) (xs : List A) → ((x : A) → p x ≡ false) → any p xs ≡ false
any_none p [] h = refl
any_none p (x ∷ xs) h = rw (h x) (any_none p xs h)

-- the edit at the place, and its bytes

-- its key is legal, and where it ends

pub bounds-edits-i : goal.bounds-edits-i
bounds-edits-i c = omega (arith, c.requires.few, c.requires.place)

pub returns-in_default : goal.returns-in_default
unfolding key_legal
returns-in_default c =
    let here : Edit = edit_in (place_in c.args.edits c.args.i) c.args.bytes.now in
    let own : List ℕ = c.bytes_of-own.result.now in
    let own_is : own ≡ (here).bytes = c.bytes_of-own.ensures in
    let d = here in
    let f : fronts (key_fields d.table) own ≡ some c.in_default.field-0 =
    reached-bad _ _ _ (sym c.judge_front.ensures ∙ c.in_default.is) in
    let l : key_legal d ≡ false = ap (λ v. is_none (fronts (key_fields d.table) v)) (sym own_is) ∙ ap is_none f in
    sym (any_none (same_key d) (edits_from c.args.edits c.args.bytes.now (suc c.args.i) (c.args.count - suc c.args.i)) (λ e. illegal-apart d e l))

pub slice_bounds-comes_again-end : goal.slice_bounds-comes_again-end
slice_bounds-comes_again-end c =
    let here : Edit = edit_in (place_in c.args.edits c.args.i) c.args.bytes.now in
    let own : List ℕ = c.bytes_of-own.result.now in
    let legal : (fronts (key_fields (here).table) (own) ≡ none) × (0 + span (key_fields (here).table) (own) ≡ c.in-Ok.k) = reached-at _ _ _ (sym c.judge_front.ensures ∙ c.in-Ok.is) in
    omega (arith, fronts-room (key_fields (here).table) own (legal).0, (legal).1)

pub comes_again-requires : goal.comes_again-requires
comes_again-requires c = record { few = c.requires.few; place = omega (arith, c.requires.place) }

pub returns : goal.returns
unfolding key_legal key_bytes
returns c =
    let here : Edit = edit_in (place_in c.args.edits c.args.i) c.args.bytes.now in
    let own : List ℕ = c.bytes_of-own.result.now in
    let legal : (fronts (key_fields (here).table) (own) ≡ none) × (0 + span (key_fields (here).table) (own) ≡ c.in-Ok.k) = reached-at _ _ _ (sym c.judge_front.ensures ∙ c.in-Ok.is) in
    let own_is : own ≡ (here).bytes = c.bytes_of-own.ensures in
    let own-bytes : Octets (here).bytes = let x = place_in c.args.edits c.args.i in octets-take (x.end - x.from) _ (octets-drop x.from c.args.bytes.now (λ i. omega (arith, c.shared_slice_known-1.given i))) in
    let a = c.args in
    let d = here in
    let n : c.in-Ok.k - 0 ≡ span (key_fields d.table) own = omega (arith, (legal).1) in
    let key : take (c.in-Ok.k - 0) own ≡ key_bytes d =
    ap (λ m. take m own) n ∙ ap (λ v. take (span (key_fields d.table) v) v) own_is in
    let l : key_legal d ≡ true = ap (λ v. is_none (fronts (key_fields d.table) v)) (sym own_is) ∙ ap is_none (legal).0 in
    let i : a.i + 1 ≡ suc a.i = omega arith in
    c.comes_again.ensures
    ∙ ap₂ (λ u m. any (begins d.table u) (edits_from a.edits a.bytes.now m (a.count - m))) key i
    ∙ any-ext (begins d.table (key_bytes d)) (same_key d) (edits_from a.edits a.bytes.now (suc a.i) (a.count - suc a.i))
    (λ e. begins-same d e own-bytes l)
