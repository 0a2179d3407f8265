use mathlib.Core.Path.{◌≡◌, refl, sym, subst, ◌∙◌}
use mathlib.Core.List.{List, [], ◌∷◌}
use Prim.Native.Nat.{ℕ, suc, ◌+◌, ◌-◌, ◌<◌}
use native.Mathlib.Omega.{arith}
use Rattle.rows.specs.declared.Shape.{Shape}
use Rattle.set_rules.specs.declared.SetEdit.{SetEdit}
use Rattle.set_rules.specs.Handed.{edit_in, place_in, edits_from}
use Rattle.set_rules.specs.Made.{of_shape, Makes}
use Rattle.set_rules.proofs.Promises.{makes_none, makes-next, makes-sound}
use Rattle.set_judge.proofs.Places.{edits-next, edits-none}
use Rattle.edit_sets.proofs.make_all.Goals as goal

-- the edit at place i, and then those behind it

makes-place : (s : Shape) (xs : List SetEdit) (bytes : List ℕ) (i n : ℕ) → i < n → (w mid after : List ℕ)
    → Makes (of_shape s (edit_in (place_in xs i) bytes ∷ [])) w mid → Makes (of_shape s (edits_from xs bytes (i + 1) (n - (i + 1)))) mid after
    → Makes (of_shape s (edits_from xs bytes i (n - i))) w after
makes-place s xs bytes i n h w mid after k m =
    let j : i + 1 ≡ suc i = omega arith in
    subst (λ es. Makes (of_shape s es) w after) (sym (edits-next xs bytes i n h))
    (makes-next s (edit_in (place_in xs i) bytes) (edits_from xs bytes (suc i) (n - suc i)) w mid after k
    (subst (λ p. Makes (of_shape s (edits_from xs bytes p (n - p))) mid after) j m))

pub loop-i-init : goal.loop-i-init
loop-i-init c =
    let a = c.args in
    let z : a.count - 0 ≡ a.count = omega arith in
    (omega arith, refl, c.requires.sound, λ after m. subst (λ n. Makes (of_shape a.s (edits_from a.edits a.bytes.now 0 n)) a.w.now after) z m)

pub bounds-edits-i : goal.bounds-edits-i
bounds-edits-i c = omega (arith, c.loop-i-test.true, c.requires.few)

pub make-requires : goal.make-requires
make-requires c = c.loop-i.invariant.2

pub loop-i-preserved : goal.loop-i-preserved
loop-i-preserved c =
    let l = c.loop-i in
    let a = c.args in
    let e = edit_in (place_in a.edits l.i) a.bytes.now in
    let w = c.make.new.w in (
      omega (arith, c.loop-i-test.true),
      c.make.auto.w ∙ l.invariant.1,
      makes-sound (of_shape a.s (e ∷ [])) l.w w c.make.ensures l.invariant.2,
      (λ after m. l.invariant.3 after
          (makes-place a.s a.edits a.bytes.now l.i a.count c.loop-i-test.true l.w w after c.make.ensures m)),
    )

pub shape_of-w : goal.shape_of-w
shape_of-w c = c.loop-i.invariant.1

pub returns : goal.returns
returns c =
    let l = c.loop-i in
    let a = c.args in
    l.invariant.3 l.w
    (subst (λ es. Makes (of_shape a.s es) l.w l.w) (sym (edits-none a.edits a.bytes.now l.i a.count (omega (arith, c.loop-i-test.false))))
    (makes_none l.w))
