-- The next instance is of a held row, it follows, and none that follows is before it; there is none exactly if none follows.
-- The first three are read off the search among those that follow. For the last, of one or more elements some one has no other before it
-- (`foremost-found`). Assumes nothing.
use mathlib.Core.Path.{◌≡◌, refl, sym, ◌∙◌}
use mathlib.Core.Bool.{Bool, false, not}
use mathlib.Core.List.{List, [], ◌∷◌}
use Prim.Native.Nat.{ℕ}
use Rattle.numbers.specs.Lists.{keep, every, any, find, is_none}
use Rattle.numbers.specs.Order.{before}
use Rattle.numbers.proofs.Bools.{split, not-is-true, not-is-false}
use Rattle.numbers.proofs.Keeps.{every-keep, every-kept, every-unkept, any-keep, keep-any, on-some-imp, find-is}
use Rattle.numbers.proofs.Foremost.{forwards, foremost-found}
use Rattle.rows.specs.Tables.{Tables}
use Rattle.edit_rules.specs.Edits.{Caller}
use Rattle.walk_rules.specs.Walk.{Instance, instances, follows, least, next_instance}
use Rattle.walk_rules.specs.Least.{ReachesLeast}

least-some : (i : Instance) (is : List Instance) → is_none (least (i ∷ is)) ≡ false
unfolding least
least-some i is = foremost-found _ (forwards (λ j. j.identifier)) i is

module _ (ts : Tables) (c : Caller) (identifier : List ℕ) where
  abbrev f : Instance → Bool
  f = follows ts c identifier

  none-exactly : (is : List Instance) → keep f (instances ts) ≡ is → is_none (least is) ≡ not (any f (instances ts))
  unfolding least
  none-exactly [] e = sym (not-is-true (keep-any f (instances ts) e))
  none-exactly (i ∷ is) e =
      least-some i is
      ∙ sym (not-is-false (split (any f (instances ts)) (λ h. h) (λ h. let q : i ∷ is ≡ [] = sym e ∙ any-keep f (instances ts) h in cc)))

  pub reaches-least : ReachesLeast ts c identifier
  unfolding next_instance least
  reaches-least =
      let is = keep f (instances ts) in
      let p : Instance → Bool = λ i. every (λ j. not (before j.identifier i.identifier)) is in
      record {
        is_held = λ g a. on-some-imp _ _ (find p is) (λ i h. h.1) (find-is p g is (every-keep g f (instances ts) a));
        does_follow = on-some-imp _ _ (find p is) (λ i h. h.1) (find-is p f is (every-kept f (instances ts)));
        is_least =
            on-some-imp _ _ (find p is) (λ i h. every-unkept _ f (instances ts) h.0) (find-is p f is (every-kept f (instances ts)));
        end_exactly = none-exactly is refl;
      }
