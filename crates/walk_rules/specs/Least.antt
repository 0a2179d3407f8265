-- What it comes to that a walk reaches `next_instance` (document 02, ticket 1), for any tables, caller and identifier. Assumes nothing.
use Rattle.std.specs.Prelude.{◌≡◌, Bool, true, not, ◌||◌, List, ℕ}
use Rattle.numbers.specs.Lists.{every, any, OnSome, is_none}
use Rattle.numbers.specs.Order.{before}
use Rattle.rows.specs.Tables.{Tables}
use Rattle.edit_rules.specs.Edits.{Caller}
use Rattle.walk_rules.specs.Walk.{Instance, instances, follows, next_instance}

pub record ReachesLeast (ts : Tables) (c : Caller) (identifier : List ℕ) : Type 0 where
  -- "instance of a held row": what is true of all of them is true of it
  pub is_held : (p : Instance → Bool) → every p (instances ts) ≡ true → OnSome (λ i. p i ≡ true) (next_instance ts c identifier)
  -- "above it that the principal may read"
  pub does_follow : OnSome (λ i. follows ts c identifier i ≡ true) (next_instance ts c identifier)
  -- "the least": none that follows is before it
  pub is_least : OnSome (λ i. every (λ j. not (follows ts c identifier j) || not (before j.identifier i.identifier)) (instances ts) ≡ true)
      (next_instance ts c identifier)
  -- "17 when no readable instance follows": exactly then
  pub end_exactly : is_none (next_instance ts c identifier) ≡ not (any (follows ts c identifier) (instances ts))
