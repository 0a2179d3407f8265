-- The instance that a walk hands back and its key lie in the lent rooms. Assumes nothing.
use mathlib.Core.Path.{◌≡◌}
use mathlib.Core.List.{List}
use mathlib.Core.Option.{Option}
use Prim.Native.Nat.{ℕ, ◌+◌, ◌≤◌}
use native.Mathlib.Omega.{arith}
use lib.ListN.{length, drop, length-append}
use Rattle.numbers.specs.Laid.{laid}
use Rattle.rows.specs.declared.Table.{Table}
use Rattle.rows.specs.Tables.{Tables}
use Rattle.image.specs.Store.{held}
use Rattle.edit_rules.specs.Edits.{Caller}
use Rattle.walk_rules.specs.declared.Walked.{Walked}
use Rattle.walk_rules.specs.declared.Walked.TheVariants.{Next, EndOfMibView, Denied, Faulty}
use Rattle.walk_rules.specs.Walk.{Walk, walk_in, Walks}
use Rattle.walk_rules.proofs.Handed.{walk-cases}

abbrev Inside : Walked → (parts key : List ℕ) → Type 0
Inside (Next n t column m) parts key = (n ≤ length parts) × (m ≤ length key)
Inside EndOfMibView parts key = Unit {0}
Inside (Denied cause) parts key = Unit {0}
Inside (Faulty fault) parts key = Unit {0}

laid-inside : (b w : List ℕ) → length b ≤ length (laid 0 b w)
laid-inside b w = omega (arith, length-append b (drop (0 + length b) w))

module _ (p k : List ℕ) where
  abbrev Fits : Walk → Type 0
  Fits w = Inside w.answer (laid 0 w.identifier p) (laid 0 w.key k)

  fits : (o : Option Tables) (c : Caller) (identifier : List ℕ) → Fits (walk_in o c identifier)
  fits = walk-cases Fits (λ i. (laid-inside i.identifier p, laid-inside i.key k)) tt (λ c. tt) (λ f. tt)

pub next-inside : {c : Caller} {identifier s p p' k k' : List ℕ} {r : Walked} → Walks c identifier s p p' k k' r
    → {n : ℕ} {t : Table} {column m : ℕ} → r ≡ Next n t column m → (n ≤ length p') × (m ≤ length k')
next-inside {c} {identifier} {s} {p} {p'} {k} {k'} w q =
    let f : Inside (walk_in (held s) c identifier).answer p' k' = rw (w.parts_are, w.key_is) (fits p k (held s) c identifier) in
    rw (← w.answer_is, q) at f
