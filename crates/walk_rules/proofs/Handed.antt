-- What a walk hands back is the walk over the rows held: its lent rooms have at their front what is laid there, as long as the answer says.
-- A walk is one of four cases (`walk-cases`): it reaches an instance, or it is refused by the end, a cause or a fault. Assumes nothing.
use mathlib.Core.Path.{◌≡◌, refl, ap₂}
use mathlib.Core.Bool.{Bool, true, false, cond}
use mathlib.Core.List.{List, []}
use mathlib.Core.Option.{Option, none, some}
use Prim.Native.Nat.{ℕ, ◌+◌}
use lib.ListN.{length, take, drop}
use lib.Seq.{take_at}
use Rattle.answers.specs.declared.Cause.{Cause}
use Rattle.answers.specs.declared.Fault.{Fault}
use Rattle.answers.specs.declared.Fault.TheVariants.{NotSound, OutOfRange}
use Rattle.rows.specs.Tables.{Tables}
use Rattle.numbers.specs.Laid.{laid}
use Rattle.image.specs.Store.{held}
use Rattle.decision_steps.specs.Request.{read}
use Rattle.decision_steps.specs.Decision.{Authority, denied, viewed, authority}
use Rattle.edit_rules.specs.Edits.{Caller}
use Rattle.walk_rules.specs.declared.Walked.{Walked}
use Rattle.walk_rules.specs.declared.Walked.TheVariants.{EndOfMibView, Denied, Faulty}
use Rattle.walk_rules.specs.Walk.{Instance, Walk, refusal, reaching, if_viewed, legal_walk, walk_on, walk_in, next_instance, handed, Walks}

-- ---- the cases of a walk

module _ (P : Walk → Type 0) (next : (i : Instance) → P (reaching (some i))) (end : P (refusal EndOfMibView)) (barred : (c : Cause) → P (refusal (Denied c)))
    (faulty : (f : Fault) → P (refusal (Faulty f))) where
  case-reaching : (o : Option Instance) → P (reaching o)
  case-reaching none = end
  case-reaching (some i) = next i

  case-viewed : (a : Authority) (o : Option Instance) → P (if_viewed a (reaching o))
  case-viewed (denied cause) o = barred cause
  case-viewed (viewed rows) o = case-reaching o

  case-legal : (b : Bool) (a : Authority) (o : Option Instance) → P (cond b (if_viewed a (reaching o)) (refusal (Faulty OutOfRange)))
  case-legal true a o = case-viewed a o
  case-legal false a o = faulty OutOfRange

  pub walk-cases : (o : Option Tables) (c : Caller) (identifier : List ℕ) → P (walk_in o c identifier)
  unfolding walk_on
  walk-cases none c identifier = faulty NotSound
  walk-cases (some ts) c identifier =
      case-legal (legal_walk c identifier) (authority ts c.security_model c.security_name c.security_level read []) (next_instance ts c identifier)

-- ---- what is handed back

front : (b w : List ℕ) → take (length b) (laid 0 b w) ≡ b
front b w = take_at b (drop (0 + length b) w) (length b) refl

module _ (p k : List ℕ) where
  abbrev Kept : Walk → Type 0
  Kept w = handed w.answer (laid 0 w.identifier p) (laid 0 w.key k) ≡ w

  kept : (o : Option Tables) (c : Caller) (identifier : List ℕ) → Kept (walk_in o c identifier)
  kept =
      walk-cases Kept
      (λ i. ap₂ (λ (a b : List ℕ). record { answer = (reaching (some i)).answer; identifier = a; key = b }) (front i.identifier p) (front i.key k))
      refl (λ c. refl) (λ f. refl)

pub handed-is : {c : Caller} {identifier s p p' k k' : List ℕ} {r : Walked} → Walks c identifier s p p' k k' r
    → handed r p' k' ≡ walk_in (held s) c identifier
handed-is {c} {identifier} {s} {p} {p'} {k} {k'} {r} w = rw (w.answer_is, w.parts_are, w.key_is) (kept p k (held s) c identifier)
