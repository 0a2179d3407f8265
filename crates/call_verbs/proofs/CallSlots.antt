-- What slots hold is what their values mean. Assumes nothing.
use mathlib.Core.Path.{◌≡◌, refl, ap}
use mathlib.Core.List.{List}
use mathlib.Core.Option.{some}
use Prim.Native.Nat.{ℕ, ◌<◌}
use native.Mathlib.Omega.{arith}
use lib.ListN.{length, get_or}
use Rattle.rows.specs.declared.Table.{Table}
use Rattle.edit_rules.specs.Edits.{Caller, edit_of, caller_of}
use Rattle.calls.specs.Does.{Call, ask, owner, by, walk}
use Rattle.text_rows.specs.declared.Slot.{Slot}
use Rattle.line_fields.specs.Kinds.{Value, value_at}
use Rattle.line_fields.specs.Slots.{side, in_parts, kind_in, slot_in, Holds}
use Rattle.line_fields.proofs.RequestSlots.{request-held}
use Rattle.call_verbs.specs.declared.Verb.{Verb}
use Rattle.call_verbs.specs.declared.Verb.TheVariants.{Decide, Owner, Principal, Encode, Decode, Image, MatchView, MatchAccess, Walk, Explain}
use Rattle.call_verbs.specs.declared.Verb.TheVariants.{Unknown}
use Rattle.call_verbs.specs.Calls.{kinds_of, calls, encodes, decodes, matches_view, matches_access, explains, meaning}
use Rattle.call_verbs.specs.CallSlots.{asked_in}

same-edit : {o o' : Value} → o ≡ o' → edit_of o.operation o.table o.parts ≡ edit_of o'.operation o'.table o'.parts
same-edit e = ap (λ v. edit_of v.operation v.table v.parts) e

same-caller : {m m' : ℕ} {n n' : List ℕ} {l l' : ℕ} → m ≡ m' → n ≡ n' → l ≡ l' → caller_of m n l ≡ caller_of m' n' l'
same-caller a b c = rw (a, b, c)

-- of a caller and what else is handed
same-call : {A : Type 0} (of : Caller → A → Call) {c c' : Caller} {x x' : A} → c ≡ c' → x ≡ x' → some (calls (of c x)) ≡ some (calls (of c' x'))
same-call of a b = rw (a, b)

same-encoded : {t t' : Table} {n n' : ℕ} {k k' : List ℕ} → t ≡ t' → n ≡ n' → k ≡ k' → some (encodes t n k) ≡ some (encodes t' n' k')
same-encoded a b c = rw (a, b, c)

same_view : {n n' v v' : List ℕ} → n ≡ n' → v ≡ v' → some (matches_view n v) ≡ some (matches_view n' v')
same_view a b = rw (a, b)

same-access : {g g' c c' : List ℕ} {m m' l l' : ℕ} → g ≡ g' → c ≡ c' → m ≡ m' → l ≡ l'
    → some (matches_access g c m l) ≡ some (matches_access g' c' m' l')
same-access a b c d = rw (a, b, c, d)

numbered : {v v' : Value} → v ≡ v' → get_or v.parts 0 0 ≡ get_or v'.parts 0 0
numbered e = ap (λ v. get_or v.parts 0 0) e

pub asked-held : (v : Verb) (slots : List Slot) (bytes parts : List ℕ) (values : List Value)
    → ((i : ℕ) → i < length (kinds_of v) → Holds (slot_in slots i) (value_at i values) (side (in_parts (kind_in (kinds_of v) i)) bytes parts))
    → meaning v values ≡ asked_in v slots bytes parts
asked-held Decide slots bytes parts values h = ap (λ q. some (calls (ask q))) (request-held slots bytes parts values h)
asked-held Owner slots bytes parts values h = ap (λ e. some (calls (owner e))) (same-edit (h 0 (omega arith)).is)
asked-held Principal slots bytes parts values h =
    same-call by
    (same-caller (numbered (h 0 (omega arith)).is) (ap (λ v. v.parts) (h 1 (omega arith)).is) (numbered (h 2 (omega arith)).is))
    (same-edit (h 3 (omega arith)).is)
asked-held Encode slots bytes parts values h =
    same-encoded (ap (λ v. v.table) (h 1 (omega arith)).is) (numbered (h 0 (omega arith)).is) (ap (λ v. v.parts) (h 1 (omega arith)).is)
asked-held Decode slots bytes parts values h = ap (λ v. some (decodes v.parts)) (h 0 (omega arith)).is
asked-held Image slots bytes parts values h = refl
asked-held MatchView slots bytes parts values h =
    same_view (ap (λ v. v.parts) (h 0 (omega arith)).is) (ap (λ v. v.parts) (h 1 (omega arith)).is)
asked-held MatchAccess slots bytes parts values h =
    same-access (ap (λ v. v.parts) (h 0 (omega arith)).is) (ap (λ v. v.parts) (h 1 (omega arith)).is) (numbered (h 2 (omega arith)).is)
    (numbered (h 3 (omega arith)).is)
asked-held Walk slots bytes parts values h =
    same-call walk
    (same-caller (numbered (h 0 (omega arith)).is) (ap (λ v. v.parts) (h 1 (omega arith)).is) (numbered (h 2 (omega arith)).is))
    (ap (λ v. v.parts) (h 3 (omega arith)).is)
asked-held Explain slots bytes parts values h = ap (λ q. some (explains q)) (request-held slots bytes parts values h)
asked-held Unknown slots bytes parts values h = refl
