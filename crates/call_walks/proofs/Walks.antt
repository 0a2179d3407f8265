-- A walk told: an instance by its own text, which is short, and a refusal by its number; of equal things the same is told. Assumes nothing.
use types.Run.{OneOf, miss}
use denote.Enum.Declared.{tag_of}
use mathlib.Core.Logic.{inl, inr}
use mathlib.Core.Path.{◌≡◌, refl}
use mathlib.Core.List.{List, [], ◌∷◌, ◌++◌}
use mathlib.Core.Option.{none}
use Prim.Native.Nat.{ℕ, ◌-◌, ◌≤◌}
use native.Mathlib.Omega.{arith}
use lib.ListN.{length, take, length-append}
use Rattle.numbers.specs.BigEndian.{Octets}
use Rattle.rows.specs.declared.Table.{Table}
use Rattle.rows.specs.Fields.{faults}
use Rattle.rows.specs.Rows.{key_fields}
use Rattle.decision_steps.specs.Request.{most_parts}
use Rattle.edit_rules.specs.Edits.{Caller, caller_of}
use Rattle.walk_rules.specs.declared.Walked.{Walked}
use Rattle.walk_rules.specs.declared.Walked.TheVariants.{Next, EndOfMibView, Denied, Faulty}
use Rattle.walk_rules.specs.Numbers.{walked_number}
use Rattle.walk_rules.specs.Walk.{Walks, handed, LegalKey}
use Rattle.walk_rules.specs.contracts.Walked.{the_type}
use Rattle.calls.specs.Does.{walks}
use Rattle.text_values.specs.Texts.{decimal_text, dotted_text}
use Rattle.call_answers.specs.Answers.{column_key_of, answer_room, Told}
use Rattle.call_answers.proofs.Instances.{dotted-short, column-key-short}
use Rattle.call_walks.specs.Texts.{next_word, next_text, walk_text, TellsWalk}

pub next-short : (instance : List ℕ) (t : Table) (column : ℕ) (key : List ℕ) → length instance ≤ most_parts → Octets key → faults (key_fields t) key ≡ none
    → length (next_text instance t column key) ≤ answer_room
next-short instance t column key few o h =
    let k = column_key_of t column key in
    omega (
      arith,
      length-append next_word (dotted_text instance ++ (32 ∷ k)),
      length-append (dotted_text instance) (32 ∷ k),
      dotted-short instance,
      few,
      column-key-short t column key o h,
    )

pub next-legal : (r : Walked) (key : List ℕ) → LegalKey r key → {n : ℕ} {t : Table} {column m : ℕ} → r ≡ Next n t column m
    → faults (key_fields t) (take (m - 0) key) ≡ none
next-legal r key l {m = m} q = let y : m - 0 ≡ m = omega arith in rw y (rw q at l)

-- what is no instance has the number of another variant
pub refused_one : (r : Walked) → ((n : ℕ) (t : Table) (column m : ℕ) → r ≡ Next n t column m → ⊥) → OneOf (1 ∷ 2 ∷ 3 ∷ []) (tag_of the_type r)
refused_one (Next n t column m) h = absurd (h n t column m refl)
refused_one EndOfMibView h = inl refl
refused_one (Denied cause) h = inr (inl refl)
refused_one (Faulty fault) h = inr (inr refl)

-- by the numbers of the variants
refused-text : (r : Walked) (parts key : List ℕ) → OneOf (1 ∷ 2 ∷ 3 ∷ []) (tag_of the_type r) → decimal_text (walked_number r) ≡ walk_text (handed r parts key)
refused-text (Next n t column m) parts key o = absurd (miss (1 ∷ 2 ∷ 3 ∷ []) 0 tt o)
refused-text EndOfMibView parts key o = refl
refused-text (Denied cause) parts key o = refl
refused-text (Faulty fault) parts key o = refl

module _ {c : Caller} {identifier s p p' k k' : List ℕ} {r : Walked} (w : Walks c identifier s p p' k k' r) {at : ℕ} {found out : List ℕ} {end : ℕ} where
  pub tells-next : {n : ℕ} {t : Table} {column m : ℕ} → r ≡ Next n t column m
      → Told (next_text (take n p') t column (take (m - 0) k')) at found out end → TellsWalk c identifier s at found out end
  tells-next {m = m} q h =
      let y : m - 0 ≡ m = omega arith in
      record { handed_back = handed r p' k'; does = walks w; told = rw q (rw y at h) }

  pub tells-refusal : OneOf (1 ∷ 2 ∷ 3 ∷ []) (tag_of the_type r) → {number : ℕ} → number ≡ walked_number r → Told (decimal_text number) at found out end
      → TellsWalk c identifier s at found out end
  tells-refusal o e h = record { handed_back = handed r p' k'; does = walks w; told = rw (e, refused-text r p' k' o) at h }

pub told-walk : {store : List ℕ} {m m' : ℕ} {n n' : List ℕ} {l l' : ℕ} {o o' : List ℕ} {at : ℕ} {w out : List ℕ} {end : ℕ} → m ≡ m' → n ≡ n' → l ≡ l'
    → o ≡ o' → TellsWalk (caller_of m n l) o store at w out end → TellsWalk (caller_of m' n' l') o' store at w out end
told-walk a b c d s = rw (← a, ← b, ← c, ← d) s
