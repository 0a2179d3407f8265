-- Laws of a set played: more edits than a set has are answered alike, whatever they are, so that of those the number is enough; and the call of what was
-- read is that of what is said. Assumes nothing.
use mathlib.Core.Path.{◌≡◌, refl, sym, ap, fun_ext, ◌∙◌}
use mathlib.Core.List.{List}
use mathlib.Core.Option.{Option, none, some}
use Prim.Native.Nat.{ℕ, zero, suc, ◌*◌, ◌<◌}
use native.Mathlib.Omega.{arith}
use lib.Dec.{ltb}
use lib.ListN.{length, take}
use borrow.Author.Tests.{ltb-true, ltb-false}
use Rattle.std.specs.Prelude.{Err}
use Rattle.answers.specs.declared.Refusal.TheVariants.{Faulty}
use Rattle.answers.specs.declared.Fault.TheVariants.{NotASet}
use Rattle.numbers.proofs.Bools.{split as by}
use Rattle.rows.specs.Tables.{Tables}
use Rattle.rows.proofs.Steps.{within-high}
use Rattle.image.specs.Store.{held}
use Rattle.edit_rules.specs.Edits.{Edit, Caller, outcome, caller_of}
use Rattle.set_rules.specs.declared.SetEdit.{SetEdit}
use Rattle.set_rules.specs.declared.EditSet.{EditSet}
use Rattle.set_rules.specs.Sets.{most_edits, is_set, answer_at, set_judged, SetOutcome, principal_set}
use Rattle.set_rules.specs.Handed.{edits_from, edits_of}
use Rattle.set_rules.specs.Promise.{set_outcome, position_in}
use Rattle.calls.specs.Does.{by_set, Reply, Does, acts_all}
use Rattle.text_words.specs.Words.{words_from}
use Rattle.text_rows.specs.declared.Slot.{Slot}
use Rattle.line_fields.specs.Slots.{part_in}
use Rattle.line_fields.proofs.Fronts.{between-kept}
use Rattle.call_verbs.specs.Calls.{calls}
use Rattle.set_words.specs.SetWords.{edits_said, caller_said, set_said}
use Rattle.set_words.specs.Reading.{Called, Says}
use Rattle.set_words.proofs.Sets.{set-said}
use Rattle.call_plays.specs.Plays.{Plays, PutsPlay}
use Rattle.call_plays.proofs.Plays.{plays-as}

-- ---- more edits than a set has

abbrev no_set : Tables → SetOutcome
no_set ts = record { answer = answer_at (Err (Faulty NotASet)) 0; rows = ts }

long-set : (ts : Tables) (c : Caller) (es : List Edit) → most_edits < length es → principal_set ts c es ≡ no_set ts
unfolding principal_set set_judged is_set
long-set ts c es h = rw (within-high 1 most_edits (length es) h)

-- ---- edits that are answered alike

abbrev Alike : Caller → (es fs : List Edit) → Type 0
Alike c es fs = (ts : Tables) → principal_set ts c fs ≡ principal_set ts c es

module _ (c : Caller) (es fs : List Edit) (alike : Alike c es fs) where
  outcome-alike : set_outcome c fs ≡ set_outcome c es
  outcome-alike = fun_ext (λ ts. ap (λ p. outcome p.answer.answer p.rows) (alike ts))

  position-alike : (o : Option Tables) → position_in c fs o ≡ position_in c es o
  position-alike none = refl
  position-alike (some ts) = ap (λ p. p.answer.position) (alike ts)

  does-alike : {found after : List ℕ} {reply : Reply} → Does found (by_set c fs) reply after → Does found (by_set c es) reply after
  does-alike {found} (acts_all d) =
      acts_all (record { edits = rw outcome-alike at d.edits; position_is = d.position_is ∙ position-alike (held found) })

  plays-alike : {found after : List ℕ} {at : ℕ} {w out : List ℕ} {r : ℕ} → PutsPlay (some (calls (by_set c fs))) found after at w out r
      → PutsPlay (some (calls (by_set c es))) found after at w out r
  unfolding Plays
  plays-alike p = record {
    text = p.text;
    plays = record { reply = p.plays.reply; does = does-alike p.plays.does; text_is = p.plays.text_is };
    told = p.told;
  }

-- ---- what was read

edits-many : (xs : List SetEdit) (w : List ℕ) (i n : ℕ) → length (edits_from xs w i n) ≡ n
edits-many xs w i zero = refl
edits-many xs w i (suc n) = ap suc (edits-many xs w (suc i) n)

read_alike : {s : EditSet} {bytes : List ℕ} {said : Option (List Edit)} (h : Says s bytes said) (c : Caller) → Alike c h.edits (edits_of s bytes)
read_alike {s} {bytes} h c ts =
    by (ltb most_edits (length h.edits))
    (λ t.
    let l : most_edits < length h.edits = ltb-true most_edits (length h.edits) t in
    let m : most_edits < length (edits_of s bytes) = omega (arith, edits-many s.edits bytes 0 s.count, h.count_is) in
    long-set ts c (edits_of s bytes) m ∙ sym (long-set ts c h.edits l))
    (λ f. ap (principal_set ts c) (h.held (ltb-false most_edits (length h.edits) f)))

-- the call of what was read, by whom it was read
pub set-plays : (ws : List (List ℕ)) {model : ℕ} {slot : Slot} {level next : ℕ} {line bytes bytes' name : List ℕ} {s : EditSet}
    {found after : List ℕ} {at : ℕ} {w out : List ℕ} {r : ℕ}
    → Called model slot level next line bytes (caller_said ws) → Says s bytes' (edits_said (words_from next line))
    → take (4 * next) bytes' ≡ take (4 * next) bytes → name ≡ part_in slot bytes'
    → PutsPlay (some (calls (by_set (caller_of model name level) (edits_of s bytes')))) found after at w out r → PutsPlay (set_said ws) found after at w out r
set-plays ws {model} {slot} {level} {next} {line} {bytes} {bytes'} {name} {s} c h k n p =
    let kept : name ≡ part_in slot bytes =
    n ∙ sym (between-kept slot.from slot.end (4 * next) bytes bytes' c.within.forward c.within.inside k) in
    let by-whom : caller_of model name level ≡ caller_of model (part_in slot bytes) level = ap (λ u. caller_of model u level) kept in
    plays-as (set-said ws c.is h.are) (plays-alike _ h.edits (edits_of s bytes') (read_alike h _) (rw by-whom at p))
