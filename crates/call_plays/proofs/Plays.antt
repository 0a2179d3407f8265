-- Laws of a line played: an answer told is what is to be told, and the store is as its promise says. Assumes nothing.
use mathlib.Core.Path.{◌≡◌, refl, ap, ◌∙◌}
use mathlib.Core.List.{List}
use mathlib.Core.Option.{Option, some}
use Prim.Native.Nat.{ℕ}
use Rattle.edit_rules.specs.Edits.{Caller}
use Rattle.calls.specs.Does.{Call, ask, owner, by, by_set, walk, Reply, walked, reply_number, Does, asks, owns, acts, acts_all, walks}
use Rattle.text_values.specs.Texts.{decimal_text, Puts}
use Rattle.call_verbs.specs.Calls.{Asked, calls}
use Rattle.call_words.specs.Reading.{Answers}
use Rattle.call_answers.specs.Answers.{Told}
use Rattle.call_answers.proofs.Room.{decimal-short}
use Rattle.call_walks.specs.Texts.{walk_text, TellsWalk}
use Rattle.call_plays.specs.Plays.{Tells, reply_text, Plays, PutsPlay}

-- calls that are told by their numbers
abbrev Numbered : Call → Type 0
Numbered (ask q) = Unit {0}
Numbered (owner e) = Unit {0}
Numbered (by c e) = Unit {0}
Numbered (by_set c es) = ⊥
Numbered (walk c identifier) = ⊥

number-text : {found after : List ℕ} {c : Call} {reply : Reply} → Numbered c → Does found c reply after → decimal_text (reply_number reply) ≡ reply_text reply
number-text n (asks d) = refl
number-text n (owns d) = refl
number-text n (acts d) = refl
number-text n (acts_all d) = absurd n
number-text n (walks d) = absurd n

module _ {found : List ℕ} {at : ℕ} {w out : List ℕ} {r : ℕ} where
  -- what only tells
  pub plays-told : (asked : Option Asked) (text : List ℕ) → (Tells text found found text → Plays asked found found text) → Told text at w out r
      → PutsPlay asked found found at w out r
  plays-told asked text only t = record { text = text; plays = only (record { text_is = refl; store_stays = refl }); told = t }

  pub plays-call : {c : Call} {after : List ℕ} {n : ℕ} → Numbered c → Answers c found after n → Puts (decimal_text n) at w out r
      → PutsPlay (some (calls c)) found after at w out r
  unfolding Plays
  plays-call {n = n} k a p = record {
    text = decimal_text n;
    plays = record { reply = a.reply; does = a.does; text_is = ap decimal_text a.number_is ∙ number-text k a.does };
    told = record { puts = p; short = decimal-short n };
  }

  pub plays-walk : {c : Caller} {identifier : List ℕ} → TellsWalk c identifier found at w out r
      → PutsPlay (some (calls (walk c identifier))) found found at w out r
  unfolding Plays
  plays-walk t = record {
    text = walk_text t.handed_back;
    plays = record { reply = walked t.handed_back; does = t.does; text_is = refl };
    told = t.told;
  }

pub plays-as : {call as_said : Option Asked} {found after : List ℕ} {at : ℕ} {w out : List ℕ} {r : ℕ} → as_said ≡ call
    → PutsPlay call found after at w out r → PutsPlay as_said found after at w out r
plays-as {found = found} {after = after} {out = out} {r = r} q s = rw q s
