-- The calls on a store of which lists are made (document 01, "The two lists of demand 3"), their answers, and what each of them does. Assumes nothing.
use Rattle.std.specs.Prelude.{List, ℕ}
use Rattle.answers.specs.Types.{Answer}
use Rattle.answers.specs.Numbers.{answer_number}
use Rattle.numbers.specs.BigEndian.{Octets}
use Rattle.decision_steps.specs.Request.{Request}
use Rattle.decision.specs.Decides.{Decides}
use Rattle.edit_rules.specs.Types.{Edited}
use Rattle.edit_rules.specs.Edits.{Edit, Caller}
use Rattle.walk_rules.specs.declared.Walked.{Walked}
use Rattle.walk_rules.specs.Numbers.{walked_number}
use Rattle.walk_rules.specs.Walk.{Walk, Walks, handed}
use Rattle.edits.specs.Calls.{edited_number, OwnerEdits, PrincipalEdits}
use Rattle.set_rules.specs.declared.SetAnswer.{SetAnswer}
use Rattle.set_rules.specs.Handed.{AllOctets}
use Rattle.set_rules.specs.Promise.{PrincipalSets}

-- a decision request, an owner's edit, a principal's edit, a principal's set of edits, a principal's walk from an identifier
pub data Call : Type 0 where
  ask : Request → Call
  owner : Edit → Call
  by : Caller → Edit → Call
  by_set : Caller → List Edit → Call
  walk : Caller → List ℕ → Call

-- edits are handed bytes, as a lent slice holds them
abbrev pub HandsOctets : Call → Type 0
HandsOctets (ask q) = Unit {0}
HandsOctets (owner e) = Octets e.bytes
HandsOctets (by c e) = Octets e.bytes
HandsOctets (by_set c es) = AllOctets es
HandsOctets (walk c identifier) = Unit {0}

-- all that a call hands back but the store
pub data Reply : Type 0 where
  decided : Answer → Reply
  edited : Edited → Reply
  set_edited : SetAnswer → Reply
  walked : Walk → Reply

-- document 01's number for each case
abbrev pub reply_number : Reply → ℕ
reply_number (decided a) = answer_number a
reply_number (edited r) = edited_number r
reply_number (set_edited r) = edited_number r.answer
reply_number (walked w) = walked_number w.answer

-- What a call does with the store `found`: its answer, and the store `after`. A clause for each kind of call: the proposition that its contract
-- cites. A decision request and a walk borrow the store and leave it. A walk hands back what is at the front of its lent rooms too.
pub data Does (found : List ℕ) : Call → Reply → List ℕ → Type 0 where
  asks : {q : Request} {a : Answer} → Decides q found a → Does found (ask q) (decided a) found
  owns : {e : Edit} {r : Edited} {after : List ℕ} → OwnerEdits e found after r → Does found (owner e) (edited r) after
  acts : {c : Caller} {e : Edit} {r : Edited} {after : List ℕ} → PrincipalEdits c e found after r → Does found (by c e) (edited r) after
  acts_all : {c : Caller} {es : List Edit} {r : SetAnswer} {after : List ℕ} → PrincipalSets c es found after r → Does found (by_set c es) (set_edited r) after
  walks : {c : Caller} {identifier parts parts' key key' : List ℕ} {r : Walked} → Walks c identifier found parts parts' key key' r
      → Does found (walk c identifier) (walked (handed r parts' key')) found
