-- What playing a line does: what it is read as, the store afterwards, and the text of the answer. Of a call on a store it is what `Does` says, the
-- proposition of the isolation theorem. Assumes nothing.
use Rattle.std.specs.Prelude.{◌≡◌, List, ◌∷◌, ◌++◌, ℕ}
use Rattle.std.proofs.Math.Option.{Option, none, some}
use Rattle.answers.specs.declared.Fault.TheVariants.{OutOfRange}
use Rattle.image.specs.Store.{held}
use Rattle.decision_match.specs.Matches.{view_choice, access_choice}
use Rattle.explain_rules.specs.Explanation.{explanation}
use Rattle.instance_decode.specs.Decoding.{read_instance}
use Rattle.calls.specs.Does.{Call, Reply, decided, edited, set_edited, walked, reply_number, Does}
use Rattle.text_values.specs.Texts.{decimal_text}
use Rattle.call_verbs.specs.Calls.{Asked, calls, encodes, decodes, images, matches_view, matches_access, explains}
use Rattle.call_answers.specs.Answers.{fault_text, instance_text, decoded_text, image_text_of, Told}
use Rattle.call_matches.specs.Texts.{view_match_text, access_match_text}
use Rattle.call_walks.specs.Texts.{walk_text}
use Rattle.call_explains.specs.Texts.{explanation_text}

-- what only tells
pub record Tells (told found after text : List ℕ) : Type 0 where
  pub text_is : text ≡ told
  pub store_stays : after ≡ found

-- an answer's number, a space, and the position that it carries
abbrev pub position_text : (number position : ℕ) → List ℕ
position_text number position = decimal_text number ++ (32 ∷ decimal_text position)

-- what is told of a reply: of a set its position too, of a walk all that it hands back, of any other call its number
abbrev pub reply_text : Reply → List ℕ
reply_text (decided a) = decimal_text (reply_number (decided a))
reply_text (edited r) = decimal_text (reply_number (edited r))
reply_text (set_edited r) = position_text (reply_number (set_edited r)) r.position
reply_text (walked w) = walk_text w

-- a call on a store: what it does, and its reply
pub record CallTells (call : Call) (found after text : List ℕ) : Type 0 where
  pub reply : Reply
  pub does : Does found call reply after
  pub text_is : text ≡ reply_text reply

unfoldable pub Plays : Option Asked → (found after text : List ℕ) → Type 0
Plays none found after text = Tells (fault_text OutOfRange) found after text
Plays (some (calls c)) found after text = CallTells c found after text
Plays (some (encodes t column key)) found after text = Tells (instance_text t column key) found after text
Plays (some (decodes oid)) found after text = Tells (decoded_text (read_instance oid)) found after text
Plays (some images) found after text = Tells (image_text_of (held found)) found after text
Plays (some (matches_view name variable)) found after text = Tells (view_match_text (view_choice (held found) name variable)) found after text
Plays (some (matches_access group context model level)) found after text =
    Tells (access_match_text (access_choice (held found) group context model level)) found after text
Plays (some (explains q)) found after text = Tells (explanation_text (explanation (held found) q)) found after text

-- ---- how the code plays it

-- the call's answer is put into the buffer
pub record PutsPlay (call : Option Asked) (found after : List ℕ) (at : ℕ) (w out : List ℕ) (r : ℕ) : Type 0 where
  pub text : List ℕ
  pub plays : Plays call found after text
  pub told : Told text at w out r
