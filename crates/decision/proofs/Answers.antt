-- What the call answers: a variable in range has few parts and is said again by its bytes; a store that is not sound has no layout, and of a sound one it
-- is that of the image at its front. Assumes nothing.
use mathlib.Core.Path.{◌≡◌, sym, ap, ◌∙◌}
use mathlib.Core.Bool.{true, ◌&&◌}
use mathlib.Core.List.{List, ◌++◌}
use mathlib.Core.Option.{some}
use Prim.Native.Nat.{ℕ, ◌-◌, ◌*◌, ◌≤◌, ◌<◌}
use native.Mathlib.Omega.{arith}
use lib.Dec.{leb}
use lib.ListN.{length, take, get_or, length-append}
use lib.Seq.{take_at}
use Rattle.std.specs.Prelude.{Ok, Err}
use Rattle.answers.specs.Numbers.{answer_number}
use Rattle.answers.specs.Types.{Answer}
use Rattle.answers.specs.declared.Fault.{Fault}
use Rattle.answers.specs.declared.Fault.TheVariants.{NotSound}
use Rattle.numbers.proofs.Bools.{and_right}
use Rattle.numbers.specs.BigEndian.{quad, bytes_of}
use Rattle.numbers.proofs.BigEndian.{length-bytes_of}
use Rattle.rows.specs.Rows.{model_max}
use Rattle.rows.specs.Fields.{within}
use Rattle.rows.proofs.Sound.{within-most}
use Rattle.image_layout.specs.declared.Layout.{Layout}
use Rattle.image_layout.specs.Layout.{layout_of}
use Rattle.image_judge.specs.Faults.{tables_at, surveyed}
use Rattle.image.specs.Store.{store_fault, held}
use Rattle.image.proofs.Surveys.{bad-some, store-bad, store-held, store-unheld}
use Rattle.decision_steps.specs.Request.{Request, legal_request, longest_name, no_auth_no_priv, auth_priv, read, notify, most_parts}
use Rattle.decision_steps.specs.Decision.{answer_on, answer}
use Rattle.decision_steps.specs.Bytes.{identifier}
use Rattle.decision_steps.proofs.Identifiers.{identifier-bytes_of}
use Rattle.decision.specs.Decides.{Decides}

-- a variable in range has few parts
pub variable-few : (q : Request) → legal_request q ≡ true → length q.variable_name ≤ most_parts
unfolding legal_request
variable-few q h =
    let others =
    within 1 model_max q.security_model
    && within 1 longest_name (length q.security_name)
    && within no_auth_no_priv auth_priv q.security_level
    && within read notify q.view_type
    && leb (length q.context_name) longest_name in
    within-most 1 most_parts (length q.variable_name) (and_right others _ h)

-- a variable's bytes, at the front of a buffer
module _ (parts out rest : List ℕ) (e : out ≡ bytes_of quad parts) where
  length-written : length out ≡ 4 * length parts
  length-written = omega (arith, ap length e ∙ length-bytes_of quad parts)

  pub written-room : 4 * length parts ≤ length (out ++ rest)
  written-room = omega (arith, length-append out rest, length-written)

  pub written-identifier : ((i : ℕ) → get_or parts i 0 < 4294967296) → identifier (take (4 * length parts - 0) (out ++ rest)) ≡ parts
  written-identifier h = ap identifier (take_at out rest (4 * length parts - 0) (omega (arith, length-written)) ∙ e) ∙ identifier-bytes_of parts h

module _ (w : List ℕ) (q : Request) where
  -- the number is that of the answer
  pub decides : {r : Answer} → r ≡ answer (held w) q → Decides q w r
  decides e = record { answer_is = e; number_is = ap answer_number e }

  -- a store that is not sound is 6, and so is the fault that was found of it
  pub answer-unheld : {f : Fault} → Err f ≡ surveyed (store_fault w) (layout_of w) → Decides q w (Err NotSound)
  answer-unheld e = decides (sym (rw (store-unheld w e)))

  pub answer-unsound : {f : Fault} → Err f ≡ surveyed (store_fault w) (layout_of w) → Decides q w (Err f)
  unfolding store_fault
  answer-unsound {f} e =
      let n : some f ≡ some NotSound = sym (bad-some (store_fault w) (layout_of w) e) ∙ rw (store-bad w e) in
      let k : f ≡ NotSound = cc in
      rw k (answer-unheld e)

  pub answer-laid : {r : Answer} {l : Layout} → r ≡ answer_on (tables_at w l) q → Ok l ≡ surveyed (store_fault w) (layout_of w) → Decides q w r
  answer-laid a e = decides (a ∙ sym (rw (store-held w e)))

-- by these the refusal of a store is found, in whatever form the code tells it
pub ruleset unsound = (answer-unheld, answer-unsound)
