-- The text is put part by part: what is left of it still fits, and with the key nothing is left. Assumes nothing.
use mathlib.Core.Path.{◌≡◌}
use mathlib.Core.List.{List, [], ◌∷◌, ◌++◌}
use Prim.Native.Nat.{ℕ, ◌-◌, ◌≤◌}
use native.Mathlib.Omega.{arith}
use lib.ListN.{length, take, length-take}
use Rattle.decision_steps.specs.Request.{most_parts}
use Rattle.text_values.specs.Texts.{dotted_text}
use Rattle.text_values.proofs.Puts.{Onward, start as begun, room, step, last}
use Rattle.call_answers.specs.Answers.{column_key_of, answer_room}
use Rattle.call_walks.specs.Texts.{next_word, next_text}
use Rattle.call_walks.proofs.Walks.{next-short}
use Rattle.call_walks.proofs.tell_next.Goals as goal

-- the identifier, the last part of what is told, and the whole

-- what is left behind the word, behind the identifier, and behind the space

pub put_dotted-space-requires : goal.put_dotted-space-requires
put_dotted-space-requires c =
    let parts : List ℕ = let a = c.args in take (a.n - 0) a.instance.now in
    let key : List ℕ = let a = c.args in column_key_of a.t a.column a.key.now in
    let text : List ℕ = let a = c.args in next_text parts a.t a.column a.key.now in
    let short : length (text) ≤ answer_room = let a = c.args in let few : length parts ≤ most_parts = omega (arith, length-take (a.n - 0) a.instance.now, c.parts-1.given) in next-short parts a.t a.column a.key.now few (λ i. omega (arith, c.shared_slice_known-1.given i)) c.requires.legal in
    let worded : Onward (text) c.args.at c.args.out.now (dotted_text (parts) ++ (32 ∷ key)) c.put_text-dotted.result c.put_text-dotted.new.out = step next_word _ (begun (omega (arith, short, c.requires.room))) c.put_text-dotted.ensures in
    room (dotted_text parts) (32 ∷ key) worded

pub put_octet-next-requires : goal.put_octet-next-requires
put_octet-next-requires c =
    let parts : List ℕ = let a = c.args in take (a.n - 0) a.instance.now in
    let text : List ℕ = let a = c.args in next_text parts a.t a.column a.key.now in
    let key : List ℕ = let a = c.args in column_key_of a.t a.column a.key.now in
    let short : length (text) ≤ answer_room = let a = c.args in let few : length parts ≤ most_parts = omega (arith, length-take (a.n - 0) a.instance.now, c.parts-1.given) in next-short parts a.t a.column a.key.now few (λ i. omega (arith, c.shared_slice_known-1.given i)) c.requires.legal in
    let worded : Onward (text) c.args.at c.args.out.now (dotted_text (parts) ++ (32 ∷ key)) c.put_text-dotted.result c.put_text-dotted.new.out = step next_word _ (begun (omega (arith, short, c.requires.room))) c.put_text-dotted.ensures in
    let dotted : Onward (text) c.args.at c.args.out.now (32 ∷ key) c.put_dotted-space.result c.put_dotted-space.new.out = step (dotted_text parts) _ worded c.put_dotted-space.ensures in
    room (32 ∷ []) _ dotted

pub put_column_key-requires : goal.put_column_key-requires
put_column_key-requires c =
    let parts : List ℕ = let a = c.args in take (a.n - 0) a.instance.now in
    let text : List ℕ = let a = c.args in next_text parts a.t a.column a.key.now in
    let key : List ℕ = let a = c.args in column_key_of a.t a.column a.key.now in
    let short : length (text) ≤ answer_room = let a = c.args in let few : length parts ≤ most_parts = omega (arith, length-take (a.n - 0) a.instance.now, c.parts-1.given) in next-short parts a.t a.column a.key.now few (λ i. omega (arith, c.shared_slice_known-1.given i)) c.requires.legal in
    let worded : Onward (text) c.args.at c.args.out.now (dotted_text (parts) ++ (32 ∷ key)) c.put_text-dotted.result c.put_text-dotted.new.out = step next_word _ (begun (omega (arith, short, c.requires.room))) c.put_text-dotted.ensures in
    let dotted : Onward (text) c.args.at c.args.out.now (32 ∷ key) c.put_dotted-space.result c.put_dotted-space.new.out = step (dotted_text parts) _ worded c.put_dotted-space.ensures in
    let spaced : Onward (text) c.args.at c.args.out.now (key) c.put_octet-next.result c.put_octet-next.new.out = step (32 ∷ []) _ dotted c.put_octet-next.ensures in
    record { legal = c.requires.legal; room = (spaced).fits }

pub returns : goal.returns
returns c =
    let parts : List ℕ = let a = c.args in take (a.n - 0) a.instance.now in
    let text : List ℕ = let a = c.args in next_text parts a.t a.column a.key.now in
    let key : List ℕ = let a = c.args in column_key_of a.t a.column a.key.now in
    let short : length (text) ≤ answer_room = let a = c.args in let few : length parts ≤ most_parts = omega (arith, length-take (a.n - 0) a.instance.now, c.parts-1.given) in next-short parts a.t a.column a.key.now few (λ i. omega (arith, c.shared_slice_known-1.given i)) c.requires.legal in
    let worded : Onward (text) c.args.at c.args.out.now (dotted_text (parts) ++ (32 ∷ key)) c.put_text-dotted.result c.put_text-dotted.new.out = step next_word _ (begun (omega (arith, short, c.requires.room))) c.put_text-dotted.ensures in
    let dotted : Onward (text) c.args.at c.args.out.now (32 ∷ key) c.put_dotted-space.result c.put_dotted-space.new.out = step (dotted_text parts) _ worded c.put_dotted-space.ensures in
    let spaced : Onward (text) c.args.at c.args.out.now (key) c.put_octet-next.result c.put_octet-next.new.out = step (32 ∷ []) _ dotted c.put_octet-next.ensures in
    let z : c.args.n - 0 ≡ c.args.n = omega arith in
    rw (← z) (record { puts = last _ spaced c.put_column_key.ensures; short = short })
