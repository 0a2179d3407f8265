-- The C call hands back no number that is not listed (specs/Listed.antt). What is wrong with an image has one of four numbers, field by field,
-- row by row, table by table; the decision has 0 or that of a cause, and a request out of range 7. Assumes nothing.
use mathlib.Core.Path.{◌≡◌, refl}
use mathlib.Core.Bool.{Bool, true, false, cond}
use mathlib.Core.List.{List, [], ◌∷◌}
use mathlib.Core.Option.{Option, none, some}
use Prim.Native.Nat.{ℕ, ◌+◌, ◌*◌}
use lib.Dec.{eqb, leb, ltb}
use lib.ListN.{length, drop, get_or}
use Rattle.answers.specs.declared.Cause.TheVariants.{NoSuchContext, NoGroupName, NoAccessEntry, NoSuchView, NotInView}
use Rattle.answers.specs.declared.Decision.{Decision}
use Rattle.answers.specs.declared.Decision.TheVariants.{Allowed, Refused}
use Rattle.answers.specs.declared.Fault.{Fault}
use Rattle.answers.specs.declared.Fault.TheVariants.{OutOfRange, TableFull, Torn, NotAscending}
use Rattle.answers.specs.Numbers.{decision_number, fault_number, answer_number}
use Rattle.numbers.specs.Lists.{OnSome}
use Rattle.numbers.specs.Order.{before}
use Rattle.rows.specs.declared.Table.{Table}
use Rattle.rows.specs.declared.Table.TheVariants.{Context, Mapping, Access}
use Rattle.numbers.specs.BigEndian.{size, number}
use Rattle.rows.specs.Fields.{within, Field, sequence, integer, sequence_fault, integer_fault, fault, taken, or_else, faults}
use Rattle.rows.specs.Rows.{row_fields, index_of}
use Rattle.rows.specs.Tables.{Tables}
use Rattle.image_layout.specs.declared.Layout.{Layout}
use Rattle.image_layout.specs.Layout.{rows_in, laid_out, image_length, within_limits, header}
use Rattle.image_judge.specs.Faults.{table_fault, rows_fault, tables_in}
use Rattle.image.specs.Image.{sized_fault, image_fault}
use Rattle.decision_steps.specs.Request.{Request, asked, legal_request}
use Rattle.decision_steps.specs.Decision.{decision, if_legal}
use Rattle.decision_steps.specs.Bytes.{identifier}
use Rattle.dugwalen.specs.CCall.{in_parts, request_number, refusal_or, call_number}
use Rattle.dugwalen.specs.Listed.{is_listed, AnswersListed}

-- ---- what is wrong, if anything is, has a number of the list

record Fine (o : Option Fault) : Type 0 where
  is_listed : OnSome (λ f. is_listed (fault_number f) ≡ true) o

fine : Fine none
fine = record { is_listed = tt }

wrong : (f : Fault) → is_listed (fault_number f) ≡ true → Fine (some f)
wrong f e = record { is_listed = e }

fine-cond : (b : Bool) (o p : Option Fault) → Fine o → Fine p → Fine (cond b o p)
fine-cond true o p x y = x
fine-cond false o p x y = y

fine-or : (o p : Option Fault) → Fine o → Fine p → Fine (or_else o p)
fine-or none p x y = y
fine-or (some f) p x y = x

fine-fault : (k : Field) (v : List ℕ) → Fine (fault k v)
unfolding sequence_fault integer_fault
fine-fault (sequence w lo hi) v =
    fine-cond (ltb 0 (length v)) _ _
    (fine-cond (within lo hi (get_or v 0 0)) _ _ (fine-cond (leb (1 + get_or v 0 0 * size w) (length v)) _ _ fine (wrong Torn refl)) (wrong OutOfRange refl))
    (wrong Torn refl)
fine-fault (integer w lo hi) v =
    fine-cond (leb (size w) (length v)) _ _ (fine-cond (within lo hi (number w v)) _ _ fine (wrong OutOfRange refl)) (wrong Torn refl)

fine-faults : (ks : List Field) (v : List ℕ) → Fine (faults ks v)
unfolding faults
fine-faults [] v = fine-cond (eqb (length v) 0) _ _ fine (wrong Torn refl)
fine-faults (k ∷ ks) v = fine-or (fault k v) _ (fine-fault k v) (fine-faults ks (drop (taken k v) v))

fine-table : (t : Table) (prev : List ℕ) (rs : List (List ℕ)) → Fine (table_fault t prev rs)
unfolding table_fault
fine-table t prev [] = fine
fine-table t prev (r ∷ rs) =
    fine-or (faults (row_fields t) r) _ (fine-faults (row_fields t) r)
    (fine-cond (before prev (index_of t r)) _ _ (fine-table t (index_of t r) rs) (wrong NotAscending refl))

fine-rows : (w : List ℕ) (l : Layout) → Fine (rows_fault w l)
unfolding rows_fault
fine-rows w l =
    let c = table_fault Context [] (rows_in w l.contexts) in
    let m = table_fault Mapping [] (rows_in w l.mappings) in
    let a = table_fault Access [] (rows_in w l.accesses) in
    fine-or c _ (fine-table _ _ _) (fine-or m _ (fine-table _ _ _) (fine-or a _ (fine-table _ _ _) (fine-table _ _ _)))

fine-sized : (w : List ℕ) (c m a v : ℕ) → Fine (sized_fault eqb w c m a v)
unfolding sized_fault
fine-sized w c m a v =
    fine-cond (within_limits c m a v) _ _
    (fine-cond (eqb (image_length (c + m + a + v) w) (length w)) _ _ (fine-rows w (laid_out w c m a v)) (wrong Torn refl))
    (wrong TableFull refl)

fine-image : (w : List ℕ) → Fine (image_fault w)
unfolding image_fault
fine-image w = fine-cond (ltb (length w) header) _ _ (wrong Torn refl) (fine-sized w _ _ _ _)

-- ---- and so has the decision

decision-listed : (d : Decision) → is_listed (decision_number d) ≡ true
decision-listed Allowed = refl
decision-listed (Refused NoSuchContext) = refl
decision-listed (Refused NoGroupName) = refl
decision-listed (Refused NoAccessEntry) = refl
decision-listed (Refused NoSuchView) = refl
decision-listed (Refused NotInView) = refl

answer-listed : (legal : Bool) (t : Tables) (q : Request) → is_listed (answer_number (if_legal legal t q)) ≡ true
answer-listed true t q = decision-listed (decision t q)
answer-listed false t q = refl

cond-listed : (b : Bool) (m n : ℕ) → is_listed m ≡ true → is_listed n ≡ true → is_listed (cond b m n) ≡ true
cond-listed true m n x y = x
cond-listed false m n x y = y

-- ---- so has the call

refusal-listed : (o : Option Fault) (n : ℕ) → Fine o → is_listed n ≡ true → is_listed (refusal_or o n) ≡ true
refusal-listed none n x y = y
refusal-listed (some f) n x y = x.is_listed

pub answers-listed : AnswersListed
unfolding call_number request_number
answers-listed image model name level view context variable =
    let q = asked model name level view context (identifier variable) in
    refusal-listed (image_fault image) _ (fine-image image)
    (cond-listed (in_parts variable) _ _ (answer-listed (legal_request q) (tables_in image) q) refl)
