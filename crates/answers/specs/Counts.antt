-- Document 01's "Tally": what an answer adds to the four counts, and the number of each case of the call's answer. Assumes nothing.
use Rattle.std.specs.Prelude.{◌≡◌, ℕ, ◌+◌, ◌%◌, ◌^◌, Bool, true, false, cond, ◌||◌, ◌==◌, nat_le}
use Rattle.std.specs.Prelude.{Ok, Err}
use Rattle.answers.specs.Numbers.{result_number}
use Rattle.answers.specs.declared.Fault.TheVariants.{OutOfRange}
use Rattle.answers.specs.declared.Tally.{Tally}
use Rattle.answers.specs.declared.Step.{Step}
use Rattle.answers.specs.Types.{Counted}

-- success is 0
abbrev pub counted_number : Counted → ℕ
counted_number c = result_number c

-- one more where the test holds; a count goes from 4,294,967,295 to 0
abbrev pub plus : Bool → ℕ → ℕ
plus true n = (n + 1) % 2 ^ 32
plus false n = n

-- answer 1 adds to the first, 2 to the second, 3 to the third, 4 and 5 to the fourth; other answers to none
abbrev pub counted : Tally → ℕ → Tally
counted t answer = record {
  unknown_contexts = plus (answer == 1) t.unknown_contexts;
  no_groups = plus (answer == 2) t.no_groups;
  no_views = plus (answer == 3) t.no_views;
  unauthorized_accesses = plus (answer == 4 || answer == 5) t.unauthorized_accesses;
}

-- an answer above 31 is 7
abbrev pub judged : ℕ → Counted
judged answer = cond (nat_le answer 31) (Ok tt) (Err OutOfRange)

-- an answer counted into the tally `found`, which is `after` then
pub record Counts (found : Tally) (answer : ℕ) (after : Tally) (r : Counted) : Type 0 where
  pub tally_is : after ≡ counted found answer
  pub answer_is : r ≡ judged answer
  pub number_is : counted_number r ≡ counted_number (judged answer)

-- the tally and the call's answer together
abbrev pub step_of : Tally → ℕ → Step
step_of t answer = record { tally = counted t answer; answer = judged answer }
