-- Document 01's number for each case of the answers that hand back a row. Assumes nothing.
use Rattle.std.specs.Prelude.{ℕ}
use Rattle.answers.specs.Numbers.{result_number}
use Rattle.decision_match.specs.Types.{ViewMatch}
use Rattle.decision_match.specs.Types.{AccessMatch}

-- success is 0, be it that a row decides or that none does
abbrev pub view_match_number : ViewMatch → ℕ
view_match_number m = result_number m

abbrev pub access_match_number : AccessMatch → ℕ
access_match_number m = result_number m
