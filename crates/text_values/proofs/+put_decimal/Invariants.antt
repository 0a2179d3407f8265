-- `text_values::put_decimal` meets its contract. The measure is the number. A number below 10 is its digit; any other is its tenth's digits, put
-- by the call of itself, and one digit more. Assumes nothing.
use Rattle.text_values.proofs.+put_decimal.Given as goal

abbrev pub decreases-put_decimal : goal.decreases-put_decimal
decreases-put_decimal l = l.n
