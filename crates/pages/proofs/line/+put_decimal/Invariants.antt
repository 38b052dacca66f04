-- `put_decimal`: the digits of the tenth part, and one more. The measure is the number.
use Rattle.pages.proofs.line.+put_decimal.Given as goal

abbrev pub decreases-put_decimal : goal.decreases-put_decimal
decreases-put_decimal l = l.n
