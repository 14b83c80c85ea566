-- `decimal_text::put_digits` meets its contract: a tenth of the number first, then its last digit. Assumes nothing.
use Rattle.decimal_text.proofs.+put_digits.Given as goal

abbrev pub decreases-put_digits : goal.decreases-put_digits
decreases-put_digits l = l.n
