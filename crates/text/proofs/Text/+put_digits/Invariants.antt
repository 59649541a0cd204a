-- `put_digits` meets its contract; the digits left fall. Assumes nothing.
use Rattle.text.proofs.Text.+put_digits.Given as goal

abbrev pub decreases-put_digits : goal.decreases-put_digits
decreases-put_digits l = l.more
