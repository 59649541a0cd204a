-- `put_little_endian` meets its contract; the bytes left fall. Assumes nothing.
use Rattle.text.proofs.Text.+put_little_endian.Given as goal

abbrev pub decreases-put_little_endian : goal.decreases-put_little_endian
decreases-put_little_endian l = l.width
