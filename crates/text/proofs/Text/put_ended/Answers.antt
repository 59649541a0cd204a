-- `put_ended` meets its contract. Assumes nothing.
use native.Mathlib.Omega.{arith}
use Rattle.text.specs.Text.{ended}
use Rattle.text.specs.Laws.Appending.{puts_then, decimal_long}
use Rattle.text.proofs.Text.put_ended.Goals as goal

pub put_byte-requires : goal.put_byte-requires
put_byte-requires c = omega (arith, decimal_long c.args.number)

pub returns : goal.returns
unfolding ended
returns c = puts_then c.put_decimal.ensures c.put_byte.ensures
