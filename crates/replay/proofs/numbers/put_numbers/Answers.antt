-- `put_numbers` meets its contract. Assumes nothing.
use native.Mathlib.Omega.{arith}
use Rattle.replay.specs.Laws.Comparing.{filling_start, filling_on, filling_end}
use Rattle.replay.proofs.numbers.put_numbers.Goals as goal

pub loop-i-init : goal.loop-i-init
loop-i-init c = filling_start

pub loop-i-preserved : goal.loop-i-preserved
loop-i-preserved c = filling_on c.loop-i.invariant (omega arith) c.number_at.ensures

pub returns : goal.returns
returns c = filling_end c.loop-i.invariant (omega arith)
