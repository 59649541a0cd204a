-- `put_total` meets its contract. Assumes nothing.
use native.Mathlib.Omega.{arith}
use Rattle.text.specs.Laws.Appending.{puts_then, decimal_long}
use Rattle.replay.specs.Report.{total}
use Rattle.replay.proofs.report.put_total.Goals as goal

pub put_bytes-requires : goal.put_bytes-requires
put_bytes-requires c = omega (arith, decimal_long c.args.replayed)

pub put_decimal-requires-2 : goal.put_decimal-requires-2
put_decimal-requires-2 c = omega (arith, decimal_long c.args.replayed)

pub put_bytes-requires-2 : goal.put_bytes-requires-2
put_bytes-requires-2 c = omega (arith, decimal_long c.args.replayed, decimal_long c.args.differing)

pub returns : goal.returns
unfolding total
returns c = record { put = puts_then (puts_then (puts_then c.put_decimal.ensures c.put_bytes.ensures) c.put_decimal-2.ensures) c.put_bytes-2.ensures; within = omega (arith, decimal_long c.args.replayed, decimal_long c.args.differing) }
