-- `put_accepted` meets its contract. Assumes nothing.
use native.Mathlib.Omega.{arith}
use Rattle.text.specs.Laws.Appending.{puts_then, ended_long}
use Rattle.listing.specs.Listing.{accepted_line, space}
use Rattle.listing.proofs.lines.put_accepted.Goals as goal

pub put_ended-requires-2 : goal.put_ended-requires-2
put_ended-requires-2 c = omega (arith, ended_long c.args.nodes space)

pub returns : goal.returns
unfolding accepted_line
returns c = puts_then (puts_then c.put_bytes.ensures c.put_ended.ensures) c.put_ended-2.ensures
