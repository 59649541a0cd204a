-- `put_refused` meets its contract. Assumes nothing.
use native.Mathlib.Omega.{arith}
use Rattle.text.specs.Laws.Appending.{puts_then, ended_long}
use Rattle.listing.specs.Listing.{refused_line, space}
use Rattle.listing.proofs.lines.put_refused.Goals as goal

pub put_ended-requires-2 : goal.put_ended-requires-2
put_ended-requires-2 c = omega (arith, ended_long c.args.refusal.number space)

pub put_ended-requires-3 : goal.put_ended-requires-3
put_ended-requires-3 c = omega (arith, ended_long c.args.refusal.number space, ended_long c.args.refusal.token space)

pub put_ended-requires-4 : goal.put_ended-requires-4
put_ended-requires-4 c = omega (arith, ended_long c.args.refusal.number space, ended_long c.args.refusal.token space, ended_long c.args.refusal.detail space)

pub returns : goal.returns
unfolding refused_line
returns c = puts_then (puts_then (puts_then (puts_then c.put_bytes.ensures c.put_ended.ensures) c.put_ended-2.ensures) c.put_ended-3.ensures) c.put_ended-4.ensures
