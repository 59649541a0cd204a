-- `put_node` meets its contract. Assumes nothing.
use mathlib.Core.Path.{◌∙◌, ap}
use native.Mathlib.Omega.{arith}
use Rattle.text.specs.Laws.Appending.{puts_then, puts_as, ended_long}
use Rattle.listing.specs.Listing.{letter, space}
use Rattle.listing.specs.Laws.Lines.{node_pieces}
use Rattle.listing.proofs.lines.put_node.Goals as goal

pub put_byte-requires : goal.put_byte-requires
put_byte-requires c = omega (arith, ended_long c.level.result space)

pub put_byte-requires-2 : goal.put_byte-requires-2
put_byte-requires-2 c = omega (arith, ended_long c.level.result space)

pub put_ended-requires-2 : goal.put_ended-requires-2
put_ended-requires-2 c = omega (arith, ended_long c.level.result space)

pub put_ended-requires-3 : goal.put_ended-requires-3
put_ended-requires-3 c = omega (arith, ended_long c.level.result space, ended_long c.node_token.result space)

pub returns : goal.returns
returns c = puts_as (node_pieces _ _ _ _ _ _ c.level.ensures (c.letter.ensures ∙ ap letter c.node_kind.ensures) c.node_token.ensures.value c.node_extent.ensures.value) (puts_then (puts_then (puts_then (puts_then c.put_ended.ensures c.put_byte.ensures) c.put_byte-2.ensures) c.put_ended-2.ensures) c.put_ended-3.ensures)
