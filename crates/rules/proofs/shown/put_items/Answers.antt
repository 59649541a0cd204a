-- `put_items` meets its contract. The loop's invariant: the items so far stand in the buffer. Assumes nothing.
use native.Mathlib.Omega.{arith}
use mathlib.Core.Path.{sym, ◌∙◌}
use Rattle.rules.specs.Laws.Showing.{put_begins, put_ends, put_room, put_some, put_again, put_further}
use Rattle.rules.proofs.shown.put_items.Goals as goal

pub loop-output-init : goal.loop-output-init
loop-output-init c = put_begins _ c.requires

pub item_counts-requires : goal.item_counts-requires
item_counts-requires c = c.loop-output.invariant.inside

pub put_item-requires : goal.put_item-requires
put_item-requires c = put_room _ c.loop-output.invariant (sym c.item_counts.ensures ∙ c.loop-output-test.true)

pub item_end-x-requires : goal.item_end-x-requires
item_end-x-requires c = put_some _ c.loop-output.invariant (sym c.item_counts.ensures ∙ c.loop-output-test.true)

pub loop-output-smaller : goal.loop-output-smaller
loop-output-smaller c = let f = put_further _ c.loop-output.invariant (sym c.item_counts.ensures ∙ c.loop-output-test.true) c.item_end-x.ensures in omega (arith, f.0, f.1)

pub loop-output-preserved : goal.loop-output-preserved
loop-output-preserved c = put_again _ c.loop-output.invariant (sym c.item_counts.ensures ∙ c.loop-output-test.true) c.put_item.ensures c.item_end-x.ensures

pub returns : goal.returns
returns c = put_ends _ c.loop-output.invariant (sym c.item_counts.ensures ∙ c.loop-output-test.false)
