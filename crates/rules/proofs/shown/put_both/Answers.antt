-- `put_both` meets its contract. The loop's invariant: the items so far stand in the buffer. Assumes nothing.
use native.Mathlib.Omega.{arith}
use mathlib.Core.Path.{sym, ◌∙◌}
use Rattle.rules.specs.Laws.Showing.{show_begins, show_first, show_second, show_room, show_again, show_further, show_first_room, show_second_room, show_ends}
use Rattle.rules.proofs.shown.put_both.Goals as goal

pub loop-item-init : goal.loop-item-init
loop-item-init c = show_begins _ _ _ _ _ _ c.requires.0 c.requires.1 c.requires.2

pub both_count-requires : goal.both_count-requires
both_count-requires c = (c.requires.0.stands.inside, c.requires.1.stands.inside)

pub shown_item-item-requires : goal.shown_item-item-requires
shown_item-item-requires c = show_first _ _ _ _ _ _ c.loop-item.invariant (sym c.both_count.ensures ∙ c.loop-item-test.true)

pub put_item-requires : goal.put_item-requires
put_item-requires c = show_room _ _ _ _ _ _ c.loop-item.invariant (sym c.both_count.ensures ∙ c.loop-item-test.true) c.shown_item-item.ensures

pub item_end-x-requires : goal.item_end-x-requires
item_end-x-requires c = show_first _ _ _ _ _ _ c.loop-item.invariant (sym c.both_count.ensures ∙ c.loop-item-test.true)

pub item_end-y-requires : goal.item_end-y-requires
item_end-y-requires c = show_second _ _ _ _ _ _ c.loop-item.invariant (sym c.both_count.ensures ∙ c.loop-item-test.true)

pub loop-item-smaller : goal.loop-item-smaller
loop-item-smaller c = let f = show_further _ _ _ _ _ _ c.loop-item.invariant (sym c.both_count.ensures ∙ c.loop-item-test.true) c.item_end-x.ensures in omega (arith, f.0, f.1)

pub loop-item-preserved : goal.loop-item-preserved
loop-item-preserved c = show_again _ _ _ _ _ _ c.loop-item.invariant (sym c.both_count.ensures ∙ c.loop-item-test.true) c.shown_item-item.ensures c.put_item.ensures c.item_end-x.ensures c.item_end-y.ensures

pub put_items-requires : goal.put_items-requires
put_items-requires c = show_first_room _ _ _ _ _ _ c.loop-item.invariant (sym c.both_count.ensures ∙ c.loop-item-test.false)

pub put_items-requires-2 : goal.put_items-requires-2
put_items-requires-2 c = show_second_room _ _ _ _ _ _ c.loop-item.invariant (sym c.both_count.ensures ∙ c.loop-item-test.false) c.put_items.ensures

pub returns : goal.returns
returns c = show_ends _ _ _ _ _ _ c.loop-item.invariant (sym c.both_count.ensures ∙ c.loop-item-test.false) c.put_items.ensures c.put_items-2.ensures
