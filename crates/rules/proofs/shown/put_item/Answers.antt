-- `put_item` meets its contract. Assumes nothing.
use native.Mathlib.Omega.{arith}
use Rattle.rules.specs.Laws.Stand.{item_moves}
use Rattle.rules.specs.Laws.Showing.{item_put, item_length}
use Rattle.rules.proofs.shown.put_item.Goals as goal

pub item_end-end-requires : goal.item_end-end-requires
item_end-end-requires c = c.requires.some

pub slice_bounds-put_bytes-count : goal.slice_bounds-put_bytes-count
slice_bounds-put_bytes-count c = omega (arith, c.item_end-end.ensures _ _ c.requires.some.stands, item_moves _ c.requires.some.stands)

pub slice_bounds-put_bytes-start : goal.slice_bounds-put_bytes-start
slice_bounds-put_bytes-start c = omega (arith, c.item_end-end.ensures _ _ c.requires.some.stands, item_moves _ c.requires.some.stands)

pub slice_bounds-put_bytes-end : goal.slice_bounds-put_bytes-end
slice_bounds-put_bytes-end c = omega (arith, c.item_end-end.ensures _ _ c.requires.some.stands, c.requires.some.stands.inside)

pub put_bytes-requires : goal.put_bytes-requires
put_bytes-requires c = omega (arith, c.requires.room, item_length _ c.requires.some c.item_end-end.ensures)

pub returns : goal.returns
returns c = item_put _ c.requires.some c.item_end-end.ensures c.put_bytes.ensures
