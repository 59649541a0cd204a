-- `items_agree` meets its contract. Assumes nothing.
use native.Mathlib.Omega.{arith}
use mathlib.Core.Path.{◌∙◌}
use Rattle.rules.specs.Laws.Stand.{item_moves}
use Rattle.rules.specs.Laws.Meeting.{first_any, second_any, by_bytes}
use Rattle.rules.proofs.overlaps.items_agree.Goals as goal

pub item_end-first_end-requires : goal.item_end-first_end-requires
item_end-first_end-requires c = c.requires.0

pub item_end-second_end-requires : goal.item_end-second_end-requires
item_end-second_end-requires c = c.requires.1

pub bounds-table-first : goal.bounds-table-first
bounds-table-first c = omega (arith, item_moves _ c.requires.0.stands, c.requires.0.stands.inside)

pub returns-then-table-first-eq-ANY : goal.returns-then-table-first-eq-ANY
returns-then-table-first-eq-ANY c = λ i n s j n' t. first_any _ s t c.if-table-first-eq-ANY.true

pub bounds-table-second : goal.bounds-table-second
bounds-table-second c = omega (arith, item_moves _ c.requires.1.stands, c.requires.1.stands.inside)

pub returns-then-table-second-eq-ANY : goal.returns-then-table-second-eq-ANY
returns-then-table-second-eq-ANY c = λ i n s j n' t. second_any _ s t c.if-table-second-eq-ANY.true

pub slice_bounds-same_bytes-count : goal.slice_bounds-same_bytes-count
slice_bounds-same_bytes-count c = omega (arith, c.item_end-first_end.ensures _ _ c.requires.0.stands, item_moves _ c.requires.0.stands)

pub slice_bounds-same_bytes-start : goal.slice_bounds-same_bytes-start
slice_bounds-same_bytes-start c = omega (arith, c.item_end-first_end.ensures _ _ c.requires.0.stands, item_moves _ c.requires.0.stands)

pub slice_bounds-same_bytes-end : goal.slice_bounds-same_bytes-end
slice_bounds-same_bytes-end c = omega (arith, c.item_end-first_end.ensures _ _ c.requires.0.stands, c.requires.0.stands.inside)

pub slice_bounds-same_bytes-count-2 : goal.slice_bounds-same_bytes-count-2
slice_bounds-same_bytes-count-2 c = omega (arith, c.item_end-second_end.ensures _ _ c.requires.1.stands, item_moves _ c.requires.1.stands)

pub slice_bounds-same_bytes-start-2 : goal.slice_bounds-same_bytes-start-2
slice_bounds-same_bytes-start-2 c = omega (arith, c.item_end-second_end.ensures _ _ c.requires.1.stands, item_moves _ c.requires.1.stands)

pub slice_bounds-same_bytes-end-2 : goal.slice_bounds-same_bytes-end-2
slice_bounds-same_bytes-end-2 c = omega (arith, c.item_end-second_end.ensures _ _ c.requires.1.stands, c.requires.1.stands.inside)

pub returns : goal.returns
returns c = λ i n s j n' t. c.same_bytes.ensures ∙ rw (c.item_end-first_end.ensures _ _ s, c.item_end-second_end.ensures _ _ t) (by_bytes _ s t c.if-table-first-eq-ANY.false c.if-table-second-eq-ANY.false)
