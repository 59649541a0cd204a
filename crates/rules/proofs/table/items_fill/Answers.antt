-- `items_fill` meets its contract. The loop's invariant: the items left decide. Assumes nothing.
use native.Mathlib.Omega.{arith}
use Rattle.rules.specs.Laws.Tables.{fill_begins, fill_full, fill_rest, fill_malformed, fill_further, fill_again, fill_ends}
use Rattle.rules.proofs.table.items_fill.Goals as goal

pub loop-at-init : goal.loop-at-init
loop-at-init c = fill_begins _ _ _ c.requires.0

pub returns-then-count-eq-MOST_ITEMS : goal.returns-then-count-eq-MOST_ITEMS
returns-then-count-eq-MOST_ITEMS c = fill_full _ _ _ c.loop-at.invariant (omega arith) c.if-count-eq-MOST_ITEMS.true

pub returns-then-table-at-eq-REST : goal.returns-then-table-at-eq-REST
returns-then-table-at-eq-REST c = fill_rest _ _ _ c.loop-at.invariant (omega arith) c.if-count-eq-MOST_ITEMS.false c.if-table-at-eq-REST.true

pub returns-in_default : goal.returns-in_default
returns-in_default c = fill_malformed _ _ _ c.loop-at.invariant (omega arith) c.if-count-eq-MOST_ITEMS.false c.if-table-at-eq-REST.false c.item_at-found.ensures c.in_default.is

pub overflow_add-count : goal.overflow_add-count
overflow_add-count c = omega (arith, c.loop-at.invariant.counted)

pub loop-at-smaller : goal.loop-at-smaller
loop-at-smaller c = let f = fill_further _ _ _ c.loop-at.invariant (omega arith) c.if-count-eq-MOST_ITEMS.false c.if-table-at-eq-REST.false c.item_at-found.ensures c.in-Some.is c.requires.1 in omega (arith, f.0, f.1)

pub loop-at-preserved : goal.loop-at-preserved
loop-at-preserved c = fill_again _ _ _ c.loop-at.invariant (omega arith) c.if-count-eq-MOST_ITEMS.false c.if-table-at-eq-REST.false c.item_at-found.ensures c.in-Some.is c.requires.1

pub returns : goal.returns
returns c = fill_ends _ _ _ c.loop-at.invariant (omega arith)
