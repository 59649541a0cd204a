-- `rule_matches` meets its contract. The loop's invariant: the items left and the nodes left decide. Assumes nothing.
use native.Mathlib.Omega.{arith}
use mathlib.Core.Path.{sym, ◌∙◌}
use Rattle.rules.specs.Laws.MatchLoop.{match_begins, match_nodes, match_rest, match_ends, match_item, match_no_node, match_misfit, match_again, match_further}
use Rattle.rules.proofs.matching.rule_matches.Goals as goal

pub loop-end-init : goal.loop-end-init
loop-end-init c = match_begins _ _ _ _ _ _ _ _ c.requires.0 c.requires.1

pub item_counts-requires : goal.item_counts-requires
item_counts-requires c = c.requires.0.stands.inside

pub returns-then-nodes-at : goal.returns-then-nodes-at
returns-then-nodes-at c = match_no_node _ _ _ _ _ _ _ _ c.loop-end.invariant (sym c.item_counts.ensures ∙ c.loop-end-test.true) c.if-nodes-at.true

pub node_fits-requires : goal.node_fits-requires
node_fits-requires c = (match_item _ _ _ _ _ _ _ _ c.loop-end.invariant (sym c.item_counts.ensures ∙ c.loop-end-test.true), omega arith, match_nodes _ _ _ _ _ _ _ _ c.loop-end.invariant)

pub returns-then-not-node_fits : goal.returns-then-not-node_fits
returns-then-not-node_fits c = match_misfit _ _ _ _ _ _ _ _ c.loop-end.invariant (sym c.item_counts.ensures ∙ c.loop-end-test.true) (omega arith) c.node_fits.ensures c.if-not-node_fits.true

pub item_end-item-requires : goal.item_end-item-requires
item_end-item-requires c = match_item _ _ _ _ _ _ _ _ c.loop-end.invariant (sym c.item_counts.ensures ∙ c.loop-end-test.true)

pub node_end-at-requires : goal.node_end-at-requires
node_end-at-requires c = (omega arith, match_nodes _ _ _ _ _ _ _ _ c.loop-end.invariant)

pub loop-end-smaller : goal.loop-end-smaller
loop-end-smaller c = let f = match_further _ _ _ _ _ _ _ _ c.loop-end.invariant (sym c.item_counts.ensures ∙ c.loop-end-test.true) c.item_end-item.ensures in omega (arith, f.0, f.1)

pub loop-end-preserved : goal.loop-end-preserved
loop-end-preserved c = match_again _ _ _ _ _ _ _ _ c.loop-end.invariant (sym c.item_counts.ensures ∙ c.loop-end-test.true) (omega arith) c.node_fits.ensures c.if-not-node_fits.false c.item_end-item.ensures c.node_end-at.ensures

pub returns-then-item-end : goal.returns-then-item-end
returns-then-item-end c = match_rest _ _ _ _ _ _ _ _ c.loop-end.invariant (sym c.item_counts.ensures ∙ c.loop-end-test.false) c.if-item-end.true

pub returns : goal.returns
returns c = match_ends _ _ _ _ _ _ _ _ c.loop-end.invariant (sym c.item_counts.ensures ∙ c.loop-end-test.false) (omega arith)
