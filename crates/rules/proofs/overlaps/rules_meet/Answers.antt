-- `rules_meet` meets its contract. The loop's invariant: the items left decide. Assumes nothing.
use native.Mathlib.Omega.{arith}
use mathlib.Core.Path.{sym, ◌∙◌}
use Rattle.rules.specs.Laws.Meeting.{meet_begins, first_rest, first_ends, second_ends, some_first, some_second, disagree, meet_again, meet_further}
use Rattle.rules.proofs.overlaps.rules_meet.Goals as goal

pub loop-first-init : goal.loop-first-init
loop-first-init c = meet_begins _ _ _ _ _ c.requires.0 c.requires.1

pub item_counts-requires : goal.item_counts-requires
item_counts-requires c = c.requires.0.stands.inside

pub item_counts-requires-in-loop-first : goal.item_counts-requires-in-loop-first
item_counts-requires-in-loop-first c = c.requires.1.stands.inside

pub returns-then-not-item_counts : goal.returns-then-not-item_counts
returns-then-not-item_counts c = second_ends _ _ _ _ _ c.loop-first.invariant (sym c.item_counts.ensures ∙ c.loop-first-test.true) (sym c.item_counts-in-loop-first.ensures ∙ c.if-not-item_counts.true)

pub items_agree-requires : goal.items_agree-requires
items_agree-requires c = (some_first _ _ _ _ _ c.loop-first.invariant (sym c.item_counts.ensures ∙ c.loop-first-test.true) (sym c.item_counts-in-loop-first.ensures ∙ c.if-not-item_counts.false), some_second _ _ _ _ _ c.loop-first.invariant (sym c.item_counts.ensures ∙ c.loop-first-test.true) (sym c.item_counts-in-loop-first.ensures ∙ c.if-not-item_counts.false))

pub returns-then-not-items_agree : goal.returns-then-not-items_agree
returns-then-not-items_agree c = disagree _ _ _ _ _ c.loop-first.invariant (sym c.item_counts.ensures ∙ c.loop-first-test.true) (sym c.item_counts-in-loop-first.ensures ∙ c.if-not-item_counts.false) c.items_agree.ensures c.if-not-items_agree.true

pub item_end-x-requires : goal.item_end-x-requires
item_end-x-requires c = some_first _ _ _ _ _ c.loop-first.invariant (sym c.item_counts.ensures ∙ c.loop-first-test.true) (sym c.item_counts-in-loop-first.ensures ∙ c.if-not-item_counts.false)

pub item_end-y-requires : goal.item_end-y-requires
item_end-y-requires c = some_second _ _ _ _ _ c.loop-first.invariant (sym c.item_counts.ensures ∙ c.loop-first-test.true) (sym c.item_counts-in-loop-first.ensures ∙ c.if-not-item_counts.false)

pub loop-first-smaller : goal.loop-first-smaller
loop-first-smaller c = let f = meet_further _ _ _ _ _ c.loop-first.invariant (sym c.item_counts.ensures ∙ c.loop-first-test.true) (sym c.item_counts-in-loop-first.ensures ∙ c.if-not-item_counts.false) c.items_agree.ensures c.item_end-x.ensures in omega (arith, f.0, f.1)

pub loop-first-preserved : goal.loop-first-preserved
loop-first-preserved c = meet_again _ _ _ _ _ c.loop-first.invariant (sym c.item_counts.ensures ∙ c.loop-first-test.true) (sym c.item_counts-in-loop-first.ensures ∙ c.if-not-item_counts.false) c.items_agree.ensures c.if-not-items_agree.false c.item_end-x.ensures c.item_end-y.ensures

pub returns-then-x-first_end : goal.returns-then-x-first_end
returns-then-x-first_end c = first_rest _ _ _ _ _ c.loop-first.invariant (sym c.item_counts.ensures ∙ c.loop-first-test.false) c.if-x-first_end.true

pub item_counts-requires-2 : goal.item_counts-requires-2
item_counts-requires-2 c = c.requires.1.stands.inside

pub returns : goal.returns
returns c = first_ends _ _ _ _ _ c.loop-first.invariant (sym c.item_counts.ensures ∙ c.loop-first-test.false) (omega arith) _ c.item_counts-2.ensures
