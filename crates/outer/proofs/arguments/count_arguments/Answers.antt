-- `count_arguments` meets its contract. The loop's invariant: what is left of the list decides. Assumes nothing.
use mathlib.Core.Path.{refl, sym, ◌∙◌}
use native.Mathlib.Omega.{arith}
use Rattle.outer.specs.Laws.Walk.{count_stops, count_further, count_again, count_ends}
use Rattle.outer.proofs.arguments.count_arguments.Goals as goal

pub loop-at-init : goal.loop-at-init
loop-at-init c = record { within = omega arith; few = omega arith; decides = refl }

pub is_argument-requires : goal.is_argument-requires
is_argument-requires c = (omega arith, omega arith)

pub returns-then-not-is_argument : goal.returns-then-not-is_argument
returns-then-not-is_argument c = count_stops c.loop-at.invariant (omega arith) (sym c.is_argument.ensures ∙ c.if-not-is_argument.true)

pub overflow_add-at : goal.overflow_add-at
overflow_add-at c = let f = count_further c.loop-at.invariant (omega arith) (sym c.is_argument.ensures ∙ c.if-not-is_argument.false) in omega (arith, f.1, c.node_extent-at.ensures.value)

pub overflow_add-found : goal.overflow_add-found
overflow_add-found c = let f = count_further c.loop-at.invariant (omega arith) (sym c.is_argument.ensures ∙ c.if-not-is_argument.false) in omega (arith, f.0, f.1, c.loop-at.invariant.few)

pub loop-at-smaller : goal.loop-at-smaller
loop-at-smaller c = let f = count_further c.loop-at.invariant (omega arith) (sym c.is_argument.ensures ∙ c.if-not-is_argument.false) in omega (arith, f.0, f.1, c.node_extent-at.ensures.value)

pub loop-at-preserved : goal.loop-at-preserved
loop-at-preserved c = rw c.node_extent-at.ensures.value (count_again c.loop-at.invariant (omega arith) (sym c.is_argument.ensures ∙ c.if-not-is_argument.false))

pub returns : goal.returns
returns c = count_ends c.loop-at.invariant (omega arith)
