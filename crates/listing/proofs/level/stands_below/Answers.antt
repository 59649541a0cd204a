-- `stands_below` meets its contract. Assumes nothing.
use mathlib.Core.Path.{refl, ◌∙◌, sym}
use native.Mathlib.Omega.{arith}
use Rattle.listing.specs.Laws.Lines.{below_yes, below_no}
use Rattle.listing.proofs.level.stands_below.Goals as goal

pub overflow_add-result : goal.overflow_add-result
overflow_add-result c = omega (arith, c.node_extent-extent.ensures.small)

pub returns-then-makes_level : goal.returns-then-makes_level
returns-then-makes_level c = below_yes _ _ _ _ (rw (← c.node_kind.ensures) (sym c.makes_level.ensures ∙ c.if-makes_level.true)) (rw c.node_extent-extent.ensures.value refl)

pub returns : goal.returns
returns c = below_no _ _ _ (rw (← c.node_kind.ensures) (sym c.makes_level.ensures ∙ c.if-makes_level.false))
