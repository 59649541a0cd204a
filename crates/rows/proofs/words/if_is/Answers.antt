-- `if_is` meets its contract. Assumes nothing.
use native.Mathlib.Omega.{arith}
use mathlib.Core.Path.{sym, ◌∙◌}
use Rattle.rows.specs.Laws.KnownSearch.{picked, picked_by}
use Rattle.rows.proofs.words.if_is.Goals as goal

pub overflow_add-result : goal.overflow_add-result
overflow_add-result c = omega (arith, c.requires.1)

pub returns-in-Exact : goal.returns-in-Exact
unfolding picked
returns-in-Exact c = picked_by _ _ _ _ (sym c.in-Exact.is ∙ c.compare-comparison.ensures)

pub returns-in-OtherCase : goal.returns-in-OtherCase
unfolding picked
returns-in-OtherCase c = picked_by _ _ _ _ (sym c.in-OtherCase.is ∙ c.compare-comparison.ensures)

pub returns-in-Different : goal.returns-in-Different
unfolding picked
returns-in-Different c = picked_by _ _ _ _ (sym c.in-Different.is ∙ c.compare-comparison.ensures)
