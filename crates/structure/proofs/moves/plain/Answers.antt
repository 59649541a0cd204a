-- `plain` meets its contract. Assumes nothing.
use mathlib.Core.Path.{sym}
use Rattle.structure.specs.Laws.Limits.{limited_yes, limited_no}
use Rattle.structure.proofs.moves.plain.Goals as goal

pub returns-then-holds : goal.returns-then-holds
returns-then-holds c = sym (rw c.if-holds.true (limited_yes _))

pub returns : goal.returns
returns c = sym (rw c.if-holds.false (limited_no _))
