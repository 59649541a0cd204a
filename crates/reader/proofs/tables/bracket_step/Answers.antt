-- `bracket_step` meets its contract: each way out computes with its tests. Assumes nothing.
use mathlib.Core.Path.{ap}
use native.Mathlib.Omega.{arith}
use Rattle.reader.specs.Reading.{ends}
use borrow.Author.Tests.{eq-eqb, ne_eqb}
use Rattle.reader.specs.Tables.{planned, in_group}
use Rattle.reader.proofs.tables.bracket_step.Goals as goal

pub returns-then-kind-eq-NO_TOKEN_KIND : goal.returns-then-kind-eq-NO_TOKEN_KIND
unfolding planned in_group
returns-then-kind-eq-NO_TOKEN_KIND c = record { plans = λ cpp after_identifier. simp (in_group, eq-eqb _ _ c.if-kind-eq-NO_TOKEN_KIND.true) }

pub returns-then-kind-close : goal.returns-then-kind-close
unfolding planned in_group
returns-then-kind-close c = record { plans = λ cpp after_identifier. simp (in_group, ne_eqb _ _ c.if-kind-eq-NO_TOKEN_KIND.false, eq-eqb _ _ c.if-kind-close.true) (ap ends (omega arith)) }

pub returns-then-kind-other : goal.returns-then-kind-other
unfolding planned in_group
returns-then-kind-other c = record { plans = λ cpp after_identifier. simp (in_group, ne_eqb _ _ c.if-kind-eq-NO_TOKEN_KIND.false, ne_eqb _ _ c.if-kind-close.false, eq-eqb _ _ c.if-kind-other.true) }

pub returns : goal.returns
unfolding planned in_group
returns c = record { plans = λ cpp after_identifier. simp (in_group, ne_eqb _ _ c.if-kind-eq-NO_TOKEN_KIND.false, ne_eqb _ _ c.if-kind-close.false, ne_eqb _ _ c.if-kind-other.false) }
