-- `row_step` meets its contract: each way out computes with its tests. Assumes nothing.
use borrow.Author.Tests.{eq-eqb, ne_eqb}
use Rattle.reader.specs.Reading.{next}
use Rattle.reader.specs.Tables.{planned}
use Rattle.reader.proofs.tables.row_step.Goals as goal

pub returns-then-kind-eq-NO_TOKEN_KIND : goal.returns-then-kind-eq-NO_TOKEN_KIND
unfolding planned next
returns-then-kind-eq-NO_TOKEN_KIND c = record { plans = λ cpp after_identifier half lists. simp (next, eq-eqb _ _ c.if-kind-eq-NO_TOKEN_KIND.true) }

pub returns-then-kind-eq-RIGHT_PAREN : goal.returns-then-kind-eq-RIGHT_PAREN
unfolding planned next
returns-then-kind-eq-RIGHT_PAREN c = record { plans = λ cpp after_identifier half lists. simp (next, ne_eqb _ _ c.if-kind-eq-NO_TOKEN_KIND.false, eq-eqb _ _ c.if-kind-eq-RIGHT_PAREN.true) }

pub returns-then-kind-eq-RIGHT_BRACKET : goal.returns-then-kind-eq-RIGHT_BRACKET
unfolding planned next
returns-then-kind-eq-RIGHT_BRACKET c = record { plans = λ cpp after_identifier half lists. simp (next, ne_eqb _ _ c.if-kind-eq-NO_TOKEN_KIND.false, ne_eqb _ _ c.if-kind-eq-RIGHT_PAREN.false, eq-eqb _ _ c.if-kind-eq-RIGHT_BRACKET.true) }

pub returns : goal.returns
unfolding planned next
returns c = record { plans = λ cpp after_identifier half lists. simp (next, ne_eqb _ _ c.if-kind-eq-NO_TOKEN_KIND.false, ne_eqb _ _ c.if-kind-eq-RIGHT_PAREN.false, ne_eqb _ _ c.if-kind-eq-RIGHT_BRACKET.false) }
