-- `node_start` meets its contract: each way out computes with its tests. Assumes nothing.
use borrow.Author.Tests.{eq-eqb, ne_eqb}
use Rattle.reader.specs.Reading.{starts}
use Rattle.reader.specs.Tables.{started}
use Rattle.reader.proofs.tables.node_start.Goals as goal

pub returns-then-kind-eq-LEFT_PAREN : goal.returns-then-kind-eq-LEFT_PAREN
unfolding started starts
returns-then-kind-eq-LEFT_PAREN c = simp (starts, eq-eqb _ _ c.if-kind-eq-LEFT_PAREN.true)

pub returns-then-kind-eq-LEFT_BRACKET : goal.returns-then-kind-eq-LEFT_BRACKET
unfolding started starts
returns-then-kind-eq-LEFT_BRACKET c = simp (starts, ne_eqb _ _ c.if-kind-eq-LEFT_PAREN.false, eq-eqb _ _ c.if-kind-eq-LEFT_BRACKET.true)

pub returns-then-after_identifier : goal.returns-then-after_identifier
unfolding started starts
returns-then-after_identifier c = simp (starts, ne_eqb _ _ c.if-kind-eq-LEFT_PAREN.false, ne_eqb _ _ c.if-kind-eq-LEFT_BRACKET.false, eq-eqb _ _ c.if-kind-eq-LESS.true, c.if-cpp.true, c.if-after_identifier.true)

pub returns-else-after_identifier : goal.returns-else-after_identifier
unfolding started starts
returns-else-after_identifier c = simp (starts, ne_eqb _ _ c.if-kind-eq-LEFT_PAREN.false, ne_eqb _ _ c.if-kind-eq-LEFT_BRACKET.false, eq-eqb _ _ c.if-kind-eq-LESS.true, c.if-cpp.true, c.if-after_identifier.false)

pub returns-else-cpp : goal.returns-else-cpp
unfolding started starts
returns-else-cpp c = simp (starts, ne_eqb _ _ c.if-kind-eq-LEFT_PAREN.false, ne_eqb _ _ c.if-kind-eq-LEFT_BRACKET.false, eq-eqb _ _ c.if-kind-eq-LESS.true, c.if-cpp.false)

pub returns-else-kind-eq-LESS : goal.returns-else-kind-eq-LESS
unfolding started starts
returns-else-kind-eq-LESS c = simp (starts, ne_eqb _ _ c.if-kind-eq-LEFT_PAREN.false, ne_eqb _ _ c.if-kind-eq-LEFT_BRACKET.false, ne_eqb _ _ c.if-kind-eq-LESS.false)
