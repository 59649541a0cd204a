-- `delimiter` meets its contract. Assumes nothing.
use borrow.Author.Tests.{eq-eqb, ne_eqb}
use Rattle.prescan.specs.ScanState.{delimiter_of}
use Rattle.prescan.proofs.scan.delimiter.Goals as goal

pub returns-then-kind-eq-LEFT_PAREN : goal.returns-then-kind-eq-LEFT_PAREN
unfolding delimiter_of
returns-then-kind-eq-LEFT_PAREN c = simp (delimiter_of, eq-eqb _ _ c.if-kind-eq-LEFT_PAREN.true)

pub returns : goal.returns
unfolding delimiter_of
returns c = simp (delimiter_of, ne_eqb _ _ c.if-kind-eq-LEFT_PAREN.false)
