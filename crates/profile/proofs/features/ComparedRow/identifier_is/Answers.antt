-- `identifier_is` meets its contract. Assumes nothing.
use borrow.Author.Tests.{eq-eqb, ne_eqb}
use Rattle.profile.specs.Profile.{identifier_is}
use Rattle.rows.specs.Laws.Tests.{and_false, and_true}
use Rattle.profile.proofs.features.ComparedRow.identifier_is.Goals as goal

pub returns-then-compared-word : goal.returns-then-compared-word
unfolding identifier_is
returns-then-compared-word c = rw (← c.word_at.ensures, ← c.compared.ensures, ne_eqb _ _ c.if-compared-word.true, and_false)

pub returns : goal.returns
unfolding identifier_is
returns c = rw (← c.word_at.ensures, ← c.compared.ensures, eq-eqb _ _ c.if-compared-word.false, and_true) c.kind_is.ensures
