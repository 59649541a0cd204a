-- `of_3` meets its contract. Assumes nothing.
use mathlib.Core.Path.{◌∙◌}
use native.Mathlib.Omega.{arith}
use borrow.Author.Tests.{ne_eqb}
use Rattle.rows.specs.Words.{known, bytes, lower, number_among}
use Rattle.rows.specs.Laws.KnownSearch.{kept, none, among_like, no_first}
use Rattle.rows.proofs.words.of_3.Goals as goal

pub returns-in-105 : goal.returns-in-105
unfolding number_among kept known bytes lower
returns-in-105 c = c.if_is.ensures ∙ among_like c.args.word.now 3 105 c.requires.0 (omega arith) (omega arith)

pub returns-in_default : goal.returns-in_default
unfolding none known bytes lower
returns-in_default c = no_first c.args.word.now 3 c.args.first c.requires.0 (omega arith) c.requires.1 (rw (ne_eqb 105 c.args.first (omega arith)) tt)
