-- `of_16` meets its contract. Assumes nothing.
use mathlib.Core.Path.{◌∙◌}
use native.Mathlib.Omega.{arith}
use borrow.Author.Tests.{ne_eqb}
use Rattle.rows.specs.Words.{known, bytes, lower, number_among}
use Rattle.rows.specs.Laws.KnownSearch.{kept, none, among_like, no_first}
use Rattle.rows.proofs.words.of_16.Goals as goal

pub returns-in-116 : goal.returns-in-116
unfolding number_among kept known bytes lower
returns-in-116 c = c.if_is.ensures ∙ among_like c.args.word.now 16 116 c.requires.0 (omega arith) (omega arith)

pub returns-in_default : goal.returns-in_default
unfolding none known bytes lower
returns-in_default c = no_first c.args.word.now 16 c.args.first c.requires.0 (omega arith) c.requires.1 (rw (ne_eqb 116 c.args.first (omega arith)) tt)
