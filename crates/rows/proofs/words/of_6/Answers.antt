-- `of_6` meets its contract. Assumes nothing.
use mathlib.Core.Path.{◌∙◌}
use native.Mathlib.Omega.{arith}
use borrow.Author.Tests.{ne_eqb}
use Rattle.rows.specs.Words.{known, bytes, lower, number_among}
use Rattle.rows.specs.Laws.KnownSearch.{kept, none, among_like, no_first, like, found, not_found}
use Rattle.rows.proofs.words.of_6.Goals as goal

pub returns-then-found-ne-NO_WORD : goal.returns-then-found-ne-NO_WORD
unfolding number_among kept none known bytes lower
returns-then-found-ne-NO_WORD c = found c.args.word.now (kept (like 6 115) known) (among_like c.args.word.now 6 115 c.requires.0 (omega arith) (omega arith)) _ c.if_is-found.ensures c.if-found-ne-NO_WORD.true

pub returns-in-100 : goal.returns-in-100
unfolding number_among kept known bytes lower
returns-in-100 c = c.if_is.ensures ∙ among_like c.args.word.now 6 100 c.requires.0 (omega arith) (omega arith)

pub returns-else-found-ne-NO_WORD : goal.returns-else-found-ne-NO_WORD
unfolding number_among kept none known bytes lower
returns-else-found-ne-NO_WORD c = c.if_is-in-115.ensures ∙ not_found c.args.word.now (kept (like 6 115) known) (among_like c.args.word.now 6 115 c.requires.0 (omega arith) (omega arith)) tt _ c.if_is-found.ensures c.if-found-ne-NO_WORD.false

pub returns-in-116 : goal.returns-in-116
unfolding number_among kept known bytes lower
returns-in-116 c = c.if_is-in-116.ensures ∙ among_like c.args.word.now 6 116 c.requires.0 (omega arith) (omega arith)

pub returns-in_default : goal.returns-in_default
unfolding none known bytes lower
returns-in_default c = no_first c.args.word.now 6 c.args.first c.requires.0 (omega arith) c.requires.1 (rw (ne_eqb 100 c.args.first (omega arith), ne_eqb 115 c.args.first (omega arith), ne_eqb 116 c.args.first (omega arith)) tt)
