-- `of_7` meets its contract. Assumes nothing.
use mathlib.Core.Path.{◌∙◌}
use native.Mathlib.Omega.{arith}
use borrow.Author.Tests.{ne_eqb}
use Rattle.rows.specs.Words.{known, bytes, lower, number_among}
use Rattle.rows.specs.Laws.KnownSearch.{kept, none, among_like, no_first, like, found, not_found}
use Rattle.rows.proofs.words.of_7.Goals as goal

pub returns-then-found-ne-NO_WORD : goal.returns-then-found-ne-NO_WORD
unfolding number_among kept none known bytes lower
returns-then-found-ne-NO_WORD c = found c.args.word.now (kept (like 7 99) known) (among_like c.args.word.now 7 99 c.requires.0 (omega arith) (omega arith)) _ c.if_is-found.ensures c.if-found-ne-NO_WORD.true

pub returns-then-found-ne-NO_WORD-2 : goal.returns-then-found-ne-NO_WORD-2
unfolding number_among kept none known bytes lower
returns-then-found-ne-NO_WORD-2 c = found c.args.word.now (kept (like 7 95) known) (among_like c.args.word.now 7 95 c.requires.0 (omega arith) (omega arith)) _ c.if_is-found-in-95.ensures c.if-found-ne-NO_WORD-2.true

pub returns-in-119 : goal.returns-in-119
unfolding number_among kept known bytes lower
returns-in-119 c = c.if_is.ensures ∙ among_like c.args.word.now 7 119 c.requires.0 (omega arith) (omega arith)

pub returns-else-found-ne-NO_WORD : goal.returns-else-found-ne-NO_WORD
unfolding number_among kept none known bytes lower
returns-else-found-ne-NO_WORD c = c.if_is-in-99.ensures ∙ not_found c.args.word.now (kept (like 7 99) known) (among_like c.args.word.now 7 99 c.requires.0 (omega arith) (omega arith)) tt _ c.if_is-found.ensures c.if-found-ne-NO_WORD.false

pub returns-else-found-ne-NO_WORD-2 : goal.returns-else-found-ne-NO_WORD-2
unfolding number_among kept none known bytes lower
returns-else-found-ne-NO_WORD-2 c = c.if_is-in-95.ensures ∙ not_found c.args.word.now (kept (like 7 95) known) (among_like c.args.word.now 7 95 c.requires.0 (omega arith) (omega arith)) tt _ c.if_is-found-in-95.ensures c.if-found-ne-NO_WORD-2.false

pub returns-in_default : goal.returns-in_default
unfolding none known bytes lower
returns-in_default c = no_first c.args.word.now 7 c.args.first c.requires.0 (omega arith) c.requires.1 (rw (ne_eqb 119 c.args.first (omega arith), ne_eqb 99 c.args.first (omega arith), ne_eqb 95 c.args.first (omega arith)) tt)
