-- `of_10` meets its contract. Assumes nothing.
use mathlib.Core.Path.{◌∙◌}
use native.Mathlib.Omega.{arith}
use borrow.Author.Tests.{ne_eqb}
use lib.ListN.{drop}
use Rattle.rows.specs.Words.{known, bytes, lower, number_among}
use Rattle.rows.specs.Laws.KnownSearch.{kept, none, among_like, no_first, like, found, not_found}
use Rattle.rows.proofs.words.of_10.Goals as goal

pub returns-then-found-ne-NO_WORD : goal.returns-then-found-ne-NO_WORD
unfolding number_among kept none known bytes lower
returns-then-found-ne-NO_WORD c = found c.args.word.now (kept (like 10 95) known) (among_like c.args.word.now 10 95 c.requires.0 (omega arith) (omega arith)) _ c.if_is-found.ensures c.if-found-ne-NO_WORD.true

pub returns-then-found2-ne-NO_WORD : goal.returns-then-found2-ne-NO_WORD
unfolding number_among kept none known bytes lower
returns-then-found2-ne-NO_WORD c = found c.args.word.now (drop 1 (kept (like 10 95) known)) (not_found c.args.word.now (kept (like 10 95) known) (among_like c.args.word.now 10 95 c.requires.0 (omega arith) (omega arith)) tt _ c.if_is-found.ensures c.if-found-ne-NO_WORD.false) _ c.if_is-found2.ensures c.if-found2-ne-NO_WORD.true

pub returns-then-found3-ne-NO_WORD : goal.returns-then-found3-ne-NO_WORD
unfolding number_among kept none known bytes lower
returns-then-found3-ne-NO_WORD c = found c.args.word.now (drop 2 (kept (like 10 95) known)) (not_found c.args.word.now (drop 1 (kept (like 10 95) known)) (not_found c.args.word.now (kept (like 10 95) known) (among_like c.args.word.now 10 95 c.requires.0 (omega arith) (omega arith)) tt _ c.if_is-found.ensures c.if-found-ne-NO_WORD.false) tt _ c.if_is-found2.ensures c.if-found2-ne-NO_WORD.false) _ c.if_is-found3.ensures c.if-found3-ne-NO_WORD.true

pub returns-then-found4-ne-NO_WORD : goal.returns-then-found4-ne-NO_WORD
unfolding number_among kept none known bytes lower
returns-then-found4-ne-NO_WORD c = found c.args.word.now (drop 3 (kept (like 10 95) known)) (not_found c.args.word.now (drop 2 (kept (like 10 95) known)) (not_found c.args.word.now (drop 1 (kept (like 10 95) known)) (not_found c.args.word.now (kept (like 10 95) known) (among_like c.args.word.now 10 95 c.requires.0 (omega arith) (omega arith)) tt _ c.if_is-found.ensures c.if-found-ne-NO_WORD.false) tt _ c.if_is-found2.ensures c.if-found2-ne-NO_WORD.false) tt _ c.if_is-found3.ensures c.if-found3-ne-NO_WORD.false) _ c.if_is-found4.ensures c.if-found4-ne-NO_WORD.true

pub returns-else-found4-ne-NO_WORD : goal.returns-else-found4-ne-NO_WORD
unfolding number_among kept none known bytes lower
returns-else-found4-ne-NO_WORD c = c.if_is.ensures ∙ not_found c.args.word.now (drop 3 (kept (like 10 95) known)) (not_found c.args.word.now (drop 2 (kept (like 10 95) known)) (not_found c.args.word.now (drop 1 (kept (like 10 95) known)) (not_found c.args.word.now (kept (like 10 95) known) (among_like c.args.word.now 10 95 c.requires.0 (omega arith) (omega arith)) tt _ c.if_is-found.ensures c.if-found-ne-NO_WORD.false) tt _ c.if_is-found2.ensures c.if-found2-ne-NO_WORD.false) tt _ c.if_is-found3.ensures c.if-found3-ne-NO_WORD.false) tt _ c.if_is-found4.ensures c.if-found4-ne-NO_WORD.false

pub returns-in_default : goal.returns-in_default
unfolding none known bytes lower
returns-in_default c = no_first c.args.word.now 10 c.args.first c.requires.0 (omega arith) c.requires.1 (rw (ne_eqb 95 c.args.first (omega arith)) tt)
