-- `of_4` meets its contract. Assumes nothing.
use mathlib.Core.Path.{◌∙◌}
use native.Mathlib.Omega.{arith}
use borrow.Author.Tests.{ne_eqb}
use Rattle.rows.specs.Words.{known, bytes, lower, number_among}
use Rattle.rows.specs.Laws.KnownSearch.{kept, none, among_like, no_first}
use Rattle.rows.proofs.words.of_4.Goals as goal

pub returns-in-118 : goal.returns-in-118
unfolding number_among kept known bytes lower
returns-in-118 c = c.if_is.ensures ∙ among_like c.args.word.now 4 118 c.requires.0 (omega arith) (omega arith)

pub returns-in-98 : goal.returns-in-98
unfolding number_among kept known bytes lower
returns-in-98 c = c.if_is-in-98.ensures ∙ among_like c.args.word.now 4 98 c.requires.0 (omega arith) (omega arith)

pub returns-in-99 : goal.returns-in-99
unfolding number_among kept known bytes lower
returns-in-99 c = c.if_is-in-99.ensures ∙ among_like c.args.word.now 4 99 c.requires.0 (omega arith) (omega arith)

pub returns-in-108 : goal.returns-in-108
unfolding number_among kept known bytes lower
returns-in-108 c = c.if_is-in-108.ensures ∙ among_like c.args.word.now 4 108 c.requires.0 (omega arith) (omega arith)

pub returns-in-101 : goal.returns-in-101
unfolding number_among kept known bytes lower
returns-in-101 c = c.if_is-in-101.ensures ∙ among_like c.args.word.now 4 101 c.requires.0 (omega arith) (omega arith)

pub returns-in-116 : goal.returns-in-116
unfolding number_among kept known bytes lower
returns-in-116 c = c.if_is-in-116.ensures ∙ among_like c.args.word.now 4 116 c.requires.0 (omega arith) (omega arith)

pub returns-in_default : goal.returns-in_default
unfolding none known bytes lower
returns-in_default c = no_first c.args.word.now 4 c.args.first c.requires.0 (omega arith) c.requires.1 (rw (ne_eqb 118 c.args.first (omega arith), ne_eqb 98 c.args.first (omega arith), ne_eqb 99 c.args.first (omega arith), ne_eqb 108 c.args.first (omega arith), ne_eqb 101 c.args.first (omega arith), ne_eqb 116 c.args.first (omega arith)) tt)
