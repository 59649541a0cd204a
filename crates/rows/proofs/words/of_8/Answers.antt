-- `of_8` meets its contract. Assumes nothing.
use mathlib.Core.Path.{sym, ◌∙◌}
use native.Mathlib.Omega.{arith}
use borrow.Author.Tests.{ne_eqb}
use Rattle.rows.specs.Words.{known, bytes, lower, number_among}
use Rattle.rows.specs.Laws.KnownSearch.{kept, none, among_like, no_first, like, found, not_found}
use Rattle.rows.proofs.words.of_8.Goals as goal

pub returns-then-found-ne-NO_WORD : goal.returns-then-found-ne-NO_WORD
unfolding number_among kept none known bytes lower
returns-then-found-ne-NO_WORD c = found c.args.word.now (kept (like 8 99) known) (among_like c.args.word.now 8 99 c.requires.0 (omega arith) (omega arith)) _ c.if_is-found.ensures c.if-found-ne-NO_WORD.true

pub returns-then-found-ne-NO_WORD-2 : goal.returns-then-found-ne-NO_WORD-2
unfolding number_among kept none known bytes lower
returns-then-found-ne-NO_WORD-2 c = found c.args.word.now (kept (like 8 95) known) (among_like c.args.word.now 8 95 c.requires.0 (omega arith) (omega arith)) _ c.if_is-found-in-95.ensures c.if-found-ne-NO_WORD-2.true

pub returns-else-found-ne-NO_WORD : goal.returns-else-found-ne-NO_WORD
unfolding number_among kept none known bytes lower
returns-else-found-ne-NO_WORD c = c.if_is.ensures ∙ not_found c.args.word.now (kept (like 8 99) known) (among_like c.args.word.now 8 99 c.requires.0 (omega arith) (omega arith)) tt _ c.if_is-found.ensures c.if-found-ne-NO_WORD.false

pub returns-in-117 : goal.returns-in-117
unfolding number_among kept known bytes lower
returns-in-117 c = c.if_is-in-117.ensures ∙ among_like c.args.word.now 8 117 c.requires.0 (omega arith) (omega arith)

pub returns-else-found-ne-NO_WORD-2 : goal.returns-else-found-ne-NO_WORD-2
unfolding number_among kept none known bytes lower
returns-else-found-ne-NO_WORD-2 c = c.if_is-in-95.ensures ∙ not_found c.args.word.now (kept (like 8 95) known) (among_like c.args.word.now 8 95 c.requires.0 (omega arith) (omega arith)) tt _ c.if_is-found-in-95.ensures c.if-found-ne-NO_WORD-2.false

pub returns-in-118 : goal.returns-in-118
unfolding number_among kept known bytes lower
returns-in-118 c = c.if_is-in-118.ensures ∙ among_like c.args.word.now 8 118 c.requires.0 (omega arith) (omega arith)

pub returns-in-114 : goal.returns-in-114
unfolding number_among kept known bytes lower
returns-in-114 c = c.if_is-in-114.ensures ∙ among_like c.args.word.now 8 114 c.requires.0 (omega arith) (omega arith)

pub returns-in-110 : goal.returns-in-110
unfolding number_among kept known bytes lower
returns-in-110 c = c.if_is-in-110.ensures ∙ among_like c.args.word.now 8 110 c.requires.0 (omega arith) (omega arith)

pub returns-in-100 : goal.returns-in-100
unfolding number_among kept known bytes lower
returns-in-100 c = c.if_is-in-100.ensures ∙ among_like c.args.word.now 8 100 c.requires.0 (omega arith) (omega arith)

pub returns-in-116 : goal.returns-in-116
unfolding number_among kept known bytes lower
returns-in-116 c = c.if_is-in-116.ensures ∙ among_like c.args.word.now 8 116 c.requires.0 (omega arith) (omega arith)

pub returns-in_default : goal.returns-in_default
unfolding none known bytes lower
returns-in_default c = no_first c.args.word.now 8 c.args.first c.requires.0 (omega arith) c.requires.1 (rw (ne_eqb 99 c.args.first (λ e. c.in_default.in_default-own.rest.0.0.0.0.0.0.0.1 (sym e)), ne_eqb 117 c.args.first (λ e. c.in_default.in_default-own.rest.0.0.0.0.0.0.1 (sym e)), ne_eqb 95 c.args.first (λ e. c.in_default.in_default-own.rest.0.0.0.0.0.1 (sym e)), ne_eqb 118 c.args.first (λ e. c.in_default.in_default-own.rest.0.0.0.0.1 (sym e)), ne_eqb 114 c.args.first (λ e. c.in_default.in_default-own.rest.0.0.0.1 (sym e)), ne_eqb 110 c.args.first (λ e. c.in_default.in_default-own.rest.0.0.1 (sym e)), ne_eqb 100 c.args.first (λ e. c.in_default.in_default-own.rest.0.1 (sym e)), ne_eqb 116 c.args.first (λ e. c.in_default.in_default-own.rest.1 (sym e))) tt)
