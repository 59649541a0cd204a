-- `number_of_word` meets its contract. Assumes nothing.
use mathlib.Core.Path.{refl, sym}
use borrow.Author.Tests.{ne_eqb}
use lib.ListN.{length}
use Rattle.rows.specs.Words.{known, bytes}
use Rattle.rows.specs.Laws.KnownSearch.{none, no_length}
use Rattle.rows.proofs.words.number_of_word.Goals as goal

pub returns-then-size-eq0 : goal.returns-then-size-eq0
unfolding none known bytes
returns-then-size-eq0 c = no_length _ 0 c.if-size-eq0.true tt

pub returns-in_default : goal.returns-in_default
unfolding none known bytes
returns-in_default c = no_length c.args.word.now (length c.args.word.now) refl (rw (ne_eqb 3 (length c.args.word.now) (λ e. c.in_default.in_default-own.rest.0.0.0.0.0.0.0.0.0.0.0.1 (sym e)), ne_eqb 4 (length c.args.word.now) (λ e. c.in_default.in_default-own.rest.0.0.0.0.0.0.0.0.0.0.1 (sym e)), ne_eqb 5 (length c.args.word.now) (λ e. c.in_default.in_default-own.rest.0.0.0.0.0.0.0.0.0.1 (sym e)), ne_eqb 6 (length c.args.word.now) (λ e. c.in_default.in_default-own.rest.0.0.0.0.0.0.0.0.1 (sym e)), ne_eqb 7 (length c.args.word.now) (λ e. c.in_default.in_default-own.rest.0.0.0.0.0.0.0.1 (sym e)), ne_eqb 8 (length c.args.word.now) (λ e. c.in_default.in_default-own.rest.0.0.0.0.0.0.1 (sym e)), ne_eqb 9 (length c.args.word.now) (λ e. c.in_default.in_default-own.rest.0.0.0.0.0.1 (sym e)), ne_eqb 10 (length c.args.word.now) (λ e. c.in_default.in_default-own.rest.0.0.0.0.1 (sym e)), ne_eqb 11 (length c.args.word.now) (λ e. c.in_default.in_default-own.rest.0.0.0.1 (sym e)), ne_eqb 12 (length c.args.word.now) (λ e. c.in_default.in_default-own.rest.0.0.1 (sym e)), ne_eqb 13 (length c.args.word.now) (λ e. c.in_default.in_default-own.rest.0.1 (sym e)), ne_eqb 16 (length c.args.word.now) (λ e. c.in_default.in_default-own.rest.1 (sym e))) tt)
