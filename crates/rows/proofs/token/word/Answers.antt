-- `word` meets its contract. Assumes nothing.
use native.Mathlib.Omega.{arith}
use mathlib.Core.Path.{◌∙◌, sym}
use Rattle.rows.specs.Laws.Tokens.{formed_fits, word_part, word_there, no_word_there}
use Rattle.rows.proofs.token.word.Goals as goal

pub returns-in_default : goal.returns-in_default
returns-in_default c = no_word_there c.args.format _ _ (sym c.token_at-found.ensures ∙ c.in_default.is)

pub overflow_add-begin : goal.overflow_add-begin
overflow_add-begin c = let fit = formed_fits c.args.format _ _ _ _ (sym c.token_at-found.ensures ∙ c.in-Some.is) in omega (arith, c.token_length.ensures.value)

pub overflow_add-end : goal.overflow_add-end
overflow_add-end c = let fit = formed_fits c.args.format _ _ _ _ (sym c.token_at-found.ensures ∙ c.in-Some.is) in omega (arith, c.token_length.ensures.value)

pub slice_bounds-result-count : goal.slice_bounds-result-count
slice_bounds-result-count c = let fit = formed_fits c.args.format _ _ _ _ (sym c.token_at-found.ensures ∙ c.in-Some.is) in omega (arith, c.token_length.ensures.value)

pub slice_bounds-result-start : goal.slice_bounds-result-start
slice_bounds-result-start c = let fit = formed_fits c.args.format _ _ _ _ (sym c.token_at-found.ensures ∙ c.in-Some.is) in omega (arith, c.token_length.ensures.value)

pub slice_bounds-result-end-2 : goal.slice_bounds-result-end-2
slice_bounds-result-end-2 c = let fit = formed_fits c.args.format _ _ _ _ (sym c.token_at-found.ensures ∙ c.in-Some.is) in omega (arith, c.token_length.ensures.value)

pub returns : goal.returns
returns c = rw c.token_length.ensures.value (word_part c.args.format _ _ _ _ (sym c.token_at-found.ensures ∙ c.in-Some.is) ∙ word_there c.args.format _ _ _ _ (sym c.token_at-found.ensures ∙ c.in-Some.is))
