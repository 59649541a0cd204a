-- `word_fits` meets its contract. Assumes nothing.
use native.Mathlib.Omega.{arith}
use Rattle.rows.specs.Laws.Tokens.{word_too_short, word_too_long, word_cut_off, word_whole}
use mathlib.Core.Path.{◌∙◌}
use Rattle.rows.proofs.token.word_fits.Goals as goal

pub returns-then-size-plain : goal.returns-then-size-plain
returns-then-size-plain c = word_too_short c.args.format _ _ _ c.requires.1 (rw c.token_length-plain.ensures.value at c.if-size-plain.true)

pub returns-then-plain-size : goal.returns-then-plain-size
returns-then-plain-size c = word_too_long c.args.format _ _ _ c.requires.1 (rw c.token_length-plain.ensures.value at c.if-size-plain.false) (rw c.token_length-plain.ensures.value at c.if-plain-size.true)

pub returns-then-file-at : goal.returns-then-file-at
returns-then-file-at c = word_cut_off c.args.format _ _ _ c.requires.1 (rw c.token_length-plain.ensures.value at c.if-size-plain.false) (rw c.token_length-plain.ensures.value at c.if-plain-size.false) (omega (arith, c.if-file-at.true))

pub returns : goal.returns
returns c = c.is_word.ensures ∙ rw c.token_length-plain.ensures.value (word_whole c.args.format _ _ _ c.requires.1 (rw c.token_length-plain.ensures.value at c.if-size-plain.false) (rw c.token_length-plain.ensures.value at c.if-plain-size.false) (omega (arith, c.if-file-at.false)))
