-- `length_fits` meets its contract. Assumes nothing.
use mathlib.Core.Path.{◌∙◌}
use Rattle.rows.specs.Laws.Tokens.{identifier_fits, sign_fits}
use Rattle.rows.proofs.token.length_fits.Goals as goal

pub returns-then-kind : goal.returns-then-kind
returns-then-kind c = c.word_fits.ensures ∙ identifier_fits c.args.format _ _ _ c.requires.2 _ c.requires.1 c.if-kind.true

pub returns : goal.returns
returns c = rw c.token_length.ensures.value (sign_fits c.args.format _ _ _ c.requires.2 _ c.requires.1 c.if-kind.false)
