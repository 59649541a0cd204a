-- `word_at` meets its contract. Assumes nothing.
use native.Mathlib.Omega.{arith}
use Rattle.rows.specs.Words.{no_word}
use Rattle.rows.specs.Laws.Lookups.{any_default, past_default}
use Rattle.profile.proofs.features.ComparedRow.word_at.Goals as goal

pub returns-then-at-self : goal.returns-then-at-self
returns-then-at-self c = any_default c.args.self.now.words.now c.args.at 0 no_word (omega arith)

pub returns : goal.returns
returns c = past_default c.args.self.now.words.now c.args.at no_word (omega arith)
