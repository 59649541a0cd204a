-- `kind_at` meets its contract. Assumes nothing.
use native.Mathlib.Omega.{arith}
use Rattle.reader.specs.Laws.Tokens.{kind_in, kind_out}
use Rattle.reader.proofs.tables.kind_at.Goals as goal

pub returns-then-at-kinds : goal.returns-then-at-kinds
returns-then-at-kinds c = kind_in _ _ (omega arith)

pub returns : goal.returns
returns c = kind_out _ _ (omega arith)
