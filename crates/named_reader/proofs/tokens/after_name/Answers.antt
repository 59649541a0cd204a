-- `after_name` meets its contract. Assumes nothing.
use native.Mathlib.Omega.{arith}
use Rattle.named_reader.specs.Laws.Tables.{first_token, name_there, name_past}
use Rattle.named_reader.proofs.tokens.after_name.Goals as goal

pub returns-then-at-eq0 : goal.returns-then-at-eq0
returns-then-at-eq0 c = first_token c.args.named.now c.if-at-eq0.true

pub returns-then-before-named : goal.returns-then-before-named
returns-then-before-named c = name_there c.args.named.now c.if-at-eq0.false

pub returns : goal.returns
returns c = name_past c.args.named.now c.if-at-eq0.false (omega arith)
