-- `four_bytes` meets its contract. Assumes nothing.
use native.Mathlib.Omega.{arith}
use Rattle.rows.specs.Laws.Bytes.{four_bytes}
use Rattle.rows.proofs.bytes.four_bytes.Goals as goal

pub returns-clause-value : goal.returns-clause-value
returns-clause-value c = omega (arith, four_bytes c.args.file.now c.args.at)
