-- `eight_bytes` meets its contract. Assumes nothing.
use native.Mathlib.Omega.{arith}
use Rattle.rows.specs.Laws.Bytes.{eight_bytes}
use Rattle.rows.proofs.bytes.eight_bytes.Goals as goal

pub returns : goal.returns
returns c = omega (arith, eight_bytes c.args.file.now c.args.at)
