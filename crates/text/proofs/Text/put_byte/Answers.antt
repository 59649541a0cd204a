-- `put_byte` meets its contract. Assumes nothing.
use native.Mathlib.Omega.{arith}
use mathlib.Core.Path.{refl}
use Rattle.std.proofs.Common.{length-set}
use Rattle.text.specs.Laws.Appending.{appended_byte}
use Rattle.text.proofs.Text.put_byte.Goals as goal

pub returns : goal.returns
returns c = record { same_buffer = refl; as_long = length-set _ _ _; appended = appended_byte _ _ _ (omega arith) }
