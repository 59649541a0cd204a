-- `put_little_endian` meets its contract; the bytes left fall. Assumes nothing.
use native.Mathlib.Omega.{arith}
use Rattle.text.specs.Laws.Appending.{puts_as, puts_then}
use Rattle.text.specs.Laws.Records.{no_bytes, byte_first}
use Rattle.text.proofs.Text.+put_little_endian.Goals as goal

pub returns-then-width-eq0 : goal.returns-then-width-eq0
returns-then-width-eq0 t c = no_bytes _ _ c.if-width-eq0.true

pub put_little_endian-requires : goal.put_little_endian-requires
put_little_endian-requires t c = (omega arith, omega arith)

pub returns : goal.returns
returns t c = puts_as (byte_first _ _ c.if-width-eq0.false) (puts_then c.put_byte.ensures c.put_little_endian.ensures)
