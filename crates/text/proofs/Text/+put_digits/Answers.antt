-- `put_digits` meets its contract; the digits left fall. Assumes nothing.
use Prim.Native.Nat.{◌-◌, ◌/◌}
use native.Mathlib.Omega.{arith}
use Rattle.text.specs.Text.{base}
use Rattle.text.specs.Laws.Appending.{puts_as, puts_then, digits_last, digits_few, digits_more, digits_long}
use Rattle.text.proofs.Text.+put_digits.Goals as goal

pub returns-then-more-eq0 : goal.returns-then-more-eq0
returns-then-more-eq0 t c = puts_as (digits_last _ _ _ c.if-more-eq0.true c.digit.ensures) c.put_byte.ensures

pub returns-then-number-lt-BASE : goal.returns-then-number-lt-BASE
returns-then-number-lt-BASE t c = puts_as (digits_few _ _ _ c.if-number-lt-BASE.true c.digit-then-number-lt-BASE.ensures) c.put_byte-then-number-lt-BASE.ensures

pub put_byte-requires-2 : goal.put_byte-requires-2
put_byte-requires-2 t c = omega (arith, digits_long (c.args.more - 1) (c.args.number / base))

pub returns : goal.returns
returns t c = puts_as (digits_more _ _ _ c.if-more-eq0.false (omega arith) c.digit-2.ensures) (puts_then c.put_digits.ensures c.put_byte-2.ensures)
