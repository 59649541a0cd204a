-- `put_decimal` meets its contract. Assumes nothing.
use Rattle.text.specs.Laws.Appending.{puts_as, decimal_is}
use Rattle.text.proofs.Text.put_decimal.Goals as goal

pub returns : goal.returns
returns c = puts_as (decimal_is _) c.put_digits.ensures
