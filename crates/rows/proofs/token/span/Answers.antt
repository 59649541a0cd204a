-- `span` meets its contract. Assumes nothing.
use mathlib.Core.Path.{refl}
use Rattle.rows.specs.Records.{span_at, span_start_at, span_end_at}
use Rattle.rows.proofs.token.span.Goals as goal

pub returns : goal.returns
unfolding span_at span_start_at span_end_at
returns c = rw (c.span_number-start.ensures, c.span_number-end.ensures, c.span_bytes.ensures.value) refl
