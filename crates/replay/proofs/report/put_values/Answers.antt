-- `put_values` meets its contract. Assumes nothing.
use native.Mathlib.Omega.{arith}
use Rattle.rows.specs.Words.{bytes}
use Rattle.text.specs.Laws.Appending.{puts_then}
use Rattle.replay.specs.Report.{values_text}
use Rattle.replay.specs.Laws.Reporting.{labelled_long}
use Rattle.replay.proofs.report.put_values.Goals as goal

pub put_labelled-requires-2 : goal.put_labelled-requires-2
unfolding bytes
put_labelled-requires-2 c = omega (arith, labelled_long (bytes ": expected ") c.args.expected)

pub put_bytes-requires : goal.put_bytes-requires
unfolding bytes
put_bytes-requires c = omega (arith, labelled_long (bytes ": expected ") c.args.expected, labelled_long (bytes ", got ") c.args.given)

pub returns : goal.returns
unfolding values_text
returns c = puts_then (puts_then c.put_labelled.ensures c.put_labelled-2.ensures) c.put_bytes.ensures
