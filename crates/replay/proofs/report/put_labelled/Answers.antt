-- `put_labelled` meets its contract. Assumes nothing.
use Rattle.text.specs.Laws.Appending.{puts_then}
use Rattle.replay.specs.Report.{labelled}
use Rattle.replay.proofs.report.put_labelled.Goals as goal

pub returns : goal.returns
unfolding labelled
returns c = puts_then c.put_bytes.ensures c.put_decimal.ensures
