-- `put_difference` meets its contract. Assumes nothing.
use native.Mathlib.Omega.{arith}
use Rattle.text.specs.Laws.Appending.{puts_then}
use Rattle.replay.specs.Report.{difference}
use Rattle.replay.specs.Laws.Reporting.{place_long, values_long}
use Rattle.replay.proofs.report.put_difference.Goals as goal

pub put_values-requires : goal.put_values-requires
put_values-requires c = let before = place_long c.args.case c.args.part.now c.args.place (omega arith) in omega (arith, before)

pub returns-clause-put : goal.returns-clause-put
unfolding difference
returns-clause-put c = puts_then c.put_place.ensures c.put_values.ensures

pub returns-clause-within : goal.returns-clause-within
returns-clause-within c = omega (arith, place_long c.args.case c.args.part.now c.args.place (omega arith), values_long c.args.expected c.args.given)
