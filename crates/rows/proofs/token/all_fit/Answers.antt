-- `all_fit` meets its contract. The loop's invariant: what is passed fits, and what is left decides. Assumes nothing.
use mathlib.Core.Path.{refl}
use native.Mathlib.Omega.{arith}
use Rattle.rows.specs.Laws.Tokens.{one_more, no_more}
use Rattle.rows.proofs.token.all_fit.Goals as goal

pub loop-byte-init : goal.loop-byte-init
loop-byte-init c = (omega arith, refl)

pub loop-byte-preserved : goal.loop-byte-preserved
loop-byte-preserved c = (omega arith, one_more c.args.word.now c.loop-byte.byte-index c.loop-byte.fits c.loop-byte.invariant.1 (omega arith))

pub returns : goal.returns
returns c = no_more c.args.word.now c.loop-byte.byte-index c.loop-byte.fits c.loop-byte.invariant.1 (omega arith)
