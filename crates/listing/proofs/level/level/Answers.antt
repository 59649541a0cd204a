-- `level` meets its contract. Assumes nothing.
use mathlib.Core.Path.{◌∙◌, sym}
use native.Mathlib.Omega.{arith}
use Rattle.listing.specs.Laws.Lines.{counting_start, counting_below, counting_not_below, counting_end}
use Rattle.listing.proofs.level.level.Goals.{then-stands_below, else-stands_below}
use Rattle.listing.proofs.level.level.Goals as goal

pub loop-above-init : goal.loop-above-init
loop-above-init c = counting_start _ _

pub loop-above-preserved : goal.loop-above-preserved
loop-above-preserved c =
    let inv = c.loop-above.invariant in
    let told = sym c.stands_below.ensures in
    elim c.if-stands_below.branch [
      | then-stands_below w ↦ counting_below _ _ inv (omega arith) (told ∙ w.if-stands_below.true) w.count-is
      | else-stands_below w ↦ counting_not_below _ _ inv (omega arith) (told ∙ w.if-stands_below.false) w.count-is
    ]

pub returns : goal.returns
returns c = counting_end _ _ c.loop-above.invariant (omega arith)
