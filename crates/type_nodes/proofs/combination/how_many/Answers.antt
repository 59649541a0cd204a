-- `how_many` meets its contract. Assumes nothing.
use mathlib.Core.Path.{sym, ◌∙◌}
use native.Mathlib.Omega.{arith}
use Rattle.type_nodes.specs.Laws.Counts.{one_met, one_not_met, none_left}
use Rattle.type_nodes.proofs.combination.how_many.Goals.{then-has, else-has}
use Rattle.type_nodes.proofs.combination.how_many.Goals as goal

pub loop-word-preserved : goal.loop-word-preserved
loop-word-preserved c = elim c.if-has.branch [
  | then-has w ↦ (omega (arith, w.met-is), rw w.met-is (one_met c.args.words.now c.args.seen.now c.loop-word.word-index (omega arith) _ _ (sym c.has.ensures ∙ w.if-has.true) c.loop-word.invariant.1))
  | else-has w ↦ (omega (arith, w.met-is), rw w.met-is (one_not_met c.args.words.now c.args.seen.now c.loop-word.word-index (omega arith) _ _ (sym c.has.ensures ∙ w.if-has.false) c.loop-word.invariant.1))
]

pub returns : goal.returns
returns c = none_left c.args.words.now c.args.seen.now c.loop-word.word-index _ _ (omega arith) c.loop-word.invariant.1
