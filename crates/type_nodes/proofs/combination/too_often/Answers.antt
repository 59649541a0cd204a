-- `too_often` meets its contract. Assumes nothing.
use native.Mathlib.Omega.{arith}
use Rattle.type_nodes.specs.Laws.Counts.{one_often, one_seldom, none_often}
use Rattle.type_nodes.proofs.combination.too_often.Goals as goal

pub returns-then-most-times : goal.returns-then-most-times
returns-then-most-times c = one_often c.args.words.now c.args.seen.now c.loop-word.word-index (omega arith) c.most.ensures c.times.ensures c.loop-word.invariant c.if-most-times.true

pub loop-word-preserved : goal.loop-word-preserved
loop-word-preserved c = one_seldom c.args.words.now c.args.seen.now c.loop-word.word-index (omega arith) c.most.ensures c.times.ensures c.loop-word.invariant c.if-most-times.false

pub returns : goal.returns
returns c = none_often c.args.words.now c.args.seen.now c.loop-word.word-index (omega arith) c.loop-word.invariant
