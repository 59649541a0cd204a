-- `too_often` meets its contract. Assumes nothing.
use mathlib.Core.Path.{◌≡◌}
use lib.ListN.{drop}
use Rattle.type_nodes.specs.Combination.{too_often}
use Rattle.type_nodes.proofs.combination.too_often.Given as goal

abbrev pub invariant-loop-word : goal.invariant-loop-word
invariant-loop-word l = too_often (drop l.word-index l.words) l.seen ≡ too_often l.words l.seen
