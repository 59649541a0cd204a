-- `how_many` meets its contract. Assumes nothing.
use Prim.Native.Nat.{◌+◌, ◌≤◌}
use mathlib.Core.Path.{◌≡◌}
use lib.ListN.{drop}
use Rattle.type_nodes.specs.Combination.{how_many}
use Rattle.type_nodes.proofs.combination.how_many.Given as goal

abbrev pub invariant-loop-word : goal.invariant-loop-word
invariant-loop-word l = (l.met ≤ l.word-index) × (l.met + how_many (drop l.word-index l.words) l.seen ≡ how_many l.words l.seen)
