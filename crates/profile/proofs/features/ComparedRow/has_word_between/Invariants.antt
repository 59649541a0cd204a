-- `has_word_between` meets its contract. The loop's invariant: what is found before this place. Assumes nothing.
use Prim.Native.Nat.{◌≤◌}
use mathlib.Core.Path.{◌≡◌}
use lib.ListN.{length}
use Rattle.profile.specs.Profile.{some_below}
use Rattle.profile.specs.Laws.Between.{between}
use Rattle.profile.proofs.features.ComparedRow.has_word_between.Given as goal

abbrev pub invariant-loop-number : goal.invariant-loop-number
invariant-loop-number l = (l.number-index ≤ length l.words) × (l.found ≡ some_below l.number-index (between l.ignoring l.words l.least l.most))
