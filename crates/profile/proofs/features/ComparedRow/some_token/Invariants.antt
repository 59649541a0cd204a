-- `some_token` meets its contract. The loop's invariant: no place before this one passes. Assumes nothing.
use Rattle.std.specs.Prelude.{ℕ, Bool}
use Rattle.profile.specs.Tested.{Tells}
use Rattle.profile.specs.Laws.SomeToken.{Looking}
use Rattle.profile.proofs.features.ComparedRow.some_token.Given as goal

abbrev pub invariant-loop-at : goal.invariant-loop-at
invariant-loop-at g l = (p : ℕ → Bool) → Tells (goal.F-post g l.passes) l.self.kinds.now p → Looking l.self.kinds.now p l.at
