-- `validate_fortran_type` meets its contract. Assumes nothing.
use Prim.Native.Nat.{◌-◌}
use Rattle.structure.specs.Laws.Checks.{InFortran}
use Rattle.structure.proofs.level.Level.validate_fortran_type.Given as goal

abbrev pub invariant-loop-at : goal.invariant-loop-at
invariant-loop-at l = InFortran l.self.row.now.language l.self.row.now.tree.now l.self.row.now.kinds.now l.self.row.now.words.now l.self.from l.self.to l.allowed l.left l.st l.at

abbrev pub decreases-loop-at : goal.decreases-loop-at
decreases-loop-at l = l.self.to - l.at
