-- `validate_fortran_selector_list` meets its contract. Assumes nothing.
use Prim.Native.Nat.{◌-◌}
use Rattle.structure.specs.Checks.{checked}
use Rattle.structure.specs.Selectors.{validate_fortran_selector, validate_fortran_selector_list}
use Rattle.structure.specs.Laws.Every.{InElements}
use Rattle.structure.proofs.level.Level.validate_fortran_selector_list.Given as goal

abbrev pub invariant-loop-left : goal.invariant-loop-left
invariant-loop-left l = InElements (validate_fortran_selector l.self.row.now.language l.self.row.now.kinds.now l.self.row.now.words.now (checked l.self.row.now.language l.self.row.now.kinds.now l.self.row.now.words.now)) (validate_fortran_selector_list l.self.row.now.language l.self.row.now.kinds.now l.self.row.now.words.now (checked l.self.row.now.language l.self.row.now.kinds.now l.self.row.now.words.now)) l.self.row.now.tree.now l.self.row.now.kinds.now l.self.from l.self.to l.allowed l.left l.at

abbrev pub decreases-loop-left : goal.decreases-loop-left
decreases-loop-left l = l.self.to - l.at
