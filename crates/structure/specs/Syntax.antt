-- The structure check: `validate_structured_syntax` of type_name.rs restated over trees: whether it holds (if not, refusal 30), and its steps.
-- Document 01, "Node record" and "Steps".
-- Assumes nothing.
use Rattle.std.specs.Prelude.{ℕ, List, eqb, if◌then◌else◌}
use Rattle.rows.specs.Languages.{Fortran}
use Rattle.reader.specs.Nodes.{Nodes}
use Rattle.structure.specs.Said.{Said, a_type, both, either, plain, every}
use Rattle.structure.specs.Checks.{checked}
use Rattle.structure.specs.FortranTypes.{validate_fortran_type}

-- `validate_structured_syntax`
unfoldable pub validate_structured_syntax : (lang : ℕ) (kinds words : List ℕ) → Nodes → Said
unfolding both either plain every validate_fortran_type checked
validate_structured_syntax lang kinds words x =
    if eqb lang Fortran then validate_fortran_type lang kinds words (checked lang kinds words) x else checked lang kinds words a_type x
