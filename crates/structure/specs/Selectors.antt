-- The selectors in the parentheses of a Fortran type. Document 01, "Node record" and "Steps". `check`: the counted checks, as specs/Checks.antt makes
-- them.
-- Assumes nothing.
use Rattle.std.specs.Prelude.{ℕ, ◌&&◌, ◌||◌, not, List, if◌then◌else◌}
use Rattle.std.proofs.Math.Dec.{eqb}
use Rattle.rows.specs.Kinds.{Identifier, Colon, Star, Equal}
use Rattle.reader.specs.Nodes.{Nodes}
use Rattle.type_nodes.specs.Nodes.{empty, next, shape, is_single_token}
use Rattle.type_nodes.specs.SplitOnCommas.{elements_are_full, split_on_commas}
use Rattle.structure.specs.Said.{Said, Job, an_expression, both, either, plain, every}

module _ (lang : ℕ) (kinds words : List ℕ) (check : Job → Nodes → Said) where
  -- `validate_fortran_selector_value`
  unfoldable pub validate_fortran_selector_value : Nodes → Said
  unfolding is_single_token
  validate_fortran_selector_value x =
      either (plain (is_single_token kinds Star x || is_single_token kinds Colon x)) (λ _. check an_expression x)

  -- One selector of `validate_fortran_selector_list`, with or without a keyword and `=`.
  unfoldable pub validate_fortran_selector : Nodes → Said
  unfolding shape next empty validate_fortran_selector_value
  validate_fortran_selector x =
      if eqb (shape kinds x) Identifier && eqb (shape kinds (next x)) Equal
      then both (plain (not (empty (next (next x))))) (λ _. validate_fortran_selector_value (next (next x)))
      else validate_fortran_selector_value x

  -- `validate_fortran_selector_list`
  unfoldable pub validate_fortran_selector_list : Nodes → Said
  unfolding empty elements_are_full split_on_commas validate_fortran_selector
  validate_fortran_selector_list x =
      both (plain (not (empty x) && elements_are_full (split_on_commas kinds x))) (λ _. every validate_fortran_selector (split_on_commas kinds x))
