-- `validate_fortran_selector_value` meets its contract. Assumes nothing.
use mathlib.Core.Path.{refl}
use Rattle.structure.specs.Selectors.{validate_fortran_selector_value}
use Rattle.structure.specs.Laws.Inside.{value_of, either_held, either_else}
use Rattle.structure.proofs.level.Level.validate_fortran_selector_value.Goals as goal

pub returns-then-star-is_single_token : goal.returns-then-star-is_single_token
unfolding validate_fortran_selector_value
returns-then-star-is_single_token c = either_held _ _ (λ x. refl) (value_of c.is_single_token-star.ensures c.is_single_token.ensures c.if-star-is_single_token.true)

pub returns : goal.returns
unfolding validate_fortran_selector_value
returns c = either_else _ _ (λ x. refl) (value_of c.is_single_token-star.ensures c.is_single_token.ensures c.if-star-is_single_token.false) c.validate_expression.ensures
