-- What the loop of a check does at a node. Document 01, "Node record".
-- Assumes nothing.
use Rattle.std.specs.Prelude.{Bool, true, false}

-- What is asked of the nodes below a node. The three that ask for an expression differ where there is no node: `expression` enters
-- `validate_expression`, which fails after its one step; `some_expression` fails and `optional_expression` passes, both without a step.
pub data Test : Type 0 where
  type_name expression some_expression optional_expression type_or_expression array_bound declarator arguments selectors : Test
  declarator_or_parameters : (saw_type_word : Bool) → Test

-- What a loop of a `validate_*` function does at a node, S the type of the loop's variables: return this answer; go on with these values; or, if
-- the nodes below the node pass a test, go on with these values, and else return false.
pub data Move (S : Type 0) : Type 0 where
  stop : Bool → Move S
  on : S → Move S
  inside : Test → S → Move S

-- `if !.. { return false; }`: go on if a condition holds.
unfoldable pub on_if : {S : Type 0} → Bool → S → Move S
on_if true st = on st
on_if false st = stop false

-- `if !.. { return false; }` before a test of the nodes below.
unfoldable pub inside_if : {S : Type 0} → Bool → Test → S → Move S
inside_if true t st = inside t st
inside_if false t st = stop false
