-- What a check comes to: it holds or fails, after so many steps. Document 01, "Steps": they are counted "in the Rust's order with its early exits".
-- No allowance is known here: refusal 25 is a comparison of the step count.
-- Assumes nothing.
use Rattle.std.specs.Prelude.{ℕ, ◌+◌, Bool, true, false, List, [], ◌∷◌}
use Rattle.reader.specs.Nodes.{Nodes}

-- The `bool` of the `validate_*` functions, and the "Steps" up to it.
pub data Said : Type 0 where
  holds fails : (steps : ℕ) → Said

-- The counted checks that call one another: `validate_c_family_type`, `validate_expression`, `validate_abstract_declarator`.
pub data Job : Type 0 where
  a_type an_expression a_declarator : Job

-- So many "Steps" more.
unfoldable pub after : (steps : ℕ) → Said → Said
after m (holds n) = holds (m + n)
after m (fails n) = fails (m + n)

-- `&&`: the second check is given as a function, since it is made, and its steps are taken, only if the first holds.
unfoldable pub both : Said → (Bool → Said) → Said
unfolding after
both (holds m) f = after m (f true)
both (fails m) f = fails m

-- `||`: the second check is made, and its steps are taken, only if the first fails.
unfoldable pub either : Said → (Bool → Said) → Said
unfolding after
either (holds m) f = holds m
either (fails m) f = after m (f false)

-- A condition of a `validate_*` function, tested without a step.
unfoldable pub plain : Bool → Said
plain true = holds 0
plain false = fails 0

-- `all`: each in turn, until one fails.
unfoldable pub every : (Nodes → Said) → List Nodes → Said
unfolding both
every f [] = holds 0
every f (x ∷ xs) = both (f x) (λ _. every f xs)
