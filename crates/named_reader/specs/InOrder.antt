-- A row as its tree writes it: document 02, C-17, "An accepted row here is written out in its own order, a `>>` that closes two lists standing for two `>`."
-- Assumes nothing.
use Rattle.std.specs.Prelude.{ℕ, suc, Bool, not, ◌&&◌, List, [], ◌∷◌, eqb, if◌then◌else◌}
use Rattle.rows.specs.Notation.{◌is_one_of◌}
use Rattle.rows.specs.Kinds.{Greater, ShiftRight}
use Rattle.reader.specs.Nodes.{t_node, Nodes}
use Rattle.reader.specs.Standing.{tokens_of}
use Rattle.reader.specs.Written.{Token, sign}

-- "A `>>` that closes two lists" of the tree: one that is no T of it.
unfoldable pub closes_two : Nodes → (token : ℕ) → Bool
unfolding tokens_of ◌is_one_of◌
closes_two x i = not (i is_one_of tokens_of t_node x)

-- The row from token `at` on, where each `>>` that closes two lists "stand[s] for two `>`".
unfoldable pub in_order : (closes : ℕ → Bool) (at : ℕ) → List Token → List Token
in_order closes at [] = []
in_order closes at (t ∷ ts) =
    let rest = in_order closes (suc at) ts in
    if eqb t.kind ShiftRight && closes at then sign Greater ∷ sign Greater ∷ rest else t ∷ rest
