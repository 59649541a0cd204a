-- What looks like an abstract declarator, before it is checked. Document 01, "Node record".
-- Assumes nothing.
use Rattle.std.specs.Prelude.{ℕ, Bool, ◌&&◌, ◌||◌, List}
use Rattle.std.proofs.Math.Bool.{false}
use Rattle.std.proofs.Math.Dec.{eqb}
use Rattle.rows.specs.Notation.{◌is_one_of◌}
use Rattle.rows.specs.Kinds.{Scope, Star}
use Rattle.reader.specs.Nodes.{Nodes, none, node}
use Rattle.type_nodes.specs.Nodes.{shape}
use Rattle.type_nodes.specs.Sets.{declarator_starts}

module _ (kinds : List ℕ) where
  -- Some node of the level has shape s: `nodes.iter().any` of `looks_like_abstract_declarator`.
  unfoldable pub any : (s : ℕ) → Nodes → Bool
  unfolding shape
  any s none = false
  any s (node k i b x) = eqb (shape kinds (node k i b x)) s || any s x

  -- `looks_like_abstract_declarator`
  unfoldable pub looks_like_abstract_declarator : Nodes → Bool
  unfolding ◌is_one_of◌ shape declarator_starts any
  looks_like_abstract_declarator x = shape kinds x is_one_of declarator_starts || (any Scope x && any Star x)
