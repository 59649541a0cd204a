-- The elements between commas: `split_on_commas`. Document 01, "Node record".
-- Assumes nothing.
use Rattle.std.specs.Prelude.{ℕ, Bool, true, ◌&&◌, not, if◌then◌else◌}
use mathlib.Core.List.{List, [], ◌∷◌}
use Rattle.std.proofs.Math.Dec.{eqb}
use Rattle.rows.specs.Kinds.{Comma}
use Rattle.reader.specs.Nodes.{NodeKind, Nodes, none, node}
use Rattle.type_nodes.specs.Nodes.{empty, shape}

-- One node more at the beginning of the first element: for `split_on_commas`.
unfoldable pub prepend : NodeKind → (token : ℕ) → (below : Nodes) → List Nodes → List Nodes
prepend k i b [] = []
prepend k i b (x ∷ xs) = node k i b x ∷ xs

-- No element is empty: `split_on_commas` gives `Some`.
unfoldable pub elements_are_full : List Nodes → Bool
unfolding empty
elements_are_full [] = true
elements_are_full (x ∷ xs) = not (empty x) && elements_are_full xs

module _ (kinds : List ℕ) where
  -- `split_on_commas`: the elements between commas, at least one. Where the Rust gives `None`, one is empty: see `elements-are-full`.
  unfoldable pub split_on_commas : Nodes → List Nodes
  unfolding shape prepend
  split_on_commas none = none ∷ []
  split_on_commas (node k i b x) =
      let rest = split_on_commas x in
      if eqb (shape kinds (node k i b x)) Comma then none ∷ rest else prepend k i b rest
