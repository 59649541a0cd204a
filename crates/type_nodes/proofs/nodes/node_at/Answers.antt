-- `node_at` meets its contract. Assumes nothing.
use mathlib.Core.Path.{◌∙◌}
use native.Mathlib.Omega.{arith}
use Rattle.type_nodes.specs.Laws.Siblings.{nothing_left, first}
use Rattle.type_nodes.proofs.nodes.node_at.Goals as goal

pub returns-then-at-to : goal.returns-then-at-to
returns-then-at-to c = λ x s. nothing_left s (omega arith)

pub returns : goal.returns
returns c = λ x s. ((first s (omega arith)).full, c.shape_at-shape.ensures x s, c.node_token-token.ensures.value ∙ (first s (omega arith)).token, c.node_end-next.ensures x s)
