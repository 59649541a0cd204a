-- `shape_at` meets its contract. Assumes nothing.
use mathlib.Core.Path.{sym, ◌∙◌}
use native.Mathlib.Omega.{arith}
use Rattle.type_nodes.specs.Laws.Siblings.{shape_none, read_token, read_group, read_small}
use Rattle.type_nodes.proofs.nodes.shape_at.Goals as goal

pub returns-then-at-to : goal.returns-then-at-to
returns-then-at-to c = λ x s. sym (shape_none s (omega arith))

pub returns-then-kind-eq-TOKEN_NODE : goal.returns-then-kind-eq-TOKEN_NODE
returns-then-kind-eq-TOKEN_NODE c = λ x s. read_token s (omega arith) (sym c.node_kind-kind.ensures ∙ c.if-kind-eq-TOKEN_NODE.true) c.node_token-token.ensures.value

pub overflow_cast-result : goal.overflow_cast-result
overflow_cast-result c = record { fits = let u = read_small c.requires.stands (omega arith) in omega (arith, c.node_kind-kind.ensures, u) }

pub overflow_add-result : goal.overflow_add-result
overflow_add-result c = record { fits = let u = read_small c.requires.stands (omega arith) in omega (arith, c.node_kind-kind.ensures, u) }

pub returns : goal.returns
returns c = λ x s. rw c.node_kind-kind.ensures (read_group s (omega arith) (λ z. c.if-kind-eq-TOKEN_NODE.false (c.node_kind-kind.ensures ∙ z)))
