-- `looks_like_abstract_declarator` meets its contract. Assumes nothing.
use Rattle.type_nodes.specs.AbstractDeclarators.{looks_like_abstract_declarator}
use Rattle.type_nodes.proofs.abstract_declarators.looks_like_abstract_declarator.Goals as goal

pub returns-then-is_declarator_start : goal.returns-then-is_declarator_start
unfolding looks_like_abstract_declarator
returns-then-is_declarator_start c = λ x s. rw (← c.shape_at.ensures x s, ← c.is_declarator_start.ensures, c.if-is_declarator_start.true)

pub returns-then-any : goal.returns-then-any
unfolding looks_like_abstract_declarator
returns-then-any c = λ x s. rw (← c.shape_at.ensures x s, ← c.is_declarator_start.ensures, c.if-is_declarator_start.false, ← c.any.ensures x s, c.if-any.true) (c.any-then-any.ensures x s)

pub returns : goal.returns
unfolding looks_like_abstract_declarator
returns c = λ x s. rw (← c.shape_at.ensures x s, ← c.is_declarator_start.ensures, c.if-is_declarator_start.false, ← c.any.ensures x s, c.if-any.false)
