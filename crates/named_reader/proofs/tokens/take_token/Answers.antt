-- `take_token` meets its contract. Assumes nothing.
use Rattle.named_reader.specs.Laws.AtToken.{due_same}
use Rattle.named_reader.specs.Laws.Tables.{is_left_paren, is_left_bracket, is_right_paren, is_right_bracket, is_no_bracket}
use Rattle.named_reader.proofs.tokens.take_token.Goals as goal

pub returns-then-kind-eq-LEFT_PAREN : goal.returns-then-kind-eq-LEFT_PAREN
returns-then-kind-eq-LEFT_PAREN c = due_same c.begin_group.ensures (λ s st. is_left_paren _ _ _ s c.if-kind-eq-LEFT_PAREN.true)

pub returns-then-kind-eq-LEFT_BRACKET : goal.returns-then-kind-eq-LEFT_BRACKET
returns-then-kind-eq-LEFT_BRACKET c = due_same c.begin_group-then-kind-eq-LEFT_BRACKET.ensures (λ s st. is_left_bracket _ _ _ s c.if-kind-eq-LEFT_BRACKET.true)

pub returns-then-kind-eq-RIGHT_PAREN : goal.returns-then-kind-eq-RIGHT_PAREN
returns-then-kind-eq-RIGHT_PAREN c = due_same c.at_closer.ensures (λ s st. is_right_paren _ _ _ s c.if-kind-eq-RIGHT_PAREN.true)

pub returns-then-kind-eq-RIGHT_BRACKET : goal.returns-then-kind-eq-RIGHT_BRACKET
returns-then-kind-eq-RIGHT_BRACKET c = due_same c.at_closer-then-kind-eq-RIGHT_BRACKET.ensures (λ s st. is_right_bracket _ _ _ s c.if-kind-eq-RIGHT_BRACKET.true)

pub returns : goal.returns
returns c = due_same c.no_bracket.ensures (λ s st. is_no_bracket _ _ _ s c.if-kind-eq-LEFT_PAREN.false c.if-kind-eq-LEFT_BRACKET.false c.if-kind-eq-RIGHT_PAREN.false c.if-kind-eq-RIGHT_BRACKET.false)
