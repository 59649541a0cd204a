-- `no_bracket` meets its contract. Assumes nothing.
use mathlib.Core.Path.{sym, ◌∙◌}
use Rattle.named_reader.specs.Laws.AtToken.{due_same}
use Rattle.named_reader.specs.Laws.Tables.{at_name, at_less, is_greater, is_shift, is_comma, is_other}
use Rattle.named_reader.proofs.tokens.no_bracket.Goals as goal

pub returns-then-after_name : goal.returns-then-after_name
returns-then-after_name c = due_same c.begin_list.ensures (λ s st. at_name _ _ _ s c.if-kind-eq-LESS.true (sym c.if-after_name.true ∙ c.after_name.ensures))

pub returns-then-kind-eq-LESS : goal.returns-then-kind-eq-LESS
returns-then-kind-eq-LESS c = due_same c.take_plain.ensures (λ s st. at_less _ _ _ s c.if-kind-eq-LESS.true (sym c.if-after_name.false ∙ c.after_name.ensures))

pub returns-then-kind-eq-GREATER : goal.returns-then-kind-eq-GREATER
returns-then-kind-eq-GREATER c = due_same c.at_greater.ensures (λ s st. is_greater _ _ _ s c.if-kind-eq-GREATER.true)

pub returns-then-kind-eq-SHIFT_RIGHT : goal.returns-then-kind-eq-SHIFT_RIGHT
returns-then-kind-eq-SHIFT_RIGHT c = due_same c.at_shift.ensures (λ s st. is_shift _ _ _ s c.if-kind-eq-SHIFT_RIGHT.true)

pub returns-then-kind-eq-COMMA : goal.returns-then-kind-eq-COMMA
returns-then-kind-eq-COMMA c = due_same c.at_comma.ensures (λ s st. is_comma _ _ _ s c.if-kind-eq-COMMA.true)

pub returns : goal.returns
returns c = due_same c.take_plain-2.ensures (λ s st. is_other _ _ _ s c.if-kind-eq-LESS.false c.if-kind-eq-GREATER.false c.if-kind-eq-SHIFT_RIGHT.false c.if-kind-eq-COMMA.false)
