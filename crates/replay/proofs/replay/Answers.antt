-- `replay` meets its contract. Assumes nothing.
use native.Mathlib.Omega.{arith}
use mathlib.Core.Path.{sym, ap, ◌∙◌}
use Rattle.replay.specs.Replay.{numbers}
use Rattle.replay.specs.Laws.Replaying.{returned_differs, answer_differs, buffer_compared}
use Rattle.replay.proofs.replay.Goals as goal

pub returns-then-not-agree : goal.returns-then-not-agree
returns-then-not-agree c = returned_differs (record { filled_is = c.put_numbers-2.ensures; expected_is = c.put_numbers.ensures ∙ ap (numbers _ _ _) (sym c.requires.2); code_is = c.type_name_read.ensures.returned; given_is = c.type_name_read.ensures.written; after_is = c.type_name_read.ensures.promised.buffered }) c.agree.ensures c.if-not-agree.true

pub returns-then-not-agree-2 : goal.returns-then-not-agree-2
returns-then-not-agree-2 c = answer_differs (record { filled_is = c.put_numbers-2.ensures; expected_is = c.put_numbers.ensures ∙ ap (numbers _ _ _) (sym c.requires.2); code_is = c.type_name_read.ensures.returned; given_is = c.type_name_read.ensures.written; after_is = c.type_name_read.ensures.promised.buffered }) c.agree.ensures c.if-not-agree.false c.agree-2.ensures c.if-not-agree-2.true

pub agree-requires-3 : goal.agree-requires-3
agree-requires-3 c = (c.put_numbers.auto.list ∙ sym c.requires.2 ∙ sym c.put_numbers-2.auto.list ∙ sym c.type_name_read.auto.tree, omega arith)

pub returns : goal.returns
returns c = buffer_compared (record { filled_is = c.put_numbers-2.ensures; expected_is = c.put_numbers.ensures ∙ ap (numbers _ _ _) (sym c.requires.2); code_is = c.type_name_read.ensures.returned; given_is = c.type_name_read.ensures.written; after_is = c.type_name_read.ensures.promised.buffered }) c.agree.ensures c.if-not-agree.false c.agree-2.ensures c.if-not-agree-2.false c.agree-3.ensures
