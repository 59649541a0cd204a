-- `match_type_name` meets its contract: the promises. Assumes nothing.
use native.Mathlib.Omega.{arith}
use mathlib.Core.Path.{refl, sym, ◌∙◌}
use Rattle.type_name.specs.Laws.Promised.{promised}
use Rattle.rule_answers.specs.Laws.Matching.{early_told, answer_left, match_told, accepted_late, refused_late}
use Rattle.rule_answers.proofs.matching.match_type_name.Goals as goal

pub match_late-requires : goal.match_late-requires
match_late-requires c = answer_left c.args.file.now c.args.rules.now c.args.tree.now (promised _ _ _ _ c.parse_type_name-answer.ensures.answered c.parse_type_name-answer.ensures.buffered) (omega arith) (accepted_late c.in-Ok.is)

pub returns-then-leaves_buffer : goal.returns-then-leaves_buffer
returns-then-leaves_buffer c = early_told c.args.file.now c.args.rules.now c.args.tree.now (promised _ _ _ _ c.parse_type_name-answer.ensures.answered c.parse_type_name-answer.ensures.buffered) (omega arith) c.in-Err.is (sym c.leaves_buffer.ensures ∙ c.if-leaves_buffer.true)

pub match_late-requires-in-Err : goal.match_late-requires-in-Err
match_late-requires-in-Err c = answer_left c.args.file.now c.args.rules.now c.args.tree.now (promised _ _ _ _ (sym c.in-Err.is ∙ c.parse_type_name-answer.ensures.answered) c.parse_type_name-answer.ensures.buffered) (omega arith) (refused_late refl (sym c.leaves_buffer.ensures ∙ c.if-leaves_buffer.false))

pub returns-in-Ok : goal.returns-in-Ok
returns-in-Ok c = match_told c.args.file.now c.args.rules.now c.args.tree.now (promised _ _ _ _ c.parse_type_name-answer.ensures.answered c.parse_type_name-answer.ensures.buffered) (omega arith) (accepted_late c.in-Ok.is) c.match_late.ensures.answered c.match_late.ensures.buffered

pub returns-else-leaves_buffer : goal.returns-else-leaves_buffer
returns-else-leaves_buffer c = match_told c.args.file.now c.args.rules.now c.args.tree.now (promised _ _ _ _ (sym c.in-Err.is ∙ c.parse_type_name-answer.ensures.answered) c.parse_type_name-answer.ensures.buffered) (omega arith) (refused_late refl (sym c.leaves_buffer.ensures ∙ c.if-leaves_buffer.false)) c.match_late-in-Err.ensures.answered c.match_late-in-Err.ensures.buffered
