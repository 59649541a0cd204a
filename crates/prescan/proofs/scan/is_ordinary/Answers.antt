-- `is_ordinary` meets its contract: each way out ends the chain of tests. Assumes nothing.
use Rattle.prescan.specs.Laws.Ordinary.{met, not_met, last_test}
use Rattle.prescan.proofs.scan.is_ordinary.Goals as goal

pub returns-then-kind-eq-LEFT_PAREN : goal.returns-then-kind-eq-LEFT_PAREN
returns-then-kind-eq-LEFT_PAREN c = met _ _ _ c.if-kind-eq-LEFT_PAREN.true

pub returns-then-kind-eq-LEFT_BRACKET : goal.returns-then-kind-eq-LEFT_BRACKET
returns-then-kind-eq-LEFT_BRACKET c = not_met _ _ _ c.if-kind-eq-LEFT_PAREN.false (met _ _ _ c.if-kind-eq-LEFT_BRACKET.true)

pub returns-then-kind-eq-RIGHT_PAREN : goal.returns-then-kind-eq-RIGHT_PAREN
returns-then-kind-eq-RIGHT_PAREN c = not_met _ _ _ c.if-kind-eq-LEFT_PAREN.false (not_met _ _ _ c.if-kind-eq-LEFT_BRACKET.false (met _ _ _ c.if-kind-eq-RIGHT_PAREN.true))

pub returns-then-kind-eq-RIGHT_BRACKET : goal.returns-then-kind-eq-RIGHT_BRACKET
returns-then-kind-eq-RIGHT_BRACKET c = not_met _ _ _ c.if-kind-eq-LEFT_PAREN.false (not_met _ _ _ c.if-kind-eq-LEFT_BRACKET.false (not_met _ _ _ c.if-kind-eq-RIGHT_PAREN.false (met _ _ _ c.if-kind-eq-RIGHT_BRACKET.true)))

pub returns-then-kind-eq-LESS : goal.returns-then-kind-eq-LESS
returns-then-kind-eq-LESS c = not_met _ _ _ c.if-kind-eq-LEFT_PAREN.false (not_met _ _ _ c.if-kind-eq-LEFT_BRACKET.false (not_met _ _ _ c.if-kind-eq-RIGHT_PAREN.false (not_met _ _ _ c.if-kind-eq-RIGHT_BRACKET.false (met _ _ _ c.if-kind-eq-LESS.true))))

pub returns-then-kind-eq-GREATER : goal.returns-then-kind-eq-GREATER
returns-then-kind-eq-GREATER c = not_met _ _ _ c.if-kind-eq-LEFT_PAREN.false (not_met _ _ _ c.if-kind-eq-LEFT_BRACKET.false (not_met _ _ _ c.if-kind-eq-RIGHT_PAREN.false (not_met _ _ _ c.if-kind-eq-RIGHT_BRACKET.false (not_met _ _ _ c.if-kind-eq-LESS.false (met _ _ _ c.if-kind-eq-GREATER.true)))))

pub returns-then-kind-eq-SHIFT_RIGHT : goal.returns-then-kind-eq-SHIFT_RIGHT
returns-then-kind-eq-SHIFT_RIGHT c = not_met _ _ _ c.if-kind-eq-LEFT_PAREN.false (not_met _ _ _ c.if-kind-eq-LEFT_BRACKET.false (not_met _ _ _ c.if-kind-eq-RIGHT_PAREN.false (not_met _ _ _ c.if-kind-eq-RIGHT_BRACKET.false (not_met _ _ _ c.if-kind-eq-LESS.false (not_met _ _ _ c.if-kind-eq-GREATER.false (met _ _ _ c.if-kind-eq-SHIFT_RIGHT.true))))))

pub returns-then-kind-eq-COMMA : goal.returns-then-kind-eq-COMMA
returns-then-kind-eq-COMMA c = not_met _ _ _ c.if-kind-eq-LEFT_PAREN.false (not_met _ _ _ c.if-kind-eq-LEFT_BRACKET.false (not_met _ _ _ c.if-kind-eq-RIGHT_PAREN.false (not_met _ _ _ c.if-kind-eq-RIGHT_BRACKET.false (not_met _ _ _ c.if-kind-eq-LESS.false (not_met _ _ _ c.if-kind-eq-GREATER.false (not_met _ _ _ c.if-kind-eq-SHIFT_RIGHT.false (met _ _ _ c.if-kind-eq-COMMA.true)))))))

pub returns-then-kind-eq-END : goal.returns-then-kind-eq-END
returns-then-kind-eq-END c = not_met _ _ _ c.if-kind-eq-LEFT_PAREN.false (not_met _ _ _ c.if-kind-eq-LEFT_BRACKET.false (not_met _ _ _ c.if-kind-eq-RIGHT_PAREN.false (not_met _ _ _ c.if-kind-eq-RIGHT_BRACKET.false (not_met _ _ _ c.if-kind-eq-LESS.false (not_met _ _ _ c.if-kind-eq-GREATER.false (not_met _ _ _ c.if-kind-eq-SHIFT_RIGHT.false (not_met _ _ _ c.if-kind-eq-COMMA.false (met _ _ _ c.if-kind-eq-END.true))))))))

pub returns : goal.returns
returns c = not_met _ _ _ c.if-kind-eq-LEFT_PAREN.false (not_met _ _ _ c.if-kind-eq-LEFT_BRACKET.false (not_met _ _ _ c.if-kind-eq-RIGHT_PAREN.false (not_met _ _ _ c.if-kind-eq-RIGHT_BRACKET.false (not_met _ _ _ c.if-kind-eq-LESS.false (not_met _ _ _ c.if-kind-eq-GREATER.false (not_met _ _ _ c.if-kind-eq-SHIFT_RIGHT.false (not_met _ _ _ c.if-kind-eq-COMMA.false (not_met _ _ _ c.if-kind-eq-END.false (last_test _ _)))))))))
