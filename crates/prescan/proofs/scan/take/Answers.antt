-- `take` meets its contract: a way of the definition at each way out. Assumes nothing.
use mathlib.Core.Path.{refl}
use native.Mathlib.Omega.{arith}
use Rattle.prescan.specs.Laws.Taking.{on_past, refuses, round_opener, square_opener, round_closer, square_closer, end_token, inside_brackets, outside_taken, outside_takes}
use Rattle.prescan.proofs.scan.take.Goals as goal

pub returns-then-kind-eq-LEFT_PAREN : goal.returns-then-kind-eq-LEFT_PAREN
returns-then-kind-eq-LEFT_PAREN c = rw c.push.ensures.0 (round_opener _ _ _ _ _ _ c.requires.0 c.requires.1 refl c.if-kind-eq-LEFT_PAREN.true c.push.ensures.1)

pub returns-then-kind-eq-LEFT_BRACKET : goal.returns-then-kind-eq-LEFT_BRACKET
returns-then-kind-eq-LEFT_BRACKET c = rw c.push-then-kind-eq-LEFT_BRACKET.ensures.0 (square_opener _ _ _ _ _ _ c.requires.0 c.requires.1 refl c.if-kind-eq-LEFT_BRACKET.true c.push-then-kind-eq-LEFT_BRACKET.ensures.1)

pub returns-then-kind-eq-RIGHT_PAREN : goal.returns-then-kind-eq-RIGHT_PAREN
returns-then-kind-eq-RIGHT_PAREN c = rw (round_closer _ _ _ _ _ _ c.if-kind-eq-RIGHT_PAREN.true) c.close_delimiter.ensures

pub returns-then-kind-eq-RIGHT_BRACKET : goal.returns-then-kind-eq-RIGHT_BRACKET
returns-then-kind-eq-RIGHT_BRACKET c = rw (square_closer _ _ _ _ _ _ c.if-kind-eq-RIGHT_BRACKET.true) c.close_delimiter-then-kind-eq-RIGHT_BRACKET.ensures

pub returns-then-kind-eq-END : goal.returns-then-kind-eq-END
returns-then-kind-eq-END c = refuses (end_token _ _ _ _ _ _ c.if-kind-eq-END.true)

pub returns-then-s-gt0 : goal.returns-then-s-gt0
returns-then-s-gt0 c = on_past c.requires.0 c.requires.1 c.past.ensures (omega arith) (omega (arith, c.requires.0.angles)) (inside_brackets _ _ _ _ _ _ c.if-kind-eq-LEFT_PAREN.false c.if-kind-eq-LEFT_BRACKET.false c.if-kind-eq-RIGHT_PAREN.false c.if-kind-eq-RIGHT_BRACKET.false c.if-kind-eq-END.false c.if-s-gt0.true)

pub returns : goal.returns
returns c = outside_takes c.requires.0 c.requires.1 (omega arith) _ _ _ (outside_taken _ _ _ _ _ _ c.if-kind-eq-LEFT_PAREN.false c.if-kind-eq-LEFT_BRACKET.false c.if-kind-eq-RIGHT_PAREN.false c.if-kind-eq-RIGHT_BRACKET.false c.if-kind-eq-END.false (omega arith)) c.outside.ensures
