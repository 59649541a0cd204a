-- `check_records` meets its contract. The loop's invariant: the records that are left decide, with what was counted before. Assumes nothing.
use mathlib.Core.Path.{sym, ◌∙◌}
use native.Mathlib.Omega.{arith}
use Rattle.rows.specs.Records.{span_at}
use Rattle.rows.specs.Laws.Tokens.{formed_fits}
use Rattle.convert.specs.Laws.CheckLoop.{check_begins, check_full, check_malformed, check_token, check_ends}
use Rattle.convert.proofs.check.check_records.Goals as goal

pub loop-at-init : goal.loop-at-init
loop-at-init c = check_begins _ _

pub returns-then-count-eq-MOST_TOKENS : goal.returns-then-count-eq-MOST_TOKENS
returns-then-count-eq-MOST_TOKENS c = check_full c.args.format _ c.loop-at.invariant (omega arith) c.if-count-eq-MOST_TOKENS.true

pub overflow_cast-result : goal.overflow_cast-result
overflow_cast-result c = omega (arith, c.requires)

pub returns-in_default : goal.returns-in_default
returns-in_default c = check_malformed c.args.format _ c.loop-at.invariant (omega arith) c.if-count-eq-MOST_TOKENS.false (sym c.token_at-found.ensures ∙ c.in_default.is)

pub span-span-requires : goal.span-span-requires
span-span-requires c = let fit = formed_fits c.args.format _ _ _ _ (sym c.token_at-found.ensures ∙ c.in-Some.is) in omega arith

pub overflow_add-count : goal.overflow_add-count
overflow_add-count c = omega (arith, c.loop-at.invariant.few, c.if-count-eq-MOST_TOKENS.false)

pub overflow_add-at : goal.overflow_add-at
overflow_add-at c = let fit = formed_fits c.args.format _ _ _ _ (sym c.token_at-found.ensures ∙ c.in-Some.is) in omega arith

pub loop-at-smaller : goal.loop-at-smaller
loop-at-smaller c = let fit = formed_fits c.args.format _ _ _ _ (sym c.token_at-found.ensures ∙ c.in-Some.is) in omega arith

pub loop-at-preserved : goal.loop-at-preserved
unfolding span_at
loop-at-preserved c = rw c.span-span.ensures (check_token c.args.format _ c.loop-at.invariant (omega arith) c.if-count-eq-MOST_TOKENS.false _ _ (sym c.token_at-found.ensures ∙ c.in-Some.is))

pub returns : goal.returns
returns c = check_ends c.args.format _ c.loop-at.invariant (omega arith)
