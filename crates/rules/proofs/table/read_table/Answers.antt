-- `read_table` meets its contract. The loop's invariant: the rules so far stand there. Assumes nothing.
use native.Mathlib.Omega.{arith}
use mathlib.Core.Path.{◌∙◌}
use lib.ListN.{length-set}
use Rattle.rules.specs.Laws.Tables.{table_begins, table_full, table_malformed, table_further, table_again, table_ends}
use Rattle.rules.proofs.table.read_table.Goals as goal

pub loop-at-init : goal.loop-at-init
loop-at-init c = table_begins _ c.args.starts.now c.requires

pub shape_of-starts-then-count-eq-MOST_RULES : goal.shape_of-starts-then-count-eq-MOST_RULES
shape_of-starts-then-count-eq-MOST_RULES c = c.loop-at.invariant.kept ∙ length-set c.args.starts.now 0 0

pub returns-then-count-eq-MOST_RULES : goal.returns-then-count-eq-MOST_RULES
returns-then-count-eq-MOST_RULES c = record { told = table_full _ c.loop-at.invariant (omega arith) c.if-count-eq-MOST_RULES.true }

pub shape_of-starts-in_default : goal.shape_of-starts-in_default
shape_of-starts-in_default c = c.loop-at.invariant.kept ∙ length-set c.args.starts.now 0 0

pub returns-in_default : goal.returns-in_default
returns-in_default c = record { told = table_malformed _ c.loop-at.invariant (omega arith) c.if-count-eq-MOST_RULES.false c.rule_at-rule.ensures c.in_default.is }

pub loop-at-smaller : goal.loop-at-smaller
loop-at-smaller c = let f = table_further _ c.loop-at.invariant (omega arith) c.if-count-eq-MOST_RULES.false c.rule_at-rule.ensures c.in-Some.is in omega (arith, f.0, f.1)

pub loop-at-preserved : goal.loop-at-preserved
loop-at-preserved c = table_again _ c.loop-at.invariant (omega arith) c.if-count-eq-MOST_RULES.false c.rule_at-rule.ensures c.in-Some.is

pub shape_of-starts : goal.shape_of-starts
shape_of-starts c = c.loop-at.invariant.kept ∙ length-set c.args.starts.now 0 0

pub returns : goal.returns
returns c = record { told = table_ends _ c.loop-at.invariant (omega arith) }
