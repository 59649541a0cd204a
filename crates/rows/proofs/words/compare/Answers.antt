-- `compare` meets its contract. The loop's invariant: the same with case ignored so far. Assumes nothing.
use mathlib.Core.Bool.{true, false}
use native.Mathlib.Omega.{arith}
use Rattle.rows.specs.Laws.KnownWords.{nothing_yet, bytes_differ, bytes_equal, bytes_in_other_case, bytes_ended}
use Rattle.rows.proofs.words.compare.Goals as goal

pub loop-i-init : goal.loop-i-init
loop-i-init c = nothing_yet _ _

pub loop-i-preserved-then-byte-other : goal.loop-i-preserved-then-byte-other
loop-i-preserved-then-byte-other c = bytes_equal _ _ c.requires _ _ c.loop-i.invariant (omega arith) c.if-byte-other.true

pub returns-then-lower_case : goal.returns-then-lower_case
returns-then-lower_case c = bytes_differ _ _ c.requires _ _ c.loop-i.invariant (omega arith) _ _ c.lower_case.ensures c.lower_case-in-loop-i.ensures c.if-lower_case.true

pub loop-i-preserved : goal.loop-i-preserved
loop-i-preserved c = bytes_in_other_case _ _ c.requires _ _ c.loop-i.invariant (omega arith) _ _ c.lower_case.ensures c.lower_case-in-loop-i.ensures c.if-byte-other.false c.if-lower_case.false

pub returns-then-exact : goal.returns-then-exact
returns-then-exact c = bytes_ended _ _ c.requires _ _ c.loop-i.invariant (omega arith) true c.if-exact.true

pub returns : goal.returns
returns c = bytes_ended _ _ c.requires _ _ c.loop-i.invariant (omega arith) false c.if-exact.false
