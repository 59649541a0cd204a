-- `check_row_end` meets its contract: a way of the definition at each way out. Assumes nothing.
use Prim.Native.Nat.{◌-◌}
use native.Mathlib.Omega.{arith}
use borrow.Author.Tests.{not-true, not-false}
use Rattle.prescan.specs.Laws.RowEnd.{open_bracket, open_angle, no_identifier, good_boundary, bad_boundary, boundary_test}
use Rattle.prescan.proofs.boundary.check_row_end.Goals as goal

pub returns-then-depth-gt0 : goal.returns-then-depth-gt0
returns-then-depth-gt0 c = record { same = open_bracket _ _ _ _ (c.args.s.depth - 1) (omega arith) _ c.delimiter-open.ensures }

pub returns-then-s-gt0 : goal.returns-then-s-gt0
returns-then-s-gt0 c = record { same = open_angle _ _ _ _ (omega arith) c.if-s-gt0.true }

pub returns-then-not-s : goal.returns-then-not-s
returns-then-not-s c = record { same = no_identifier _ _ _ _ (omega arith) c.if-s-gt0.false (not-true _ c.if-not-s.true) }

pub returns-then-is_valid_start-is_valid_end : goal.returns-then-is_valid_start-is_valid_end
returns-then-is_valid_start-is_valid_end c = record { same = (_, good_boundary _ _ _ _ (omega arith) c.if-s-gt0.false (not-false _ c.if-not-s.false) _ (boundary_test c.args.language c.args.kinds.now c.requires.1 c.is_valid_start.ensures c.is_valid_end.ensures c.kind_before_last-before.ensures) c.if-is_valid_start-is_valid_end.true) }

pub returns : goal.returns
returns c = record { same = bad_boundary _ _ _ _ (omega arith) c.if-s-gt0.false (not-false _ c.if-not-s.false) _ (boundary_test c.args.language c.args.kinds.now c.requires.1 c.is_valid_start.ensures c.is_valid_end.ensures c.kind_before_last-before.ensures) c.if-is_valid_start-is_valid_end.false }
