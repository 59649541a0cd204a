-- `specifiers_end` meets its contract. Assumes nothing.
use mathlib.Core.Path.{sym}
use Rattle.type_nodes.specs.Specifiers.{specifiers_end}
use Rattle.type_nodes.proofs.specifiers.specifiers_end.Goals as goal

pub returns-then-flags : goal.returns-then-flags
unfolding specifiers_end
returns-then-flags c = rw c.if-flags.true

pub returns-then-flags-2 : goal.returns-then-flags-2
unfolding specifiers_end
returns-then-flags-2 c = rw (c.if-flags.false, c.if-flags-2.true) c.validate_c_bit_int_sign.ensures

pub returns-then-none : goal.returns-then-none
unfolding specifiers_end
returns-then-none c = rw (c.if-flags.false, c.if-flags-2.false, ← c.requires.0, c.if-none.true)

pub returns-then-single : goal.returns-then-single
unfolding specifiers_end
returns-then-single c = rw (c.if-flags.false, c.if-flags-2.false, ← c.requires.0, c.if-none.false) (sym (c.requires.1 c.if-single.true))

pub returns : goal.returns
unfolding specifiers_end
returns c = rw (c.if-flags.false, c.if-flags-2.false, ← c.requires.0, c.if-none.false) c.validate_c_builtin_combination.ensures
