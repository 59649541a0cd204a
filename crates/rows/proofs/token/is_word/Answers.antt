-- `is_word` meets its contract. Assumes nothing.
use Prim.Native.Nat.{◌-◌, ◌%◌}
use native.Mathlib.Omega.{arith}
use lib.ListN.{length, length-take}
use Rattle.rows.specs.Laws.Tokens.{groups_cover}
use Rattle.rows.proofs.token.is_word.Goals as goal

pub returns-then-size-lt4 : goal.returns-then-size-lt4
returns-then-size-lt4 c = c.all_fit.ensures

pub returns-then-size-lt8 : goal.returns-then-size-lt8
returns-then-size-lt8 c = rw (c.all_fit-then-size-lt8.ensures, c.all_fit-then-size-lt8-2.ensures) (groups_cover c.args.word.now 4 4 (omega arith) (omega arith))

pub returns-then-size-le16 : goal.returns-then-size-le16
returns-then-size-le16 c = rw (c.all_fit-then-size-le16.ensures, c.all_fit-then-size-le16-2.ensures) (groups_cover c.args.word.now 8 8 (omega arith) (omega arith))

pub slice_bounds-all_fit-end : goal.slice_bounds-all_fit-end
slice_bounds-all_fit-end c = simp length-take (omega arith)

pub returns : goal.returns
returns c = rw (c.all_fit-2.ensures, c.all_fit-3.ensures) (groups_cover c.args.word.now (length c.args.word.now - length c.args.word.now % 8) 8 (omega arith) (omega arith))
