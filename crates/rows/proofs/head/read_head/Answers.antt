-- `read_head` meets its contract: each way out computes with the tests that led to it. Assumes nothing.
use borrow.Author.Tests.{lt-ltb, le-ltb, lt-leb, le-leb, eq-eqb, ne_eqb}
use Rattle.rows.specs.Records.{head, head_formed, head_with}
use Rattle.rows.proofs.head.read_head.Goals as goal

pub returns-then-format-file : goal.returns-then-format-file
unfolding head
returns-then-format-file c = simp (head, lt-ltb _ _ c.if-format-file.true)

pub returns-then-file-lt-HEAD_LENGTH : goal.returns-then-file-lt-HEAD_LENGTH
unfolding head head_formed
returns-then-file-lt-HEAD_LENGTH c = simp (head, head_formed, le-ltb _ _ c.if-format-file.false, lt-leb _ _ c.if-file-lt-HEAD_LENGTH.true)

pub returns-then-two_bytes-ne-HEAD_LENGTH : goal.returns-then-two_bytes-ne-HEAD_LENGTH
unfolding head head_formed
returns-then-two_bytes-ne-HEAD_LENGTH c = simp (head, head_formed, le-ltb _ _ c.if-format-file.false, le-leb _ _ c.if-file-lt-HEAD_LENGTH.false, ne_eqb _ _ (rw c.two_bytes.ensures.value at c.if-two_bytes-ne-HEAD_LENGTH.true))

pub returns-then-two_bytes-format : goal.returns-then-two_bytes-format
unfolding head head_formed
returns-then-two_bytes-format c = simp (head, head_formed, le-ltb _ _ c.if-format-file.false, le-leb _ _ c.if-file-lt-HEAD_LENGTH.false, eq-eqb _ _ (rw c.two_bytes.ensures.value at c.if-two_bytes-ne-HEAD_LENGTH.false), ne_eqb _ _ (rw c.two_bytes-2.ensures.value at c.if-two_bytes-format.true))

pub returns-then-format-flag : goal.returns-then-format-flag
unfolding head head_formed
returns-then-format-flag c = simp (head, head_formed, le-ltb _ _ c.if-format-file.false, le-leb _ _ c.if-file-lt-HEAD_LENGTH.false, eq-eqb _ _ (rw c.two_bytes.ensures.value at c.if-two_bytes-ne-HEAD_LENGTH.false), eq-eqb _ _ (rw c.two_bytes-2.ensures.value at c.if-two_bytes-format.false), lt-leb _ _ c.if-format-flag.true)

pub returns-in_default : goal.returns-in_default
unfolding head head_formed head_with
returns-in_default c = simp (head, head_formed, le-ltb _ _ c.if-format-file.false, le-leb _ _ c.if-file-lt-HEAD_LENGTH.false, eq-eqb _ _ (rw c.two_bytes.ensures.value at c.if-two_bytes-ne-HEAD_LENGTH.false), eq-eqb _ _ (rw c.two_bytes-2.ensures.value at c.if-two_bytes-format.false), le-leb _ _ c.if-format-flag.false, ← c.meant_standard-found.ensures, c.in_default.is, head_with)

pub returns : goal.returns
unfolding head head_formed head_with
returns c = simp (head, head_formed, le-ltb _ _ c.if-format-file.false, le-leb _ _ c.if-file-lt-HEAD_LENGTH.false, eq-eqb _ _ (rw c.two_bytes.ensures.value at c.if-two_bytes-ne-HEAD_LENGTH.false), eq-eqb _ _ (rw c.two_bytes-2.ensures.value at c.if-two_bytes-format.false), le-leb _ _ c.if-format-flag.false, ← c.meant_standard-found.ensures, c.in-Some.is, c.four_bytes-allowance.ensures.value, head_with)
