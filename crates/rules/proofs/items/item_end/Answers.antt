-- `item_end` meets its contract. Assumes nothing.
use native.Mathlib.Omega.{arith}
use Rattle.rules.specs.Laws.Stand.{item_moves, word_ends, kind_ends, plain_ends}
use Rattle.rules.proofs.items.item_end.Goals as goal

pub bounds-table-at : goal.bounds-table-at
bounds-table-at c = omega (arith, item_moves _ c.requires.stands, c.requires.stands.inside)

pub bounds-table-at-then-byte-eq-WORD : goal.bounds-table-at-then-byte-eq-WORD
bounds-table-at-then-byte-eq-WORD c = omega (arith, word_ends _ c.requires.stands c.if-byte-eq-WORD.true, c.requires.stands.inside)

pub returns-then-byte-eq-WORD : goal.returns-then-byte-eq-WORD
returns-then-byte-eq-WORD c = λ i next s. rw c.from.ensures (word_ends _ s c.if-byte-eq-WORD.true)

pub returns-then-byte-eq-KIND : goal.returns-then-byte-eq-KIND
returns-then-byte-eq-KIND c = λ i next s. kind_ends _ s c.if-byte-eq-KIND.true

pub returns : goal.returns
returns c = λ i next s. plain_ends _ s c.if-byte-eq-WORD.false c.if-byte-eq-KIND.false
