-- `in_chain` meets its contract. The loop's invariant: no name from this number on is the word. Assumes nothing.
use native.Mathlib.Omega.{arith}
use Rattle.names.specs.Laws.Tables.{chain_begins, chain_within, chain_here, chain_again, chain_ends}
use Rattle.names.proofs.table.in_chain.Goals as goal

pub loop-entry-init : goal.loop-entry-init
loop-entry-init c = chain_begins _ _ _ _ _

pub offset_bounds-places-number : goal.offset_bounds-places-number
offset_bounds-places-number c = omega (arith, (chain_within _ _ _ _ _ c.requires c.loop-entry.invariant (omega arith)).1)

pub bounds-places-number : goal.bounds-places-number
bounds-places-number c = (chain_within _ _ _ _ _ c.requires c.loop-entry.invariant (omega arith)).1

pub word_there-name-requires : goal.word_there-name-requires
word_there-name-requires c = (chain_within _ _ _ _ _ c.requires c.loop-entry.invariant (omega arith)).3

pub returns-then-same_bytes : goal.returns-then-same_bytes
returns-then-same_bytes c = chain_here _ _ _ _ _ c.loop-entry.invariant (omega arith) (rw c.word_there-name.ensures at c.same_bytes.ensures) c.if-same_bytes.true

pub offset_bounds-links-number : goal.offset_bounds-links-number
offset_bounds-links-number c = omega (arith, (chain_within _ _ _ _ _ c.requires c.loop-entry.invariant (omega arith)).0)

pub bounds-links-number : goal.bounds-links-number
bounds-links-number c = (chain_within _ _ _ _ _ c.requires c.loop-entry.invariant (omega arith)).0

pub loop-entry-smaller : goal.loop-entry-smaller
loop-entry-smaller c = omega (arith, (chain_within _ _ _ _ _ c.requires c.loop-entry.invariant (omega arith)).2, c.from-entry.ensures)

pub loop-entry-preserved : goal.loop-entry-preserved
loop-entry-preserved c = rw c.from-entry.ensures (chain_again _ _ _ _ _ c.loop-entry.invariant (omega arith) (rw c.word_there-name.ensures at c.same_bytes.ensures) c.if-same_bytes.false)

pub returns : goal.returns
returns c = chain_ends _ _ _ _ _ c.loop-entry.invariant (omega arith)
