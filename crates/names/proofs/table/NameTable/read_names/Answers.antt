-- `read_names` meets its contract. The loop's invariant: the names so far are distinct and in the table. Assumes nothing.
use mathlib.Core.Path.{refl, sym, ◌∙◌}
use native.Mathlib.Omega.{arith}
use Rattle.names.specs.Laws.ReadLoop.{names_begin, record_there, names_full, names_malformed, names_other_kind, names_twice, names_further, names_again, names_told}
use Rattle.names.proofs.table.NameTable.read_names.Goals as goal

pub loop-at-init : goal.loop-at-init
loop-at-init c = (names_begin _ c.args.self.now.held c.requires, refl, (refl, refl, refl), (refl, refl, refl))

pub returns-then-self-eq-MOST_NAMES-clause-told : goal.returns-then-self-eq-MOST_NAMES-clause-told
returns-then-self-eq-MOST_NAMES-clause-told c = record { told = names_full _ c.loop-at.invariant.0 (omega arith) c.if-self-eq-MOST_NAMES.true }

pub returns-in_default-clause-told : goal.returns-in_default-clause-told
returns-in_default-clause-told c = record { told = names_malformed _ c.loop-at.invariant.0 (omega arith) c.if-self-eq-MOST_NAMES.false (sym (rw c.current.ensures at c.token_at-found.ensures) ∙ c.in_default.is) }

pub returns-then-kind-ne-IDENTIFIER-clause-told : goal.returns-then-kind-ne-IDENTIFIER-clause-told
returns-then-kind-ne-IDENTIFIER-clause-told c = record { told = names_other_kind _ c.loop-at.invariant.0 (omega arith) c.if-self-eq-MOST_NAMES.false (sym (rw c.current.ensures at c.token_at-found.ensures) ∙ c.in-Some.is) c.if-kind-ne-IDENTIFIER.true }

pub add_name-requires : goal.add_name-requires
add_name-requires c = rw c.loop-at.invariant.1 (record_there _ c.loop-at.invariant.0 c.if-self-eq-MOST_NAMES.false (sym (rw c.current.ensures at c.token_at-found.ensures) ∙ c.in-Some.is))

pub returns-then-not-add_name-clause-told : goal.returns-then-not-add_name-clause-told
returns-then-not-add_name-clause-told c = record { told = names_twice _ c.loop-at.invariant.0 (omega arith) c.if-self-eq-MOST_NAMES.false (sym (rw c.current.ensures at c.token_at-found.ensures) ∙ c.in-Some.is) c.if-not-add_name.true (rw c.loop-at.invariant.1 at c.add_name.ensures.added) }

pub overflow_add-at : goal.overflow_add-at
overflow_add-at c = let f = names_further _ c.loop-at.invariant.0 (omega arith) c.if-self-eq-MOST_NAMES.false (sym (rw c.current.ensures at c.token_at-found.ensures) ∙ c.in-Some.is) in omega (arith, f.0, f.1)

pub loop-at-smaller : goal.loop-at-smaller
loop-at-smaller c = let f = names_further _ c.loop-at.invariant.0 (omega arith) c.if-self-eq-MOST_NAMES.false (sym (rw c.current.ensures at c.token_at-found.ensures) ∙ c.in-Some.is) in omega (arith, f.0, f.1)

pub loop-at-preserved : goal.loop-at-preserved
loop-at-preserved c = (
  rw (c.add_name.ensures.counted, c.if-not-add_name.false) (names_again _ c.loop-at.invariant.0 (omega arith) c.if-self-eq-MOST_NAMES.false (sym (rw c.current.ensures at c.token_at-found.ensures) ∙ c.in-Some.is) c.if-kind-ne-IDENTIFIER.false c.if-not-add_name.false (rw c.loop-at.invariant.1 at c.add_name.ensures.added)),
  c.add_name.ensures.kept ∙ c.loop-at.invariant.1,
  (c.add_name.ensures.same_arrays.0 ∙ c.loop-at.invariant.2.0, c.add_name.ensures.same_arrays.1 ∙ c.loop-at.invariant.2.1, c.add_name.ensures.same_arrays.2 ∙ c.loop-at.invariant.2.2),
  (c.add_name.ensures.as_long.0 ∙ c.loop-at.invariant.3.0, c.add_name.ensures.as_long.1 ∙ c.loop-at.invariant.3.1, c.add_name.ensures.as_long.2 ∙ c.loop-at.invariant.3.2),
)

pub returns-clause-told : goal.returns-clause-told
returns-clause-told c = names_told _ c.loop-at.invariant.0 (omega arith)
