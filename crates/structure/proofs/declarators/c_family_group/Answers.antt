-- `c_family_group` meets its contract: an arm of the table at each way out. Assumes nothing.
use mathlib.Core.Path.{sym, ◌∙◌}
use Rattle.structure.specs.Laws.Waits.{goes_inside}
use Rattle.structure.specs.Laws.Tables.{group_1, group_2, group_3, group_4, group_5, group_6}
use Rattle.structure.proofs.declarators.c_family_group.Goals as goal

pub returns-then-before-eq-DECLTYPE : goal.returns-then-before-eq-DECLTYPE
returns-then-before-eq-DECLTYPE c = goes_inside _ _ _ _ _ c.inside_if.ensures ((group_1 _ _ _ _ _ c.if-before-eq-DECLTYPE.true))

pub returns-then-is_typeof_word : goal.returns-then-is_typeof_word
returns-then-is_typeof_word c = goes_inside _ _ _ _ _ c.inside_if-then-is_typeof_word.ensures ((group_2 _ _ _ _ _ c.if-before-eq-DECLTYPE.false (sym c.is_typeof_word.ensures ∙ c.if-is_typeof_word.true)))

pub returns-then-before-eq-ATOMIC : goal.returns-then-before-eq-ATOMIC
returns-then-before-eq-ATOMIC c = goes_inside _ _ _ _ _ c.inside_if-then-before-eq-ATOMIC.ensures ((group_3 _ _ _ _ _ c.if-before-eq-DECLTYPE.false (sym c.is_typeof_word.ensures ∙ c.if-is_typeof_word.false) c.if-before-eq-ATOMIC.true))

pub returns-then-before-eq-BIT_INT : goal.returns-then-before-eq-BIT_INT
returns-then-before-eq-BIT_INT c = goes_inside _ _ _ _ _ c.inside_if-then-before-eq-BIT_INT.ensures ((group_4 _ _ _ _ _ c.if-before-eq-DECLTYPE.false (sym c.is_typeof_word.ensures ∙ c.if-is_typeof_word.false) c.if-before-eq-ATOMIC.false c.if-before-eq-BIT_INT.true))

pub returns-then-before-st : goal.returns-then-before-st
returns-then-before-st c = goes_inside _ _ _ _ _ c.inside_if-then-before-st.ensures ((group_5 _ _ _ _ _ c.if-before-eq-DECLTYPE.false (sym c.is_typeof_word.ensures ∙ c.if-is_typeof_word.false) c.if-before-eq-ATOMIC.false c.if-before-eq-BIT_INT.false c.if-before-st.true))

pub returns : goal.returns
returns c = goes_inside _ _ _ _ _ c.inside_if-2.ensures ((group_6 _ _ _ _ _ c.if-before-eq-DECLTYPE.false (sym c.is_typeof_word.ensures ∙ c.if-is_typeof_word.false) c.if-before-eq-ATOMIC.false c.if-before-eq-BIT_INT.false c.if-before-st.false))
