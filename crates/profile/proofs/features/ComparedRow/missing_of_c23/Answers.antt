-- `missing_of_c23` meets its contract. Assumes nothing.
use mathlib.Core.Path.{refl, sym, ◌∙◌}
use native.Mathlib.Omega.{arith}
use mathlib.Core.List.{[], ◌∷◌}
use Rattle.rows.specs.Languages.{C23}
use Rattle.rows.specs.Words.{_BitInt, typeof, typeof_unqual}
use Rattle.rows.specs.declared.answer.Feature.TheVariants.{BitInt, Typeof, TypeofUnqual}
use Rattle.profile.specs.Profile.{◌since◌, features, uses}
use Rattle.profile.specs.Laws.Between.{no_call}
use Rattle.profile.specs.Laws.Lacking.{ascends, lacks_first, lacks_later, lacks_nothing, all_there, none_used}
use Rattle.profile.proofs.features.ComparedRow.missing_of_c23.Goals as goal

pub returns-then-standard-ge-C23 : goal.returns-then-standard-ge-C23
unfolding features
returns-then-standard-ge-C23 c = all_there c.args.self.now.ignoring c.args.standard c.args.self.now.kinds.now c.args.self.now.words.now _ (omega arith, (omega arith, (omega arith, tt)))

pub returns-then-not-has_word_between : goal.returns-then-not-has_word_between
unfolding features uses
returns-then-not-has_word_between c = none_used c.args.self.now.ignoring c.args.standard c.args.self.now.kinds.now c.args.self.now.words.now _ (no_call c.args.self.now.ignoring c.args.self.now.kinds.now c.args.self.now.words.now 30 34 (sym c.has_word_between.ensures ∙ c.if-not-has_word_between.true) _BitInt (omega arith) (omega arith) (omega arith), (no_call c.args.self.now.ignoring c.args.self.now.kinds.now c.args.self.now.words.now 30 34 (sym c.has_word_between.ensures ∙ c.if-not-has_word_between.true) typeof (omega arith) (omega arith) (omega arith), (no_call c.args.self.now.ignoring c.args.self.now.kinds.now c.args.self.now.words.now 30 34 (sym c.has_word_between.ensures ∙ c.if-not-has_word_between.true) typeof_unqual (omega arith) (omega arith) (omega arith), tt)))

pub returns-then-lacks : goal.returns-then-lacks
unfolding features uses ascends
returns-then-lacks c = lacks_first c.args.self.now.ignoring c.args.standard c.args.self.now.kinds.now c.args.self.now.words.now BitInt C23 (Typeof since C23 ∷ TypeofUnqual since C23 ∷ []) refl (sym c.lacks.ensures ∙ c.if-lacks.true)

pub returns-then-lacks-2 : goal.returns-then-lacks-2
unfolding features uses ascends
returns-then-lacks-2 c = lacks_later c.args.self.now.ignoring c.args.standard c.args.self.now.kinds.now c.args.self.now.words.now BitInt C23 (Typeof since C23 ∷ TypeofUnqual since C23 ∷ []) (sym c.lacks.ensures ∙ c.if-lacks.false) (lacks_first c.args.self.now.ignoring c.args.standard c.args.self.now.kinds.now c.args.self.now.words.now Typeof C23 (TypeofUnqual since C23 ∷ []) refl (sym c.lacks-2.ensures ∙ c.if-lacks-2.true))

pub returns-then-lacks-3 : goal.returns-then-lacks-3
unfolding features uses ascends
returns-then-lacks-3 c = lacks_later c.args.self.now.ignoring c.args.standard c.args.self.now.kinds.now c.args.self.now.words.now BitInt C23 (Typeof since C23 ∷ TypeofUnqual since C23 ∷ []) (sym c.lacks.ensures ∙ c.if-lacks.false) (lacks_later c.args.self.now.ignoring c.args.standard c.args.self.now.kinds.now c.args.self.now.words.now Typeof C23 (TypeofUnqual since C23 ∷ []) (sym c.lacks-2.ensures ∙ c.if-lacks-2.false) (lacks_first c.args.self.now.ignoring c.args.standard c.args.self.now.kinds.now c.args.self.now.words.now TypeofUnqual C23 [] refl (sym c.lacks-3.ensures ∙ c.if-lacks-3.true)))

pub returns : goal.returns
unfolding features uses ascends
returns c = lacks_later c.args.self.now.ignoring c.args.standard c.args.self.now.kinds.now c.args.self.now.words.now BitInt C23 (Typeof since C23 ∷ TypeofUnqual since C23 ∷ []) (sym c.lacks.ensures ∙ c.if-lacks.false) (lacks_later c.args.self.now.ignoring c.args.standard c.args.self.now.kinds.now c.args.self.now.words.now Typeof C23 (TypeofUnqual since C23 ∷ []) (sym c.lacks-2.ensures ∙ c.if-lacks-2.false) (lacks_later c.args.self.now.ignoring c.args.standard c.args.self.now.kinds.now c.args.self.now.words.now TypeofUnqual C23 [] (sym c.lacks-3.ensures ∙ c.if-lacks-3.false) (lacks_nothing c.args.self.now.ignoring c.args.standard c.args.self.now.kinds.now c.args.self.now.words.now)))
