-- `missing_in_cpp` meets its contract. Assumes nothing.
use mathlib.Core.Path.{refl, sym, ◌∙◌}
use mathlib.Core.List.{[], ◌∷◌}
use Rattle.rows.specs.Languages.{Cpp11}
use Rattle.rows.specs.declared.answer.Feature.TheVariants.{LongLong, Decltype, RvalueReference}
use Rattle.profile.specs.Profile.{◌since◌, uses, features}
use Rattle.profile.specs.Laws.Lacking.{ascends, lacks_first, lacks_later, lacks_nothing}
use Rattle.profile.proofs.features.ComparedRow.missing_in_cpp.Goals as goal

pub returns-then-lacks : goal.returns-then-lacks
unfolding features uses ascends
returns-then-lacks c = lacks_first c.args.self.now.ignoring c.args.standard c.args.self.now.kinds.now c.args.self.now.words.now LongLong Cpp11 (Decltype since Cpp11 ∷ RvalueReference since Cpp11 ∷ []) refl (sym c.lacks.ensures ∙ c.if-lacks.true)

pub returns-then-lacks-2 : goal.returns-then-lacks-2
unfolding features uses ascends
returns-then-lacks-2 c = lacks_later c.args.self.now.ignoring c.args.standard c.args.self.now.kinds.now c.args.self.now.words.now LongLong Cpp11 (Decltype since Cpp11 ∷ RvalueReference since Cpp11 ∷ []) (sym c.lacks.ensures ∙ c.if-lacks.false) (lacks_first c.args.self.now.ignoring c.args.standard c.args.self.now.kinds.now c.args.self.now.words.now Decltype Cpp11 (RvalueReference since Cpp11 ∷ []) refl (sym c.lacks-2.ensures ∙ c.if-lacks-2.true))

pub returns-then-lacks-3 : goal.returns-then-lacks-3
unfolding features uses ascends
returns-then-lacks-3 c = lacks_later c.args.self.now.ignoring c.args.standard c.args.self.now.kinds.now c.args.self.now.words.now LongLong Cpp11 (Decltype since Cpp11 ∷ RvalueReference since Cpp11 ∷ []) (sym c.lacks.ensures ∙ c.if-lacks.false) (lacks_later c.args.self.now.ignoring c.args.standard c.args.self.now.kinds.now c.args.self.now.words.now Decltype Cpp11 (RvalueReference since Cpp11 ∷ []) (sym c.lacks-2.ensures ∙ c.if-lacks-2.false) (lacks_first c.args.self.now.ignoring c.args.standard c.args.self.now.kinds.now c.args.self.now.words.now RvalueReference Cpp11 [] refl (sym c.lacks-3.ensures ∙ c.if-lacks-3.true)))

pub returns : goal.returns
unfolding features uses ascends
returns c = lacks_later c.args.self.now.ignoring c.args.standard c.args.self.now.kinds.now c.args.self.now.words.now LongLong Cpp11 (Decltype since Cpp11 ∷ RvalueReference since Cpp11 ∷ []) (sym c.lacks.ensures ∙ c.if-lacks.false) (lacks_later c.args.self.now.ignoring c.args.standard c.args.self.now.kinds.now c.args.self.now.words.now Decltype Cpp11 (RvalueReference since Cpp11 ∷ []) (sym c.lacks-2.ensures ∙ c.if-lacks-2.false) (lacks_later c.args.self.now.ignoring c.args.standard c.args.self.now.kinds.now c.args.self.now.words.now RvalueReference Cpp11 [] (sym c.lacks-3.ensures ∙ c.if-lacks-3.false) (lacks_nothing c.args.self.now.ignoring c.args.standard c.args.self.now.kinds.now c.args.self.now.words.now)))
