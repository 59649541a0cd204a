-- `missing_in_c` meets its contract. Assumes nothing.
use mathlib.Core.Path.{refl, sym, ◌∙◌}
use mathlib.Core.List.{[], ◌∷◌}
use Rattle.rows.specs.Languages.{C99, C11, C23}
use Rattle.rows.specs.declared.answer.Feature.TheVariants.{LongLong, Atomic, BitInt, Typeof, TypeofUnqual}
use Rattle.profile.specs.Profile.{◌since◌, uses, features}
use Rattle.profile.specs.Laws.Lacking.{ascends, lacks_first, lacks_later}
use Rattle.profile.proofs.features.ComparedRow.missing_in_c.Goals as goal

pub returns-then-lacks : goal.returns-then-lacks
unfolding features uses ascends
returns-then-lacks c = lacks_first c.args.self.now.ignoring c.args.standard c.args.self.now.kinds.now c.args.self.now.words.now LongLong C99 (Atomic since C11 ∷ BitInt since C23 ∷ Typeof since C23 ∷ TypeofUnqual since C23 ∷ []) refl (sym c.lacks.ensures ∙ c.if-lacks.true)

pub returns-then-lacks-2 : goal.returns-then-lacks-2
unfolding features uses ascends
returns-then-lacks-2 c = lacks_later c.args.self.now.ignoring c.args.standard c.args.self.now.kinds.now c.args.self.now.words.now LongLong C99 (Atomic since C11 ∷ BitInt since C23 ∷ Typeof since C23 ∷ TypeofUnqual since C23 ∷ []) (sym c.lacks.ensures ∙ c.if-lacks.false) (lacks_first c.args.self.now.ignoring c.args.standard c.args.self.now.kinds.now c.args.self.now.words.now Atomic C11 (BitInt since C23 ∷ Typeof since C23 ∷ TypeofUnqual since C23 ∷ []) refl (sym c.lacks-2.ensures ∙ c.if-lacks-2.true))

pub returns : goal.returns
unfolding features uses ascends
returns c = lacks_later c.args.self.now.ignoring c.args.standard c.args.self.now.kinds.now c.args.self.now.words.now LongLong C99 (Atomic since C11 ∷ BitInt since C23 ∷ Typeof since C23 ∷ TypeofUnqual since C23 ∷ []) (sym c.lacks.ensures ∙ c.if-lacks.false) (lacks_later c.args.self.now.ignoring c.args.standard c.args.self.now.kinds.now c.args.self.now.words.now Atomic C11 (BitInt since C23 ∷ Typeof since C23 ∷ TypeofUnqual since C23 ∷ []) (sym c.lacks-2.ensures ∙ c.if-lacks-2.false) c.missing_of_c23.ensures)
