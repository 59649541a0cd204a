-- `up_to_cut` meets its contract. Assumes nothing.
use mathlib.Core.Path.{sym, ap, ◌∙◌}
use Rattle.rows.specs.declared.answer.Refusal.{Refusal}
use Rattle.type_list.specs.Laws.Cuts.{cut_at, no_cut_at}
use Rattle.type_list.proofs.part.up_to_cut.Goals as goal

pub returns-then-refusal-eq-CUT_NUMBER : goal.returns-then-refusal-eq-CUT_NUMBER
returns-then-refusal-eq-CUT_NUMBER c = ap (λ (f : Refusal). f.token) c.refusal_of-refusal.ensures ∙ sym (cut_at _ _ (sym (ap (λ (f : Refusal). f.number) c.refusal_of-refusal.ensures) ∙ c.if-refusal-eq-CUT_NUMBER.true))

pub returns : goal.returns
returns c = sym (no_cut_at _ _ λ q. c.if-refusal-eq-CUT_NUMBER.false (ap (λ (f : Refusal). f.number) c.refusal_of-refusal.ensures ∙ q))
