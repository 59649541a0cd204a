-- `hand_over` meets its contract. Assumes nothing.
use native.Mathlib.Omega.{arith}
use Rattle.text.specs.Laws.Records.{is_handed, not_handed}
use Rattle.text.proofs.hand_over.Goals as goal

pub returns-then-buffer-output-clause-told : goal.returns-then-buffer-output-clause-told
returns-then-buffer-output-clause-told c = (not_handed _ _ (omega arith)).0

pub returns-then-buffer-output-clause-handed : goal.returns-then-buffer-output-clause-handed
returns-then-buffer-output-clause-handed c = (not_handed _ _ (omega arith)).1

pub returns-clause-told : goal.returns-clause-told
returns-clause-told c = (is_handed _ _ (omega arith) c.copy_from_slice.ensures.after).0

pub returns-clause-handed : goal.returns-clause-handed
returns-clause-handed c = (is_handed _ _ (omega arith) c.copy_from_slice.ensures.after).1
