-- What holds of every refusal: of a row's answer, place by place, and of a file's.
-- Assumes nothing.
use Rattle.rows.specs.Answer.{refused_with, Answer}
use Rattle.std.specs.Prelude.{ℕ, ◌-◌, ◌<◌, refl, List, length, replicate, leb, None, Option, Some, Err, Ok}
use Rattle.std.proofs.Math.Path.{◌≡◌, ap, subst}
use Rattle.std.proofs.Common.{arith}
use Rattle.rows.specs.Format.{format}
use Rattle.rows.specs.Refusals.{refusal_of}
use Rattle.rows.specs.Laws.Tests.{by_if}
use Rattle.rows.specs.Laws.Numbered.{Between}
use Rattle.rows.specs.declared.answer.Feature.{Feature}
use Rattle.rows.specs.declared.answer.TypeNameError.{TypeNameError}
use Rattle.rows.specs.declared.answer.TypeNameError.TheVariants.{Empty, AllowancePassed, NoTypeName, NotAvailableInProfile}
use Rattle.reader.specs.Nodes.{Nodes}
use Rattle.structure.specs.Said.{Said, holds, fails}
use Rattle.profile.specs.Profile.{missing_feature}
use Rattle.type_name.specs.FileRow.{HeadRow, Outcome, untouched, passes, on_pass, file_row, entry_outcome}
use Rattle.type_name.specs.Answers.{RowAnswer, accepted, refused, on_tree, structure_of, by_structure, by_profile, tree_checked, row_steps, answer_within, answer_in, filled, buffer_in}
use Rattle.type_name.specs.Promises.{last_untouched, RefusedBuffer}
use Rattle.type_name.specs.Laws.Fields.{is_refused, number_in, bounds}
use Rattle.type_name.specs.Laws.FileRow.{Has, Comes, file_comes}

-- The refusal of an answer; any, if it is accepted.
abbrev error_in : Answer → TypeNameError
error_in (Ok a) = Empty
error_in (Err r) = r.error

module _ (P : TypeNameError → Type 0) where
  -- If the row is refused, its refusal is so.
  abbrev pub Refusals : RowAnswer → Type 0
  Refusals (accepted x m) = Unit {0}
  Refusals (refused e m) = P e

  next_refusals : (a : RowAnswer) (next : Nodes → ℕ → RowAnswer) → Refusals a → ((x : Nodes) (m : ℕ) → Refusals (next x m)) → Refusals (on_tree a next)
  unfolding on_tree
  next_refusals (accepted x m) next p q = q x m
  next_refusals (refused e m) next p q = p

  -- The places "Structure" and "Profile" refuse with 30 and 40 alone.
  module _ (of_structure : P NoTypeName) (of_profile : (f : Feature) → P (NotAvailableInProfile f)) where
    structure_refusals : (x : Nodes) (m : ℕ) (s : Said) → Refusals (by_structure x m s)
    unfolding by_structure
    structure_refusals x m (holds n) = tt
    structure_refusals x m (fails n) = of_structure

    profile_refusals : (x : Nodes) (m : ℕ) (k : Option Feature) → Refusals (by_profile x m k)
    unfolding by_profile
    profile_refusals x m None = tt
    profile_refusals x m (Some f) = of_profile f

    pub checked_refusals : (language standard flag : ℕ) (kinds words : List ℕ) (a : RowAnswer) → Refusals a → Refusals (tree_checked language standard flag kinds words a)
    unfolding tree_checked
    checked_refusals language standard flag kinds words a p =
        next_refusals _ _ (next_refusals a _ p (λ x m. structure_refusals x m (structure_of language flag kinds words x)))
        (λ x m. profile_refusals x m (missing_feature language standard kinds words))

  -- The allowance refuses with 25 alone.
  pub limited_refusals : P AllowancePassed → (allowance : ℕ) (a : RowAnswer) → Refusals a → Refusals (answer_within allowance a)
  unfolding answer_within
  limited_refusals of_allowance allowance a p = by_if Refusals (leb (row_steps a) allowance) (λ _. p) (λ _. of_allowance)

  -- ---- a file

  abbrev pub FileRefusals : Outcome RowAnswer → Type 0
  FileRefusals (untouched e) = P e
  FileRefusals (passes a) = Refusals a

  -- "Refusals 1 to 6", and those of what an entry answers to a head and a row.
  module _ (answers : HeadRow → RowAnswer) (file : List ℕ) (room : ℕ) (of_file : (e : TypeNameError) → Between 1 6 e → P e) (of_row : (r : HeadRow) → Has file room r → Refusals (answers r)) where
    row_refusals : (o : Outcome HeadRow) → Comes file room o → FileRefusals (on_pass o λ r. passes (answers r))
    unfolding on_pass
    row_refusals (untouched e) c = of_file e c
    row_refusals (passes r) c = of_row r c

    pub file_refusals : FileRefusals (entry_outcome format answers file room)
    file_refusals = row_refusals (file_row format file room) (file_comes file room)

  pub answered_refusals : (o : Outcome RowAnswer) → FileRefusals o → (e : TypeNameError) (m : ℕ) → answer_in o ≡ refused_with e m → P e
  unfolding answer_in
  answered_refusals (untouched e') p e m q = subst P (ap error_in q) p
  answered_refusals (passes (accepted x k)) p e m q = let clash : ◌≡◌ {A = ℕ} 0 1 = ap is_refused q in absurd (omega (arith, clash))
  answered_refusals (passes (refused e' k)) p e m q = subst P (ap error_in q) p

-- ---- the buffer of a refused answer

none_less : (n : ℕ) → replicate {A = ℕ} (n - 0) 0 ≡ replicate n 0
none_less n =
    let same : n - 0 ≡ n = omega arith in
    ap (λ (k : ℕ). replicate {A = ℕ} k 0) same

-- A refusal behind the buffer's.
abbrev pub Behind : TypeNameError → Type 0
Behind e = last_untouched < (refusal_of e).number

-- Refusals up to 6 come before the row is read, the others after.
abbrev pub Apart : Outcome RowAnswer → Type 0
Apart (untouched e) = Between 1 last_untouched e
Apart (passes a) = Refusals Behind a

pub buffer_of : (before : List ℕ) (o : Outcome RowAnswer) → Apart o → (e : TypeNameError) (m : ℕ) → answer_in o ≡ refused_with e m → RefusedBuffer before (buffer_in before o) e
unfolding answer_in buffer_in filled
buffer_of before (untouched e') p e m q =
    let same : (refusal_of e').number ≡ (refusal_of e).number = ap number_in q in
    record { kept = λ _. refl; zeroed = λ h. absurd (omega (arith, same, bounds 1 6 e' p, h)) }
buffer_of before (passes (accepted x n)) p e m q =
    let clash : ◌≡◌ {A = ℕ} 0 1 = ap is_refused q in
    absurd (omega (arith, clash))
buffer_of before (passes (refused e' n)) p e m q =
    let same : (refusal_of e').number ≡ (refusal_of e).number = ap number_in q in
    record { kept = λ h. absurd (omega (arith, same, p, h)); zeroed = λ _. none_less (length before) }
