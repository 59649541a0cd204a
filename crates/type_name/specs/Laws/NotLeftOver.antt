-- Refusal 23 never comes: of a row that a file gives, every token is read and no half of a `>>` is left. Assumes nothing.
use Rattle.rows.specs.Answer.{refused_with}
use Rattle.std.specs.Prelude.{ℕ, ◌<◌, ◌≡◌, Bool, true, List, length, eqb}
use Rattle.std.proofs.Math.Path.{refl}
use Rattle.std.proofs.Common.{arith}
use borrow.Author.Tests.{eq-eqb}
use Rattle.rows.specs.Languages.{Cpp}
use Rattle.rows.specs.Format.{format, head_length, most_tokens}
use Rattle.rows.specs.Records.{kinds_of, words_of}
use Rattle.rows.specs.Refusals.{refusal_of}
use Rattle.rows.specs.Laws.Numbered.{Between}
use Rattle.rows.specs.Laws.RowFacts.{good_row}
use Rattle.rows.specs.declared.answer.TypeNameError.{TypeNameError}
use Rattle.rows.specs.declared.head.Head.{Head}
use Rattle.prescan.specs.Prescan.{Scanned, passed, prescan}
use Rattle.prescan.specs.Prescan
use Rattle.prescan.specs.Laws.Numbered.{prescan_numbered}
use Rattle.prescan.specs.Laws.Numbered
use Rattle.reader.specs.Nodes.{Nodes}
use Rattle.reader.specs.Reading.{Got, got, bad, Fault, reading}
use Rattle.reader.specs.Laws.Tokens.{KindsKnown}
use Rattle.reader.specs.Laws.Derived.{row_derived}
use Rattle.reader.specs.Laws.Bounds.{nothing_left}
use Rattle.reader.specs.Laws.Refusals.{Refuses, too_deep, not_closed, wrong_closer, refuses}
use Rattle.type_name.specs.Answers.{RowAnswer, refusal_of_fault, whole_row, tree_of, after_prescan, row_tree, unlimited, answer_of, row_answer, outcome, answer}
use Rattle.type_name.specs.Laws.Fields.{bounds}
use Rattle.type_name.specs.Laws.Refusals.{Refusals, checked_refusals, limited_refusals, file_refusals, answered_refusals}
use Rattle.type_name.specs.Laws.RowTokens.{kinds_known}

abbrev left_over : ℕ
left_over = 23

-- The refusal is another.
abbrev Other : TypeNameError → Type 0
Other e = (refusal_of e).number ≡ left_over → ⊥

abbrev RowOther : RowAnswer → Type 0
RowOther = Refusals Other

below : (low high : ℕ) (e : TypeNameError) → Between low high e → high < left_over → Other e
below low high e b p q = omega (arith, bounds low high e b, p, q)

-- ---- place by place

fault_other : {e : Fault} → Refuses e → Other (refusal_of_fault e)
unfolding refusal_of_fault
fault_other too_deep q = omega (arith, q)
fault_other not_closed q = omega (arith, q)
fault_other wrong_closer q = omega (arith, q)

module _ (language standard flag : ℕ) (kinds words : List ℕ) (known : KindsKnown kinds) where
  whole : {x : Nodes} {at : ℕ} {half : Bool} {m : ℕ} → reading (eqb language Cpp) kinds ≡ got x at half m → whole_row kinds at half ≡ true
  unfolding whole_row
  whole {at = at} e =
      let n = nothing_left kinds (row_derived kinds (eqb language Cpp) e) known in
      rw (n.1, eq-eqb at (length kinds) n.0) refl

  tree_other : (g : Got) → reading (eqb language Cpp) kinds ≡ g → RowOther (tree_of kinds g)
  unfolding tree_of
  tree_other (bad e m) q = fault_other (refuses (eqb language Cpp) kinds q)
  tree_other (got x at half m) q = rw (whole q) tt

  prescan_other : (r : Scanned) → Numbered.Numbered r → RowOther (after_prescan kinds (reading (eqb language Cpp) kinds) r)
  unfolding after_prescan
  prescan_other (Prescan.refused e) p = below 10 18 e p (omega arith)
  prescan_other (passed s) p = tree_other (reading (eqb language Cpp) kinds) refl

  row_other : (allowance : ℕ) → RowOther (answer_of language standard flag kinds words allowance)
  unfolding answer_of unlimited row_tree
  row_other allowance =
      limited_refusals Other (λ q. omega (arith, q)) allowance (unlimited language standard flag kinds words)
      (checked_refusals Other (λ q. omega (arith, q)) (λ f q. omega (arith, q)) language standard flag kinds words (row_tree language kinds)
      (prescan_other (prescan language kinds) (prescan_numbered language kinds)))

-- ---- the answer to a file

-- No file and no buffer is answered with 23.
pub never_23 : (file : List ℕ) (room : ℕ) (e : TypeNameError) (m : ℕ) → answer file room ≡ refused_with e m → (refusal_of e).number ≡ 23 → ⊥
unfolding answer outcome row_answer
never_23 file room e m q =
    answered_refusals Other (outcome file room)
    (file_refusals Other row_answer file room (λ e c. below 1 6 e c (omega arith)) λ r c.
    let h : Head = r.the_head in
    row_other h.language h.standard h.flag (kinds_of r.tokens) (words_of r.tokens)
    (kinds_known r.tokens (good_row format file most_tokens head_length r.tokens c.row_is)) h.allowance)
    e m q
