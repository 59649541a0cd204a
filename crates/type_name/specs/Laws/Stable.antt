-- An accepted row comes back: "With the same flag the same tree, node count and steps come back under every allowance not below those steps, together
-- with the same or any later standard of that language."
-- Assumes nothing.
use Rattle.rows.specs.Answer.{accepted_with}
use Rattle.rows.specs.declared.answer.TypeNameError.{TypeNameError}
use Rattle.std.specs.Prelude.{ℕ, ◌≤◌, ◌≡◌, refl, Bool, true, false, not, ◌&&◌, List, length, get_or, T, leb, ltb, Err, None, Ok, Option, Result, Some}
use Rattle.std.proofs.Math.Path.{ap, subst}
use Rattle.std.proofs.Common.{◌∙◌, arith, length-drop, leb→le}
use Rattle.rows.specs.Format.{format, head_length, at_language, at_standard, most_tokens, meant}
use Rattle.rows.specs.Records.{RowToken, row, head, head_formed, head_with, records_from, kinds_of, words_of}
use Rattle.rows.specs.Laws.Tests.{by_if}
use Rattle.rows.specs.declared.head.Head.{Head}
use Rattle.reader.specs.Nodes.{Nodes, count, records}
use Rattle.type_name.specs.FileRow.{HeadRow, passes, on_pass, entry_outcome}
use Rattle.type_name.specs.Answers.{RowAnswer, accepted, row_answer, outcome, answer_in, answer, filled, buffer_in, final_buffer}
use Rattle.type_name.specs.Promises.{NotBelow}
use Rattle.type_name.specs.Laws.Fields.{one_head}
use Rattle.type_name.specs.Laws.FileRow.{row_fits}
use Rattle.type_name.specs.Laws.AcceptedRow.{RowAccepted, FileAccepted, row_stable}
use Rattle.type_name.specs.Laws.SameRecords.{records_same}

-- ---- a head that is read has all its bytes

abbrev LongHead : (file : List ℕ) → Result Head TypeNameError → Type 0
LongHead file (Err e) = Unit {0}
LongHead file (Ok h) = head_length ≤ length file

first_of : (a b c d : Bool) → T (not (not (a && b && c && d))) → T a
first_of true b c d t = tt
first_of false b c d t = absurd t

module _ (file : List ℕ) where
  with_long : (m : Option ℕ) → head_length ≤ length file → LongHead file (head_with format file m)
  unfolding head_with
  with_long None p = tt
  with_long (Some standard) p = p

  head_long : LongHead file (head format file)
  unfolding head head_formed
  head_long =
      by_if (LongHead file) (ltb format.file_limit (length file)) (λ _. tt) λ _.
      by_if (LongHead file) (not (head_formed format file)) (λ _. tt) λ t.
      with_long (meant format (get_or file at_language 0) (get_or file at_standard 0)) (leb→le head_length (length file) (first_of (leb head_length (length file)) _ _ _ t))

  formed_long : (h : Head) → head format file ≡ Ok h → head_length ≤ length file
  formed_long h e = subst (LongHead file) e head_long

-- ---- the other file's outcome

-- An entry that answers the other head alike answers the other file alike.
pub outcome_again : (answers : HeadRow → RowAnswer) (file file' before' : List ℕ) (ts : List RowToken) (x : Nodes) (steps : ℕ) → records_from format file most_tokens head_length ≡ row ts
    → (n : NotBelow file file' before' ts steps) → answers (record { the_head = n.head_of'; tokens = ts }) ≡ accepted x steps
    → entry_outcome format answers file' (length before') ≡ passes (accepted x steps)
unfolding on_pass
outcome_again answers file file' before' ts x steps is_row n alike =
    let long : head_length ≤ length file = formed_long file n.head_of n.formed in
    let long' : head_length ≤ length file' = formed_long file' n.head_of' n.formed' in
    let same : length file' ≡ length file = omega (arith, long, long', length-drop head_length file, length-drop head_length file', ap length n.same_records) in
    let same_row : records_from format file' most_tokens head_length ≡ row ts =
    records_same format file file' head_length n.same_records same most_tokens head_length (omega arith) ∙ is_row in
    rw (row_fits file' (length before') n.head_of' n.formed' same_row refl n.room, alike) refl

module _ (file file' before' : List ℕ) (ts : List RowToken) (x : Nodes) (steps : ℕ) (f : FileAccepted file ts x steps) (n : NotBelow file file' before' ts steps) where
  same_answer : row_answer (record { the_head = n.head_of'; tokens = ts }) ≡ accepted x steps
  unfolding row_answer
  same_answer =
      let r : RowAccepted n.head_of.language n.head_of.standard n.head_of.flag (kinds_of ts) (words_of ts) x steps =
      subst (λ (h : Head). RowAccepted h.language h.standard h.flag (kinds_of ts) (words_of ts) x steps)
      (one_head (head format file) f.head_of n.head_of f.formed n.formed) f.row_accepted in
      rw (n.same_language, n.same_flag)
      (row_stable n.head_of.language n.head_of.standard n.head_of'.standard n.head_of.flag (kinds_of ts) (words_of ts) n.head_of'.allowance x steps r
      n.same_or_later n.enough)

  pub comes_back : (answer file' (length before') ≡ accepted_with (count x) steps) × (final_buffer file' before' ≡ filled (length before') (records x))
  unfolding answer answer_in final_buffer buffer_in outcome
  comes_back =
      let again : outcome file' (length before') ≡ passes (accepted x steps) = outcome_again row_answer file file' before' ts x steps f.row_is n same_answer in
      (ap answer_in again, ap (buffer_in before') again)
