-- From what the parts come to to the answer of a file and its final buffer. Assumes nothing.
use Rattle.type_list.specs.ListAnswer.{list_refuses, ListAnswer, no_part}
use Rattle.std.specs.Prelude.{ℕ, ◌*◌, ◌≡◌, List, [], ◌∷◌, take}
use Rattle.std.proofs.Math.Path.{refl, ap}
use Rattle.std.proofs.Common.{sym, ◌∙◌, arith, length-append}
use Rattle.std.proofs.Math.Nat.{sub-zero}
use Rattle.std.proofs.Math.ListN.{length, length-take}
use Rattle.rows.specs.Format.{format}
use Rattle.rows.specs.declared.answer.TypeNameError.{TypeNameError}
use Rattle.rows.specs.declared.head.Head.{Head}
use Rattle.reader.specs.Nodes.{Nodes, node_width, records}
use Rattle.reader.specs.Laws.NodeNumbers.{three_each}
use Rattle.type_name.specs.FileRow.{passes, untouched, on_pass, file_row}
use Rattle.type_name.specs.Answers.{filled}
use Rattle.type_name.specs.EntrySays.{TreeFits, settled, FileRowTaken}
use Rattle.type_list.specs.ListAnswers.{PartsAnswer, accepted, refused, row_parts_answer, list_outcome, list_answer_in, list_answer, list_buffer_in, list_buffer, nodes_in_all, records_in_all}
use Rattle.type_list.specs.ListSays.{PartsInFront, PartsRead, answer_to, TokensOf, as_one, ListTold}

-- Three numbers a node.
pub three_in_all : (xs : List Nodes) → length (records_in_all xs) ≡ node_width * nodes_in_all xs
unfolding records_in_all nodes_in_all
three_in_all [] = refl
three_in_all (x ∷ xs) = omega (arith, length-append (records x) (records_in_all xs), three_each x, three_in_all xs)

module _ (tree : List ℕ) where
  parts_fit : (o : PartsAnswer) → PartsInFront o tree → TreeFits (as_one (list_answer_in (passes o))) tree
  unfolding list_answer_in
  parts_fit (accepted xs m) w =
      let k = node_width * nodes_in_all xs in
      let long : length (take k tree) ≡ k = ap length w ∙ three_in_all xs in
      omega (arith, long, length-take k tree)
  parts_fit (refused e m part) w = tt

  parts_settled : (o : PartsAnswer) (before : List ℕ) → PartsInFront o tree → length tree ≡ length before
      → settled tree (as_one (list_answer_in (passes o))) ≡ list_buffer_in before (passes o)
  unfolding list_answer_in list_buffer_in filled
  parts_settled (accepted xs m) before w e = rw (w, e, three_in_all xs) refl
  parts_settled (refused e m part) before w q = rw (q, sub-zero (length before)) refl

module _ {o : PartsAnswer} {a : ListAnswer} {tree : List ℕ} (r : PartsRead o a tree) where
  pub list_fits : TreeFits (as_one a) tree
  list_fits = rw r.answered (parts_fit tree o r.in_front)

  pub list_settled : (before : List ℕ) {after : List ℕ} → length tree ≡ length before → after ≡ settled tree (as_one a) → after ≡ list_buffer_in before (passes o)
  list_settled before e q = q ∙ ap (λ (b : ListAnswer). settled tree (as_one b)) r.answered ∙ parts_settled tree o before r.in_front e

-- ---- a file

module _ (file before : List ℕ) where
  pub untouched_answer : {e : TypeNameError} → file_row format file (length before) ≡ untouched e
      → (list_refuses e 0 no_part ≡ list_answer file (length before)) × (before ≡ list_buffer file before)
  unfolding list_answer list_answer_in list_buffer list_buffer_in list_outcome on_pass
  untouched_answer q = (rw q refl, rw q refl)

  module _ {h : Head} {n : ℕ} {kinds words : List ℕ} (r : FileRowTaken file (length before) h n kinds words) where
    pub of_row : TokensOf r.taken (take n kinds) (take n words)
    of_row = record { have_kinds = sym r.kinds_in; have_words = sym r.words_in }

    comes : list_outcome file (length before) ≡ passes (answer_to h r.taken)
    unfolding list_outcome on_pass row_parts_answer
    comes = rw r.is refl

    pub row_told : {a : ListAnswer} {after : List ℕ} → ListTold h (take n kinds) (take n words) before a after → (a ≡ list_answer file (length before)) × (after ≡ list_buffer file before)
    unfolding list_answer list_buffer
    row_told t = (t.answered r.taken of_row ∙ ap list_answer_in (sym comes), t.buffered r.taken of_row ∙ ap (list_buffer_in before) (sym comes))
