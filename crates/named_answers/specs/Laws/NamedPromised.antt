-- What is promised of the entry follows from the answer and the buffer being the definition's.
-- Assumes nothing.
use Rattle.rows.specs.Answer.{accepted_with, refused_with, Answer}
use Rattle.std.specs.Prelude.{ℕ, ◌≤◌, ◌≡◌, Bool, List, length}
use Rattle.std.proofs.Common.{sym, subst, ◌∙◌, arith}
use Rattle.std.proofs.Math.Path.{ap}
use Rattle.rows.specs.Languages.{Cpp}
use Rattle.rows.specs.Format.{format, head_length, most_tokens}
use Rattle.rows.specs.Records.{RowToken, head, kinds_of}
use Rattle.rows.specs.Refusals.{refusal_of}
use Rattle.rows.specs.Laws.RowFacts.{GoodTokens, good_row}
use Rattle.rows.specs.declared.head.Head.{Head}
use Rattle.rows.specs.declared.answer.TypeNameError.{TypeNameError}
use Rattle.names.specs.NameList.{names_marked}
use Rattle.reader.specs.Nodes.{Nodes, count, records}
use Rattle.reader.specs.Reading.{MAX_NESTING_DEPTH}
use Rattle.reader.specs.Allowance.{steps}
use Rattle.reader.specs.Derivation.{RowDerived}
use Rattle.reader.specs.Standing.{depth}
use Rattle.reader.specs.Written.{written}
use Rattle.reader.specs.Laws.Tokens.{KindsKnown}
use Rattle.reader.specs.Laws.Bounds.{nesting}
use Rattle.reader.specs.Laws.WrittenOut.{kinds_in}
use Rattle.named_reader.specs.InOrder.{closes_two, in_order}
use Rattle.named_reader.specs.NamedReading.{start, named_reading}
use Rattle.named_reader.specs.Laws.RowLoop.{read_paced}
use Rattle.named_reader.specs.Laws.Sound.{no_lists}
use Rattle.named_reader.specs.Laws.InOrder.{in_own_order}
use Rattle.type_name.specs.FileRow.{HeadRow, Outcome, untouched, passes, on_pass, file_row}
use Rattle.type_name.specs.AnswerNumbers.{answer_numbers}
use Rattle.type_name.specs.Answers.{RowAnswer, accepted, refused, answer_in, filled, buffer_in}
use Rattle.type_name.specs.Promises.{AcceptedAs, BracketsOf, tokens_in, NotBelow}
use Rattle.type_name.specs.Laws.Fields.{bounds, one_head}
use Rattle.type_name.specs.Laws.FileRow.{Comes, file_comes}
use Rattle.type_name.specs.Laws.Refusals.{Refusals, file_refusals, answered_refusals, Behind, Apart, buffer_of}
use Rattle.type_name.specs.Laws.RowTokens.{kinds_known, worded, same_kinds}
use Rattle.type_name.specs.Laws.AcceptedRow.{AcceptedBy}
use Rattle.type_name.specs.Laws.Stable.{outcome_again}
use Rattle.type_name.specs.Laws.Promised.{tree_defined, held_tree, derived_brackets}
use Rattle.named_answers.specs.NamedAnswers.{named_answer, named_outcome, answer_named, buffer_named}
use Rattle.named_answers.specs.NamedPromises.{NamedAnswered, NamedBuffered, Given, of_file, of_names, of_prescan, too_deep, half_left, empty_or_open, spent, of_structure, of_profile, NamedPromised}
use Rattle.named_answers.specs.Laws.NamedRow.{OfRow, answer_given, NamedAccepted, named_accepted, named_later, row_read, is_derived}

-- ---- refusals

module _ (file names : List ℕ) (room : ℕ) where
  pub outcome_given : (e : TypeNameError) (m : ℕ) → answer_named file names room ≡ refused_with e m → Given e
  unfolding answer_named named_outcome
  outcome_given e m q =
      answered_refusals Given (named_outcome file names room)
      (file_refusals Given (named_answer names) file room (λ e c. of_file (bounds 1 6 e c).1) (λ r c. given (named_answer names r) (answer_given names r)))
      e m q
    where
      given : (a : RowAnswer) → Refusals OfRow a → Refusals Given a
      given (accepted x m) p = tt
      given (refused e m) p = p.0

  pub never_21_to_23 : (e : TypeNameError) (m : ℕ) → answer_named file names room ≡ refused_with e m → 21 ≤ (refusal_of e).number → (refusal_of e).number ≤ 23 → ⊥
  never_21_to_23 e m q low high = by (outcome_given e m q) low high
    where
      by : {e : TypeNameError} → Given e → 21 ≤ (refusal_of e).number → (refusal_of e).number ≤ 23 → ⊥
      by (of_file p) l h = omega (arith, p, l, h)
      by of_names l h = omega (arith, l, h)
      by (of_prescan p q) l h = omega (arith, q, l, h)
      by too_deep l h = omega (arith, l, h)
      by half_left l h = omega (arith, l, h)
      by empty_or_open l h = omega (arith, l, h)
      by spent l h = omega (arith, l, h)
      by of_structure l h = omega (arith, l, h)
      by (of_profile f) l h = omega (arith, l, h)

  -- Refusals up to 6 come before the row is read, the others after.
  outcome_apart : Apart (named_outcome file names room)
  unfolding named_outcome on_pass
  outcome_apart = by (file_row format file room) (file_comes file room)
    where
      behind : (a : RowAnswer) → Refusals OfRow a → Refusals Behind a
      behind (accepted x m) p = tt
      behind (refused e m) p = p.1

      by : (o : Outcome HeadRow) → Comes file room o → Apart (on_pass o λ r. passes (named_answer names r))
      by (untouched e) c = c
      by (passes r) c = behind (named_answer names r) (answer_given names r)

-- ---- steps

pub steps_in_reading : (named : List Bool) (kinds : List ℕ) → steps (named_reading named kinds) ≤ length kinds
unfolding named_reading start
steps_in_reading named kinds = omega (arith, (read_paced named 0 kinds start).at_most)

-- ---- accepted rows

module _ (names : List ℕ) (h : Head) (ts : List RowToken) (good : GoodTokens ts) {x : Nodes} {steps : ℕ} (r : NamedAccepted names h ts x steps) where
  derived : RowDerived (kinds_of ts) no_lists x
  derived = is_derived ts good (names_marked r.listing ts) r.checked.is_read

  nested : depth x ≤ MAX_NESTING_DEPTH
  nested = nesting (kinds_of ts) derived

  brackets : BracketsOf (kinds_of ts) x
  brackets =
      let d = row_read ts good (names_marked r.listing ts) r.checked.is_read in
      derived_brackets ts good derived Cpp d.scan d.scanned

  written_so : written (tokens_in ts) x ≡ in_order (closes_two x) 0 (tokens_in ts)
  written_so =
      let k : KindsKnown (kinds_in (tokens_in ts)) = rw (same_kinds ts) (kinds_known ts good) in
      in_own_order (tokens_in ts) (worded ts good) k (subst (λ (ks : List ℕ). RowDerived ks no_lists x) (sym (same_kinds ts)) derived)

module _ (file names file' before' : List ℕ) (ts : List RowToken) (x : Nodes) (steps : ℕ) (b : AcceptedBy (named_answer names) file ts x steps) (n : NotBelow file file' before' ts steps) where
  same_answer : named_answer names (record { the_head = n.head_of'; tokens = ts }) ≡ accepted x steps
  same_answer =
      let r : NamedAccepted names n.head_of ts x steps =
      subst (λ (h : Head). NamedAccepted names h ts x steps) (one_head (head format file) b.head_of n.head_of b.formed n.formed)
      (named_accepted names b.head_of ts b.answers_so) in
      named_later names n.head_of n.head_of' ts r n.same_language n.same_flag n.same_or_later n.enough

  comes_back : (answer_named file' names (length before') ≡ accepted_with (count x) steps) × (buffer_named file' names before' ≡ filled (length before') (records x))
  unfolding answer_named answer_in buffer_named buffer_in named_outcome
  comes_back =
      let again : named_outcome file' names (length before') ≡ passes (accepted x steps) = outcome_again (named_answer names) file file' before' ts x steps b.row_is n same_answer in
      (ap answer_in again, ap (buffer_in before') again)

-- ---- the contract

pub named_promised : (file names before : List ℕ) (a : Answer) (after : List ℕ) → NamedAnswered file names before a → NamedBuffered file names before after
    → NamedPromised file names before a after
unfolding answer_named buffer_named named_outcome
named_promised file names before a after answered buffered =
    let by : (ts : List RowToken) (x : Nodes) (steps : ℕ) → AcceptedAs file a after ts x steps → AcceptedBy (named_answer names) file ts x steps =
    held_tree (named_answer names) file before a after answered buffered in
    let good : (ts : List RowToken) (x : Nodes) (steps : ℕ) → AcceptedAs file a after ts x steps → GoodTokens ts = λ ts x steps p. good_row format file most_tokens head_length ts p.row_read in
    let held : (ts : List RowToken) (x : Nodes) (steps : ℕ) (p : AcceptedAs file a after ts x steps) → NamedAccepted names (by ts x steps p).head_of ts x steps =
    λ ts x steps p. named_accepted names (by ts x steps p).head_of ts (by ts x steps p).answers_so in
    record {
      answered = answered;
      numbered = ap answer_numbers answered;
      buffered = buffered;
      refused = λ e m q.
          record {
            given = outcome_given file names (length before) e m (sym answered ∙ q);
            buffer = rw buffered (buffer_of before (named_outcome file names (length before)) (outcome_apart file names (length before)) e m (sym answered ∙ q));
          };
      tree_defined = tree_defined (named_answer names) file before a after answered buffered;
      nested = λ ts x steps p. nested names (by ts x steps p).head_of ts (good ts x steps p) (held ts x steps p);
      brackets_paired = λ ts x steps p. brackets names (by ts x steps p).head_of ts (good ts x steps p) (held ts x steps p);
      written_in_order = λ ts x steps p. written_so names (by ts x steps p).head_of ts (good ts x steps p) (held ts x steps p);
      stable = λ ts x steps p file' before' n. comes_back file names file' before' ts x steps (by ts x steps p) n;
    }
