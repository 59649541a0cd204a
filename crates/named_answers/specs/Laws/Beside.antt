-- The entry beside the old one, and one name list beside another. Assumes nothing.
use Rattle.rows.specs.Answer.{refused_with}
use Rattle.std.specs.Prelude.{ℕ, ◌<◌, ◌≡◌, ◌≢◌, Bool, true, List, eqb}
use Rattle.std.proofs.Math.Path.{refl, ap}
use Rattle.std.proofs.Common.{subst, ◌∙◌, arith}
use Rattle.std.proofs.Math.Bool.{false}
use Rattle.rows.specs.Languages.{Cpp}
use Rattle.rows.specs.Format.{format, head_length, most_tokens}
use Rattle.rows.specs.Records.{RowToken, row, records_from, kinds_of, words_of}
use Rattle.rows.specs.Refusals.{refusal_of}
use Rattle.rows.specs.Laws.RowFacts.{GoodTokens, good_row}
use Rattle.rows.specs.Laws.Numbered.{Between}
use Rattle.rows.specs.Laws.Tests.{by_if}
use Rattle.rows.specs.declared.answer.TypeNameError.{TypeNameError}
use Rattle.names.specs.NameList.{listed, name_list, names_marked}
use Rattle.prescan.specs.Prescan.{Scanned, passed, prescan}
use Rattle.prescan.specs.Prescan
use Rattle.prescan.specs.Laws.Numbered.{prescan_numbered}
use Rattle.prescan.specs.Laws.Numbered
use Rattle.reader.specs.Nodes.{Nodes}
use Rattle.reader.specs.Reading.{Got, got, bad, refusal, no_list, reading}
use Rattle.reader.specs.Laws.Numbered.{reading_numbered}
use Rattle.reader.specs.Laws.Numbered as Read
use Rattle.named_reader.specs.NamedReading.{named_reading}
use Rattle.named_reader.specs.Laws.SameNames.{same_reading}
use Rattle.named_reader.specs.Laws.NoNames.{no_name_followed}
use Rattle.type_name.specs.FileRow.{HeadRow, Outcome, untouched, passes, on_pass, file_row, entry_outcome}
use Rattle.type_name.specs.Answers.{RowAnswer, refusal_of_fault, whole_row, tree_of, after_prescan, tree_checked, unlimited, answer_of, row_answer, outcome}
use Rattle.type_name.specs.Laws.Fields.{bounds}
use Rattle.type_name.specs.Laws.Refusals.{Refusals, checked_refusals, limited_refusals, answered_refusals}
use Rattle.type_name.specs.Laws.FileRow.{Has, Comes, file_comes}
use Rattle.type_name.specs.Laws.RowTokens.{kinds_known}
use Rattle.named_answers.specs.NamedAnswers.{named_tree, named_row, by_names, named_answer, named_outcome, answer_named}
use Rattle.named_answers.specs.NamedPromises.{NoneFollowed, ReadRight, SameNames}
use Rattle.named_answers.specs.Laws.NamedRow.{answers_so, same_tree}

-- Two entries that answer alike to a file's head and row answer alike to the file.
module _ (file : List ℕ) (room : ℕ) (first second : HeadRow → RowAnswer) (alike : (r : HeadRow) → Has file room r → first r ≡ second r) where
  by_row : (o : Outcome HeadRow) → Comes file room o → on_pass o (λ r. passes (first r)) ≡ on_pass o (λ r. passes (second r))
  unfolding on_pass
  by_row (untouched e) c = refl
  by_row (passes r) c = ap passes (alike r c)

  same_outcomes : entry_outcome format first file room ≡ entry_outcome format second file room
  same_outcomes = by_row (file_row format file room) (file_comes file room)

-- ---- one list of names beside another

module _ (ns ns' : List (List ℕ)) (ts : List RowToken) where
  same_named_tree : SameNames ns ts ns' → named_tree (names_marked ns ts) (kinds_of ts) ≡ named_tree (names_marked ns' ts) (kinds_of ts)
  unfolding named_tree
  same_named_tree agree =
      ap (λ (g : Got). after_prescan (kinds_of ts) g (prescan Cpp (kinds_of ts))) (same_reading (names_marked ns ts) (names_marked ns' ts) (kinds_of ts) agree)

module _ (file names names' : List ℕ) (ns ns' : List (List ℕ)) (is_listed : name_list names ≡ listed ns) (is_listed' : name_list names' ≡ listed ns')
    (agree : (ts : List RowToken) → records_from format file most_tokens head_length ≡ row ts → SameNames ns ts ns') where
  same_by_names : (r : HeadRow) → SameNames ns r.tokens ns' → by_names r (listed ns) ≡ by_names r (listed ns')
  unfolding by_names named_row
  same_by_names r a = rw (same_named_tree ns ns' r.tokens a) refl

  pub same_outcome : (room : ℕ) → named_outcome file names room ≡ named_outcome file names' room
  unfolding named_outcome named_answer
  same_outcome room = same_outcomes file room (named_answer names) (named_answer names') λ r h. rw (is_listed, is_listed', same_by_names r (agree r.tokens h.row_is)) refl

-- ---- no `<` behind a name

module _ (ns : List (List ℕ)) (ts : List RowToken) (good : GoodTokens ts) (none : NoneFollowed ns ts) where
  pub read_without_lists : named_reading (names_marked ns ts) (kinds_of ts) ≡ reading false (kinds_of ts)
  read_without_lists = no_name_followed (kinds_of ts) (kinds_known ts good) (names_marked ns ts) none

-- Neither 26 nor 27.
abbrev pub NotNew : TypeNameError → Type 0
NotNew e = ((refusal_of e).number ≢ 26) × ((refusal_of e).number ≢ 27)

not_new : (low high : ℕ) → high < 26 → (e : TypeNameError) → Between low high e → NotNew e
not_new low high p e b = (λ q. omega (arith, bounds low high e b, p, q), λ q. omega (arith, bounds low high e b, p, q))

module _ (kinds : List ℕ) where
  old_tree : (g : Got) → Read.Numbered g → Refusals NotNew (tree_of kinds g)
  unfolding tree_of refusal_of_fault
  old_tree (bad (refusal e) m) p = not_new 20 22 (omega arith) e p
  old_tree (bad no_list m) p = (λ q. omega (arith, q), λ q. omega (arith, q))
  old_tree (got x at half m) p = by_if (Refusals NotNew) (whole_row kinds at half) (λ _. tt) (λ _. (λ q. omega (arith, q), λ q. omega (arith, q)))

  old_prescan : (g : Got) → Read.Numbered g → (s : Scanned) → Numbered.Numbered s → Refusals NotNew (after_prescan kinds g s)
  unfolding after_prescan
  old_prescan g p (Prescan.refused e) n = not_new 10 18 (omega arith) e n
  old_prescan g p (passed s) n = old_tree g p

module _ (names : List ℕ) (r : HeadRow) (good : GoodTokens r.tokens) (ns : List (List ℕ)) (is_listed : name_list names ≡ listed ns) (none : NoneFollowed ns r.tokens) where
  abbrev kinds : List ℕ
  kinds = kinds_of r.tokens

  old_named_tree : Refusals NotNew (named_tree (names_marked ns r.tokens) kinds)
  unfolding named_tree
  old_named_tree = rw (read_without_lists ns r.tokens good none) (old_prescan kinds (reading false kinds) (reading_numbered false kinds) (prescan Cpp kinds) (prescan_numbered Cpp kinds))

  old_answer : Refusals NotNew (named_answer names r)
  unfolding named_answer by_names named_row
  old_answer =
      let o : RowAnswer = named_tree (names_marked ns r.tokens) kinds in
      let checked : RowAnswer = tree_checked Cpp r.the_head.standard r.the_head.flag kinds (words_of r.tokens) o in
      by_if (Refusals NotNew) (eqb r.the_head.language Cpp)
      (λ _. rw is_listed (limited_refusals NotNew (λ q. omega (arith, q), λ q. omega (arith, q)) r.the_head.allowance checked
      (checked_refusals NotNew (λ q. omega (arith, q), λ q. omega (arith, q)) (λ f. (λ q. omega (arith, q), λ q. omega (arith, q))) Cpp r.the_head.standard r.the_head.flag kinds
      (words_of r.tokens) o old_named_tree)))
      (λ _. (λ q. omega (arith, q), λ q. omega (arith, q)))

module _ (file names : List ℕ) (room : ℕ) (r : HeadRow) (is_row : file_row format file room ≡ passes r) (ns : List (List ℕ)) (is_listed : name_list names ≡ listed ns) where
  -- The row of a file is of good tokens.
  good : GoodTokens r.tokens
  good =
      let has : Has file room r = subst (Comes file room) is_row (file_comes file room) in
      good_row format file most_tokens head_length r.tokens has.row_is

  pub never_26_or_27 : NoneFollowed ns r.tokens → (e : TypeNameError) (m : ℕ) → answer_named file names room ≡ refused_with e m → NotNew e
  unfolding answer_named named_outcome on_pass
  never_26_or_27 none e m q = answered_refusals NotNew (named_outcome file names room) (rw is_row (old_answer names r good ns is_listed none)) e m q

  -- ---- where the old reading was right

  module _ (cpp : r.the_head.language ≡ Cpp) {x : Nodes} {at : ℕ} {half : Bool} {m : ℕ} (e : reading true (kinds_of r.tokens) ≡ got x at half m) (right : ReadRight ns r.tokens x) where
    pub as_the_old : named_outcome file names room ≡ outcome file room
    unfolding named_outcome outcome on_pass row_answer answer_of unlimited named_row
    as_the_old =
        let same = same_tree names ns is_listed r.tokens good e right in
        rw is_row (ap passes (answers_so names r.the_head r.tokens ns cpp is_listed ∙ rw (cpp, same) refl))
