-- From what the layers below say to the answer of a row whose template names are given. Assumes nothing.
use Rattle.rows.specs.Answer.{refused_with, Answer}
use Prim.Native.Nat.{ℕ, suc, ◌<◌}
use Rattle.std.specs.Prelude.{◌≡◌, ◌≢◌, Bool, true, take, Result, Err}
use Rattle.std.proofs.Math.Path.{refl, ap, subst}
use Rattle.std.proofs.Common.{sym, ◌∙◌, arith, eq-eqb, ne_eqb}
use Rattle.std.proofs.Math.Bool.{false}
use mathlib.Core.List.{List}
use Rattle.std.proofs.Math.ListN.{length, get_or, length-map}
use Rattle.rows.specs.Kinds.{Less}
use Rattle.rows.specs.Languages.{Cpp}
use Rattle.rows.specs.Format.{format, head_length, most_tokens}
use Rattle.rows.specs.Records.{RowToken, kinds_of, words_of}
use Rattle.rows.specs.Laws.RowFacts.{good_row}
use Rattle.rows.specs.declared.head.Head.{Head}
use Rattle.rows.specs.declared.answer.TypeNameError.{TypeNameError}
use Rattle.rows.specs.declared.answer.TypeNameError.TheVariants.{InvalidNameList}
use Rattle.names.specs.NameList.{listed, malformed, name_list, names_marked}
use Rattle.prescan.specs.Prescan.{Scan, passed, prescan}
use Rattle.prescan.specs.Prescan
use Rattle.reader.specs.Reading.{Got, kind_at}
use Rattle.reader.specs.ReaderSays.{Parses, refused_unread}
use Rattle.reader.specs.Laws.Tokens.{KindsKnown, inside, kind_in}
use Rattle.reader.specs.declared.parser.Tree.{Tree}
use Rattle.reader.specs.declared.parser.ParseError.{ParseError}
use Rattle.named_reader.specs.NamedReading.{named_reading}
use Rattle.named_reader.specs.Laws.Sound.{named_derived}
use Rattle.named_reader.specs.Laws.SameNames.{same_reading}
use Rattle.type_name.specs.FileRow.{untouched, file_row, on_pass}
use Rattle.type_name.specs.Answers.{RowAnswer, refused, after_prescan, answer_in, buffer_in}
use Rattle.type_name.specs.EntrySays.{TreeSays, CheckSays, row_checked, ReadsRow, FileRowTaken, TreeFits, settled}
use Rattle.type_name.specs.Laws.Entry.{tree_refused, tree_parsed}
use Rattle.type_name.specs.Laws.EntryFile.{row_ready}
use Rattle.type_name.specs.Laws.FileRow.{Has, Comes, file_comes}
use Rattle.type_name.specs.Laws.FinalBuffer.{told_fits, told_settled}
use Rattle.type_name.specs.Laws.RowTokens.{kinds_known}
use Rattle.named_answers.specs.NamedAnswers.{named_tree, named_row, by_names, named_answer, named_outcome, answer_named, buffer_named}
use Rattle.named_answers.specs.NamedAnswersSay.{NamesTold, FindsNames, RowIn, RowHeld, due, ReadsNamed, AnswersNamed}

-- ---- the row's tree

module _ (named : List Bool) (al : ℕ) (kinds : List ℕ) where
  pub named_refused : {e : TypeNameError} {tree : List ℕ} → prescan Cpp kinds ≡ Prescan.refused e → TreeSays kinds al (named_tree named kinds) (Err (refused_unread e)) tree
  unfolding named_tree
  named_refused q = tree_refused Cpp al kinds (named_reading named kinds) q

  pub named_parsed : KindsKnown kinds → (t : Scan) × (prescan Cpp kinds ≡ passed t) → {r : Result Tree ParseError} {tree : List ℕ} → Parses kinds al (named_reading named kinds) r tree
      → TreeSays kinds al (named_tree named kinds) r tree
  unfolding named_tree
  named_parsed known t h = tree_parsed Cpp al kinds (named_reading named kinds) (λ x a k m e. named_derived kinds named known e) t h

-- ---- the row's answer

module _ {file kinds words : List ℕ} {ts : List RowToken} (r : RowIn file ts kinds words) where
  pub row_known : KindsKnown kinds
  row_known = subst KindsKnown (sym r.of_row.kinds_are) (kinds_known ts (good_row format file most_tokens head_length ts r.of_row.row_is))

  -- The marks are the names' where the reading looks.
  marked_tree : (marks : List Bool) (ns : List (List ℕ)) → ((i : ℕ) → suc i < length ts → get_or kinds (suc i) 0 ≡ Less → get_or marks i false ≡ get_or (names_marked ns ts) i false)
      → named_tree marks kinds ≡ named_tree (names_marked ns ts) (kinds_of ts)
  unfolding named_tree kinds_of
  marked_tree marks ns m =
      let agree : (i : ℕ) → kind_at kinds (suc i) ≡ Less → get_or marks i false ≡ get_or (names_marked ns ts) i false =
      λ i e.
      let lt : suc i < length kinds = inside kinds (suc i) (omega (arith, e)) in
      let long : length kinds ≡ length ts = ap length r.of_row.kinds_are ∙ length-map ts (λ (t : RowToken). t.kind) in
      m i (omega (arith, lt, long)) (kind_in kinds (suc i) lt ∙ e) in
      ap (λ (g : Got). after_prescan kinds g (prescan Cpp kinds)) (same_reading marks (names_marked ns ts) kinds agree)
      ∙ ap (λ (ks : List ℕ). named_tree (names_marked ns ts) ks) r.of_row.kinds_are

module _ (h : Head) (file kinds words names : List ℕ) where
  refused_here : {tree : List ℕ} (ts : List RowToken) → due h names ts ≡ refused InvalidNameList 0 → ReadsRow (due h names ts) (refused_with InvalidNameList 0) tree
  unfolding answer_in
  refused_here {tree} ts e = subst (λ (o : RowAnswer). ReadsRow o (refused_with InvalidNameList 0) tree) (sym e) (record { answered = refl; in_front = tt })

  -- The language is not C++,
  pub other_language : {tree : List ℕ} → h.language ≢ Cpp → ReadsNamed h file kinds words names (refused_with InvalidNameList 0) tree
  unfolding named_answer
  other_language q = record { says = λ ts r. refused_here ts (rw (ne_eqb h.language Cpp q) refl) }

  module _ (cpp : h.language ≡ Cpp) where
    -- the name list is malformed,
    pub names_malformed : {marks : List Bool} {b : Bool} {tree : List ℕ} → b ≡ false → FindsNames file kinds names marks b
        → ReadsNamed h file kinds words names (refused_with InvalidNameList 0) tree
    unfolding named_answer by_names
    names_malformed {marks} e f =
        let m : name_list names ≡ malformed = subst (NamesTold file kinds names marks) e f.told in
        record { says = λ ts r. refused_here ts (rw (eq-eqb h.language Cpp cpp, m) refl) }

    -- What is due of a row where the names are listed.
    due_is : (ts : List RowToken) (ns : List (List ℕ)) → name_list names ≡ listed ns
        → row_checked h (kinds_of ts) (words_of ts) (named_tree (names_marked ns ts) (kinds_of ts)) ≡ due h names ts
    unfolding named_answer by_names named_row
    due_is ts ns e = rw (cpp, e) refl

    -- or the row is checked.
    pub names_checked : {marks : List Bool} {b : Bool} {tree : List ℕ} {p : Result Tree ParseError} {a : Answer} → b ≡ true → FindsNames file kinds names marks b
        → TreeSays kinds h.allowance (named_tree marks kinds) p tree → CheckSays h kinds words p tree a → ReadsNamed h file kinds words names a tree
    names_checked {marks} {tree = tree} {a = a} e f t c =
        let told = subst (NamesTold file kinds names marks) e f.told in
        record {
          says = λ ts r.
              let o : RowAnswer = named_tree (names_marked told.0 ts) (kinds_of ts) in
              subst (λ (o : RowAnswer). ReadsRow o a tree)
              (ap (row_checked h kinds words) (marked_tree r marks told.0 (told.2 ts r.of_row))
              ∙ ap (λ (ks : List ℕ). row_checked h ks words o) r.of_row.kinds_are
              ∙ ap (λ (ws : List ℕ). row_checked h (kinds_of ts) ws o) r.words_are
              ∙ due_is ts told.0 told.1)
              (c.says (named_tree marks kinds) t);
        }

-- ---- the buffer, and the file

module _ {h : Head} {file kinds words names before : List ℕ} where
  -- The row's answer fits the buffer, and what the buffer holds in the end is the definition's.
  pub named_settles : {a : Answer} {tree after : List ℕ} → RowHeld file kinds words before → ReadsNamed h file kinds words names a tree → length tree ≡ length before
      → after ≡ settled tree a → AnswersNamed h file kinds words names before a after
  named_settles {a} {tree} {after} held r long e = record {
    answered = λ ts i. (r.says ts i).answered;
    buffered = λ ts i. told_settled (r.says ts i) before long e;
  }

  pub named_fits : {a : Answer} {tree : List ℕ} → RowHeld file kinds words before → ReadsNamed h file kinds words names a tree → TreeFits a tree
  named_fits held r = told_fits (r.says held.tokens held.row_in)

module _ (file names before : List ℕ) where
  pub untouched_answer : {e : TypeNameError} → file_row format file (length before) ≡ untouched e → refused_with e 0 ≡ answer_named file names (length before)
  unfolding answer_named answer_in named_outcome on_pass
  untouched_answer q = rw q refl

  pub untouched_buffer : {e : TypeNameError} → file_row format file (length before) ≡ untouched e → before ≡ buffer_named file names before
  unfolding buffer_named buffer_in named_outcome on_pass
  untouched_buffer q = rw q refl

  module _ {h : Head} {n : ℕ} {kinds words : List ℕ} (r : FileRowTaken file (length before) h n kinds words) where
    pub taken_in : RowIn file r.taken (take n kinds) (take n words)
    taken_in =
        let has : Has file (length before) (record { the_head = h; tokens = r.taken }) = subst (Comes file (length before)) r.is (file_comes file (length before)) in
        record { of_row = record { row_is = has.row_is; kinds_are = r.kinds_in }; words_are = r.words_in }

    pub taken_held : RowHeld file (take n kinds) (take n words) before
    taken_held = record { ready = row_ready r refl; tokens = r.taken; row_in = taken_in }

    pub taken_answer : {a : Answer} {after : List ℕ} → AnswersNamed h file (take n kinds) (take n words) names before a after → a ≡ answer_named file names (length before)
    unfolding answer_named named_outcome on_pass
    taken_answer s = s.answered r.taken taken_in ∙ rw r.is refl

    pub taken_buffer : {a : Answer} {after : List ℕ} → AnswersNamed h file (take n kinds) (take n words) names before a after → after ≡ buffer_named file names before
    unfolding buffer_named named_outcome on_pass
    taken_buffer s = s.buffered r.taken taken_in ∙ rw r.is refl
