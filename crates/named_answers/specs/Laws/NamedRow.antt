-- A row's answer where names are given: how its tree was read, which refusals it has, and what it depends on.
-- Assumes nothing.
use Prim.Native.Nat.{ℕ, zero, suc, ◌≤◌}
use Rattle.std.specs.Prelude.{◌≡◌, Bool, length, get_or, leb}
use Rattle.std.proofs.Math.Path.{refl, sym, ap}
use Rattle.std.proofs.Common.{subst, ◌∙◌, arith, leb→le}
use Rattle.std.proofs.Math.Bool.{true, false, true≢false}
use mathlib.Core.List.{List, [], ◌∷◌}
use borrow.Author.Tests.{eq-eqb}
use Rattle.std.proofs.Math.Dec.{T, eqb, eqb→eq}
use Rattle.rows.specs.Kinds.{Identifier}
use Rattle.rows.specs.Languages.{Cpp}
use Rattle.rows.specs.Records.{RowToken, kinds_of, words_of}
use Rattle.rows.specs.Laws.RowFacts.{GoodTokens}
use Rattle.rows.specs.Laws.Tests.{by_if}
use Rattle.rows.specs.declared.head.Head.{Head}
use Rattle.rows.specs.Format.{SameOrLater}
use Rattle.rows.specs.declared.answer.TypeNameError.{TypeNameError}
use Rattle.rows.specs.declared.answer.TypeNameError.TheVariants.{AllowancePassed}
use Rattle.names.specs.NameList.{is_name, NameList, listed, malformed, name_list, names_marked}
use Rattle.names.specs.Laws.Records.{no_word_no_name}
use Rattle.prescan.specs.Prescan.{Scan, Scanned, passed, prescan}
use Rattle.prescan.specs.Prescan
use Rattle.prescan.specs.Laws.Numbered.{prescan_numbered}
use Rattle.prescan.specs.Laws.Numbered
use Rattle.prescan.specs.Laws.Pairs.{prescan_pairs}
use Rattle.reader.specs.Nodes.{Nodes}
use Rattle.reader.specs.Reading.{Got, got, bad, refusal, no_list, kind_at, reading}
use Rattle.reader.specs.Derivation.{RowDerived}
use Rattle.reader.specs.Laws.Tokens.{KindsKnown}
use Rattle.reader.specs.Laws.Derived.{all_lists, row_derived}
use Rattle.reader.specs.Laws.Bounds.{nothing_left}
use Rattle.reader.specs.Laws.NodeNumbers.{place, in_count, said}
use Rattle.reader.specs.Laws.Strays.{tidy}
use Rattle.named_reader.specs.NamedReading.{named_reading}
use Rattle.named_reader.specs.Laws.Sound.{no_lists, named_derived, read_whole}
use Rattle.named_reader.specs.Laws.Prescanned.{Refuses, too_deep, alone, empty_or_over, refused_at}
use Rattle.named_reader.specs.Laws.AsBefore.{as_before}
use Rattle.type_name.specs.Answers.{RowAnswer, accepted, refused, refusal_of_fault, whole_row, tree_of, after_prescan, row_tree, tree_checked, row_steps, answer_within}
use Rattle.type_name.specs.Laws.RowTokens.{kinds_known}
use Rattle.type_name.specs.FileRow.{HeadRow}
use Rattle.type_name.specs.Laws.Fields.{bounds}
use Rattle.type_name.specs.Laws.Refusals.{Refusals, checked_refusals, limited_refusals, Behind}
use Rattle.type_name.specs.Laws.AcceptedRow.{ReadTo, tree_read, CheckedAs, CheckedComes, comes_of, checked_stable}
use Rattle.named_answers.specs.NamedAnswers.{named_tree, named_row, by_names, named_answer}
use Rattle.named_answers.specs.NamedPromises.{Given, of_prescan, spent, of_structure, of_profile, of_names, ReadRight}
use Rattle.named_answers.specs.NamedPromises as Promises

-- ---- the refusals

-- One of the entry's, and behind the buffer's.
abbrev pub OfRow : TypeNameError → Type 0
OfRow e = Given e × Behind e

module _ (named : List Bool) (kinds : List ℕ) where
  whole : {x : Nodes} {at : ℕ} {half : Bool} {m : ℕ} → named_reading named kinds ≡ got x at half m → whole_row kinds at half ≡ true
  unfolding whole_row
  whole {at = at} e =
      let n = read_whole named kinds e in
      rw (n.1, eq-eqb at (length kinds) n.0) refl

  given_of : {e : TypeNameError} → Refuses e → OfRow e
  given_of too_deep = (Promises.too_deep, omega arith)
  given_of alone = (Promises.half_left, omega arith)
  given_of empty_or_over = (Promises.empty_or_open, omega arith)

  tree_given : (s : Scan) → prescan Cpp kinds ≡ passed s → (g : Got) → named_reading named kinds ≡ g → Refusals OfRow (tree_of kinds g)
  unfolding tree_of refusal_of_fault
  tree_given s p (got x at half m) q = rw (whole q) tt
  tree_given s p (bad (refusal e) m) q = given_of (refused_at named kinds s p (refusal e) m q).number
  tree_given s p (bad no_list m) q = absurd (refused_at named kinds s p no_list m q)

  prescan_given : (r : Scanned) → Numbered.Numbered r → prescan Cpp kinds ≡ r → Refusals OfRow (after_prescan kinds (named_reading named kinds) r)
  unfolding after_prescan
  prescan_given (Prescan.refused e) p q = let b = bounds 10 18 e p in (of_prescan b.0 b.1, omega (arith, b))
  prescan_given (passed s) p q = tree_given s q (named_reading named kinds) refl

  row_given : (standard flag : ℕ) (words : List ℕ) (allowance : ℕ) → Refusals OfRow (named_row standard flag named kinds words allowance)
  unfolding named_row named_tree
  row_given standard flag words allowance =
      limited_refusals OfRow (spent, omega arith) allowance (tree_checked Cpp standard flag kinds words (named_tree named kinds))
      (checked_refusals OfRow (of_structure, omega arith) (λ f. (of_profile f, omega arith)) Cpp standard flag kinds words (named_tree named kinds)
      (prescan_given (prescan Cpp kinds) (prescan_numbered Cpp kinds) refl))

-- Every refusal of a head and a row is one of the entry's.
module _ (names : List ℕ) (r : HeadRow) where
  by_names_given : (l : NameList) → Refusals OfRow (by_names r l)
  unfolding by_names
  by_names_given malformed = (of_names, omega arith)
  by_names_given (listed ns) =
      row_given (names_marked ns r.tokens) (kinds_of r.tokens) r.the_head.standard r.the_head.flag (words_of r.tokens) r.the_head.allowance

  pub answer_given : Refusals OfRow (named_answer names r)
  unfolding named_answer
  answer_given = by_if (Refusals OfRow) (eqb r.the_head.language Cpp) (λ _. by_names_given (name_list names)) (λ _. (of_names, omega arith))

-- ---- how an accepted row was read

-- The language is C++, the names are listed, and every place let the row pass.
pub record NamedAccepted (names : List ℕ) (h : Head) (ts : List RowToken) (x : Nodes) (steps : ℕ) : Type 0 where
  pub cpp : h.language ≡ Cpp
  pub listing : List (List ℕ)
  pub is_listed : name_list names ≡ listed listing
  pub checked : CheckedAs (named_tree (names_marked listing ts) (kinds_of ts)) Cpp h.standard h.flag (kinds_of ts) (words_of ts) x steps

module _ (names : List ℕ) (h : Head) (ts : List RowToken) where
  abbrev AnswerComes : RowAnswer → Type 0
  AnswerComes (accepted x m) = NamedAccepted names h ts x m
  AnswerComes (refused e m) = Unit {0}

  abbrev the_row : HeadRow
  the_row = record { the_head = h; tokens = ts }

  module _ (cpp : h.language ≡ Cpp) where
    checked_comes : (ns : List (List ℕ)) → name_list names ≡ listed ns → (a : RowAnswer)
        → CheckedComes (named_tree (names_marked ns ts) (kinds_of ts)) Cpp h.standard h.flag (kinds_of ts) (words_of ts) a → AnswerComes a
    checked_comes ns l (accepted x m) c = record { cpp = cpp; listing = ns; is_listed = l; checked = c }
    checked_comes ns l (refused e m) c = tt

    by_names_comes : (l : NameList) → name_list names ≡ l → AnswerComes (by_names the_row l)
    unfolding by_names named_row
    by_names_comes malformed e = tt
    by_names_comes (listed ns) e =
        checked_comes ns e (by_names the_row (listed ns))
        (comes_of (named_tree (names_marked ns ts) (kinds_of ts)) Cpp h.standard h.flag (kinds_of ts) (words_of ts) h.allowance)

  answer_comes : AnswerComes (named_answer names the_row)
  unfolding named_answer
  answer_comes =
      by_if AnswerComes (eqb h.language Cpp) (λ t. by_names_comes (eqb→eq h.language Cpp t) (name_list names) refl) (λ _. tt)

  pub named_accepted : {x : Nodes} {steps : ℕ} → named_answer names the_row ≡ accepted x steps → NamedAccepted names h ts x steps
  named_accepted e = subst AnswerComes e answer_comes

  -- What is answered where the language is C++ and the names are listed.
  pub answers_so : (ns : List (List ℕ)) → h.language ≡ Cpp → name_list names ≡ listed ns
      → named_answer names the_row ≡ named_row h.standard h.flag (names_marked ns ts) (kinds_of ts) (words_of ts) h.allowance
  unfolding named_answer by_names
  answers_so ns cpp e = rw (eq-eqb h.language Cpp cpp, e) refl

-- It comes back under a head of the same language and flag, the same or a later standard, and an allowance that suffices,
pub named_later : (names : List ℕ) (h h' : Head) (ts : List RowToken) {x : Nodes} {steps : ℕ} → NamedAccepted names h ts x steps → h'.language ≡ h.language → h'.flag ≡ h.flag
    → SameOrLater h.standard h'.standard → steps ≤ h'.allowance → named_answer names (record { the_head = h'; tokens = ts }) ≡ accepted x steps
unfolding named_row
named_later names h h' ts {x} {steps} r same_language same_flag later enough =
    let o : RowAnswer = named_tree (names_marked r.listing ts) (kinds_of ts) in
    answers_so names h' ts r.listing (same_language ∙ r.cpp) r.is_listed
    ∙ rw same_flag (checked_stable o Cpp h.standard h.flag (kinds_of ts) (words_of ts) h'.standard h'.allowance x steps r.checked later enough)

-- and its own suffices.
within_steps : (allowance : ℕ) (a : RowAnswer) → row_steps (answer_within allowance a) ≤ allowance
unfolding answer_within row_steps
within_steps allowance a = by_if (λ (b : RowAnswer). row_steps b ≤ allowance) (leb (row_steps a) allowance) (λ t. leb→le (row_steps a) allowance t) (λ _. spent_all allowance)
  where
    spent_all : (n : ℕ) → row_steps (refused AllowancePassed n) ≤ n
    spent_all n = omega arith

pub steps_allowed : (names : List ℕ) (h : Head) (ts : List RowToken) {x : Nodes} {steps : ℕ} → named_answer names (record { the_head = h; tokens = ts }) ≡ accepted x steps → steps ≤ h.allowance
unfolding named_row row_steps
steps_allowed names h ts {x} {steps} e =
    let r = named_accepted names h ts e in
    let same = sym (answers_so names h ts r.listing r.cpp r.is_listed) ∙ e in
    subst (λ (a : RowAnswer). row_steps a ≤ h.allowance) same (within_steps h.allowance (tree_checked Cpp h.standard h.flag (kinds_of ts) (words_of ts) (named_tree (names_marked r.listing ts) (kinds_of ts))))

-- The tree of an accepted row is derived.
module _ (ts : List RowToken) (good : GoodTokens ts) (named : List Bool) {x : Nodes} {m : ℕ} (e : named_tree named (kinds_of ts) ≡ accepted x m) where
  pub row_read : ReadTo Cpp (kinds_of ts) (named_reading named (kinds_of ts)) x m
  unfolding named_tree
  row_read = tree_read Cpp (kinds_of ts) (named_reading named (kinds_of ts)) e

  pub is_derived : RowDerived (kinds_of ts) no_lists x
  is_derived = named_derived (kinds_of ts) named (kinds_known ts good) row_read.reads

-- ---- as before

-- A token that is a name is a word.
module _ (names : List ℕ) (ns : List (List ℕ)) (is_listed : name_list names ≡ listed ns) where
  pub named_words : (ts : List RowToken) → GoodTokens ts → (i : ℕ) → get_or (names_marked ns ts) i false ≡ true → kind_at (kinds_of ts) i ≡ Identifier
  unfolding kinds_of kind_at names_marked
  named_words [] g i e = absurd (true≢false (sym e))
  named_words (t ∷ ts) g zero e = by (eqb t.kind Identifier) refl
    where
      by : (b : Bool) → eqb t.kind Identifier ≡ b → t.kind ≡ Identifier
      by true q = eqb→eq t.kind Identifier (subst T (sym q) tt)
      by false q =
          let no_word : t.word ≡ [] = g.0.wordless (λ z. true≢false (sym (eq-eqb t.kind Identifier z) ∙ q)) in
          absurd (true≢false (sym e ∙ ap (is_name ns) no_word ∙ no_word_no_name names ns is_listed))
  named_words (t ∷ ts) g (suc i) e = named_words ts g.1 i e

  -- Where the old reading was right, this one comes to the same.
  pub same_tree : (ts : List RowToken) → GoodTokens ts → {x : Nodes} {at : ℕ} {half : Bool} {m : ℕ} → reading true (kinds_of ts) ≡ got x at half m → ReadRight ns ts x
      → named_tree (names_marked ns ts) (kinds_of ts) ≡ row_tree Cpp (kinds_of ts)
  unfolding named_tree row_tree after_prescan
  same_tree ts good {x} {at} {half} {m} e right = by (prescan Cpp (kinds_of ts)) refl
    where
      by : (r : Scanned) → prescan Cpp (kinds_of ts) ≡ r → after_prescan (kinds_of ts) (named_reading (names_marked ns ts) (kinds_of ts)) r ≡ after_prescan (kinds_of ts) (reading true (kinds_of ts)) r
      by (Prescan.refused f) p = refl
      by (passed s) p =
          let known : KindsKnown (kinds_of ts) = kinds_known ts good in
          let d : RowDerived (kinds_of ts) all_lists x = row_derived (kinds_of ts) true e in
          let ps = prescan_pairs Cpp (kinds_of ts) s p in
          let n = nothing_left (kinds_of ts) d known in
          let same : named_reading (names_marked ns ts) (kinds_of ts) ≡ got x (length (kinds_of ts)) false m =
          as_before (kinds_of ts) (names_marked ns ts) right.no_shift (named_words ts good) known e
          (record {
            no_try_failed = λ i b u. right.no_try_failed (place u) i (omega (arith, in_count u)) (said u).the_kind (said u).the_token;
            lists_named = λ i b u. right.lists_named (place u) i (omega (arith, in_count u)) (said u).the_kind (said u).the_token;
            tidy = tidy (kinds_of ts) known ps.0 ps.1 d;
          }) in
          ap (tree_of (kinds_of ts)) (same ∙ ap (λ (k : ℕ). got x k false m) (sym n.0) ∙ ap (λ (b : Bool). got x at b m) (sym n.1) ∙ sym e)
