-- Every list of bytes and every buffer has one answer, its number is one of document 01's, and a refused answer's buffer is as document 01 says.
-- (That there is one answer is in the types: `answer` and `final_buffer` are functions of the file and the buffer, defined everywhere.)
-- Assumes nothing.
use Rattle.rows.specs.Answer.{refused_with}
use Rattle.std.specs.Prelude.{ℕ, ◌≤◌, ◌≡◌, ◌⊎◌, List, [], ◌∷◌, length, T, eqb}
use Rattle.std.proofs.Common.{ap, inr, arith}
use Rattle.std.proofs.Math.Logic.{inl}
use Rattle.rows.specs.Notation.{◌is_one_of◌}
use Rattle.rows.specs.Languages.{Cpp}
use Rattle.rows.specs.Format.{format}
use Rattle.rows.specs.Records.{kinds_of, words_of}
use Rattle.rows.specs.Refusals.{refusal_of}
use Rattle.rows.specs.Laws.Tests.{by_if}
use Rattle.rows.specs.Laws.Numbered.{Between}
use Rattle.rows.specs.declared.answer.TypeNameError.{TypeNameError}
use Rattle.rows.specs.declared.answer.TypeNameError.TheVariants.{FileTooLong, InvalidHead, UnknownProfile, InvalidRecord, TooManyRecords, ShortBuffer, OffsetOver32Bits, Empty, UnexpectedClosingDelimiter, UnexpectedAngle, TopLevelComma, UnexpectedEndToken, UnclosedDelimiter, UnclosedAngle, MissingTypeWord, InvalidBoundaryToken, NestingLimitExceeded, UnterminatedGroup, MismatchedClosingDelimiter, UnexpectedTokenAfterTypeName, AllowancePassed, NoTypeName, NotAvailableInProfile, InvalidRuleTable, NoRuleMatches, InvalidNameList, ShiftWithoutList, EmptyOrUnclosedList}
use Rattle.prescan.specs.Prescan.{Scan, Scanned, passed, prescan}
use Rattle.prescan.specs.Prescan
use Rattle.prescan.specs.Laws.Numbered.{prescan_numbered}
use Rattle.prescan.specs.Laws.Numbered
use Rattle.reader.specs.Reading.{Got, got, bad, Fault, refusal, no_list, reading}
use Rattle.reader.specs.Laws.Numbered.{FaultNumbered, reading_numbered}
use Rattle.reader.specs.Laws.Numbered as Read
use Rattle.type_name.specs.FileRow.{HeadRow, Outcome, untouched, passes, on_pass, file_row}
use Rattle.type_name.specs.Answers.{RowAnswer, accepted, refused, refusal_of_fault, whole_row, tree_of, after_prescan, row_tree, tree_checked, unlimited, answer_within, answer_of, row_answer, outcome, answer_in, answer, final_buffer}
use Rattle.type_name.specs.Promises.{RefusedBuffer}
use Rattle.type_name.specs.Laws.Refusals.{Refusals, checked_refusals, limited_refusals, Apart, buffer_of}
use Rattle.type_name.specs.Laws.Fields.{is_refused, number_in, bounds, wider}
use Rattle.type_name.specs.Laws.FileRow.{Comes, file_comes}

-- ---- the numbers

-- The refusals of document 01's table, and document 02's new numbers.
abbrev pub numbers : List ℕ
numbers = 1 ∷ 2 ∷ 3 ∷ 4 ∷ 5 ∷ 6 ∷ 7 ∷ 8 ∷ 10 ∷ 11 ∷ 12 ∷ 13 ∷ 14 ∷ 15 ∷ 16 ∷ 17 ∷ 18 ∷ 20 ∷ 21 ∷ 22 ∷ 23 ∷ 25 ∷ 26 ∷ 27 ∷ 30 ∷ 40 ∷ 50 ∷ 51 ∷ []

pub listed : (e : TypeNameError) → T ((refusal_of e).number is_one_of numbers)
unfolding ◌is_one_of◌
listed FileTooLong = tt
listed InvalidHead = tt
listed UnknownProfile = tt
listed (InvalidRecord offset) = tt
listed TooManyRecords = tt
listed ShortBuffer = tt
listed OffsetOver32Bits = tt
listed Empty = tt
listed (UnexpectedClosingDelimiter expected actual token) = tt
listed (UnexpectedAngle token) = tt
listed (TopLevelComma token) = tt
listed (UnexpectedEndToken token) = tt
listed (UnclosedDelimiter delimiter token) = tt
listed (UnclosedAngle token) = tt
listed MissingTypeWord = tt
listed InvalidBoundaryToken = tt
listed NestingLimitExceeded = tt
listed UnterminatedGroup = tt
listed MismatchedClosingDelimiter = tt
listed UnexpectedTokenAfterTypeName = tt
listed AllowancePassed = tt
listed NoTypeName = tt
listed (NotAvailableInProfile feature) = tt
listed InvalidRuleTable = tt
listed NoRuleMatches = tt
listed InvalidNameList = tt
listed ShiftWithoutList = tt
listed EmptyOrUnclosedList = tt

-- ---- refusals up to 6 come before the row is read, the others after

-- A refusal with this number or a greater one, up to 40.
abbrev pub PlacedFrom : (low : ℕ) → RowAnswer → Type 0
PlacedFrom low = Refusals (λ e. Between low 40 e)

-- The same without 25: of an answer under an allowance that suffices.
abbrev pub UnspentFrom : (low : ℕ) → RowAnswer → Type 0
UnspentFrom low = Refusals (λ e. Between low 23 e ⊎ Between 30 40 e)

-- Of a row: from 10 on.
abbrev pub RowPlaced : RowAnswer → Type 0
RowPlaced = PlacedFrom 10

abbrev pub Unspent : RowAnswer → Type 0
Unspent = UnspentFrom 10

abbrev pub Placed : Outcome RowAnswer → Type 0
Placed (untouched e) = Between 1 6 e
Placed (passes a) = RowPlaced a

-- What comes after the prescan is refused from 20 on.
module _ (low : ℕ) (l : low ≤ 20) where
  in_table : (e : TypeNameError) → Between low 23 e ⊎ Between 30 40 e → Between low 40 e
  in_table e (inl q) = wider low 23 low 40 (omega arith) (omega arith) e q
  in_table e (inr q) = wider 30 40 low 40 (omega (arith, l)) (omega arith) e q

  unspent_placed : (a : RowAnswer) → UnspentFrom low a → PlacedFrom low a
  unspent_placed (accepted x m) p = tt
  unspent_placed (refused e m) p = in_table e p

  limited_placed : (allowance : ℕ) (a : RowAnswer) → UnspentFrom low a → PlacedFrom low (answer_within allowance a)
  limited_placed allowance a p = limited_refusals (λ e. Between low 40 e) (wider 25 25 low 40 (omega (arith, l)) (omega arith) AllowancePassed tt) allowance a (unspent_placed a p)

  fault_unspent : (e : Fault) (m : ℕ) → FaultNumbered e → UnspentFrom low (refused (refusal_of_fault e) m)
  unfolding refusal_of_fault
  fault_unspent (refusal e) m p = inl (wider 20 22 low 23 l (omega arith) e p)
  fault_unspent no_list m p = inl (wider 23 23 low 23 (omega (arith, l)) (omega arith) UnexpectedTokenAfterTypeName tt)

  tree_unspent : (kinds : List ℕ) (g : Got) → Read.Numbered g → UnspentFrom low (tree_of kinds g)
  unfolding tree_of
  tree_unspent kinds (bad e m) p = fault_unspent e m p
  tree_unspent kinds (got x at half m) p =
      by_if (UnspentFrom low) (whole_row kinds at half) (λ _. tt) (λ _. inl (wider 23 23 low 23 (omega (arith, l)) (omega arith) UnexpectedTokenAfterTypeName tt))

  checked_unspent : (language standard flag : ℕ) (kinds words : List ℕ) (a : RowAnswer) → UnspentFrom low a → UnspentFrom low (tree_checked language standard flag kinds words a)
  checked_unspent = checked_refusals (λ e. Between low 23 e ⊎ Between 30 40 e) (inr tt) (λ f. inr tt)

module _ (language standard flag : ℕ) (kinds words : List ℕ) where
  prescan_unspent : (r : Scanned) → Numbered.Numbered r → Unspent (after_prescan kinds (reading (eqb language Cpp) kinds) r)
  unfolding after_prescan
  prescan_unspent (Prescan.refused e) p = inl (wider 10 18 10 23 (omega arith) (omega arith) e p)
  prescan_unspent (passed s) p = tree_unspent 10 (omega arith) kinds (reading (eqb language Cpp) kinds) (reading_numbered (eqb language Cpp) kinds)

  pub unlimited_unspent : Unspent (unlimited language standard flag kinds words)
  unfolding unlimited row_tree
  unlimited_unspent =
      checked_unspent 10 (omega arith) language standard flag kinds words (row_tree language kinds) (prescan_unspent (prescan language kinds) (prescan_numbered language kinds))

  pub row_placed : (allowance : ℕ) → RowPlaced (answer_of language standard flag kinds words allowance)
  unfolding answer_of
  row_placed allowance = limited_placed 10 (omega arith) allowance (unlimited language standard flag kinds words) unlimited_unspent

  -- A row that passes the prescan is refused from 20 on.
  pub read_placed_from : (s : Scan) → prescan language kinds ≡ passed s → (allowance : ℕ) → PlacedFrom 20 (answer_of language standard flag kinds words allowance)
  unfolding answer_of unlimited row_tree after_prescan
  read_placed_from s q allowance =
      limited_placed 20 (omega arith) allowance (unlimited language standard flag kinds words)
      (checked_unspent 20 (omega arith) language standard flag kinds words (row_tree language kinds)
      (rw q (tree_unspent 20 (omega arith) kinds (reading (eqb language Cpp) kinds) (reading_numbered (eqb language Cpp) kinds))))

read_placed : (file : List ℕ) (room : ℕ) (o : Outcome HeadRow) → Comes file room o → Placed (on_pass o λ r. passes (row_answer r))
unfolding on_pass row_answer
read_placed file room (untouched e) c = c
read_placed file room (passes r) c =
    row_placed r.the_head.language r.the_head.standard r.the_head.flag (kinds_of r.tokens) (words_of r.tokens) r.the_head.allowance

pub outcome_placed : (file : List ℕ) (room : ℕ) → Placed (outcome file room)
unfolding outcome
outcome_placed file room = read_placed file room (file_row format file room) (file_comes file room)

-- ---- the buffer of a refused answer

apart : (o : Outcome RowAnswer) → Placed o → Apart o
apart (untouched e) p = p
apart (passes (accepted x m)) p = tt
apart (passes (refused e m)) p = omega (arith, bounds 10 40 e p)

pub refused_buffer : (file before : List ℕ) (e : TypeNameError) (m : ℕ) → answer file (length before) ≡ refused_with e m → RefusedBuffer before (final_buffer file before) e
unfolding answer final_buffer
refused_buffer file before e m q = buffer_of before (outcome file (length before)) (apart (outcome file (length before)) (outcome_placed file (length before))) e m q

-- ---- which numbers this entry gives

number_placed : (o : Outcome RowAnswer) → Placed o → (e : TypeNameError) (m : ℕ) → answer_in o ≡ refused_with e m → (refusal_of e).number ≤ 40
unfolding answer_in
number_placed (untouched e') p e m q = omega (arith, ap number_in q, bounds 1 6 e' p)
number_placed (passes (accepted x n)) p e m q =
    let clash : ◌≡◌ {A = ℕ} 0 1 = ap is_refused q in
    absurd (omega (arith, clash))
number_placed (passes (refused e' n)) p e m q = omega (arith, ap number_in q, bounds 10 40 e' p)

pub up_to_40 : (file : List ℕ) (room : ℕ) (e : TypeNameError) (m : ℕ) → answer file room ≡ refused_with e m → (refusal_of e).number ≤ 40
unfolding answer
up_to_40 file room e m q = number_placed (outcome file room) (outcome_placed file room) e m q
