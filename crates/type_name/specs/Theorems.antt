-- What is proved of the definitions, on one page: each theorem with what it means. The proofs are in Laws/ and in the crates below.
-- Assumes nothing.
use Rattle.rows.specs.Answer.{refused_with, Answer}
use Rattle.std.specs.Prelude.{ℕ, ◌≤◌, ◌≡◌, Bool, false, List, [], length, T}
use Rattle.rows.specs.Notation.{◌is_one_of◌}
use Rattle.rows.specs.Format.{SameOrLater}
use Rattle.rows.specs.Kinds.{LeftParen, LeftBracket, ShiftRight}
use Rattle.rows.specs.Refusals.{refusal_of}
use Rattle.rows.specs.declared.answer.TypeNameError.{TypeNameError}
use Rattle.rows.specs.declared.answer.TypeNameError.TheVariants.{AllowancePassed}
use Rattle.prescan.specs.Matcher.{Pair, Paired}
use Rattle.prescan.specs.Prescan.{Scan, passed, prescan}
use Rattle.prescan.specs.Laws.Pairs.{prescan_pairs}
use Rattle.reader.specs.Nodes.{Nodes, g_node, b_node}
use Rattle.reader.specs.Reading.{MAX_NESTING_DEPTH, got, reading}
use Rattle.reader.specs.Standing.{depth, tokens_of, tokens_of_kind}
use Rattle.reader.specs.Written.{Token, written, halved, closing_angles, without_closing_angles}
use Rattle.reader.specs.Laws.Tokens.{KindsKnown}
use Rattle.reader.specs.Laws.Derived.{row_derived}
use Rattle.reader.specs.Laws.Bounds as Bounds
use Rattle.reader.specs.Laws.Openers as Openers
use Rattle.reader.specs.Laws.WrittenOut.{kinds_in, Worded}
use Rattle.reader.specs.Laws.WrittenOut as Writing
use Rattle.type_name.specs.Answers.{accepted, answer_of, answer, final_buffer}
use Rattle.type_name.specs.Promises.{Answered, Buffered, RefusedBuffer, Promised}
use Rattle.type_name.specs.StarredRows.{StarredRows}
use Rattle.type_name.specs.StarredRows
use Rattle.type_name.specs.Laws.Promised as Laws
use Rattle.type_name.specs.Laws.Total.{numbers}
use Rattle.type_name.specs.Laws.Total
use Rattle.type_name.specs.Laws.OnlyThen.{Spent}
use Rattle.type_name.specs.Laws.OnlyThen
use Rattle.type_name.specs.Laws.NotLeftOver
use Rattle.type_name.specs.Laws.AcceptedRow.{RowAccepted}
use Rattle.type_name.specs.Laws.AcceptedRow
use Rattle.type_name.specs.Laws.ShutOut.{Reader, Meets, TurnsDown, OneTree, LeavesUnwritten, CopiesFlat, ReportsAtOnce, ReportsEarly, InventsSteps, NoLists}
use Rattle.type_name.specs.Laws.ShutOut

-- ---- the demands

-- Whatever answer and buffer are the definition's keep all the promises: the three demands follow from two equations.
pub promised : (file before : List ℕ) (a : Answer) (after : List ℕ) → Answered file before a → Buffered file before after → Promised file before a after
promised = Laws.promised

-- The rows that document 01 works out and marks with a star come out as it says.
pub starred_rows : StarredRows
starred_rows = StarredRows.starred_rows

-- ---- total: every file and every buffer has one answer, since `answer` and `final_buffer` are functions of them

-- Every refusal has a number of document 01's table or one of document 02's new ones, which this entry does not give,
pub listed : (e : TypeNameError) → T ((refusal_of e).number is_one_of numbers)
listed = Total.listed

pub up_to_40 : (file : List ℕ) (room : ℕ) (e : TypeNameError) (m : ℕ) → answer file room ≡ refused_with e m → (refusal_of e).number ≤ 40
up_to_40 = Total.up_to_40

-- "Refusals 1 to 6 don't touch the tree buffer; all others fill it with zeros",
pub refused_buffer : (file before : List ℕ) (e : TypeNameError) (m : ℕ) → answer file (length before) ≡ refused_with e m → RefusedBuffer before (final_buffer file before) e
refused_buffer = Total.refused_buffer

-- "25 step count would pass the allowance, and only then": where 25 is answered, the row's steps pass the file's allowance,
pub only_then : (file : List ℕ) (room m : ℕ) → answer file room ≡ refused_with AllowancePassed m → Spent file m
only_then = OnlyThen.only_then

-- and 23 is never answered.
pub never_23 : (file : List ℕ) (room : ℕ) (e : TypeNameError) (m : ℕ) → answer file room ≡ refused_with e m → (refusal_of e).number ≡ 23 → ⊥
never_23 = NotLeftOver.never_23

-- ---- a row that is read, of tokens whose kinds are known

-- The prescan passes only rows all of whose brackets the plain matcher pairs.
pub brackets_paired : (language : ℕ) (kinds : List ℕ) (s : Scan) → prescan language kinds ≡ passed s → (pairs : List Pair) × Paired kinds pairs
brackets_paired = prescan_pairs

module _ (kinds : List ℕ) (known : KindsKnown kinds) (cpp : Bool) {x : Nodes} {at : ℕ} {half : Bool} {m : ℕ} (e : reading cpp kinds ≡ got x at half m) where
  -- Nothing is left over.
  pub nothing_left : (at ≡ length kinds) × (half ≡ false)
  nothing_left = Bounds.nothing_left kinds (row_derived kinds cpp e) known

  -- "Groups and lists nest to 64."
  pub nesting : depth x ≤ MAX_NESTING_DEPTH
  nesting = Bounds.nesting kinds (row_derived kinds cpp e)

  -- "Every `(` has exactly one G, every `[` exactly one B, no other G or B stands in the tree."
  pub one_g_each : tokens_of g_node x ≡ tokens_of_kind LeftParen 0 kinds
  one_g_each = Openers.one_g_each kinds known (row_derived kinds cpp e)

  pub one_b_each : tokens_of b_node x ≡ tokens_of_kind LeftBracket 0 kinds
  one_b_each = Openers.one_b_each kinds known (row_derived kinds cpp e)

module _ (row : List Token) (worded : Worded row) (known : KindsKnown (kinds_in row)) (cpp : Bool) {x : Nodes} {at : ℕ} {half : Bool} {m : ℕ}
    (e : reading cpp (kinds_in row) ≡ got x at half m) where
  -- "The tree written out and the row, each `>>` in both taken as two `>`, have `>` equally often,
  pub closing_angles_as_often : closing_angles (halved (written row x)) ≡ closing_angles (halved row)
  closing_angles_as_often = Writing.closing_angles_as_often row worded known (row_derived (kinds_in row) cpp e)

  -- are the same list once every `>` is left out,
  pub else_same : without_closing_angles (halved (written row x)) ≡ without_closing_angles (halved row)
  else_same = Writing.else_same row worded known (row_derived (kinds_in row) cpp e)

  -- and are the same list throughout if the row has no `>>`."
  pub same_throughout : tokens_of_kind ShiftRight 0 (kinds_in row) ≡ [] → written row x ≡ row
  same_throughout = Writing.same_throughout row worded known (row_derived (kinds_in row) cpp e)

-- "The same tree, node count and steps come back under every allowance not below those steps, together with the same or any later standard."
pub stable : (language standard standard' flag : ℕ) (kinds words : List ℕ) (allowance : ℕ) (x : Nodes) (steps : ℕ) → RowAccepted language standard flag kinds words x steps
    → SameOrLater standard standard' → steps ≤ allowance → answer_of language standard' flag kinds words allowance ≡ accepted x steps
stable = AcceptedRow.row_stable

-- ---- what the contract shuts out: document 01, "What the contracts say of rows", c

module _ (r : Reader) (m : Meets r) where
  -- "the reader that turns every row down",
  pub turns_not_every_row_down : TurnsDown r → ⊥
  turns_not_every_row_down = ShutOut.turns_not_every_row_down r m

  -- "the one that returns one tree for all rows",
  pub not_one_tree : OneTree r → ⊥
  not_one_tree = ShutOut.not_one_tree r m

  -- "the one that leaves the buffer unwritten",
  pub leaves_not_unwritten : LeavesUnwritten r → ⊥
  leaves_not_unwritten = ShutOut.leaves_not_unwritten r m

  -- "the one that reads the first token and copies the rest flat",
  pub copies_not_flat : CopiesFlat r → ⊥
  copies_not_flat = ShutOut.copies_not_flat r m

  -- "the one that reports 25 before any step", or early at all,
  pub reports_not_at_once : ReportsAtOnce r → ⊥
  reports_not_at_once = ShutOut.reports_not_at_once r m

  pub reports_not_early : ReportsEarly r → ⊥
  reports_not_early = ShutOut.reports_not_early r m

  -- "an invented count",
  pub invents_no_steps : InventsSteps r → ⊥
  invents_no_steps = ShutOut.invents_no_steps r m

  -- "a copy with groups and no lists".
  pub not_without_lists : NoLists r → ⊥
  not_without_lists = ShutOut.not_without_lists r m
