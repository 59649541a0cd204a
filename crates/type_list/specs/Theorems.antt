-- What is proved of the definitions, on one page: each theorem with what it means. The proofs are in Laws/ and in the crates below.
-- Assumes nothing.
use Rattle.type_list.specs.ListAnswer.{ListAnswer}
use Rattle.std.specs.Prelude.{ℕ, ◌<◌, ◌≡◌, ◌↔◌, List, length}
use Rattle.rows.specs.Format.{format}
use Rattle.rows.specs.Records.{RowToken}
use Rattle.type_name.specs.FileRow.{HeadRow, passes, file_row}
use Rattle.type_name.specs.Answers.{answer, final_buffer}
use Rattle.type_list.specs.Parts.{parts}
use Rattle.type_list.specs.Cutting.{CutInto}
use Rattle.type_list.specs.ListAnswers.{list_answer, list_buffer}
use Rattle.type_list.specs.ListPromises.{as_list, GivesCut, ListPromised}
use Rattle.type_list.specs.Laws.Cuts as Cuts
use Rattle.type_list.specs.Laws.AsRead as AsRead
use Rattle.type_list.specs.Laws.Promised as Promised

-- Whatever answer and buffer are the definition's keep all the promises: each part's tree and steps are those it would get alone, nodes and steps are
-- the sums, a tree begins exactly at a T of token 0, demand 3 holds of each part, the first part refused decides, 13 is never given.
pub promised : (file before : List ℕ) (a : ListAnswer) (after : List ℕ) → a ≡ list_answer file (length before) → after ≡ list_buffer file before → ListPromised file before a after
promised = Promised.list_promised

-- ---- the cutting

module _ (language : ℕ) where
  -- The parts and the commas between them, put together, are the row; every part before a cut is scanned without a fault and ends outside brackets at
  -- angle depth 0; no part has a comma there before its first fault.
  pub cut_into : (row : List RowToken) → CutInto language row (parts language row)
  cut_into = Cuts.parts_cut_into language

  -- Nothing else is such a cutting.
  pub one_cutting : (ps : List (List RowToken)) (row : List RowToken) → CutInto language row ps → parts language row ≡ ps
  one_cutting = Cuts.one_cutting language

  -- Every row has a part.
  pub some_part : (row : List RowToken) → 0 < length (parts language row)
  some_part = AsRead.some_part language

-- ---- beside the reading of one type name, of a file that passes 1 to 6

module _ (file : List ℕ) (room : ℕ) (r : HeadRow) (is_row : file_row format file room ≡ passes r) where
  -- `type_name_read` gives 13 exactly if the row has a cut.
  pub read_gives_cut : GivesCut file room ↔ (1 < length (parts r.the_head.language r.tokens))
  read_gives_cut = AsRead.read_gives_cut file room r is_row

  -- Otherwise answer, steps and buffer are its, with part 0.
  pub one_part : length (parts r.the_head.language r.tokens) ≡ 1 → list_answer file room ≡ as_list (answer file room)
  one_part = AsRead.one_part file room r is_row

  pub one_part_buffer : (before : List ℕ) → length before ≡ room → length (parts r.the_head.language r.tokens) ≡ 1 → list_buffer file before ≡ final_buffer file before
  one_part_buffer = AsRead.one_part_buffer file room r is_row
