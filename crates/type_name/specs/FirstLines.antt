-- An answer as the program `listing` prints it in its first line, and a row's line computed: what the examples below the definitions are stated with.
-- Assumes nothing.
use Rattle.rows.specs.Answer.{Answer}
use Rattle.std.specs.Prelude.{ℕ, List, map, Err, Ok}
use Rattle.rows.specs.Refusals.{refusal_of}
use Rattle.rows.specs.Words.{word_number}
use Rattle.structure.specs.Syntax.{validate_structured_syntax}
use Rattle.profile.specs.Profile.{missing_feature}
use Rattle.rows.specs.Format.{meant, declared, stands_for}
use Rattle.rows.specs.Records.{head, head_formed, head_with, little_endian, records_from, to_end, tokens_from, after_record, found, well_formed, length_fits, word_fits, word_at, span_end_at, span_start_at, kind_at, length_at, in_range, before_tokens}
use Rattle.rows.specs.declared.answer.TypeNameError.{TypeNameError}
use Rattle.prescan.specs.Prescan.{prescan}
use Rattle.reader.specs.Nodes.{count, records}
use Rattle.reader.specs.Reading.{reading, kind_at as kind_of_row_at}
use Rattle.reader.specs.Written.{Token}
use Rattle.type_name.specs.Answers.{RowAnswer, accepted, refused, on_tree, unlimited, answer, final_buffer}

-- Document 01, `listing`: "first line nodes and steps"; "number, token, detail, steps".
pub data FirstLine : Type 0 where
  ok : (nodes steps : ℕ) → FirstLine
  refuses : (number token detail steps : ℕ) → FirstLine

-- "`no 30 65535 0 14` (number, token, detail, steps)".
abbrev pub refusal_first_line : TypeNameError → (steps : ℕ) → FirstLine
refusal_first_line e m = refuses (refusal_of e).number (refusal_of e).token (refusal_of e).detail m

-- `listing`'s first line for a row's answer.
unfoldable pub first_line : RowAnswer → FirstLine
first_line (accepted x m) = ok (count x) m
first_line (refused e m) = refusal_first_line e m

-- `listing`'s first line for a file's answer.
unfoldable pub answer_first_line : Answer → FirstLine
answer_first_line (Ok a) = ok a.nodes a.steps
answer_first_line (Err r) = refusal_first_line r.error r.steps

-- The token kinds of a row of tokens ("lists of kinds, with the word at kind 0").
unfoldable pub kinds_in : List Token → List ℕ
kinds_in row = map (λ (t : Token). t.kind) row

-- The word numbers of a row of tokens ("by word number").
unfoldable pub words_in : List Token → List ℕ
words_in row = map (λ (t : Token). word_number t.word) row

-- `listing`'s first line for a row by its kinds and word numbers. Whoever unfolds this computes with all the definitions.
unfoldable pub first_line_by_numbers : (language standard flag : ℕ) → (kinds words : List ℕ) → FirstLine
unfolding first_line records prescan reading kind_of_row_at on_tree unlimited word_number validate_structured_syntax missing_feature
first_line_by_numbers language standard flag kinds words = first_line (unlimited language standard flag kinds words)

-- `listing`'s first line for a row of tokens.
unfoldable pub first_line_of : (language standard flag : ℕ) → List Token → FirstLine
unfolding first_line_by_numbers kinds_in words_in
first_line_of language standard flag row = first_line_by_numbers language standard flag (kinds_in row) (words_in row)

-- The line of a file with a tree buffer of `room` numbers. Whoever unfolds this computes with all the definitions, those of the file too.
unfoldable pub file_first_line : (file : List ℕ) (room : ℕ) → FirstLine
unfolding answer_first_line answer final_buffer first_line_of head head_formed head_with meant declared stands_for little_endian records_from to_end tokens_from after_record found well_formed length_fits word_fits word_at span_end_at span_start_at kind_at length_at in_range before_tokens
file_first_line file room = answer_first_line (answer file room)
