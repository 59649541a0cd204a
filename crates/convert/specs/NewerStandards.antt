-- What document 02, C-16, says of rows and refusals in words.
-- Assumes nothing.
use Rattle.std.specs.Prelude.{ℕ, ◌≤◌, ◌<◌, ◌≡◌, true, ◌⊎◌, List, length, None, Some}
use Rattle.rows.specs.Languages.{Fortran}
use Rattle.rows.specs.Format.{format, archive_standards, declared}
use Rattle.rows.specs.Records.{head_formed}
use Rattle.rows.specs.declared.answer.Feature.{Feature}
use Rattle.rows.specs.declared.answer.TypeNameError.TheVariants.{NotAvailableInProfile}
use Rattle.rows.specs.declared.format.Format.{Format}
use Rattle.reader.specs.Nodes.{Nodes}
use Rattle.type_name.specs.FileRow.{passes, entry_outcome}
use Rattle.type_name.specs.Answers.{RowAnswer, accepted, refused, row_answer, outcome}
use Rattle.rule_answers.specs.MatchAnswers.{matched, row_match, match_outcome}
use Rattle.type_list.specs.ListAnswers.{row_parts_answer, list_outcome}
use Rattle.type_list.specs.ListAnswers
use Rattle.named_answers.specs.NamedAnswers.{named_answer, named_outcome}

-- The format that every entry read before: 255 meant "C18, Cpp17 and Fortran2018", and 254 was unknown.
abbrev pub former_format : Format
former_format =
    record {
      head_kind = format.head_kind;
      span_width = format.span_width;
      file_limit = format.file_limit;
      greatest_flag = format.greatest_flag;
      means_254 = None;
      means_255 = Some archive_standards;
    }

-- "A row accepted before under 255 is accepted now with the same tree": whatever file was accepted, under 255 or another number, whatever the tree
-- buffer, by every entry. Answer and buffer are read off the outcome, so node count and steps, the rule's place and the parts are the same too.
pub record AcceptedNow (file : List ℕ) (room : ℕ) : Type 0 where
  pub read : (x : Nodes) (steps : ℕ) → entry_outcome former_format row_answer file room ≡ passes (accepted x steps) → outcome file room ≡ passes (accepted x steps)
  pub matches : (rules : List ℕ) (x : Nodes) (steps place : ℕ) → entry_outcome former_format (row_match rules) file room ≡ passes (matched x steps place)
      → match_outcome file rules room ≡ passes (matched x steps place)
  pub lists : (xs : List Nodes) (steps : ℕ) → entry_outcome former_format row_parts_answer file room ≡ passes (ListAnswers.accepted xs steps)
      → list_outcome file room ≡ passes (ListAnswers.accepted xs steps)
  pub named : (names : List ℕ) (x : Nodes) (steps : ℕ) → entry_outcome former_format (named_answer names) file room ≡ passes (accepted x steps)
      → named_outcome file names room ≡ passes (accepted x steps)

-- "40 feature": what a row is answered whose standard lacks something.
abbrev pub Is40 : RowAnswer → Type 0
Is40 a = (f : Feature) × (steps : ℕ) × (a ≡ refused (NotAvailableInProfile f) steps)

-- "File: 1 over .. bytes; 2 head short, wrong length or kind, or flag over 1": a file passes these two.
abbrev pub Passes1And2 : Format → (file : List ℕ) → Type 0
Passes1And2 f file = (length file ≤ f.file_limit) × (head_formed f file ≡ true)

-- "3 unknown language or standard": the language is none of 0 to 2, or the standard is none of the language's own and below the first number that stands
-- for one, which is 254 ("Refusal 3 no longer covers 254"), "save in old files", where it is 255.
abbrev pub NoSuchProfile : (first_outside language standard : ℕ) → Type 0
NoSuchProfile first_outside language standard = (Fortran < language) ⊎ ((declared language ≤ standard) × (standard < first_outside))
