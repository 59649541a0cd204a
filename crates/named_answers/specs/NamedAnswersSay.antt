-- What the contracts below the entry say, worded with the definitions of NamedAnswers.antt.
-- Assumes nothing.
use Rattle.rows.specs.Answer.{Answer}
use Rattle.std.specs.Prelude.{ℕ, suc, ◌*◌, ◌≤◌, ◌<◌, ◌≡◌, Bool, true, false, List, length, get_or}
use Rattle.rows.specs.Kinds.{Less, NoToken}
use Rattle.rows.specs.Format.{most_tokens}
use Rattle.rows.specs.Records.{RowToken, words_of}
use Rattle.rows.specs.declared.head.Head.{Head}
use Rattle.names.specs.NameList.{listed, malformed, name_list, names_marked}
use Rattle.names.specs.NamesSay.{RowIs}
use Rattle.reader.specs.Nodes.{numbers_per_token}
use Rattle.reader.specs.Reading.{kind_at}
use Rattle.type_name.specs.FileRow.{passes}
use Rattle.type_name.specs.Answers.{RowAnswer, buffer_in, answer_in}
use Rattle.type_name.specs.EntrySays.{ReadsRow, RowReady}
use Rattle.named_answers.specs.NamedAnswers.{named_answer}

-- What `find_names` is lent: the kinds of the file's row, and a mark for each token.
pub record MarksReady (file kinds : List ℕ) (marks : List Bool) : Type 0 where
  pub tokens : List RowToken
  pub of_row : RowIs file kinds tokens
  pub for_marks : length kinds ≤ length marks

module _ (file kinds names : List ℕ) (marks : List Bool) where
  -- The names are listed, and marked in the row where a `<` follows; or the list is malformed.
  abbrev pub NamesTold : Bool → Type 0
  NamesTold true = (ns : List (List ℕ)) × (name_list names ≡ listed ns) × ((ts : List RowToken) → RowIs file kinds ts
      → (i : ℕ) → suc i < length ts → get_or kinds (suc i) 0 ≡ Less → get_or marks i false ≡ get_or (names_marked ns ts) i false)
  NamesTold false = name_list names ≡ malformed

  -- `find_names`.
  pub record FindsNames (r : Bool) : Type 0 where
    pub told : NamesTold r

-- What `read_tree` is lent: the kinds of a row's tokens, and a buffer that has room for their tree.
pub record TreeReady (kinds tree : List ℕ) : Type 0 where
  pub few : length kinds ≤ most_tokens
  pub room : numbers_per_token * length kinds ≤ length tree
  pub known : (i : ℕ) → i < length kinds → kind_at kinds i < NoToken

-- The file's row is of these tokens, and stands in these arrays.
pub record RowIn (file : List ℕ) (ts : List RowToken) (kinds words : List ℕ) : Type 0 where
  pub of_row : RowIs file kinds ts
  pub words_are : words ≡ words_of ts

-- What an entry is lent for a row of this file.
pub record RowHeld (file kinds words tree : List ℕ) : Type 0 where
  pub ready : RowReady kinds words tree
  pub tokens : List RowToken
  pub row_in : RowIn file tokens kinds words

-- What is due of a row of these tokens.
abbrev pub due : Head → (names : List ℕ) → List RowToken → RowAnswer
due h names ts = named_answer names (record { the_head = h; tokens = ts })

module _ (h : Head) (file kinds words names : List ℕ) where
  -- `read_checked`: of the row's tokens, whichever they are.
  pub record ReadsNamed (r : Answer) (tree : List ℕ) : Type 0 where
    pub says : (ts : List RowToken) → RowIn file ts kinds words → ReadsRow (due h names ts) r tree

  -- `answer_named`: the answer, and the buffer in the end.
  pub record AnswersNamed (before : List ℕ) (r : Answer) (after : List ℕ) : Type 0 where
    pub answered : (ts : List RowToken) → RowIn file ts kinds words → r ≡ answer_in (passes (due h names ts))
    pub buffered : (ts : List RowToken) → RowIn file ts kinds words → after ≡ buffer_in before (passes (due h names ts))
