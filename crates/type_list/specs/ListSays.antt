-- What the contracts below the entry say: of a part, of the parts taken so far, and of the buffer. They are worded with the definitions of Parts.antt
-- and ListAnswers.antt.
-- Assumes nothing.
use Rattle.rows.specs.declared.answer.TypeNameError.{TypeNameError}
use Rattle.type_list.specs.ListAnswer.{ListAnswer}
use Rattle.type_list.specs.declared.parts.PartRefused.{PartRefused}
use Rattle.rows.specs.Answer.{accepted_with, refused_with, Answer}
use Rattle.std.specs.Prelude.{ℕ, ◌+◌, ◌*◌, ◌-◌, ◌≤◌, ◌≡◌, List, [], ◌++◌, length, take, drop, ltb, if◌then◌else◌, Err, Ok, Result}
use Rattle.rows.specs.Format.{most_tokens}
use Rattle.rows.specs.Records.{RowToken, kinds_of, words_of}
use Rattle.rows.specs.declared.head.Head.{Head}
use Rattle.reader.specs.Nodes.{Nodes, count, node_width, numbers_per_token, records}
use Rattle.type_name.specs.FileRow.{passes}
use Rattle.type_name.specs.Answers.{RowAnswer, answer_of}
use Rattle.type_name.specs.Answers
use Rattle.type_name.specs.EntrySays.{ReadsRow}
use Rattle.type_list.specs.Parts.{up_to_cut, part_length, parts}
use Rattle.type_list.specs.ListAnswers.{PartsAnswer, accepted, refused, parts_answer, list_answer_in, list_buffer_in, nodes_in_all, records_in_all}
use Rattle.type_list.specs.declared.part.Part.{Part}
use Rattle.type_list.specs.declared.parts.Taken.{Taken}

-- ---- a part

-- A part that is refused, and what is left of the allowance.
abbrev pub part_refuses : TypeNameError → (left : ℕ) → Result Taken PartRefused
part_refuses e left = Err (record { error = e; left = left })

-- How many of `count` tokens are the first part, by the answer to them all.
abbrev pub length_by : (count : ℕ) → Answer → ℕ
length_by count (Ok a) = count
length_by count (Err r) = up_to_cut count r.error

-- The answer to the first part of a row, of so many tokens.
abbrev pub part_answer : (h : Head) (kinds words : List ℕ) (length allowance : ℕ) → RowAnswer
part_answer h kinds words length allowance = answer_of h.language h.standard h.flag (take length kinds) (take length words) allowance

-- `read_part`: its tree stands in front of the buffer.
pub record ReadsPart (h : Head) (kinds words : List ℕ) (r : Part) (tree : List ℕ) : Type 0 where
  pub is_length : r.length ≡ part_length h.language kinds
  pub reads : ReadsRow (part_answer h kinds words r.length h.allowance) r.answer tree

-- The same profile and flag, with this allowance.
pub record WithAllowance (h : Head) (allowance : ℕ) (r : Head) : Type 0 where
  pub same_language : r.language ≡ h.language
  pub same_standard : r.standard ≡ h.standard
  pub same_flag : r.flag ≡ h.flag
  pub allows : r.allowance ≡ allowance

-- ---- a part behind others

-- A row of at most 1,024 tokens and a tree buffer that has room for it; of the parts taken so far there are no more than their tokens and commas,
-- they have at most two nodes a token, and no more is left of the allowance than it was.
pub record PartReady (h : Head) (kinds words tree : List ℕ) (t : Taken) : Type 0 where
  pub few : length kinds ≤ most_tokens
  pub worded : length words ≡ length kinds
  pub room : numbers_per_token * length kinds ≤ length tree
  pub begun : t.parts ≤ t.from
  pub two_each : t.nodes ≤ 2 * t.from
  pub allowed : t.left ≤ h.allowance

module _ (h : Head) (kinds words tree : List ℕ) (t : Taken) where
  -- How many tokens the next part has.
  abbrev pub next_length : ℕ
  next_length = part_length h.language (drop t.from kinds)

  -- The answer to it, with what is left of the allowance.
  abbrev pub next_answer : RowAnswer
  next_answer = part_answer h (drop t.from kinds) (drop t.from words) next_length t.left

  -- It was accepted, and stands in the buffer behind the others.
  pub record PartAccepted (next : Taken) (tree' : List ℕ) : Type 0 where
    pub nodes : Nodes
    pub steps : ℕ
    pub is : next_answer ≡ Answers.accepted nodes steps
    pub from : next.from ≡ t.from + next_length + 1
    pub counted : next.parts ≡ t.parts + 1
    pub nodes_added : next.nodes ≡ t.nodes + count nodes
    pub steps_taken : next.left ≡ t.left - steps
    pub within : steps ≤ t.left
    pub held : take (node_width * next.nodes) tree' ≡ take (node_width * t.nodes) tree ++ records nodes
    pub ready : PartReady h kinds words tree' next

  abbrev pub PartTaken : Result Taken PartRefused → (tree' : List ℕ) → Type 0
  PartTaken (Ok next) tree' = PartAccepted next tree'
  PartTaken (Err r) tree' = (m : ℕ) × (next_answer ≡ Answers.refused r.error m) × (r.left ≡ t.left - m) × (m ≤ t.left)

  -- `take_part`. What the buffer holds behind the trees, and after a refusal, is free.
  pub record TakesPart (r : Result Taken PartRefused) (tree' : List ℕ) : Type 0 where
    pub says : PartTaken r tree'

-- ---- all parts

-- The parts from token number `from` on; none where that is past the row's end.
abbrev pub parts_from : (language from : ℕ) → List RowToken → List (List RowToken)
parts_from language from ts = if ltb (length ts) from then [] else parts language (drop from ts)

-- These trees were taken before, in so many steps.
abbrev pub behind_all : List Nodes → (steps : ℕ) → PartsAnswer → PartsAnswer
behind_all xs m (accepted ys n) = accepted (xs ++ ys) (m + n)
behind_all xs m (refused e n part) = refused e (m + n) (length xs + part)

-- The trees of an accepted list stand in front of the buffer.
abbrev pub PartsInFront : PartsAnswer → (tree : List ℕ) → Type 0
PartsInFront (accepted xs m) tree = take (node_width * nodes_in_all xs) tree ≡ records_in_all xs
PartsInFront (refused e m part) tree = Unit {0}

-- The answer is the definition's, and its trees stand in front of the buffer.
pub record PartsRead (o : PartsAnswer) (r : ListAnswer) (tree : List ℕ) : Type 0 where
  pub answered : r ≡ list_answer_in (passes o)
  pub in_front : PartsInFront o tree

-- The answer to the parts of a row.
abbrev pub answer_to : (h : Head) → List RowToken → PartsAnswer
answer_to h ts = parts_answer h.language h.standard h.flag (parts h.language ts) h.allowance

-- Tokens that have these kinds and word numbers.
pub record TokensOf (ts : List RowToken) (kinds words : List ℕ) : Type 0 where
  pub have_kinds : kinds_of ts ≡ kinds
  pub have_words : words_of ts ≡ words

-- There are such tokens.
pub record FromTokens (kinds words : List ℕ) : Type 0 where
  pub tokens : List RowToken
  pub are : TokensOf tokens kinds words

-- `read_parts`: of whatever tokens have these kinds and word numbers. What the buffer holds behind the trees, and after a refusal, is free.
pub record ReadsParts (h : Head) (kinds words : List ℕ) (r : ListAnswer) (tree : List ℕ) : Type 0 where
  pub says : (ts : List RowToken) → TokensOf ts kinds words → PartsRead (answer_to h ts) r tree

-- ---- the buffer

-- The answer to a list as the answer to one row that has all its nodes.
abbrev pub as_one : ListAnswer → Answer
as_one (Ok a) = accepted_with a.nodes a.steps
as_one (Err r) = refused_with r.error r.steps

-- `answer_list`: answer and final buffer are the definition's.
pub record ListTold (h : Head) (kinds words before : List ℕ) (r : ListAnswer) (after : List ℕ) : Type 0 where
  pub answered : (ts : List RowToken) → TokensOf ts kinds words → r ≡ list_answer_in (passes (answer_to h ts))
  pub buffered : (ts : List RowToken) → TokensOf ts kinds words → after ≡ list_buffer_in before (passes (answer_to h ts))
