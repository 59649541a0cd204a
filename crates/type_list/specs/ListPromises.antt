-- What document 02's C-12 promises of a call, clause by clause. `file` is the file handed in, `before` what the tree buffer held at entry, `a` the
-- answer, `after` what the buffer holds at exit.
-- Assumes nothing.
use Rattle.type_list.specs.ListAnswer.{list_accepts, list_refuses, ListAnswer, no_part}
use Rattle.rows.specs.Answer.{accepted_with, refused_with, Answer}
use Rattle.std.specs.Prelude.{ℕ, ◌+◌, ◌-◌, ◌≤◌, ◌<◌, ◌≡◌, ◌⊎◌, ◌↔◌, List, [], ◌∷◌, ◌++◌, map, length, replicate, Err, Ok}
use Rattle.rows.specs.Format.{format, SameOrLater}
use Rattle.rows.specs.Records.{RowToken, kinds_of, words_of}
use Rattle.rows.specs.Refusals.{refusal_of}
use Rattle.rows.specs.declared.answer.TypeNameError.{TypeNameError}
use Rattle.rows.specs.declared.answer.TypeNameError.TheVariants.{AllowancePassed}
use Rattle.rows.specs.declared.head.Head.{Head}
use Rattle.reader.specs.Nodes.{t_node, Nodes, number, count, records, kind_of, token_of}
use Rattle.reader.specs.Reading.{MAX_NESTING_DEPTH}
use Rattle.reader.specs.Standing.{depth}
use Rattle.type_name.specs.FileRow.{passes, file_row}
use Rattle.type_name.specs.Answers.{accepted, refused, answer_of, answer, filled, final_buffer}
use Rattle.type_name.specs.Promises.{last_untouched, BracketsOf, tokens_in, WrittenAs}
use Rattle.type_list.specs.Parts.{cut_number, parts}
use Rattle.type_list.specs.ListAnswers.{nodes_in_all, records_in_all, list_answer, list_buffer}

-- ---- a part that was read

-- Its tokens, its tree and its steps.
pub record PartTree : Type 0 where
  pub part : List RowToken
  pub tree : Nodes
  pub steps : ℕ

abbrev pub parts_of : List PartTree → List (List RowToken)
parts_of ps = map (λ (p : PartTree). p.part) ps

abbrev pub trees_of : List PartTree → List Nodes
trees_of ps = map (λ (p : PartTree). p.tree) ps

-- "Steps are summed over the parts."
abbrev pub steps_in_all : List PartTree → ℕ
steps_in_all [] = 0
steps_in_all (p ∷ ps) = p.steps + steps_in_all ps

-- A file that holds the part alone: tokens of its kinds and words under the same language and flag, the same or any later standard, an allowance not
-- below its steps, and a buffer that is long enough.
pub record HoldsAlone (h : Head) (p : PartTree) (file' before' : List ℕ) : Type 0 where
  pub head_of : Head
  pub tokens : List RowToken
  pub is_row : file_row format file' (length before') ≡ passes (record { the_head = head_of; tokens = tokens })
  pub same_kinds : kinds_of tokens ≡ kinds_of p.part
  pub same_words : words_of tokens ≡ words_of p.part
  pub same_language : head_of.language ≡ h.language
  pub same_flag : head_of.flag ≡ h.flag
  pub same_or_later : SameOrLater h.standard head_of.standard
  pub enough : p.steps ≤ head_of.allowance

pub record PartRead (h : Head) (p : PartTree) : Type 0 where
  -- "Each part's tree is the one it would get alone", and so are its steps.
  pub alone : (file' before' : List ℕ) → HoldsAlone h p file' before'
      → (answer file' (length before') ≡ accepted_with (count p.tree) p.steps) × (final_buffer file' before' ≡ filled (length before') (records p.tree))
  pub row_alone : (allowance : ℕ) → p.steps ≤ allowance
      → answer_of h.language h.standard h.flag (kinds_of p.part) (words_of p.part) allowance ≡ accepted p.tree p.steps
  -- Demand 3 of the part and its tree.
  pub nested : depth p.tree ≤ MAX_NESTING_DEPTH
  pub brackets_paired : BracketsOf (kinds_of p.part) p.tree
  pub written_out : WrittenAs (tokens_in p.part) (kinds_of p.part) p.tree

abbrev pub EachRead : Head → List PartTree → Type 0
EachRead h [] = Unit {0}
EachRead h (p ∷ ps) = PartRead h p × EachRead h ps

-- ---- an accepted list

-- Node number n is the first of one of these trees, which stand one after another.
abbrev pub Begins : List Nodes → (n : ℕ) → Type 0
Begins [] n = ⊥
Begins (x ∷ xs) n = (n ≡ 0) ⊎ ((count x ≤ n) × Begins xs (n - count x))

-- Every part of the row was read; "parts, nodes in all, steps".
pub record AcceptedList (file before after : List ℕ) (parts_told nodes steps : ℕ) : Type 0 where
  pub head_of : Head
  pub tokens : List RowToken
  pub is_row : file_row format file (length before) ≡ passes (record { the_head = head_of; tokens = tokens })
  pub read : List PartTree
  pub are_parts : parts_of read ≡ parts head_of.language tokens
  pub each_read : EachRead head_of read
  pub counted : length read ≡ parts_told
  pub nodes_summed : nodes_in_all (trees_of read) ≡ nodes
  pub steps_summed : steps_in_all read ≡ steps
  -- "The trees stand in the buffer one after another",
  pub held : after ≡ filled (length before) (records_in_all (trees_of read))
  -- and a tree begins exactly at a T of token 0: "Tokens are numbered within their part".
  pub begins : (n : ℕ) → n < nodes → Begins (trees_of read) n ↔ ((kind_of after n ≡ number t_node) × (token_of after n ≡ 0))

-- ---- a refused list

-- "The first part refused decides the answer": the parts before it were read, and its own answer, with what they left of the allowance, is the refusal.
pub record RefusedPart (file before : List ℕ) (e : TypeNameError) (steps part : ℕ) : Type 0 where
  pub head_of : Head
  pub tokens : List RowToken
  pub is_row : file_row format file (length before) ≡ passes (record { the_head = head_of; tokens = tokens })
  pub read : List PartTree
  pub each_read : EachRead head_of read
  pub its_tokens : List RowToken
  pub others : List (List RowToken)
  pub are_parts : parts_of read ++ its_tokens ∷ others ≡ parts head_of.language tokens
  pub is_part : length read ≡ part
  pub within : steps_in_all read ≤ head_of.allowance
  pub its_steps : ℕ
  pub decides : answer_of head_of.language head_of.standard head_of.flag (kinds_of its_tokens) (words_of its_tokens) (head_of.allowance - steps_in_all read) ≡ refused e its_steps
  -- "Steps are summed over the parts, in refusals 10 to 18 too."
  pub steps_summed : steps_in_all read + its_steps ≡ steps
  -- "25 names the part where it ran out", with the whole allowance as its steps.
  pub spent : e ≡ AllowancePassed → steps ≡ head_of.allowance

pub record RefusedList (file before after : List ℕ) (e : TypeNameError) (steps part : ℕ) : Type 0 where
  -- "On this entry 13 is never given."
  pub never_13 : (refusal_of e).number ≡ cut_number → ⊥
  -- "65,535 before any": refusals 1 to 6, which "don't touch the tree buffer".
  pub before_any : (refusal_of e).number ≤ last_untouched → (part ≡ no_part) × (steps ≡ 0) × (after ≡ before)
  -- "A refusal adds its part"; "all others fill it with zeros".
  pub in_a_part : last_untouched < (refusal_of e).number → RefusedPart file before e steps part × (after ≡ replicate (length before) 0)

-- ---- a list of one part

-- The answer to one type name, as the answer to a list of it alone.
abbrev pub as_list : Answer → ListAnswer
as_list (Ok a) = list_accepts 1 a.nodes a.steps
as_list (Err r) = list_refuses r.error r.steps 0

-- `type_name_read` answers so with 13.
pub record GivesCut (file : List ℕ) (room : ℕ) : Type 0 where
  pub error : TypeNameError
  pub steps : ℕ
  pub is : answer file room ≡ refused_with error steps
  pub is_13 : (refusal_of error).number ≡ cut_number

-- ---- the contract

pub record ListPromised (file before : List ℕ) (a : ListAnswer) (after : List ℕ) : Type 0 where
  pub answered : a ≡ list_answer file (length before)
  pub buffered : after ≡ list_buffer file before
  pub accepted_list : (parts_told nodes steps : ℕ) → a ≡ list_accepts parts_told nodes steps → AcceptedList file before after parts_told nodes steps
  pub refused_list : (e : TypeNameError) (steps part : ℕ) → a ≡ list_refuses e steps part → RefusedList file before after e steps part
