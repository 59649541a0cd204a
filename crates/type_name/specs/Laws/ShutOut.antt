-- What the contract shuts out: document 01, "What the contracts say of rows", c. Whatever reader has the definition's answer and the definition's
-- buffer for every file and buffer is none of those named there. Each is shown by a file of a short row, computed.
-- Assumes nothing.
use Rattle.rows.specs.Answer.{accepted_with, refused_with, Answer}
use Rattle.std.specs.Prelude.{ℕ, zero, suc, ◌+◌, ◌≤◌, ◌<◌, refl, replicate, Ok}
use Rattle.std.proofs.Math.Path.{◌≡◌, sym, ap}
use Rattle.std.proofs.Common.{subst, ◌∙◌, arith}
use mathlib.Core.List.{List, [], ◌∷◌, ◌++◌}
use Rattle.std.proofs.Math.ListN.{length, get_or}
use Rattle.std.proofs.Math.Seq.{take-append_seam}
use Rattle.rows.specs.Languages.{C, Cpp, C89, C99, Cpp17}
use Rattle.rows.specs.Format.{format, head_length, most_tokens}
use Rattle.rows.specs.Kinds.{LeftParen, RightParen, Star, Less, Greater}
use Rattle.rows.specs.Records.{RowToken, row, head, records_from, kinds_of, words_of}
use Rattle.rows.specs.declared.answer.TypeNameError.{TypeNameError}
use Rattle.rows.specs.declared.answer.TypeNameError.TheVariants.{AllowancePassed}
use Rattle.rows.specs.declared.head.Head.{Head}
use Rattle.reader.specs.Nodes.{Nodes, none, node, t_node, g_node, l_node, a_node, count, records}
use Rattle.reader.specs.Standing.{tokens_of}
use Rattle.reader.specs.Written.{Token, sign}
use Rattle.type_name.specs.Answers.{unlimited, row_steps, answer, filled, final_buffer}
use Rattle.type_name.specs.Promises.{Answered, Buffered, AcceptedAs, Promised}
use Rattle.type_name.specs.FirstLines.{file_first_line}
use Rattle.type_name.specs.StarredRows.{word, int_row, long_long}
use Rattle.type_name.specs.Laws.Fields.{is_refused, one_row, one_head}
use Rattle.type_name.specs.Laws.OnlyThen.{Spent, only_then}

-- ---- readers

-- A reader as a caller sees it: its answer, and what the tree buffer holds in the end.
pub record Reader : Type 0 where
  pub answers : (file before : List ℕ) → Answer
  pub leaves : (file before : List ℕ) → List ℕ

-- It meets the contract, as far as that is needed here: "the contracts equate answer and final buffer with the definitions".
pub record Meets (r : Reader) : Type 0 where
  pub answered : (file before : List ℕ) → Answered file before (r.answers file before)
  pub buffered : (file before : List ℕ) → Buffered file before (r.leaves file before)

-- The entry's contract asks more.
pub contract_met : (r : Reader) → ((file before : List ℕ) → Promised file before (r.answers file before) (r.leaves file before)) → Meets r
contract_met r c = record { answered = λ file before. (c file before).answered; buffered = λ file before. (c file before).buffered }

-- The file holds this row.
abbrev pub Holds : (file : List ℕ) → List RowToken → Type 0
Holds file ts = records_from format file most_tokens head_length ≡ row ts

-- The reader accepts the file, which holds this row.
pub record Accepts (r : Reader) (file before : List ℕ) (ts : List RowToken) (nodes steps : ℕ) : Type 0 where
  pub row_read : Holds file ts
  pub says : r.answers file before ≡ accepted_with nodes steps

-- "the reader that turns every row down"
abbrev pub TurnsDown : Reader → Type 0
TurnsDown r = (file before : List ℕ) (ts : List RowToken) → Holds file ts → (e : TypeNameError) × (steps : ℕ) × (r.answers file before ≡ refused_with e steps)

-- "the one that returns one tree for all rows": the buffer's length alone says what it holds in the end.
abbrev pub OneTree : Reader → Type 0
OneTree r =
    (one : ℕ → List ℕ)
    × ((file before : List ℕ) (ts : List RowToken) (nodes steps : ℕ) → Accepts r file before ts nodes steps → r.leaves file before ≡ one (length before))

-- "the one that leaves the buffer unwritten"
abbrev pub LeavesUnwritten : Reader → Type 0
LeavesUnwritten r = (file before : List ℕ) (ts : List RowToken) (nodes steps : ℕ) → Accepts r file before ts nodes steps → r.leaves file before ≡ before

-- A T for each of so many tokens, from a token on.
abbrev pub flat : (at tokens : ℕ) → Nodes
flat at zero = none
flat at (suc n) = node t_node at none (flat (suc at) n)

-- "the one that reads the first token and copies the rest flat"
abbrev pub CopiesFlat : Reader → Type 0
CopiesFlat r =
    (file before : List ℕ) (ts : List RowToken) (nodes steps : ℕ) → Accepts r file before ts nodes steps
    → r.leaves file before ≡ filled (length before) (records (flat 0 (length ts)))

-- "the one that reports 25 before any step": of whatever the definition accepts.
abbrev pub ReportsAtOnce : Reader → Type 0
ReportsAtOnce r =
    (file before : List ℕ) (nodes steps : ℕ) → answer file (length before) ≡ accepted_with nodes steps → (m : ℕ) × (r.answers file before ≡ refused_with AllowancePassed m)

-- One that reports 25 of some row whose steps stay within the allowance. "25 step count would pass the allowance, and only then".
pub record ReportsEarly (r : Reader) : Type 0 where
  pub file : List ℕ
  pub before : List ℕ
  pub head_of : Head
  pub formed : head format file ≡ Ok head_of
  pub tokens : List RowToken
  pub row_read : Holds file tokens
  pub suffices : row_steps (unlimited head_of.language head_of.standard head_of.flag (kinds_of tokens) (words_of tokens)) ≤ head_of.allowance
  pub steps : ℕ
  pub says : r.answers file before ≡ refused_with AllowancePassed steps

-- "an invented count": the head, the number of tokens and all else that is returned say how many steps.
abbrev pub InventsSteps : Reader → Type 0
InventsSteps r =
    (invented : Head → (tokens nodes : ℕ) → (after : List ℕ) → ℕ)
    × ((file before : List ℕ) (h : Head) (ts : List RowToken) (nodes steps : ℕ) → head format file ≡ Ok h → Accepts r file before ts nodes steps
    → steps ≡ invented h (length ts) nodes (r.leaves file before))

-- "a copy with groups and no lists"
abbrev pub NoLists : Reader → Type 0
NoLists r =
    (file before : List ℕ) (ts : List RowToken) (x : Nodes) (steps : ℕ) → AcceptedAs file (r.answers file before) (r.leaves file before) ts x steps
    → tokens_of l_node x ≡ []

-- ---- files of short rows

-- The length of a token's record.
abbrev record_length : Token → ℕ
record_length t = 20 + length t.word

-- The records of a row's tokens; spans are 0.
abbrev records_of : List Token → List ℕ
records_of [] = []
records_of (t ∷ ts) = record_length t ∷ 0 ∷ t.kind ∷ 0 ∷ replicate 16 0 ++ t.word ++ records_of ts

-- The file of a row, with allowance 255.
abbrev file_of : (language standard flag : ℕ) → List Token → List ℕ
file_of language standard flag ts = 11 ∷ 0 ∷ 5 ∷ 1 ∷ language ∷ standard ∷ flag ∷ 255 ∷ 0 ∷ 0 ∷ 0 ∷ records_of ts

-- The row that is read from records beginning at a byte offset.
abbrev tokens_from : (at : ℕ) → List Token → List RowToken
tokens_from at [] = []
tokens_from at (t ∷ ts) = record { place = at; kind = t.kind; word = t.word } ∷ tokens_from (at + record_length t) ts

-- A dirty buffer, long enough for six tokens.
abbrev dirty : List ℕ
dirty = replicate 36 7

-- The definitions accept the row under this profile and flag, with this tree and these steps.
record Works (language standard flag : ℕ) (ts : List Token) (x : Nodes) (steps : ℕ) : Type 0 where
  formed : head format (file_of language standard flag ts) ≡ Ok (record { language = language; standard = standard; flag = flag; allowance = 255 })
  row_read : Holds (file_of language standard flag ts) (tokens_from 11 ts)
  is_answer : answer (file_of language standard flag ts) 36 ≡ accepted_with (count x) steps
  is_buffer : final_buffer (file_of language standard flag ts) dirty ≡ filled 36 (records x)

-- `int`, C89
int_works : Works C C89 1 int_row (flat 0 1) 2
unfolding file_first_line
int_works = record { formed = refl; row_read = refl; is_answer = refl; is_buffer = refl }

-- `long long`, C99
long_long_works : Works C C99 1 long_long (flat 0 2) 3
unfolding file_first_line
long_long_works = record { formed = refl; row_read = refl; is_answer = refl; is_buffer = refl }

-- `A<b>`, C++17, and its tree
abbrev one_list : List Token
one_list = word "A" ∷ sign Less ∷ word "b" ∷ sign Greater ∷ []

abbrev list_tree : Nodes
list_tree = node t_node 0 none (node l_node 1 (node a_node 2 (node t_node 2 none none) none) none)

one_list_works : Works Cpp Cpp17 1 one_list list_tree 5
unfolding file_first_line
one_list_works = record { formed = refl; row_read = refl; is_answer = refl; is_buffer = refl }

-- `f(a<b)` and `f(a*b)`, C++17, flag 0, and the tree of both: in the first a list is tried and fails.
abbrev tried : List Token
tried = word "f" ∷ sign LeftParen ∷ word "a" ∷ sign Less ∷ word "b" ∷ sign RightParen ∷ []

abbrev untried : List Token
untried = word "f" ∷ sign LeftParen ∷ word "a" ∷ sign Star ∷ word "b" ∷ sign RightParen ∷ []

abbrev group_tree : Nodes
group_tree = node t_node 0 none (node g_node 1 (flat 2 3) none)

tried_works : Works Cpp Cpp17 0 tried group_tree 7
unfolding file_first_line
tried_works = record { formed = refl; row_read = refl; is_answer = refl; is_buffer = refl }

untried_works : Works Cpp Cpp17 0 untried group_tree 5
unfolding file_first_line
untried_works = record { formed = refl; row_read = refl; is_answer = refl; is_buffer = refl }

-- ---- shut out

module _ (r : Reader) (m : Meets r) where
  module _ {language standard flag : ℕ} {ts : List Token} {x : Nodes} {steps : ℕ} (w : Works language standard flag ts x steps) where
    says : r.answers (file_of language standard flag ts) dirty ≡ accepted_with (count x) steps
    says = m.answered (file_of language standard flag ts) dirty ∙ w.is_answer

    leaves : r.leaves (file_of language standard flag ts) dirty ≡ filled 36 (records x)
    leaves = m.buffered (file_of language standard flag ts) dirty ∙ w.is_buffer

    accepts : Accepts r (file_of language standard flag ts) dirty (tokens_from 11 ts) (count x) steps
    accepts = record { row_read = w.row_read; says = says }

    held : AcceptedAs (file_of language standard flag ts) (r.answers (file_of language standard flag ts) dirty) (r.leaves (file_of language standard flag ts) dirty) (tokens_from 11 ts) x steps
    unfolding filled
    held = record { answered = says; row_read = w.row_read; tree_held = rw leaves (take-append_seam (records x) _) }

  not_refused : {language standard flag : ℕ} {ts : List Token} {x : Nodes} {steps : ℕ} → Works language standard flag ts x steps
      → (e : TypeNameError) (k : ℕ) → r.answers (file_of language standard flag ts) dirty ≡ refused_with e k → ⊥
  not_refused w e k q =
      let clash : ◌≡◌ {A = ℕ} 0 1 = ap is_refused (sym (says w) ∙ q) in
      omega (arith, clash)

  -- "the reader that turns every row down"
  pub turns_not_every_row_down : TurnsDown r → ⊥
  turns_not_every_row_down f =
      let (e, k, q) = f _ dirty _ int_works.row_read in
      not_refused int_works e k q

  -- "the one that reports 25 before any step"
  pub reports_not_at_once : ReportsAtOnce r → ⊥
  reports_not_at_once f =
      let (k, q) = f _ dirty _ _ int_works.is_answer in
      not_refused int_works AllowancePassed k q

  -- "25 step count would pass the allowance, and only then"
  pub reports_not_early : ReportsEarly r → ⊥
  reports_not_early e =
      let s : Spent e.file e.steps = only_then e.file (length e.before) e.steps (sym (m.answered e.file e.before) ∙ e.says) in
      let Passes : Head → List RowToken → Type 0 =
      λ h ts. h.allowance < row_steps (unlimited h.language h.standard h.flag (kinds_of ts) (words_of ts)) in
      let same_head : s.head_of ≡ e.head_of = one_head (head format e.file) s.head_of e.head_of s.formed e.formed in
      let same_row : s.tokens ≡ e.tokens = one_row _ s.tokens e.tokens s.row_read e.row_read in
      let passes : Passes e.head_of e.tokens = subst (Passes e.head_of) same_row (subst (λ (h : Head). Passes h s.tokens) same_head s.passes) in
      omega (arith, e.suffices, passes)

  -- "the one that returns one tree for all rows"
  pub not_one_tree : OneTree r → ⊥
  unfolding file_first_line
  not_one_tree f =
      let one = f.1 _ _ _ _ _ (accepts int_works) in
      let two = f.1 _ _ _ _ _ (accepts long_long_works) in
      let same : filled 36 (records (flat 0 1)) ≡ filled 36 (records (flat 0 2)) = sym (leaves int_works) ∙ one ∙ sym two ∙ leaves long_long_works in
      let clash : ◌≡◌ {A = ℕ} 0 1 = ap (λ (l : List ℕ). get_or l 5 0) same in
      absurd (omega (arith, clash))

  -- "the one that leaves the buffer unwritten"
  pub leaves_not_unwritten : LeavesUnwritten r → ⊥
  unfolding file_first_line
  leaves_not_unwritten f =
      let same = f _ _ _ _ _ (accepts int_works) in
      let clash : ◌≡◌ {A = ℕ} 0 7 = ap (λ (l : List ℕ). get_or l 0 0) (sym (leaves int_works) ∙ same) in
      absurd (omega (arith, clash))

  -- "the one that reads the first token and copies the rest flat"
  pub copies_not_flat : CopiesFlat r → ⊥
  unfolding file_first_line
  copies_not_flat f =
      let same = f _ _ _ _ _ (accepts one_list_works) in
      let clash : ◌≡◌ {A = ℕ} 3 0 = ap (λ (l : List ℕ). get_or l 3 0) (sym (leaves one_list_works) ∙ same) in
      absurd (omega (arith, clash))

  -- "the step definition shuts out an invented count"
  pub invents_no_steps : InventsSteps r → ⊥
  invents_no_steps f =
      let seven = f.1 _ _ _ _ _ _ tried_works.formed (accepts tried_works) in
      let five = f.1 _ _ _ _ _ _ untried_works.formed (accepts untried_works) in
      let clash : ◌≡◌ {A = ℕ} 7 5 = rw (leaves tried_works) at seven ∙ sym (rw (leaves untried_works) at five) in
      absurd (omega (arith, clash))

  -- "demand 3 without its tie to demand 2's definition would admit a copy with groups and no lists"
  pub not_without_lists : NoLists r → ⊥
  unfolding file_first_line tokens_of
  not_without_lists f =
      let clash : ◌≡◌ {A = ℕ} 1 0 = ap length (f _ _ _ _ _ (held one_list_works)) in
      absurd (omega (arith, clash))
