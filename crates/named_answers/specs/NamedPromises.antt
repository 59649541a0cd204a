-- What is promised of the entry that takes template names: document 02, C-17, and the demands' clauses that hold of it as of the old entry. `file` and `names`
-- are the files handed in, `before` what the tree buffer held at entry, `a` the answer, `after` what the buffer holds at exit.
-- Assumes nothing.
use Rattle.rows.specs.Answer.{accepted_with, refused_with, Answer}
use Rattle.std.specs.Prelude.{ℕ, suc, ◌≤◌, ◌<◌, ◌≡◌, ◌≢◌, true, false, List, length, get_or}
use Rattle.rows.specs.Kinds.{Identifier, Less, ShiftRight}
use Rattle.rows.specs.Records.{RowToken, kinds_of}
use Rattle.rows.specs.Refusals.{refusal_of}
use Rattle.rows.specs.declared.answer.Feature.{Feature}
use Rattle.rows.specs.declared.answer.TypeNameError.{TypeNameError}
use Rattle.rows.specs.declared.answer.TypeNameError.TheVariants.{InvalidNameList, NestingLimitExceeded, AllowancePassed, ShiftWithoutList, EmptyOrUnclosedList, NoTypeName, NotAvailableInProfile}
use Rattle.names.specs.NameList.{names_marked}
use Rattle.reader.specs.Nodes.{Nodes, t_node, l_node, number, count, records, kind_of, token_of}
use Rattle.reader.specs.Reading.{kind_at}
use Rattle.reader.specs.Written.{written}
use Rattle.named_reader.specs.InOrder.{closes_two, in_order}
use Rattle.type_name.specs.Answers.{filled}
use Rattle.type_name.specs.AnswerNumbers.{answer_numbers}
use Rattle.type_name.specs.Promises.{last_untouched, RefusedBuffer, AcceptedAs, TreeOf, Nested, BracketsPaired, tokens_in, NotBelow}
use Rattle.named_answers.specs.NamedAnswers.{named_outcome, answer_named, buffer_named}

-- ---- every file, every name list, every buffer

-- The answer is the definition's,
abbrev pub NamedAnswered : (file names before : List ℕ) → Answer → Type 0
NamedAnswered file names before a = a ≡ answer_named file names (length before)

-- and so are its numbers,
abbrev pub NamedNumbered : (file names before : List ℕ) → Answer → Type 0
NamedNumbered file names before a = answer_numbers a ≡ answer_numbers (answer_named file names (length before))

-- and the buffer's contents.
abbrev pub NamedBuffered : (file names before after : List ℕ) → Type 0
NamedBuffered file names before after = after ≡ buffer_named file names before

-- The refusals of this entry: "21 to 23 don't occur here".
pub data Given : TypeNameError → Type 0 where
  of_file : {e : TypeNameError} → (refusal_of e).number ≤ last_untouched → Given e
  of_names : Given InvalidNameList
  of_prescan : {e : TypeNameError} → 10 ≤ (refusal_of e).number → (refusal_of e).number ≤ 18 → Given e
  -- 20, 26 and 27
  too_deep : Given NestingLimitExceeded
  half_left : Given ShiftWithoutList
  empty_or_open : Given EmptyOrUnclosedList
  -- 25, 30 and 40
  spent : Given AllowancePassed
  of_structure : Given NoTypeName
  of_profile : (feature : Feature) → Given (NotAvailableInProfile feature)

-- "Refusals 1 to 6 don't touch the tree buffer; all others fill it with zeros": 8 too.
pub record RefusedAs (before after : List ℕ) (e : TypeNameError) : Type 0 where
  pub given : Given e
  pub buffer : RefusedBuffer before after e

abbrev pub NamedRefused : (before : List ℕ) → Answer → (after : List ℕ) → Type 0
NamedRefused before a after = (e : TypeNameError) (steps : ℕ) → a ≡ refused_with e steps → RefusedAs before after e

-- ---- every accepted row

-- Its tree is the definition's, zeros after it.
abbrev pub NamedTreeDefined : (file names before : List ℕ) → Answer → (after : List ℕ) → Type 0
NamedTreeDefined file names before a after = (nodes steps : ℕ) → a ≡ accepted_with nodes steps → TreeOf (named_outcome file names (length before)) file before a after steps

-- "An accepted row here is written out in its own order, a `>>` that closes two lists standing for two `>`."
abbrev pub WrittenInOrder : (file : List ℕ) → Answer → (after : List ℕ) → Type 0
WrittenInOrder file a after =
    (ts : List RowToken) (x : Nodes) (steps : ℕ) → AcceptedAs file a after ts x steps → written (tokens_in ts) x ≡ in_order (closes_two x) 0 (tokens_in ts)

-- With the same names "the same tree, node count and steps come back under every allowance not below those steps, together with the same or any later standard".
abbrev pub NamedStable : (file names : List ℕ) → Answer → (after : List ℕ) → Type 0
NamedStable file names a after =
    (ts : List RowToken) (x : Nodes) (steps : ℕ) → AcceptedAs file a after ts x steps → (file' before' : List ℕ) → NotBelow file file' before' ts steps
    → (answer_named file' names (length before') ≡ accepted_with (count x) steps) × (buffer_named file' names before' ≡ filled (length before') (records x))

-- ---- the contract

-- What is promised of one call; the entry's contract is this.
pub record NamedPromised (file names before : List ℕ) (a : Answer) (after : List ℕ) : Type 0 where
  pub answered : NamedAnswered file names before a
  pub numbered : NamedNumbered file names before a
  pub buffered : NamedBuffered file names before after
  pub refused : NamedRefused before a after
  pub tree_defined : NamedTreeDefined file names before a after
  pub nested : Nested file a after
  pub brackets_paired : BracketsPaired file a after
  pub written_in_order : WrittenInOrder file a after
  pub stable : NamedStable file names a after

-- ---- name lists and rows, for the theorems

module _ (ns : List (List ℕ)) (ts : List RowToken) where
  -- No `<` follows a name.
  abbrev pub NoneFollowed : Type 0
  NoneFollowed = (i : ℕ) → kind_at (kinds_of ts) (suc i) ≡ Less → get_or (names_marked ns ts) i false ≡ false

  -- Of the tree that the old reading gives: the row has no `>>`, no T `<` stands right behind a word (so no try failed), and the word before each L is a name.
  pub record ReadRight (x : Nodes) : Type 0 where
    pub no_shift : (i : ℕ) → kind_at (kinds_of ts) i ≢ ShiftRight
    pub no_try_failed : (n i : ℕ) → n < count x → kind_of (records x) n ≡ number t_node → token_of (records x) n ≡ suc i → kind_at (kinds_of ts) (suc i) ≡ Less
        → kind_at (kinds_of ts) i ≢ Identifier
    pub lists_named : (n i : ℕ) → n < count x → kind_of (records x) n ≡ number l_node → token_of (records x) n ≡ suc i → get_or (names_marked ns ts) i false ≡ true

  -- Two lists of names agree on the row where a `<` follows.
  abbrev pub SameNames : (ns' : List (List ℕ)) → Type 0
  SameNames ns' = (i : ℕ) → kind_at (kinds_of ts) (suc i) ≡ Less → get_or (names_marked ns ts) i false ≡ get_or (names_marked ns' ts) i false
