-- What an accepted answer comes of, place by place, and that it comes back under a later standard and any allowance not below its steps.
-- Assumes nothing.
use Rattle.rows.specs.declared.answer.Feature.{Feature}
use Rattle.std.specs.Prelude.{ℕ, ◌+◌, ◌≤◌, ◌≡◌, Bool, true, false, List, leb, eqb, if◌then◌else◌, None, Ok, Option, Some}
use Rattle.std.proofs.Math.Path.{refl}
use Rattle.std.proofs.Common.{subst}
use borrow.Author.Tests.{le-leb}
use Rattle.rows.specs.Languages.{Cpp}
use Rattle.rows.specs.Format.{format, head_length, most_tokens, SameOrLater}
use Rattle.rows.specs.Records.{RowToken, row, head, records_from, kinds_of, words_of}
use Rattle.rows.specs.Laws.Tests.{by_if}
use Rattle.rows.specs.declared.answer.TypeNameError.TheVariants.{UnexpectedTokenAfterTypeName}
use Rattle.rows.specs.declared.head.Head.{Head}
use Rattle.prescan.specs.Prescan.{Scan, Scanned, passed, prescan}
use Rattle.prescan.specs.Prescan
use Rattle.reader.specs.Nodes.{Nodes}
use Rattle.reader.specs.Reading.{Got, got, bad, reading}
use Rattle.structure.specs.Said.{Said, holds, fails}
use Rattle.profile.specs.Profile.{missing_feature}
use Rattle.profile.specs.Laws.Monotone.{nothing_missing_later}
use Rattle.type_name.specs.FileRow.{HeadRow, Outcome, untouched, passes, on_pass, file_row, entry_outcome}
use Rattle.type_name.specs.Answers.{RowAnswer, accepted, refused, on_tree, whole_row, tree_of, after_prescan, row_tree, structure_of, by_structure, by_profile, tree_checked, unlimited, row_steps, answer_within, answer_of, row_answer, outcome}
use Rattle.type_name.specs.Laws.FileRow.{Has, Comes, file_comes}

-- ---- a row's tree

-- A reading of the row came to this tree in these steps, and the prescan passes the row.
pub record ReadTo (language : ℕ) (kinds : List ℕ) (g : Got) (x : Nodes) (steps : ℕ) : Type 0 where
  pub scan : Scan
  pub scanned : prescan language kinds ≡ passed scan
  pub at : ℕ
  pub half : Bool
  pub reads : g ≡ got x at half steps
  pub whole : whole_row kinds at half ≡ true

module _ (language : ℕ) (kinds : List ℕ) (g : Got) where
  abbrev TreeComes : RowAnswer → Type 0
  TreeComes (accepted x m) = ReadTo language kinds g x m
  TreeComes (refused e m) = Unit {0}

  by_whole : (s : Scan) → prescan language kinds ≡ passed s → (x : Nodes) (at : ℕ) (half : Bool) (m : ℕ) → g ≡ got x at half m → (b : Bool) → whole_row kinds at half ≡ b
      → TreeComes (if b then accepted x m else refused UnexpectedTokenAfterTypeName m)
  by_whole s p x at half m e true w = record { scan = s; scanned = p; at = at; half = half; reads = e; whole = w }
  by_whole s p x at half m e false w = tt

  reading_comes : (s : Scan) → prescan language kinds ≡ passed s → (d : Got) → g ≡ d → TreeComes (tree_of kinds d)
  unfolding tree_of
  reading_comes s p (bad f m) e = tt
  reading_comes s p (got x at half m) e = by_whole s p x at half m e (whole_row kinds at half) refl

  prescan_comes : (r : Scanned) → prescan language kinds ≡ r → TreeComes (after_prescan kinds g r)
  unfolding after_prescan
  prescan_comes (Prescan.refused e) q = tt
  prescan_comes (passed s) q = reading_comes s q g refl

  -- How an accepted tree was read.
  pub tree_read : {x : Nodes} {m : ℕ} → after_prescan kinds g (prescan language kinds) ≡ accepted x m → ReadTo language kinds g x m
  tree_read e = subst TreeComes e (prescan_comes (prescan language kinds) refl)

-- The same by the reading of document 01.
abbrev pub RowRead : (language : ℕ) (kinds : List ℕ) (x : Nodes) (steps : ℕ) → Type 0
RowRead language kinds x steps = ReadTo language kinds (reading (eqb language Cpp) kinds) x steps

-- ---- its checks

-- A row whose reading came to `o` was accepted with this tree after these steps: every place let it pass.
pub record CheckedAs (o : RowAnswer) (language standard flag : ℕ) (kinds words : List ℕ) (x : Nodes) (steps : ℕ) : Type 0 where
  pub reading_steps : ℕ
  pub is_read : o ≡ accepted x reading_steps
  pub structure_steps : ℕ
  pub structured : structure_of language flag kinds words x ≡ holds structure_steps
  pub has_all : missing_feature language standard kinds words ≡ None
  pub all_steps : reading_steps + structure_steps ≡ steps

-- The same of the reading of document 01.
abbrev pub RowAccepted : (language standard flag : ℕ) (kinds words : List ℕ) (x : Nodes) (steps : ℕ) → Type 0
RowAccepted language standard flag kinds words x steps = CheckedAs (row_tree language kinds) language standard flag kinds words x steps

-- How its tree was read.
pub accepted_read : (language standard flag : ℕ) (kinds words : List ℕ) {x : Nodes} {steps : ℕ} (r : RowAccepted language standard flag kinds words x steps) → RowRead language kinds x r.reading_steps
unfolding row_tree
accepted_read language standard flag kinds words r = tree_read language kinds (reading (eqb language Cpp) kinds) r.is_read

module _ (o : RowAnswer) (language standard flag : ℕ) (kinds words : List ℕ) where
  abbrev pub CheckedComes : RowAnswer → Type 0
  CheckedComes (accepted x m) = CheckedAs o language standard flag kinds words x m
  CheckedComes (refused e m) = Unit {0}

  module _ (x : Nodes) (m : ℕ) (is_read : o ≡ accepted x m) where
    profile_comes : (n : ℕ) → structure_of language flag kinds words x ≡ holds n → (l : Option Feature) → missing_feature language standard kinds words ≡ l
        → CheckedComes (by_profile x (m + n) l)
    unfolding by_profile
    profile_comes n q None e = record { reading_steps = m; is_read = is_read; structure_steps = n; structured = q; has_all = e; all_steps = refl }
    profile_comes n q (Some f) e = tt

    structure_comes : (said : Said) → structure_of language flag kinds words x ≡ said
        → CheckedComes (on_tree (by_structure x m said) λ y k. by_profile y k (missing_feature language standard kinds words))
    unfolding by_structure on_tree
    structure_comes (holds n) q = profile_comes n q (missing_feature language standard kinds words) refl
    structure_comes (fails n) q = tt

  checked_comes : (a : RowAnswer) → o ≡ a → CheckedComes (tree_checked language standard flag kinds words a)
  unfolding tree_checked on_tree
  checked_comes (accepted x m) e = structure_comes x m e (structure_of language flag kinds words x) refl
  checked_comes (refused e m) q = tt

  limited_comes : (allowance : ℕ) (a : RowAnswer) → CheckedComes a → CheckedComes (answer_within allowance a)
  unfolding answer_within
  limited_comes allowance a c = by_if CheckedComes (leb (row_steps a) allowance) (λ _. c) (λ _. tt)

  -- Every accepted answer to the reading comes of it.
  pub comes_of : (allowance : ℕ) → CheckedComes (answer_within allowance (tree_checked language standard flag kinds words o))
  comes_of allowance = limited_comes allowance (tree_checked language standard flag kinds words o) (checked_comes o refl)

  -- "The same or any later standard of that language", "every allowance not below those steps".
  pub checked_stable : (standard' allowance : ℕ) (x : Nodes) (steps : ℕ) → CheckedAs o language standard flag kinds words x steps
      → SameOrLater standard standard' → steps ≤ allowance → answer_within allowance (tree_checked language standard' flag kinds words o) ≡ accepted x steps
  unfolding tree_checked on_tree by_structure by_profile answer_within row_steps
  checked_stable standard' allowance x steps r later enough =
      rw (r.is_read, r.structured, nothing_missing_later standard standard' later language kinds words r.has_all, r.all_steps, le-leb steps allowance enough) refl

module _ (language standard flag : ℕ) (kinds words : List ℕ) where
  abbrev pub RowComes : RowAnswer → Type 0
  RowComes = CheckedComes (row_tree language kinds) language standard flag kinds words

  pub row_comes : (allowance : ℕ) → RowComes (answer_of language standard flag kinds words allowance)
  unfolding answer_of unlimited
  row_comes allowance = comes_of (row_tree language kinds) language standard flag kinds words allowance

pub row_stable : (language standard standard' flag : ℕ) (kinds words : List ℕ) (allowance : ℕ) (x : Nodes) (steps : ℕ) → RowAccepted language standard flag kinds words x steps
    → SameOrLater standard standard' → steps ≤ allowance → answer_of language standard' flag kinds words allowance ≡ accepted x steps
unfolding answer_of unlimited
row_stable language standard standard' flag kinds words allowance x steps r later enough =
    checked_stable (row_tree language kinds) language standard flag kinds words standard' allowance x steps r later enough

-- ---- a file

-- The file was accepted with this row and this tree after these steps, by an entry that answers so to its head and row.
pub record AcceptedBy (answers : HeadRow → RowAnswer) (file : List ℕ) (ts : List RowToken) (x : Nodes) (steps : ℕ) : Type 0 where
  pub head_of : Head
  pub formed : head format file ≡ Ok head_of
  pub row_is : records_from format file most_tokens head_length ≡ row ts
  pub answers_so : answers (record { the_head = head_of; tokens = ts }) ≡ accepted x steps

module _ (answers : HeadRow → RowAnswer) (file : List ℕ) (room : ℕ) where
  abbrev Accepts : Outcome RowAnswer → Type 0
  Accepts (untouched e) = Unit {0}
  Accepts (passes (accepted x m)) = (ts : List RowToken) × AcceptedBy answers file ts x m
  Accepts (passes (refused e m)) = Unit {0}

  answer_accepts : (r : HeadRow) → Has file room r → (a : RowAnswer) → answers r ≡ a → Accepts (passes a)
  answer_accepts r h (accepted x m) q = (r.tokens, record { head_of = r.the_head; formed = h.formed; row_is = h.row_is; answers_so = q })
  answer_accepts r h (refused f m) q = tt

  row_accepts : (o : Outcome HeadRow) → Comes file room o → Accepts (on_pass o λ r. passes (answers r))
  unfolding on_pass
  row_accepts (untouched e) c = tt
  row_accepts (passes r) c = answer_accepts r c (answers r) refl

  -- Every accepted outcome of a file comes of its row.
  pub accepted_by : (x : Nodes) (m : ℕ) → entry_outcome format answers file room ≡ passes (accepted x m) → (ts : List RowToken) × AcceptedBy answers file ts x m
  accepted_by x m e = subst Accepts e (row_accepts (file_row format file room) (file_comes file room))

-- The same by the entry of document 01.
pub record FileAccepted (file : List ℕ) (ts : List RowToken) (x : Nodes) (steps : ℕ) : Type 0 where
  pub head_of : Head
  pub formed : head format file ≡ Ok head_of
  pub row_is : records_from format file most_tokens head_length ≡ row ts
  pub row_accepted : RowAccepted head_of.language head_of.standard head_of.flag (kinds_of ts) (words_of ts) x steps

pub file_accepted : (file : List ℕ) (ts : List RowToken) (x : Nodes) (steps : ℕ) → AcceptedBy row_answer file ts x steps → FileAccepted file ts x steps
unfolding row_answer
file_accepted file ts x steps b =
    let h : Head = b.head_of in
    record {
      head_of = h;
      formed = b.formed;
      row_is = b.row_is;
      row_accepted = subst (RowComes h.language h.standard h.flag (kinds_of ts) (words_of ts)) b.answers_so
          (row_comes h.language h.standard h.flag (kinds_of ts) (words_of ts) h.allowance);
    }

pub accepted_file : (file : List ℕ) (room : ℕ) (x : Nodes) (m : ℕ) → outcome file room ≡ passes (accepted x m) → (ts : List RowToken) × FileAccepted file ts x m
unfolding outcome
accepted_file file room x m e = let f = accepted_by row_answer file room x m e in (f.0, file_accepted file f.0 x m f.1)
