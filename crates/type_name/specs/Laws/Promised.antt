-- The demands' clauses about accepted rows follow from the answer and the buffer being the definition's.
-- Assumes nothing.
use Rattle.rows.specs.Answer.{accepted_with, Answer}
use Rattle.std.specs.Prelude.{ℕ, ◌≤◌, ◌≡◌, List, length, take, eqb}
use Rattle.std.proofs.Common.{sym, subst, ◌∙◌, arith}
use Rattle.std.proofs.Math.Path.{ap}
use Rattle.std.proofs.Math.Seq.{take-append_seam}
use Rattle.rows.specs.Languages.{Cpp}
use Rattle.rows.specs.Format.{format, head_length, most_tokens}
use Rattle.rows.specs.Records.{RowToken, kinds_of, words_of}
use Rattle.rows.specs.Laws.RowFacts.{GoodTokens, good_row}
use Rattle.prescan.specs.Prescan.{Scan, passed, prescan}
use Rattle.prescan.specs.Laws.Pairs.{prescan_pairs}
use Rattle.reader.specs.Nodes.{Nodes, count, records}
use Rattle.reader.specs.Reading.{MAX_NESTING_DEPTH}
use Rattle.reader.specs.Derivation.{RowDerived}
use Rattle.reader.specs.Standing.{depth}
use Rattle.reader.specs.Laws.Tokens.{KindsKnown}
use Rattle.reader.specs.Laws.NodeNumbers.{three_each}
use Rattle.reader.specs.Laws.Injective.{records_injective}
use Rattle.reader.specs.Laws.Derived.{all_lists, row_derived}
use Rattle.reader.specs.Laws.Bounds.{nesting}
use Rattle.reader.specs.Laws.Openers.{one_g_each, one_b_each}
use Rattle.reader.specs.Laws.Groups.{partner, below_each}
use Rattle.reader.specs.Laws.WrittenOut.{kinds_in, closing_angles_as_often, else_same, same_throughout}
use Rattle.type_name.specs.AnswerNumbers.{answer_numbers}
use Rattle.type_name.specs.FileRow.{HeadRow, Outcome, untouched, passes, entry_outcome}
use Rattle.type_name.specs.Answers.{RowAnswer, accepted, refused, row_answer, outcome, answer_in, answer, filled, buffer_in, final_buffer}
use Rattle.type_name.specs.Promises.{Answered, Buffered, AcceptedAs, TreeOf, BracketsOf, tokens_in, WrittenAs, Promised}
use Rattle.type_name.specs.Laws.Fields.{is_refused, nodes_in, steps_in, one_row}
use Rattle.type_name.specs.Laws.AcceptedRow.{RowRead, RowAccepted, AcceptedBy, accepted_by, FileAccepted, file_accepted, accepted_read}
use Rattle.type_name.specs.Laws.RowTokens.{kinds_known, worded, same_kinds}
use Rattle.type_name.specs.Laws.Stable.{comes_back}

-- ---- the tree is the definition's

-- An accepted answer comes of an accepted tree.
from_answer : (o : Outcome RowAnswer) (nodes steps : ℕ) → answer_in o ≡ accepted_with nodes steps → (x : Nodes) × (o ≡ passes (accepted x steps)) × (count x ≡ nodes)
unfolding answer_in
from_answer (untouched e) nodes steps q = let clash : ◌≡◌ {A = ℕ} 1 0 = ap is_refused q in absurd (omega (arith, clash))
from_answer (passes (accepted x m)) nodes steps q = (x, ap (λ (k : ℕ). passes (accepted x k)) (ap steps_in q), ap nodes_in q)
from_answer (passes (refused e m)) nodes steps q = let clash : ◌≡◌ {A = ℕ} 1 0 = ap is_refused q in absurd (omega (arith, clash))

front : (room : ℕ) (x : Nodes) → take (length (records x)) (filled room (records x)) ≡ records x
unfolding filled
front room x = take-append_seam (records x) _

-- Whatever an entry answers to a head and a row, and leaves in the buffer for it.
module _ (answers : HeadRow → RowAnswer) (file before : List ℕ) (a : Answer) (after : List ℕ)
    (answered : a ≡ answer_in (entry_outcome format answers file (length before))) (buffered : after ≡ buffer_in before (entry_outcome format answers file (length before))) where
  pub tree_defined : (nodes steps : ℕ) → a ≡ accepted_with nodes steps → TreeOf (entry_outcome format answers file (length before)) file before a after steps
  unfolding buffer_in
  tree_defined nodes steps q =
      let t = from_answer (entry_outcome format answers file (length before)) nodes steps (sym answered ∙ q) in
      let w : after ≡ filled (length before) (records t.0) = buffered ∙ ap (buffer_in before) t.1 in
      let f = accepted_by answers file (length before) t.0 steps t.1 in
      record {
        tokens = f.0;
        tree = t.0;
        accepted_as = record {
          answered = q ∙ ap (λ (k : ℕ). accepted_with k steps) (sym t.2);
          row_read = f.1.row_is;
          tree_held = rw w (front (length before) t.0);
        };
        defined = t.1;
        whole = w;
      }

  -- The tree that stands in front of the buffer is the one that the definition gives, of the row that the file holds.
  pub held_tree : (ts : List RowToken) (x : Nodes) (steps : ℕ) → AcceptedAs file a after ts x steps → AcceptedBy answers file ts x steps
  held_tree ts x steps p =
      let t = tree_defined (count x) steps p.answered in
      let y = t.tree in
      let nodes : count x ≡ count y = ap nodes_in (sym p.answered ∙ t.accepted_as.answered) in
      let long : length (records x) ≡ length (records y) = omega (arith, three_each x, three_each y, nodes) in
      let same : records y ≡ records x = sym t.accepted_as.tree_held ∙ ap (λ (k : ℕ). take k after) (sym long) ∙ p.tree_held in
      let is_read : entry_outcome format answers file (length before) ≡ passes (accepted x steps) =
      t.defined ∙ ap (λ (z : Nodes). passes (accepted z steps)) (records_injective y x same) in
      let f = accepted_by answers file (length before) x steps is_read in
      subst (λ (us : List RowToken). AcceptedBy answers file us x steps) (one_row _ f.0 ts f.1.row_is p.row_read) f.1

-- ---- what holds of the tree of a row, however it was read

module _ (ts : List RowToken) (good : GoodTokens ts) {inner : ℕ → ℕ} {x : Nodes} (q : RowDerived (kinds_of ts) inner x) where
  known : KindsKnown (kinds_of ts)
  known = kinds_known ts good

  pub derived_brackets : (language : ℕ) (s : Scan) → prescan language (kinds_of ts) ≡ passed s → BracketsOf (kinds_of ts) x
  derived_brackets language s scanned =
      let ps = prescan_pairs language (kinds_of ts) s scanned in
      record {
        pairs = ps.0;
        paired = ps.1;
        one_g_each = one_g_each (kinds_of ts) known q;
        one_b_each = one_b_each (kinds_of ts) known q;
        partner = partner (kinds_of ts) known ps.0 ps.1 q;
        below_each = below_each (kinds_of ts) known ps.0 ps.1 q;
      }

  pub derived_written : WrittenAs (tokens_in ts) (kinds_of ts) x
  derived_written =
      let w = worded ts good in
      let k : KindsKnown (kinds_in (tokens_in ts)) = rw (same_kinds ts) known in
      let q' : RowDerived (kinds_in (tokens_in ts)) inner x = subst (λ (ks : List ℕ). RowDerived ks inner x) (sym (same_kinds ts)) q in
      record {
        closing_angles_as_often = closing_angles_as_often (tokens_in ts) w k q';
        else_same = else_same (tokens_in ts) w k q';
        same_throughout = λ none. same_throughout (tokens_in ts) w k q' (rw (same_kinds ts) none);
      }

-- ---- what holds of the tree of an accepted row

module _ (language standard flag : ℕ) (ts : List RowToken) (x : Nodes) (steps : ℕ) (good : GoodTokens ts)
    (r : RowAccepted language standard flag (kinds_of ts) (words_of ts) x steps) where
  abbrev is_read : RowRead language (kinds_of ts) x r.reading_steps
  is_read = accepted_read language standard flag (kinds_of ts) (words_of ts) r

  abbrev is_derived : RowDerived (kinds_of ts) all_lists x
  is_derived = row_derived (kinds_of ts) (eqb language Cpp) is_read.reads

  pub nested : depth x ≤ MAX_NESTING_DEPTH
  nested = nesting (kinds_of ts) is_derived

  pub brackets : BracketsOf (kinds_of ts) x
  brackets = derived_brackets ts good is_derived language is_read.scan is_read.scanned

  pub written_as : WrittenAs (tokens_in ts) (kinds_of ts) x
  written_as = derived_written ts good is_derived

-- ---- the clauses

-- Of an accepted file: its row's.
module _ (file : List ℕ) (ts : List RowToken) (x : Nodes) (steps : ℕ) (f : FileAccepted file ts x steps) where
  abbrev of_row : {A : Type 0} → ((language standard flag : ℕ) → GoodTokens ts → RowAccepted language standard flag (kinds_of ts) (words_of ts) x steps → A) → A
  of_row law = law f.head_of.language f.head_of.standard f.head_of.flag (good_row format file most_tokens head_length ts f.row_is) f.row_accepted

pub promised : (file before : List ℕ) (a : Answer) (after : List ℕ) → Answered file before a → Buffered file before after → Promised file before a after
unfolding answer final_buffer outcome
promised file before a after answered buffered =
    let held : (ts : List RowToken) (x : Nodes) (steps : ℕ) → AcceptedAs file a after ts x steps → FileAccepted file ts x steps =
    λ ts x steps p. file_accepted file ts x steps (held_tree row_answer file before a after answered buffered ts x steps p) in
    record {
      answered = answered;
      numbered = ap answer_numbers answered;
      buffered = buffered;
      tree_defined = tree_defined row_answer file before a after answered buffered;
      nested = λ ts x steps p. of_row file ts x steps (held ts x steps p) (λ l s f. nested l s f ts x steps);
      brackets_paired = λ ts x steps p. of_row file ts x steps (held ts x steps p) (λ l s f. brackets l s f ts x steps);
      written_out = λ ts x steps p. of_row file ts x steps (held ts x steps p) (λ l s f. written_as l s f ts x steps);
      stable = λ ts x steps p file' before' n. comes_back file file' before' ts x steps (held ts x steps p) n;
    }
