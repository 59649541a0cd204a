-- The tree buffer at the end: the tree that stands in front of it, and zeros. Assumes nothing.
use Rattle.rows.specs.Answer.{accepted_with, refused_with, Answer}
use Rattle.std.specs.Prelude.{ℕ, ◌-◌, ◌*◌, ◌≤◌, ◌≡◌, List, [], length, drop, replicate}
use Rattle.std.proofs.Math.Path.{refl}
use Rattle.std.proofs.Common.{ap, ◌∙◌, subst, append-nil, arith, length-take, length-drop, drop_of_length-le}
use Rattle.std.proofs.Math.Nat.{sub-zero}
use Rattle.rows.specs.declared.answer.TypeNameError.{TypeNameError}
use Rattle.reader.specs.Nodes.{count, node_width}
use Rattle.reader.specs.Laws.NodeNumbers.{three_each}
use Rattle.reader.specs.Laws.Buffer.{lent, given_back, holds}
use Rattle.type_name.specs.FileRow.{passes}
use Rattle.type_name.specs.Answers.{RowAnswer, accepted, refused, answer_in, filled, buffer_in}
use Rattle.type_name.specs.EntrySays.{InFront, ReadsRow, TreeFits, settled}

module _ {a : Answer} (tree : List ℕ) where
  pub accepted_fits : {n m : ℕ} → a ≡ accepted_with n m → TreeFits a tree → node_width * n ≤ length tree
  accepted_fits e h = subst (λ (b : Answer). TreeFits b tree) e h

  -- Behind the tree there are zeros,
  pub settled_tree : {n m : ℕ} {ys : List ℕ} → a ≡ accepted_with n m → node_width * n ≤ length tree → ys ≡ replicate (length (lent (node_width * n) tree)) 0
      → given_back (node_width * n) tree ys ≡ settled tree a
  settled_tree {n = n} e h z =
      let k : length (lent (node_width * n) tree) ≡ length tree - node_width * n = simp (length-take, length-drop) (omega arith) in
      let none_left : drop (length tree - node_width * n) (drop (node_width * n) tree) ≡ [] =
      drop_of_length-le (drop (node_width * n) tree) {i = length tree - node_width * n} (omega (arith, length-drop (node_width * n) tree)) in
      rw (e, none_left, append-nil, z, k) refl

  -- and after a refusal nothing else.
  pub settled_refused : {e : TypeNameError} {m : ℕ} {ys : List ℕ} → a ≡ refused_with e m → ys ≡ replicate (length tree) 0 → ys ≡ settled tree a
  settled_refused e z = rw e z

-- What is settled is what the definition says, whatever the buffer held before.
module _ (tree : List ℕ) where
  pub row_fits : (o : RowAnswer) → InFront o tree → TreeFits (answer_in (passes o)) tree
  unfolding answer_in
  row_fits (accepted x m) w = holds x (count x) tree refl w
  row_fits (refused e m) w = tt

  pub row_settled : (o : RowAnswer) (before : List ℕ) → InFront o tree → length tree ≡ length before → settled tree (answer_in (passes o)) ≡ buffer_in before (passes o)
  unfolding answer_in buffer_in filled
  row_settled (accepted x m) before w e = rw (w, e, three_each x) refl
  row_settled (refused e m) before w q = rw (q, sub-zero (length before)) refl

module _ {o : RowAnswer} {a : Answer} {tree : List ℕ} (h : ReadsRow o a tree) where
  pub told_fits : TreeFits a tree
  told_fits = rw h.answered (row_fits tree o h.in_front)

  pub told_settled : (before : List ℕ) {after : List ℕ} → length tree ≡ length before → after ≡ settled tree a → after ≡ buffer_in before (passes o)
  told_settled before e q = q ∙ ap (settled tree) h.answered ∙ row_settled tree o before h.in_front e
