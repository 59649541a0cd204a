-- What the reader's loops keep: the whole is the nodes that were read, before what comes of the rest; and those nodes stand in the buffer.
-- Assumes nothing.
use Rattle.std.specs.Prelude.{ℕ, ◌+◌, ◌*◌, ◌≤◌, ◌≡◌, Bool, List, [], ◌++◌, length, take, eqb}
use Rattle.std.proofs.Math.Path.{refl, ap}
use Rattle.std.proofs.Common.{sym, ◌∙◌, arith}
use Rattle.rows.specs.Kinds.{Identifier}
use Rattle.reader.specs.Nodes.{Nodes, none, node, count, node_width, records}
use Rattle.reader.specs.Reading.{Region, Fault, refusal, starts, next, kind_at}
use Rattle.reader.specs.ReaderSays.{Denied, Found, node_due, rest_due}
use Rattle.reader.specs.Laws.Loops.{◌then◌, then_count, then_records}
use Rattle.reader.specs.Allowance.{Limited, done, denied, spent}
use Rattle.reader.specs.Laws.Ahead.{ahead, then_none, ahead_none, ahead_behind, ahead_done, ahead_denied, ahead_spent, turned}
use Rattle.reader.specs.declared.parser.TypeSyntaxParser.{TypeSyntaxParser}
use Rattle.reader.specs.declared.parser.Stop.{Stop}
use Rattle.reader.specs.declared.parser.Stop.TheVariants.{Refused, Spent}

-- From token `at` to where the reading stands, with m nodes on the way.
pub record Way (row : List ℕ) (at : ℕ) (now : TypeSyntaxParser) (m : ℕ) : Type 0 where
  pub forwards : at ≤ now.cursor
  pub within : now.cursor ≤ length row
  pub size : m + 2 * at ≤ 2 * now.cursor

-- What is due is m nodes, whose numbers these are, before what is due of the rest.
pub record Reached (cpp : Bool) (row : List ℕ) (l : Region) (lists nesting : ℕ) (o : Limited) (after_identifier : Bool) (now : TypeSyntaxParser) (m : ℕ) (numbers : List ℕ) : Type 0 where
  pub nodes : Nodes
  pub is : o ≡ ahead nodes (rest_due cpp row lists nesting after_identifier now l)
  pub counted : count nodes ≡ m
  pub written : numbers ≡ records nodes

module _ {cpp : Bool} {row : List ℕ} {l : Region} {lists nesting : ℕ} where
  pub begun : {now : TypeSyntaxParser} {after_identifier : Bool} → Reached cpp row l lists nesting (rest_due cpp row lists nesting after_identifier now l) after_identifier now 0 []
  unfolding count records
  begun = record { nodes = none; is = ahead_none _; counted = refl; written = refl }

  module _ {o : Limited} {after_identifier : Bool} {now : TypeSyntaxParser} {m : ℕ} {numbers : List ℕ} (r : Reached cpp row l lists nesting o after_identifier now m numbers) where
    -- What is due of the rest is known.
    pub reached_done : (at : ℕ) (half : Bool) (left : ℕ) → rest_due cpp row lists nesting after_identifier now l ≡ done none at half left → o ≡ done r.nodes at half left
    reached_done at half left e = r.is ∙ ap (ahead r.nodes) e ∙ ahead_done r.nodes none at half left ∙ ap (λ (x : Nodes). done x at half left) (then_none r.nodes)

    pub reached_denied : (e : Fault) (left : ℕ) → rest_due cpp row lists nesting after_identifier now l ≡ denied e left → o ≡ denied e left
    reached_denied e left q = r.is ∙ ap (ahead r.nodes) q ∙ ahead_denied r.nodes e left

    pub reached_spent : rest_due cpp row lists nesting after_identifier now l ≡ spent → o ≡ spent
    reached_spent q = r.is ∙ ap (ahead r.nodes) q ∙ ahead_spent r.nodes

    -- Where a node begins.
    module _ (i : now.cursor ≤ length row) (at_node : starts cpp after_identifier (kind_at row now.cursor) ≡ next cpp l lists after_identifier (kind_at row now.cursor) now.cursor now.pending_greater) where
      at_turn : rest_due cpp row lists nesting after_identifier now l ≡ node_due cpp row lists nesting after_identifier now l
      at_turn = turned cpp row l lists nesting after_identifier now.cursor now.pending_greater i now.left _ at_node

      pub node_stop : (s : Stop) → ((v : Region) → Denied (node_due cpp row lists nesting after_identifier now v) s) → Denied o s
      node_stop (Refused e left) q = reached_denied (refusal e) left (at_turn ∙ q l)
      node_stop Spent q = reached_spent (at_turn ∙ q l)

      -- One node more.
      pub node_more : {to : TypeSyntaxParser} {more : ℕ} {buf : List ℕ} → Found cpp row lists nesting after_identifier now to more buf → {numbers' : List ℕ}
          → numbers' ≡ numbers ++ take (node_width * more) buf
          → Reached cpp row l lists nesting o (eqb (kind_at row now.cursor) Identifier) to (m + more) numbers'
      unfolding count
      node_more f e = record {
        nodes = r.nodes then node f.kind now.cursor f.below none;
        is = r.is ∙ ap (ahead r.nodes) (at_turn ∙ f.is l) ∙ ahead_behind r.nodes f.kind now.cursor f.below _;
        counted = then_count r.nodes (node f.kind now.cursor f.below none) ∙ omega (arith, r.counted, f.counted);
        written = e ∙ rw (r.written, f.written) (sym (then_records r.nodes (node f.kind now.cursor f.below none)));
      }
