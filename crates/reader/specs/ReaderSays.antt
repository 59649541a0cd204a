-- What the contracts of the reader's code say. Each function is told in the terms of the reading's definition under the steps left (`reading_within`).
-- Left free: the numbers of the lent buffer behind the nodes that were read, and the whole buffer after a refusal, a failed try or refusal 25.
-- Assumes nothing.
use Rattle.std.specs.Prelude.{ℕ, suc, ◌+◌, ◌-◌, ◌*◌, ◌≤◌, ◌<◌, ◌≡◌, ◌⊎◌, ◌≢◌, Bool, true, false, List, ◌∷◌, length, take, drop, leb, eqb, Result, Ok, Err}
use Rattle.rows.specs.Kinds.{Identifier, ShiftRight}
use Rattle.rows.specs.Format.{most_tokens}
use Rattle.rows.specs.declared.answer.TypeNameError.{TypeNameError}
use Rattle.rows.specs.declared.answer.TypeNameError.TheVariants.{UnexpectedTokenAfterTypeName}
use Rattle.reader.specs.Nodes.{NodeKind, t_node, number, Nodes, none, node, count, node_width, numbers_per_token, records}
use Rattle.reader.specs.Reading.{Region, Fault, refusal, Got, got, bad, starts, kind_at, MAX_NESTING_DEPTH, down, go, read}
use Rattle.reader.specs.Allowance.{Limited, done, denied, spent, steps, reading_within, behind}
use Rattle.reader.specs.declared.parser.TypeSyntaxParser.{TypeSyntaxParser}
use Rattle.reader.specs.declared.parser.Stop.{Stop}
use Rattle.reader.specs.declared.parser.NodesRead.{NodesRead}
use Rattle.reader.specs.declared.parser.ListStop.{ListStop}
use Rattle.reader.specs.declared.parser.ListEnd.{ListEnd}
use Rattle.reader.specs.declared.parser.ListEnd.TheVariants.{Closed, EmptyArgument, Unterminated}
use Rattle.reader.specs.declared.parser.Tree.{Tree}
use Rattle.reader.specs.declared.parser.ParseError.{ParseError}

-- ---- what a caller sees to

-- From token `at` on the buffer has the numbers of each token left, and `spare` more; so many lists are open, and so many groups and lists, at most `limit`.
pub record ParserReady (row : List ℕ) (at lists nesting limit spare : ℕ) (buf : List ℕ) : Type 0 where
  pub within : at ≤ length row
  pub short : length row ≤ most_tokens
  pub room : numbers_per_token * length row + spare ≤ length buf + numbers_per_token * at
  pub fewer : lists ≤ nesting
  pub shallow : nesting ≤ limit

-- ---- what a reading of nodes says

-- A region, or a list's arguments, read from token `at` on: n nodes, the definition's, and their records at the front of the buffer. `size` is
-- what a caller needs to lend what is left: two nodes a token, and `extra`.
pub record Told (row : List ℕ) (at extra : ℕ) (o : Limited) (now : TypeSyntaxParser) (n : ℕ) (buf : List ℕ) : Type 0 where
  pub nodes : Nodes
  pub is : o ≡ done nodes now.cursor now.pending_greater now.left
  pub counted : count nodes ≡ n
  pub written : take (node_width * n) buf ≡ records nodes
  pub forwards : at ≤ now.cursor
  pub within : now.cursor ≤ length row
  pub size : n + 2 * at ≤ 2 * now.cursor + extra

-- It stopped where the definition does: at a refusal, or at refusal 25.
abbrev pub Denied : Limited → Stop → Type 0
Denied o (Stop.Refused e left) = o ≡ denied (refusal e) left
Denied o Stop.Spent = o ≡ spent

-- What `parse_group` says: the nodes of the region, or why it stopped.
abbrev pub GroupSays : List ℕ → ℕ → Limited → Result NodesRead Stop → List ℕ → Type 0
GroupSays row at o (Ok r) buf = Told row at 0 o r.next r.nodes buf
GroupSays row at o (Err s) buf = Denied o s

-- `parse_group`.
pub record GroupAnswers (row : List ℕ) (at : ℕ) (o : Limited) (r : Result NodesRead Stop) (buf : List ℕ) : Type 0 where
  pub says : GroupSays row at o r buf

-- What `parse_template_arguments` says: the arguments, that the try failed, or refusal 25.
abbrev pub ListSays : List ℕ → ℕ → Limited → Result NodesRead ListStop → List ℕ → Type 0
ListSays row at o (Ok r) buf = Told row at 1 o r.next r.nodes buf
ListSays row at o (Err (ListStop.Failed left)) buf = (e : Fault) × (o ≡ denied e left)
ListSays row at o (Err ListStop.Spent) buf = o ≡ spent

-- `parse_template_arguments`: a list that fails, fails with a fault that its try forgets.
pub record ListAnswers (row : List ℕ) (at : ℕ) (o : Limited) (r : Result NodesRead ListStop) (buf : List ℕ) : Type 0 where
  pub says : ListSays row at o r buf

module _ (cpp : Bool) (row : List ℕ) where
  -- What is due of a region that is one level down, with so many steps left.
  abbrev pub region_due : (l : Region) (lists nesting : ℕ) → TypeSyntaxParser → Limited
  region_due l lists nesting p = reading_within p.left (down cpp row (read cpp row) (leb nesting MAX_NESTING_DEPTH) l lists nesting p.cursor p.pending_greater)

  -- What is due of the rest of a region, where a node begins.
  abbrev pub node_due : (lists nesting : ℕ) (after_identifier : Bool) → TypeSyntaxParser → Region → Limited
  node_due lists nesting after_identifier p l =
      reading_within p.left (go cpp row (read cpp row) l lists nesting (starts cpp after_identifier (kind_at row p.cursor)) p.cursor p.pending_greater)

  -- What is due of the rest of a region after a node.
  abbrev pub rest_due : (lists nesting : ℕ) (after_identifier : Bool) → TypeSyntaxParser → Region → Limited
  rest_due lists nesting after_identifier p l = reading_within p.left (read cpp row l lists nesting after_identifier p.cursor p.pending_greater)

  module _ (lists nesting : ℕ) (after_identifier : Bool) (p : TypeSyntaxParser) where
    -- A node read: in every region the definition has that node before what comes of the rest, and its records stand at the front of the buffer.
    pub record Found (now : TypeSyntaxParser) (n : ℕ) (buf : List ℕ) : Type 0 where
      pub kind : NodeKind
      pub below : Nodes
      pub is : (l : Region) → node_due lists nesting after_identifier p l
          ≡ behind kind p.cursor below (rest_due lists nesting (eqb (kind_at row p.cursor) Identifier) now l)
      pub counted : suc (count below) ≡ n
      pub written : take (node_width * n) buf ≡ records (node kind p.cursor below none)
      pub forwards : p.cursor < now.cursor
      pub within : now.cursor ≤ length row
      pub size : n + 2 * p.cursor ≤ 2 * now.cursor

    -- What `parse_node` says: one node, or why it stopped.
    abbrev pub NodeSays : Result NodesRead Stop → List ℕ → Type 0
    NodeSays (Ok r) buf = Found r.next r.nodes buf
    NodeSays (Err s) buf = (l : Region) → Denied (node_due lists nesting after_identifier p l) s

    -- `parse_node`.
    pub record NodeAnswers (r : Result NodesRead Stop) (buf : List ℕ) : Type 0 where
      pub says : NodeSays r buf

-- ---- small functions

-- One token further, with so many steps left.
abbrev pub past : TypeSyntaxParser → (left : ℕ) → TypeSyntaxParser
past p left = record { cursor = p.cursor + 1; pending_greater = p.pending_greater; left = left }

-- What `parse_token` says, of the buffer before and after: one step is taken and the token's record written, or no step is left.
abbrev pub TokenSays : TypeSyntaxParser → Result NodesRead Stop → (before after : List ℕ) → Type 0
TokenSays p (Ok r) before after =
    (p.left ≢ 0) × (r.next ≡ past p (p.left - 1)) × (r.nodes ≡ 1) × (after ≡ number t_node ∷ p.cursor ∷ 1 ∷ drop node_width before)
TokenSays p (Err s) before after = (p.left ≡ 0) × (s ≡ Stop.Spent)

-- `parse_token`.
pub record TokenAnswers (p : TypeSyntaxParser) (r : Result NodesRead Stop) (before after : List ℕ) : Type 0 where
  pub says : TokenSays p r before after

-- What a stop of its nodes is to a list: it fails, unless no step was left.
abbrev pub list_stop_of : Stop → ListStop
list_stop_of (Stop.Refused e left) = ListStop.Failed left
list_stop_of Stop.Spent = ListStop.Spent

-- A refusal before the reading: no step is taken.
abbrev pub refused_unread : TypeNameError → ParseError
refused_unread e = ParseError.Refused e 0

-- A list is closed at a token: by half a `>>`, or by the token.
unfoldable pub closed_at : (at : ℕ) (half : Bool) → ℕ
closed_at at true = at
closed_at at false = suc at

-- Half a `>>` is left behind the list that is closed at a token.
unfoldable pub closed_half : List ℕ → (at : ℕ) (half : Bool) → Bool
closed_half row at true = false
closed_half row at false = eqb (kind_at row at) ShiftRight

-- Where the reading goes on behind the list,
abbrev pub closed : List ℕ → TypeSyntaxParser → TypeSyntaxParser
closed row p = record { cursor = closed_at p.cursor p.pending_greater; pending_greater = closed_half row p.cursor p.pending_greater; left = p.left }

-- and what comes of a list whose arguments end so, with n nodes of them.
abbrev pub list_ended : List ℕ → TypeSyntaxParser → (n : ℕ) → ListEnd → Result NodesRead ListStop
list_ended row p n Closed = Ok (record { next = closed row p; nodes = n })
list_ended row p n EmptyArgument = Err (ListStop.Failed p.left)
list_ended row p n Unterminated = Err (ListStop.Failed p.left)

-- ---- the whole row

-- The row is read: its tree of n nodes, with m steps, and nothing is left over.
pub record TreeRead (row : List ℕ) (allowance : ℕ) (g : Got) (n m : ℕ) (buf : List ℕ) : Type 0 where
  pub nodes : Nodes
  pub is : g ≡ got nodes (length row) false m
  pub allowed : m ≤ allowance
  pub counted : count nodes ≡ n
  pub written : take (node_width * n) buf ≡ records nodes

-- It is refused: by the reading, or with 23 because tokens or half a `>>` are left over.
pub record LeftOver (row : List ℕ) (g : Got) (e : TypeNameError) (m : ℕ) : Type 0 where
  pub error : e ≡ UnexpectedTokenAfterTypeName
  pub nodes : Nodes
  pub at : ℕ
  pub half : Bool
  pub is : g ≡ got nodes at half m
  pub over : (at ≢ length row) ⊎ (half ≡ true)

-- What `parse` says: the tree, a refusal of the reading or 23, or refusal 25.
abbrev pub ParseSays : List ℕ → ℕ → Got → Result Tree ParseError → List ℕ → Type 0
ParseSays row allowance g (Ok t) buf = TreeRead row allowance g t.nodes t.steps buf
ParseSays row allowance g (Err (ParseError.Refused e m)) buf = (m ≤ allowance) × ((g ≡ bad (refusal e) m) ⊎ LeftOver row g e m)
ParseSays row allowance g (Err ParseError.AllowancePassed) buf = allowance < steps g

-- `parse`: "25 step count would pass the allowance, and only then".
pub record Parses (row : List ℕ) (allowance : ℕ) (g : Got) (r : Result Tree ParseError) (buf : List ℕ) : Type 0 where
  pub says : ParseSays row allowance g r buf
