-- The reading of a row into a tree: document 01, "Node record" and "Steps". It knows no allowance: refusal 25 is a comparison of its step count.
-- Assumes nothing.
--
-- Letters: k the kind of a token or node, i a node's token, b the nodes below it, x the nodes after it, l and v regions, m steps, e a fault; a name
-- with a prime (at') is the value afterwards.
--
-- A row turn by turn: `A<b>` in C++. Left the region and the token `at` that a turn looks at; right what `next` says and what comes of it.
--   top 0       `A`  token     T 0, one step; the rest of the top region is read from 1 on, after an identifier
--   top 1       `<`  angle     a list is tried, one level down, from 2 on
--   list 2      `b`  first     an argument begins
--   argument 2  `b`  token     T 2, one step
--   argument 3  `>`  ends      the argument's nodes are T 2; `argued` takes the `>`: A 2 above T 2, and on from 4
--   top 4       end  ends      the list was read: L 1 above A 2, one step
-- So `reading` is got (T 0, L 1 above A 2 above T 2) at 4, no half, 3 steps.
use Prim.Native.Nat.{ℕ, zero, suc, ◌+◌, ◌*◌}
use Rattle.std.specs.Prelude.{Bool, ◌&&◌, ◌||◌, List, get_or, leb, ltb, if◌then◌else◌}
use Rattle.std.proofs.Math.Bool.{true, false}
use Rattle.std.proofs.Math.ListN.{length}
use Rattle.std.proofs.Math.Dec.{eqb}
use Rattle.rows.specs.Kinds.{Identifier, LeftParen, RightParen, LeftBracket, RightBracket, Comma, Less, Greater, ShiftRight, NoToken}
use Rattle.rows.specs.declared.answer.TypeNameError.{TypeNameError}
use Rattle.rows.specs.declared.answer.TypeNameError.TheVariants.{NestingLimitExceeded, UnterminatedGroup, MismatchedClosingDelimiter}
use Rattle.reader.specs.Nodes.{NodeKind, t_node, g_node, b_node, l_node, a_node, Nodes, none, node}

-- ---- what is met and what comes of it

-- The **region** of the row that is being read: the whole row, the inside of `( )` or `[ ]`, one argument of a list, or what follows a list's `<`
-- or comma.
pub data Region : Type 0 where
  top round square argument list : Region

-- Why a region is not read: a refusal, or (inside a list alone) an empty argument or no closer, which only makes the try of that list fail.
pub data Fault : Type 0 where
  refusal : TypeNameError → Fault
  no_list : Fault

-- What is to be done at a token (`parse_node` and the loops around it): end the region and go on at a token; stop; take a T, perhaps an
-- identifier; read a group; try a list; begin an argument.
pub data Next : Type 0 where
  ends : (at : ℕ) → Next
  stops : Fault → Next
  token : (identifier : Bool) → Next
  group : NodeKind → Region → Next
  angle first : Next

-- What came of a region: its nodes, where to go on, whether half a `>>` is left, and the steps; or a fault, and the steps up to it.
pub data Got : Type 0 where
  got : Nodes → (at : ℕ) → (half : Bool) → (steps : ℕ) → Got
  bad : Fault → (steps : ℕ) → Got

-- `Result`: one thing where a region was read, another where it was not.
unfoldable pub case : Got → (Nodes → ℕ → Bool → ℕ → Got) → (Fault → ℕ → Got) → Got
case (got x at half m) f g = f x at half m
case (bad e m) f g = g e m

-- A node and its steps before what came of reading the rest of its region: `nodes.push`.
unfoldable pub before : NodeKind → (token : ℕ) → Nodes → (steps : ℕ) → Got → Got
before k i b m (got x at half m') = got (node k i b x) at half (m + m')
before k i b m (bad e m') = bad e (m + m')

-- ---- what is to be done at a token of kind k

-- `is_angle_close`: a list can end here, with `lists` lists open, itself counted (document 01's template depth).
unfoldable pub is_angle_close : (lists k : ℕ) (half : Bool) → Bool
is_angle_close lists k half = half || eqb k Greater || (eqb k ShiftRight && leb 2 lists)

module _ (cpp : Bool) where
  -- `parse_node`: a node begins; `after-identifier`: its left neighbour node is an identifier token.
  unfoldable pub starts : (after_identifier : Bool) (k : ℕ) → Next
  starts after_identifier k =
      if eqb k LeftParen then group g_node round
      else if eqb k LeftBracket then group b_node square
      else if eqb k Less && cpp && after_identifier then angle
      else token (eqb k Identifier)

  -- `parse_group` at top, round and square, `parse_template_arguments` at argument and list. "Directly in an argument a `)` or `]` is taken as a T."
  unfoldable pub next : Region → (lists : ℕ) (after_identifier : Bool) (k at : ℕ) (half : Bool) → Next
  unfolding is_angle_close starts
  next top lists after_identifier k at half =
      if eqb k NoToken then ends at
      else if eqb k RightParen || eqb k RightBracket then stops (refusal MismatchedClosingDelimiter)
      else starts after_identifier k
  next round lists after_identifier k at half =
      if eqb k NoToken then stops (refusal UnterminatedGroup)
      else if eqb k RightParen then ends (suc at)
      else if eqb k RightBracket then stops (refusal MismatchedClosingDelimiter)
      else starts after_identifier k
  next square lists after_identifier k at half =
      if eqb k NoToken then stops (refusal UnterminatedGroup)
      else if eqb k RightBracket then ends (suc at)
      else if eqb k RightParen then stops (refusal MismatchedClosingDelimiter)
      else starts after_identifier k
  next argument lists after_identifier k at half =
      if is_angle_close lists k half || eqb k Comma then ends at
      else if eqb k NoToken then stops no_list
      else starts after_identifier k
  next list lists after_identifier k at half =
      if is_angle_close lists k half then stops no_list
      else first

-- ---- the reading

-- The kind of a token of the row; `NoToken` past its end, where `tokens.get` gives `None`.
unfoldable pub kind_at : List ℕ → ℕ → ℕ
kind_at row at = get_or row at NoToken

-- "Groups and lists nest to 64."
abbrev pub MAX_NESTING_DEPTH : ℕ
MAX_NESTING_DEPTH = 64

module _ (cpp : Bool) (row : List ℕ) where
  -- The same in this row: `self.tokens.get(..)`.
  abbrev kind : ℕ → ℕ
  kind at = kind_at row at

  -- A reading of a region: `lists` lists and `nesting` groups and lists are open, `after-identifier` as above, from token `at` on, `half`: half a `>>` is left.
  abbrev pub Reader : Type 0
  Reader = Region → (lists nesting : ℕ) (after_identifier : Bool) (at : ℕ) (half : Bool) → Got

  -- One turn of the reading, given the reading of what comes after: `read`.
  module _ (read : Reader) where
    -- One level down: "20 nesting over 64" if that is too deep.
    unfoldable pub down : Bool → Region → (lists nesting at : ℕ) (half : Bool) → Got
    down true l lists nesting at half = read l lists nesting false at half
    down false l lists nesting at half = bad (refusal NestingLimitExceeded) 0

    module _ (l : Region) (lists nesting : ℕ) where
      -- An argument's nodes have been read, `begin` its first token: it is empty; a comma follows, and then the next argument; or the list is
      -- closed: by the half of a `>>`, by `>`, or by a `>>`, of which half is left.
      unfoldable pub argued : (begin : ℕ) → Nodes → (comma : Bool) (at : ℕ) (half : Bool) (steps : ℕ) → Got
      unfolding before
      argued begin none comma at half m = bad no_list m
      argued begin (node k i b y) true at half m = before a_node begin (node k i b y) m (read list lists nesting false (suc at) half)
      argued begin (node k i b y) false at true m = got (node a_node begin (node k i b y) none) at false m
      argued begin (node k i b y) false at false m = got (node a_node begin (node k i b y) none) (suc at) (eqb (kind at) ShiftRight) m

      -- Each node is one step, an entry to `parse_node`. "If the try fails, everything but the step count is set back, the half-used `>>`
      -- included, and `<` becomes a T."
      unfoldable pub go : Next → (at : ℕ) (half : Bool) → Got
      unfolding case down before argued
      go (ends at') at half = got none at' half 0
      go (stops e) at half = bad e 0
      go (token identifier) at half = before t_node at none 1 (read l lists nesting identifier (suc at) half)
      go (group k v) at half =
          case (down (ltb nesting MAX_NESTING_DEPTH) v lists (suc nesting) (suc at) half)
          (λ b at' half' m. before k at b (suc m) (read l lists nesting false at' half'))
          (λ e m. bad e (suc m))
      go angle at half =
          case (down (ltb nesting MAX_NESTING_DEPTH) list (suc lists) (suc nesting) (suc at) half)
          (λ b at' half' m. before l_node at b (suc m) (read l lists nesting false at' half'))
          (λ e m. before t_node at none (suc m) (read l lists nesting false (suc at) half))
      go first at half =
          case (read argument lists nesting false at half)
          (λ x at' half' m. argued at x (eqb (kind at') Comma) at' half' m)
          (λ e m. bad e m)

    -- What `next` says is done: one turn of the loops of `parse_group` and `parse_template_arguments`.
    unfoldable pub turn : Reader
    unfolding go next
    turn l lists nesting after_identifier at half = go l lists nesting (next cpp l lists after_identifier (kind at) at half) at half

  -- The reading turns again and again. `fuel` bounds how deep the turns stand in one another, since a definition must end. It says nothing: twice the
  -- tokens and two are enough for every row, and then `read` is one turn of itself (`fixed`, specs/Laws/Fixed.antt).
  unfoldable pub read_f : ℕ → Reader
  unfolding turn
  read_f zero l lists nesting after_identifier at half = bad no_list 0
  read_f (suc fuel) l lists nesting after_identifier at half = turn (λ l lists nesting after_identifier at half. read_f fuel l lists nesting after_identifier at half) l lists nesting after_identifier at half

  -- The reading of any region of the row: `parse_group` and `parse_template_arguments`.
  unfoldable pub read : Reader
  unfolding read_f
  read l lists nesting after_identifier at half = read_f (2 * length row + 2) l lists nesting after_identifier at half

  -- `TypeSyntaxParser::parse`, but for its last test (refusal 23, in the answer's definition).
  unfoldable pub reading : Got
  unfolding read
  reading = read top 0 0 false 0 false
