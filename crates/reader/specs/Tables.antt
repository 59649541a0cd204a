-- What the code's enums stand for in the reading's tables.
-- Assumes nothing.
use Rattle.std.specs.Prelude.{ℕ, suc, ◌≡◌, Bool, true, false, eqb, if◌then◌else◌, Option, Some, None}
use Rattle.rows.specs.Kinds.{Identifier, NoToken}
use Rattle.rows.specs.declared.answer.Delimiter.{Delimiter}
use Rattle.rows.specs.declared.answer.Delimiter.TheVariants.{Parenthesis, Bracket}
use Rattle.rows.specs.declared.answer.TypeNameError.TheVariants.{UnterminatedGroup, MismatchedClosingDelimiter}
use Rattle.reader.specs.Nodes.{NodeKind, g_node, b_node}
use Rattle.reader.specs.Reading.{Region, top, round, square, refusal, Next, ends, stops, token, group, angle, first, starts, next}
use Rattle.reader.specs.declared.tables.Start.{Start}
use Rattle.reader.specs.declared.tables.GroupStep.{GroupStep}

-- The node of a group.
abbrev pub node_of : Delimiter → NodeKind
node_of Parenthesis = g_node
node_of Bracket = b_node

-- The region between the brackets that are open, if any are.
abbrev pub region_of : Option Delimiter → Region
region_of None = top
region_of (Some Parenthesis) = round
region_of (Some Bracket) = square

-- `next` at round and square, where `close` closes the region and `other` closes the other one.
unfoldable pub in_group : (cpp : Bool) (close other : ℕ) (after_identifier : Bool) (k at : ℕ) → Next
in_group cpp close other after_identifier k at =
    if eqb k NoToken then stops (refusal UnterminatedGroup)
    else if eqb k close then ends (suc at)
    else if eqb k other then stops (refusal MismatchedClosingDelimiter)
    else starts cpp after_identifier k

-- How a node at a token of kind k begins.
unfoldable pub started : (k : ℕ) → Start → Next
started k (Start.Group d) = group (node_of d) (region_of (Some d))
started k Start.Angle = angle
started k Start.Token = token (eqb k Identifier)

-- A token is taken as a node by itself.
unfoldable pub takes_token : Next → Bool
takes_token (ends at) = false
takes_token (stops e) = false
takes_token (token identifier) = true
takes_token (group k l) = false
takes_token angle = false
takes_token first = false

-- What is to be done at a token of the row or of a group.
unfoldable pub planned : (cpp after_identifier : Bool) (k : ℕ) → GroupStep → Next
planned cpp after_identifier k (GroupStep.Ends at) = ends at
planned cpp after_identifier k (GroupStep.Stops e) = stops (refusal e)
planned cpp after_identifier k GroupStep.Node = starts cpp after_identifier k

-- What is to be done is the table's, whatever the language, the left neighbour, the lists open and the half of a `>>`.
pub record Plans (step : GroupStep) (l : Region) (k at : ℕ) : Type 0 where
  pub plans : (cpp after_identifier half : Bool) (lists : ℕ) → planned cpp after_identifier k step ≡ next cpp l lists after_identifier k at half

-- The same between brackets, of which `close` closes this region.
pub record PlansGroup (step : GroupStep) (close other k at : ℕ) : Type 0 where
  pub plans : (cpp after_identifier : Bool) → planned cpp after_identifier k step ≡ in_group cpp close other after_identifier k at
