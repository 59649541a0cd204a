-- Rules over the top-level nodes of a tree, and which rule wins: document 02, C-11.
-- Assumes nothing.
use Rattle.std.specs.Prelude.{ℕ, suc, Bool, true, false, ◌&&◌, List, [], ◌∷◌, length, leb, eqb, if◌then◌else◌}
use Rattle.rows.specs.Format.{longest_word}
use Rattle.rows.specs.Kinds.{Identifier, End}
use Rattle.rows.specs.Records.{in_range}
use Rattle.rows.specs.Words.{same_exactly}

-- A top-level node as rules see it: a T of kind 0 with its word, a T of another kind, "a group (parentheses or brackets)", "a list".
pub data Node : Type 0 where
  word_node : (word : List ℕ) → Node
  kind_node : (kind : ℕ) → Node
  group_node list_node : Node

-- "a T of a given word, a T of a given kind other than 0, a group (parentheses or brackets), a list, any one node": the items that count.
pub data Item : Type 0 where
  word : (word : List ℕ) → Item
  kind : (kind : ℕ) → Item
  group list any : Item

-- "A rule is 1 to 16 items over the top-level nodes": those that count, and whether "as last item 'the rest', which may be none" follows.
pub record Rule : Type 0 where
  pub items : List Item
  pub rest : Bool

-- ---- which nodes and items there are

-- "the word (1 to 255 bytes, each 33 to 126)".
unfoldable pub good_word : List ℕ → Bool
good_word w = leb 1 (length w) && leb (length w) longest_word && in_range w

-- "the kind as a byte from 1 to 57".
unfoldable pub good_kind : ℕ → Bool
good_kind k = leb (suc Identifier) k && leb k End

-- A node that some token, group or list can be: every word and every kind, whatever top-level T a row can have.
unfoldable pub good_node : Node → Bool
unfolding good_word good_kind
good_node (word_node w) = good_word w
good_node (kind_node k) = good_kind k
good_node group_node = true
good_node list_node = true

-- "some sequence of nodes, from a row or not".
unfoldable pub good_nodes : List Node → Bool
unfolding good_node
good_nodes [] = true
good_nodes (n ∷ ns) = good_node n && good_nodes ns

-- An item of the form.
unfoldable pub good_item : Item → Bool
unfolding good_word good_kind
good_item (word w) = good_word w
good_item (kind k) = good_kind k
good_item group = true
good_item list = true
good_item any = true

-- Items of the form.
unfoldable pub good_items : List Item → Bool
unfolding good_item
good_items [] = true
good_items (i ∷ is) = good_item i && good_items is

-- ---- matching

-- The item takes the node. "Words match byte for byte."
unfoldable pub fits : Item → Node → Bool
unfolding same_exactly
fits (word w) (word_node v) = same_exactly w v
fits (word w) (kind_node k) = false
fits (word w) group_node = false
fits (word w) list_node = false
fits (kind k) (word_node v) = false
fits (kind k) (kind_node j) = eqb k j
fits (kind k) group_node = false
fits (kind k) list_node = false
fits group (word_node v) = false
fits group (kind_node k) = false
fits group group_node = true
fits group list_node = false
fits list (word_node v) = false
fits list (kind_node k) = false
fits list group_node = false
fits list list_node = true
fits any n = true

-- The items take the nodes one by one, and "the rest", if it follows, those that are left.
unfoldable pub matches_items : (rest : Bool) → List Item → List Node → Bool
unfolding fits
matches_items rest [] [] = true
matches_items rest [] (n ∷ ns) = rest
matches_items rest (i ∷ is) [] = false
matches_items rest (i ∷ is) (n ∷ ns) = fits i n && matches_items rest is ns

-- "matches all top-level nodes".
unfoldable pub matches : Rule → List Node → Bool
unfolding matches_items
matches r ns = matches_items r.rest r.items ns

-- ---- the winner

-- "reported by place from 0", or "no rule matches".
pub data Winner : Type 0 where
  no_winner : Winner
  wins : (place : ℕ) → Winner

-- "The first rule that matches", counted from a place on.
unfoldable pub winner_from : (place : ℕ) → List Rule → List Node → Winner
unfolding matches
winner_from place [] ns = no_winner
winner_from place (r ∷ rs) ns =
    let later = winner_from (suc place) rs ns in
    if matches r ns then wins place else later

-- "The first rule that matches all top-level nodes wins and is reported by place from 0."
unfoldable pub winner : List Rule → List Node → Winner
unfolding winner_from
winner rs ns = winner_from 0 rs ns
