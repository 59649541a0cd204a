-- Overlap as code finds it, item by item: what contracts say. That it is the same: `overlap_found`, `overlap_meets` (specs/Laws/Overlaps.antt).
-- Assumes nothing.
use Rattle.std.specs.Prelude.{Bool, true, ◌&&◌, ◌||◌, List, [], ◌∷◌}
use Rattle.rows.specs.Words.{same_exactly}
use Rattle.rules.specs.Rules.{Item, Rule}
use Rattle.rules.specs.RuleTable.{item_bytes}
use Rattle.rules.specs.Overlaps.{is_any}

-- The items are the same, or one is "any one node".
unfoldable pub agree : (i j : Item) → Bool
unfolding is_any item_bytes same_exactly
agree i j = is_any i || is_any j || same_exactly (item_bytes i) (item_bytes j)

-- Two lists of items, each with "the rest" behind it or not, match a sequence together.
unfoldable pub meets : (rest rest' : Bool) → (is js : List Item) → Bool
unfolding agree
meets r r' [] [] = true
meets r r' [] (j ∷ js) = r
meets r r' (i ∷ is) [] = r'
meets r r' (i ∷ is) (j ∷ js) = agree i j && meets r r' is js

-- Two rules do.
unfoldable pub rules_meet : (r s : Rule) → Bool
unfolding meets
rules_meet r s = meets r.rest s.rest r.items s.items
