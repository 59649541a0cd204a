-- Two files that say the same head and the same row: document 02, C-14, "A converted file gets the answer and tree its old file would get if still read".
-- Assumes nothing.
use Rattle.std.specs.Prelude.{◌≡◌, List, [], ◌∷◌}
use Rattle.rows.specs.Records.{RowToken}
use Rattle.type_name.specs.FileRow.{HeadRow, Outcome, untouched, passes}

-- The same kinds and words, wherever the records stand.
abbrev pub SameTokens : List RowToken → List RowToken → Type 0
SameTokens [] [] = Unit {0}
SameTokens [] (u ∷ us) = ⊥
SameTokens (t ∷ ts) [] = ⊥
SameTokens (t ∷ ts) (u ∷ us) = (t.kind ≡ u.kind) × (t.word ≡ u.word) × SameTokens ts us

-- The same head as meant, and the same tokens but for their places.
pub record SameRow (r r' : HeadRow) : Type 0 where
  pub same_head : r.the_head ≡ r'.the_head
  pub same_tokens : SameTokens r.tokens r'.tokens

-- The same refusal, or the same head and row.
abbrev pub Alike : Outcome HeadRow → Outcome HeadRow → Type 0
Alike (untouched e) (untouched e') = e ≡ e'
Alike (untouched e) (passes r') = ⊥
Alike (passes r) (untouched e') = ⊥
Alike (passes r) (passes r') = SameRow r r'
