-- A file is the list of its bytes.
-- Assumes nothing.
use Rattle.std.specs.Prelude.{ℕ, suc, ◌<◌, List, [], ◌∷◌, ◌++◌, take, drop}
use Rattle.rows.specs.Records.{byte_values}

-- Every number of the list is a byte.
abbrev pub AllBytes : List ℕ → Type 0
AllBytes [] = Unit {0}
AllBytes (b ∷ bs) = (b < byte_values) × AllBytes bs

-- The same bytes but for the one at an offset.
unfoldable pub with_byte : (at byte : ℕ) → List ℕ → List ℕ
with_byte at byte file = take at file ++ (byte ∷ drop (suc at) file)
