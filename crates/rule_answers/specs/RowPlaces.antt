-- What `read_places` asks of a file, and what it says of its tokens.
-- Assumes nothing.
use Rattle.std.specs.Prelude.{ℕ, ◌≤◌, ◌≡◌, List, length, take}
use Rattle.rows.specs.Format.{format, head_length, most_tokens}
use Rattle.rows.specs.Records.{RowToken, row, records_from}
use Rattle.rules.specs.RowSeen.{RowSeen}

-- The file has a row, and the arrays have room for the most tokens.
pub record PlacesReady (file kinds places : List ℕ) : Type 0 where
  pub tokens : List RowToken
  pub row_is : records_from format file most_tokens head_length ≡ row tokens
  pub short : length file ≤ format.file_limit
  pub for_kinds : most_tokens ≤ length kinds
  pub for_places : most_tokens ≤ length places

-- The kinds and places of the row's tokens, so many, stand in front of the arrays.
pub record PlacesRead (file : List ℕ) (count : ℕ) (kinds places : List ℕ) : Type 0 where
  pub few : count ≤ most_tokens
  pub seen : (ts : List RowToken) → records_from format file most_tokens head_length ≡ row ts → RowSeen file (take count kinds) (take count places) ts
