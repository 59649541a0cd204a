-- What the row reader answers, and what it leaves in the lent arrays: document 01, "Token record".
-- Assumes nothing.
use Rattle.std.specs.Prelude.{ℕ, ◌≤◌, ◌<◌, ◌^◌, ◌≡◌, List, length, take, drop, Result, Ok, Err}
use Rattle.rows.specs.declared.format.Format.{Format}
use Rattle.rows.specs.Records.{RowToken, malformed, tokens, tokens_from, refused, row, records_from, kinds_of, words_of, places_of}
use Rattle.rows.specs.declared.row.RecordsRead.{RecordsRead}
use Rattle.rows.specs.declared.row.MalformedRecord.{MalformedRecord}
use Rattle.rows.specs.declared.answer.TypeNameError.{TypeNameError}

-- What the row reader is lent: a file whose byte offsets fit 32 bits, and arrays with room for the most tokens.
pub record Room (file : List ℕ) (most : ℕ) (kinds words places : List ℕ) : Type 0 where
  pub offsets_fit : length file < 2 ^ 32
  pub for_kinds : most ≤ length kinds
  pub for_words : most ≤ length words
  pub for_places : most ≤ length places

-- An array holds these numbers in front, and is unchanged after them.
pub record Filled (before numbers after : List ℕ) : Type 0 where
  pub front : take (length numbers) after ≡ numbers
  pub rest : drop (length numbers) after ≡ drop (length numbers) before

-- The kinds, word numbers and places of these tokens, so many, stand in the arrays.
pub record InArrays (ts : List RowToken) (count : ℕ) (kinds words places kinds' words' places' : List ℕ) : Type 0 where
  pub is_count : count ≡ length ts
  pub kinds_filled : Filled kinds (kinds_of ts) kinds'
  pub words_filled : Filled words (words_of ts) words'
  pub places_filled : Filled places (places_of ts) places'

module _ (f : Format) (file : List ℕ) (begin most : ℕ) (kinds words places : List ℕ) where
  -- Records were read, and the next begins there.
  pub record RecordsTaken (count next : ℕ) (kinds' words' places' : List ℕ) : Type 0 where
    pub taken : List RowToken
    pub is : tokens_from f file most begin ≡ tokens taken next
    pub in_arrays : InArrays taken count kinds words places kinds' words' places'

  -- A row was read.
  pub record RowTaken (count : ℕ) (kinds' words' places' : List ℕ) : Type 0 where
    pub taken : List RowToken
    pub is : records_from f file most begin ≡ row taken
    pub in_arrays : InArrays taken count kinds words places kinds' words' places'

  -- The tokens stand in the arrays, or a record is malformed where the definition has it so.
  abbrev pub RecordsAnswered : Result RecordsRead MalformedRecord → (kinds' words' places' : List ℕ) → Type 0
  RecordsAnswered (Ok r) kinds' words' places' = RecordsTaken r.count r.next kinds' words' places'
  RecordsAnswered (Err e) kinds' words' places' = tokens_from f file most begin ≡ malformed e.offset

  -- The row stands in the arrays, or it is refused as the definition refuses it.
  abbrev pub RowAnswered : Result ℕ TypeNameError → (kinds' words' places' : List ℕ) → Type 0
  RowAnswered (Ok count) kinds' words' places' = RowTaken count kinds' words' places'
  RowAnswered (Err e) kinds' words' places' = records_from f file most begin ≡ refused e

  -- `read_records`. What the arrays hold after a refusal is free: they keep their lengths, and nothing else is said.
  pub record ReadsRecords (r : Result RecordsRead MalformedRecord) (kinds' words' places' : List ℕ) : Type 0 where
    pub answered : RecordsAnswered r kinds' words' places'

  -- `read_row`. What the arrays hold after a refusal is free, as above.
  pub record Reads (r : Result ℕ TypeNameError) (kinds' words' places' : List ℕ) : Type 0 where
    pub answered : RowAnswered r kinds' words' places'
