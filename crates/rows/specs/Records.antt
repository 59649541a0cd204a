-- The records of a file in a format: document 01, "Head record" and "Token record". A file is the list of its bytes.
-- Assumes nothing.
use Rattle.std.specs.Prelude.{ℕ, zero, suc, ◌+◌, ◌*◌, ◌-◌, Bool, true, false, not, ◌&&◌, List, [], ◌∷◌, map, length, get_or, take, drop, Option, Some, None, Result, Ok, Err, leb, ltb, eqb, if◌then◌else◌}
use Rattle.rows.specs.Kinds.{Identifier, End}
use Rattle.rows.specs.Words.{word_number}
use Rattle.rows.specs.Format.{short_bytes, allowance_bytes, head_length, at_length, at_kind, at_language, at_standard, at_flag, at_allowance, at_span, span_bytes, token_length, longest_word, least_word_byte, greatest_word_byte, meant}
use Rattle.rows.specs.declared.format.Format.{Format}
use Rattle.rows.specs.declared.answer.TypeNameError.{TypeNameError}
use Rattle.rows.specs.declared.answer.TypeNameError.TheVariants.{FileTooLong, InvalidHead, UnknownProfile, InvalidRecord, TooManyRecords}
use Rattle.rows.specs.declared.head.Head.{Head}
use Rattle.rows.specs.declared.token.SourceSpan.{SourceSpan}
use Rattle.rows.specs.declared.token.TokenRecord.{TokenRecord}

-- A byte is a number below 256.
abbrev pub byte_values : ℕ
byte_values = 256

-- "All record numbers are little-endian."
unfoldable pub little_endian : (width : ℕ) → (file : List ℕ) → (at : ℕ) → ℕ
little_endian zero file at = 0
little_endian (suc width) file at = get_or file at 0 + byte_values * little_endian width file (suc at)

-- A token of a row: the byte offset of its record in the file, its kind, and its word's bytes, "that part of the caller's file", none but at kind 0.
pub record RowToken : Type 0 where
  pub place : ℕ
  pub kind : ℕ
  pub word : List ℕ

-- Document 01's **row**, "the list of tokens of one type name, numbered from 0"; or why there is none.
pub data Row : Type 0 where
  refused : TypeNameError → Row
  row : List RowToken → Row

-- The tokens of records that stand one after another, and the byte offset behind them; or the byte offset of a malformed one.
pub data Tokens : Type 0 where
  malformed : (offset : ℕ) → Tokens
  tokens : List RowToken → (next : ℕ) → Tokens

-- "Each 33 to 126".
unfoldable pub in_range : List ℕ → Bool
in_range [] = true
in_range (b ∷ bs) = leb least_word_byte b && leb b greatest_word_byte && in_range bs

-- A well-formed token record of this kind and length.
abbrev pub formed : (kind length : ℕ) → Option TokenRecord
formed kind length = Some (record { kind = kind; length = length })

-- One token more in front: "Each record in turn".
unfoldable pub before_tokens : RowToken → Tokens → Tokens
before_tokens t (malformed offset) = malformed offset
before_tokens t (tokens ts next) = tokens (t ∷ ts) next

module _ (f : Format) (file : List ℕ) where
  -- ---- the head record: refusals 1 to 3

  -- Not "2 head short, wrong length or kind, or flag over 1".
  unfoldable pub head_formed : Bool
  head_formed =
      leb head_length (length file)
      && eqb (little_endian short_bytes file at_length) head_length
      && eqb (little_endian short_bytes file at_kind) f.head_kind
      && leb (get_or file at_flag 0) f.greatest_flag

  -- "3 unknown language or standard", or the head with the standard that is meant.
  unfoldable pub head_with : Option ℕ → Result Head TypeNameError
  head_with None = Err UnknownProfile
  head_with (Some standard) =
      Ok (record { language = get_or file at_language 0; standard = standard; flag = get_or file at_flag 0; allowance = little_endian allowance_bytes file at_allowance })

  -- The place "File" of the table: refusals 1, 2 and 3 in this order.
  unfoldable pub head : Result Head TypeNameError
  head =
      if ltb f.file_limit (length file) then Err FileTooLong
      else if not head_formed then Err InvalidHead
      else head_with (meant f (get_or file at_language 0) (get_or file at_standard 0))

  -- ---- token records: refusals 4 and 5

  -- "Length (2 bytes)" of the token record at a byte offset.
  unfoldable pub length_at : (at : ℕ) → ℕ
  length_at at = little_endian short_bytes file at

  -- "kind (2 bytes ..)" of it.
  unfoldable pub kind_at : (at : ℕ) → ℕ
  kind_at at = little_endian short_bytes file (at + at_kind)

  -- "span start .." of it.
  unfoldable pub span_start_at : (at : ℕ) → ℕ
  span_start_at at = little_endian (span_bytes f) file (at + at_span)

  -- "span .. end .." of it.
  unfoldable pub span_end_at : (at : ℕ) → ℕ
  span_end_at at = little_endian (span_bytes f) file (at + at_span + span_bytes f)

  -- "span start and end" of it.
  unfoldable pub span_at : (at : ℕ) → SourceSpan
  span_at at = record { start = span_start_at at; end = span_end_at at }

  -- "The word is handed on as that part of the caller's file."
  unfoldable pub word_at : (at : ℕ) → List ℕ
  word_at at = take (length_at at - token_length f) (drop (at + token_length f) file)

  -- "A word of 1 to 255 bytes, each 33 to 126", within the file.
  unfoldable pub word_fits : (at : ℕ) → Bool
  word_fits at =
      ltb (token_length f) (length_at at)
      && leb (length_at at) (token_length f + longest_word)
      && leb (at + length_at at) (length file)
      && in_range (word_at at)

  -- "Kind 0 adds a word ..; every other kind has length 12", or what the format has for it.
  unfoldable pub length_fits : (at : ℕ) → Bool
  length_fits at = if eqb (kind_at at) Identifier then word_fits at else eqb (length_at at) (token_length f)

  -- Refusal 4: "cut off, wrong length, kind over 57, span or word out of range".
  unfoldable pub well_formed : (at : ℕ) → Bool
  well_formed at =
      leb (at + token_length f) (length file)
      && leb (kind_at at) End
      && leb (span_start_at at) (span_end_at at)
      && length_fits at

  -- "Each record in turn": the record at a byte offset, if a well-formed one stands there.
  unfoldable pub found : (at : ℕ) → Option TokenRecord
  found at = if well_formed at then formed (kind_at at) (length_at at) else None

  -- The word of the record at a byte offset, "that part of the caller's file"; empty where none stands.
  unfoldable pub word_in : (at : ℕ) → Option TokenRecord → List ℕ
  word_in at None = []
  word_in at (Some r) = word_at at

  -- A "record malformed", or its token before what the records after it give.
  unfoldable pub after_record : (at : ℕ) → Option TokenRecord → (ℕ → Tokens) → Tokens
  after_record at None rest = malformed at
  after_record at (Some r) rest = before_tokens (record { place = at; kind = r.kind; word = word_at at }) (rest (at + r.length))

  -- "Each record in turn" from a byte offset on, at most so many, and none behind the file's end.
  unfoldable pub tokens_from : (most at : ℕ) → Tokens
  tokens_from zero at = tokens [] at
  tokens_from (suc most) at =
      elim (leb (length file) at) as (λ _. Tokens) [
        | true ↦ tokens [] at
        | false ↦ after_record at (found at) (λ next. tokens_from most next)
      ]

  -- "4 record malformed (detail: its byte offset)"; "5 a 1,025th record begins": bytes are left behind the most records.
  unfoldable pub to_end : Tokens → Row
  to_end (malformed offset) = refused (InvalidRecord offset)
  to_end (tokens ts next) = if leb (length file) next then row ts else refused TooManyRecords

  -- The row from a byte offset to the file's end, of at most so many tokens: refusals 5 and 4.
  unfoldable pub records_from : (most at : ℕ) → Row
  records_from most at = to_end (tokens_from most at)

-- ---- what the layers above are given of a row

-- The token kinds of a row: what "prescan, reader, profile check" are given.
unfoldable pub kinds_of : List RowToken → List ℕ
kinds_of ts = map (λ (t : RowToken). t.kind) ts

-- The word numbers of a row ("an array by word number" counts them).
unfoldable pub words_of : List RowToken → List ℕ
words_of ts = map (λ (t : RowToken). word_number t.word) ts

-- The byte offsets of a row's records: where a word is found, "not copied".
unfoldable pub places_of : List RowToken → List ℕ
places_of ts = map (λ (t : RowToken). t.place) ts
