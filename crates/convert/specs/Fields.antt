-- What a file says, whatever its format: the fields of its head and of its token records, and the file of such fields in a format. Document 01, "Head
-- record" and "Token record".
-- Assumes nothing.
use Rattle.std.specs.Prelude.{ℕ, ◌+◌, length}
use mathlib.Core.List.{List, [], ◌∷◌, ◌++◌, map}
use Rattle.std.proofs.Math.ListN.{get_or}
use Rattle.rows.specs.Format.{short_bytes, allowance_bytes, head_length, at_language, at_standard, at_flag, at_allowance, span_bytes, token_length, most_tokens}
use Rattle.rows.specs.Records.{RowToken, head, little_endian, records_from, span_start_at, span_end_at}
use Rattle.rows.specs.declared.format.Format.{Format}
use Rattle.text.specs.Text.{little_endian_bytes}
use Rattle.type_name.specs.FileRow.{Outcome, passes, on_pass, head_read, row_read}

-- "kind ..., span start and end ..., a word" of a token record.
pub record TokenFields : Type 0 where
  pub kind : ℕ
  pub start : ℕ
  pub end : ℕ
  pub word : List ℕ

-- "language .., standard .., structure flag .., allowance" of a head record, each as it stands there, and its file's token records.
pub record Fields : Type 0 where
  pub language : ℕ
  pub standard : ℕ
  pub flag : ℕ
  pub allowance : ℕ
  pub tokens : List TokenFields

-- The same fields but for the standard's number.
abbrev pub with_standard : (standard : ℕ) → Fields → Fields
with_standard standard c = record { language = c.language; standard = standard; flag = c.flag; allowance = c.allowance; tokens = c.tokens }

-- ---- the fields of a file

module _ (f : Format) (file : List ℕ) where
  -- The fields of a token's record.
  unfoldable pub token_fields : RowToken → TokenFields
  token_fields t = record { kind = t.kind; start = span_start_at f file t.place; end = span_end_at f file t.place; word = t.word }

  -- The fields of a head and of these tokens' records.
  unfoldable pub fields_with : List RowToken → Fields
  unfolding token_fields
  fields_with ts = record {
    language = get_or file at_language 0;
    standard = get_or file at_standard 0;
    flag = get_or file at_flag 0;
    allowance = little_endian allowance_bytes file at_allowance;
    tokens = map token_fields ts;
  }

  -- "Both test 1 to 5 first": the fields of a file, or the first of these refusals.
  unfoldable pub fields_of : Outcome Fields
  unfolding on_pass head_read row_read fields_with
  fields_of =
      on_pass (head_read (head f file)) λ h.
      on_pass (row_read (records_from f file most_tokens head_length)) λ ts.
      passes (fields_with ts)

-- ---- the file of some fields

module _ (f : Format) where
  -- "Length (2 bytes), kind (2 bytes ..), span start and end (4 bytes each ..)", 8 each since C-14. "Kind 0 adds a word".
  unfoldable pub token_bytes : TokenFields → List ℕ
  token_bytes t =
      little_endian_bytes short_bytes (token_length f + length t.word)
      ++ little_endian_bytes short_bytes t.kind
      ++ little_endian_bytes (span_bytes f) t.start
      ++ little_endian_bytes (span_bytes f) t.end
      ++ t.word

  -- Token records one after another.
  unfoldable pub records_bytes : List TokenFields → List ℕ
  unfolding token_bytes
  records_bytes [] = []
  records_bytes (t ∷ ts) = token_bytes t ++ records_bytes ts

  -- "Length (2 bytes, ..), kind (2 bytes, ..), language (1 byte ..), standard (1 byte, ..), structure flag (1 byte, ..), allowance (4 bytes)".
  unfoldable pub head_bytes : (language standard flag allowance : ℕ) → List ℕ
  head_bytes language standard flag allowance =
      little_endian_bytes short_bytes head_length
      ++ little_endian_bytes short_bytes f.head_kind
      ++ (language ∷ [])
      ++ (standard ∷ [])
      ++ (flag ∷ [])
      ++ little_endian_bytes allowance_bytes allowance

  -- "One head record and then token records to its end."
  unfoldable pub file_bytes : Fields → List ℕ
  unfolding head_bytes records_bytes
  file_bytes c = head_bytes c.language c.standard c.flag c.allowance ++ records_bytes c.tokens
