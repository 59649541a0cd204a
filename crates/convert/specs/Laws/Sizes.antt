-- How long a file is in a format, by its tokens and their words.
-- Assumes nothing.
use Rattle.std.specs.Prelude.{ℕ, ◌+◌, ◌*◌, ◌-◌, ◌≡◌, List, [], ◌∷◌, map, length}
use Rattle.std.proofs.Common.{◌∙◌, arith, mul-suc, length-append}
use Rattle.rows.specs.Format.{head_length, token_length}
use Rattle.rows.specs.declared.format.Format.{Format}
use Rattle.rows.specs.Records.{RowToken, kind_at, length_at}
use Rattle.rows.specs.Laws.Tokens.{formed_fits}
use Rattle.text.specs.Text.{little_endian_bytes}
use Rattle.convert.specs.Fields.{TokenFields, Fields, token_fields, token_bytes, records_bytes, file_bytes}
use Rattle.convert.specs.Laws.Stand.{Stand}
use Rattle.convert.specs.Laws.OneRecord.{token_long, word_long}

-- The bytes of all words.
unfoldable pub words_long : List TokenFields → ℕ
words_long [] = 0
words_long (t ∷ ts) = length t.word + words_long ts

records_long : (f : Format) (ts : List TokenFields) → length (records_bytes f ts) ≡ token_length f * length ts + words_long ts
unfolding records_bytes words_long
records_long f [] = omega arith
records_long f (t ∷ ts) =
    length-append (token_bytes f t) (records_bytes f ts)
    ∙ rw (token_long f t, records_long f ts, mul-suc (token_length f) (length ts)) (omega arith)

pub file_long : (f : Format) (c : Fields) → length (file_bytes f c) ≡ head_length + (token_length f * length c.tokens + words_long c.tokens)
unfolding file_bytes little_endian_bytes
file_long f c = rw (← records_long f c.tokens) (omega arith)

-- The same of a file that is sound.
pub stand_long : (f : Format) (file : List ℕ) (at : ℕ) (ts : List RowToken) → Stand f file at ts
    → length file ≡ at + (token_length f * length (map (token_fields f file) ts) + words_long (map (token_fields f file) ts))
unfolding words_long token_fields
stand_long f file at [] s = omega (arith, s)
stand_long f file at (t ∷ ts) s =
    let e = s.0.formed in
    let fit = formed_fits f file at (kind_at f file at) (length_at f file at) e in
    let size : length t.word ≡ length_at f file at - token_length f = rw s.0.is (word_long f file at e) in
    rw (mul-suc (token_length f) (length (map (token_fields f file) ts))) (omega (arith, stand_long f file (at + length_at f file at) ts s.1, size, fit.long))
