-- A file that is written from fields is read back as those fields.
-- Assumes nothing.
use Prim.Native.Nat.{ℕ, zero, suc, ◌+◌, ◌-◌, ◌^◌, ◌≤◌, ◌<◌}
use Rattle.std.specs.Prelude.{◌≡◌, true, drop, Ok, Some}
use Rattle.std.proofs.Math.Path.{refl, sym, ap}
use Rattle.std.proofs.Common.{◌∙◌, length-drop}
use mathlib.Core.List.{List, [], ◌∷◌, map}
use native.Mathlib.Omega.{arith}
use borrow.Author.Tests.{le-ltb, le-leb, eq-eqb}
use Rattle.std.proofs.Math.ListN.{length}
use Rattle.rows.specs.Format.{short_bytes, allowance_bytes, head_length, at_kind, at_allowance, token_length, most_tokens, meant}
use Rattle.rows.specs.declared.format.Format.{Format}
use Rattle.rows.specs.declared.head.Head.{Head}
use Rattle.rows.specs.Records.{byte_values, little_endian, RowToken, tokens, before_tokens, row, head, head_formed, head_with, kind_at, length_at, tokens_from, to_end, records_from}
use Rattle.rows.specs.Laws.Tokens.{formed_fits}
use Rattle.rows.specs.Laws.RowLoop.{ends, begins_token}
use Rattle.text.specs.Text.{little_endian_bytes}
use Rattle.type_name.specs.FileRow.{passes, on_pass, head_read, row_read}
use Rattle.convert.specs.Fields.{TokenFields, Fields, token_fields, fields_with, fields_of, token_bytes, records_bytes, file_bytes}
use Rattle.convert.specs.Laws.Stand.{Stand}
use Rattle.convert.specs.Laws.OneRecord.{TokenFits, token_long, next_part, number_there, written_length, written_kind, written_start, written_end, written_word, written_inside, written_found}

-- ---- records that stand are a row

module _ (f : Format) (file : List ℕ) where
  stand_tokens : (most at : ℕ) (ts : List RowToken) → Stand f file at ts → length ts ≤ most → tokens_from f file most at ≡ tokens ts (length file)
  unfolding before_tokens
  stand_tokens most at [] s p = ends f file most at (omega (arith, s)) ∙ rw s refl
  stand_tokens zero at (t ∷ ts) s p = absurd (omega arith)
  stand_tokens (suc most) at (t ∷ ts) s p =
      let fit = formed_fits f file at (kind_at f file at) (length_at f file at) s.0.formed in
      begins_token f file most at (kind_at f file at) (length_at f file at) (omega (arith, fit.inside, fit.long)) s.0.formed
      ∙ rw (stand_tokens most (at + length_at f file at) ts s.1 (omega arith), ← s.0.is, before_tokens) refl

  pub stand_row : (most at : ℕ) (ts : List RowToken) → Stand f file at ts → length ts ≤ most → records_from f file most at ≡ row ts
  unfolding records_from to_end
  stand_row most at ts s p = ap (to_end f file) (stand_tokens most at ts s p) ∙ rw (le-leb (length file) (length file) (omega arith)) refl

-- ---- written records stand

-- Every token's record is well formed in the format.
abbrev pub AllFit : (f : Format) → List TokenFields → Type 0
AllFit f [] = Unit {0}
AllFit f (t ∷ ts) = TokenFits f t × AllFit f ts

-- The tokens whose records are written from a byte offset on.
unfoldable pub placed : (f : Format) (at : ℕ) → List TokenFields → List RowToken
placed f at [] = []
placed f at (t ∷ ts) = record { place = at; kind = t.kind; word = t.word } ∷ placed f (at + (token_length f + length t.word)) ts

pub placed_long : (f : Format) (at : ℕ) (ts : List TokenFields) → length (placed f at ts) ≡ length ts
unfolding placed
placed_long f at [] = refl
placed_long f at (t ∷ ts) = ap suc (placed_long f (at + (token_length f + length t.word)) ts)

module _ (f : Format) (file : List ℕ) where
  behind : (at : ℕ) (t : TokenFields) (ts : List TokenFields) → drop at file ≡ records_bytes f (t ∷ ts) → drop (at + (token_length f + length t.word)) file ≡ records_bytes f ts
  unfolding records_bytes
  behind at t ts e = next_part file at (at + (token_length f + length t.word)) (token_bytes f t) (records_bytes f ts) (token_long f t) refl e

  pub written_stand : (at : ℕ) (ts : List TokenFields) → at ≤ length file → AllFit f ts → drop at file ≡ records_bytes f ts → Stand f file at (placed f at ts)
  unfolding records_bytes placed
  written_stand at [] p fit e =
      let none : length file - at ≡ 0 = sym (length-drop at file) ∙ ap length e in
      omega (arith, p, none)
  written_stand at (t ∷ ts) p (fit, fits) e = (
    record { is = rw (written_kind f file (records_bytes f ts) at t fit e, written_word f file (records_bytes f ts) at t fit e) refl; formed = written_found f file (records_bytes f ts) at t fit e },
    rw (written_length f file (records_bytes f ts) at t fit e)
        (written_stand (at + (token_length f + length t.word)) ts (written_inside f file (records_bytes f ts) at t fit e) fits (behind at t ts e)),
  )

  pub written_fields : (at : ℕ) (ts : List TokenFields) → AllFit f ts → drop at file ≡ records_bytes f ts → map (token_fields f file) (placed f at ts) ≡ ts
  unfolding records_bytes placed token_fields
  written_fields at [] fit e = refl
  written_fields at (t ∷ ts) (fit, fits) e =
      rw (
        written_start f file (records_bytes f ts) at t fit e,
        written_end f file (records_bytes f ts) at t fit e,
        written_fields (at + (token_length f + length t.word)) ts fits (behind at t ts e),
      ) refl

-- ---- a written head

-- Fields whose file in a format is sound.
pub record FieldsFit (f : Format) (c : Fields) : Type 0 where
  pub meaning : ℕ
  pub known : meant f c.language c.standard ≡ Some meaning
  pub flagged : c.flag ≤ f.greatest_flag
  pub small : c.allowance < byte_values ^ allowance_bytes
  pub all_fit : AllFit f c.tokens
  pub few : length c.tokens ≤ most_tokens
  pub short : length (file_bytes f c) ≤ f.file_limit

module _ (f : Format) (c : Fields) (kind_fits : f.head_kind < byte_values ^ short_bytes) (fit : FieldsFit f c) where
  abbrev file : List ℕ
  file = file_bytes f c

  -- The head that is meant.
  abbrev pub head_meant : Head
  head_meant = record { language = c.language; standard = fit.meaning; flag = c.flag; allowance = c.allowance }

  is_kind : little_endian short_bytes file at_kind ≡ f.head_kind
  unfolding file_bytes little_endian_bytes
  is_kind = number_there file at_kind _ short_bytes f.head_kind kind_fits refl

  is_allowance : little_endian allowance_bytes file at_allowance ≡ c.allowance
  unfolding file_bytes little_endian_bytes
  is_allowance = number_there file at_allowance (records_bytes f c.tokens) allowance_bytes c.allowance fit.small refl

  is_formed : head_formed f file ≡ true
  unfolding head_formed file_bytes little_endian little_endian_bytes
  is_formed = rw (is_kind, le-leb head_length (length file) (omega arith), eq-eqb f.head_kind f.head_kind refl, le-leb c.flag f.greatest_flag fit.flagged) refl

  pub written_head : head f file ≡ Ok head_meant
  unfolding head head_with file_bytes little_endian_bytes
  written_head = rw (le-ltb f.file_limit (length file) fit.short, is_formed, fit.known, is_allowance, head_with) refl

  records_there : drop head_length file ≡ records_bytes f c.tokens
  unfolding file_bytes little_endian_bytes
  records_there = refl

  long : head_length ≤ length file
  unfolding file_bytes little_endian_bytes
  long = omega arith

  pub written_row : records_from f file most_tokens head_length ≡ row (placed f head_length c.tokens)
  written_row =
      stand_row f file most_tokens head_length (placed f head_length c.tokens) (written_stand f file head_length c.tokens long fit.all_fit records_there)
      (omega (arith, placed_long f head_length c.tokens, fit.few))

  same_fields : fields_with f file (placed f head_length c.tokens) ≡ c
  unfolding fields_with file_bytes little_endian_bytes
  same_fields = rw (is_allowance, written_fields f file head_length c.tokens fit.all_fit records_there) refl

  -- Read back.
  pub written_back : fields_of f file ≡ passes c
  unfolding fields_of on_pass head_read row_read
  written_back = rw (written_head, written_row, same_fields, on_pass, head_read, row_read) refl
