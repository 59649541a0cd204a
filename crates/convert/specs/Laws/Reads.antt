-- The head and the row behind a sound file's fields, and what a check tells of them.
-- Assumes nothing.
use Rattle.convert.specs.declared.check.Sound.{Sound}
use Rattle.std.specs.Prelude.{ℕ, ◌≡◌, Bool, true, not, List, length, Err, Ok, Result}
use Rattle.std.proofs.Math.Path.{refl}
use Rattle.std.proofs.Common.{sym, ap, arith}
use Rattle.rows.specs.Format.{head_length, most_tokens}
use Rattle.rows.specs.declared.format.Format.{Format}
use Rattle.rows.specs.declared.answer.TypeNameError.{TypeNameError}
use Rattle.rows.specs.declared.head.Head.{Head}
use Rattle.rows.specs.Records.{RowToken, Row, refused, row, head, records_from}
use Rattle.type_name.specs.FileRow.{Outcome, untouched, passes, on_pass, head_read, row_read}
use Rattle.convert.specs.Fields.{Fields, fields_with, fields_of}
use Rattle.convert.specs.Conversions.{over_32_bits}
use Rattle.convert.specs.ConvertSays.{checked_in, sound}
use Rattle.convert.specs.Laws.Stand.{Stand, row_stands}
use Rattle.convert.specs.Laws.Back.{HeadIs, head_is}

-- ---- the head and the row

pub record Read (f : Format) (file : List ℕ) (c : Fields) : Type 0 where
  pub is_head : HeadIs f file
  pub row_tokens : List RowToken
  pub is_row : records_from f file most_tokens head_length ≡ row row_tokens
  pub stand : Stand f file head_length row_tokens
  pub fields_are : c ≡ fields_with f file row_tokens

pub refused_not : {A : Type 0} {e : TypeNameError} {a : A} → untouched e ≡ passes a → ⊥
refused_not {A} {e} {a} q = let z : ◌≡◌ {A = ℕ} 0 1 = ap which q in omega (arith, z)
  where
    which : Outcome A → ℕ
    which (untouched e) = 0
    which (passes a) = 1

module _ (f : Format) (file : List ℕ) (c : Fields) where
  by_row : (h : Head) → head f file ≡ Ok h → (r : Row) → records_from f file most_tokens head_length ≡ r
      → on_pass (row_read r) (λ ts. passes (fields_with f file ts)) ≡ passes c → Read f file c
  unfolding on_pass row_read
  by_row h p (refused e) q s = absurd (refused_not s)
  by_row h p (row ts) q s =
      let is = head_is f file h p in
      record { is_head = is; row_tokens = ts; is_row = q; stand = row_stands f file most_tokens head_length is.long q; fields_are = same s }
    where
      same : {x : Fields} → passes x ≡ passes c → c ≡ x
      same t = cc

  by_head : (h : Result Head TypeNameError) → head f file ≡ h
      → on_pass (head_read h) (λ g. on_pass (row_read (records_from f file most_tokens head_length)) (λ ts. passes (fields_with f file ts))) ≡ passes c → Read f file c
  unfolding on_pass head_read
  by_head (Err e) p s = absurd (refused_not s)
  by_head (Ok h) p s = by_row h p (records_from f file most_tokens head_length) refl s

  pub read_of : fields_of f file ≡ passes c → Read f file c
  unfolding fields_of
  read_of s = by_head (head f file) refl s

-- ---- what a check tells

clash : {e : TypeNameError} {n : ℕ} {b : Bool} → Err e ≡ sound n b → ⊥
clash q = let z : ◌≡◌ {A = ℕ} 0 1 = ap which q in omega (arith, z)
  where
    which : Result Sound TypeNameError → ℕ
    which (Err e) = 0
    which (Ok s) = 1

pub refusal_told : (o : Outcome Fields) {e : TypeNameError} → checked_in o ≡ Err e → o ≡ untouched e
unfolding checked_in
refusal_told (untouched d) {e} q = cc
refusal_told (passes c) q = absurd (clash (sym q))

pub record SoundTold (o : Outcome Fields) (count : ℕ) (narrow : Bool) : Type 0 where
  pub fields : Fields
  pub is : o ≡ passes fields
  pub is_count : count ≡ length fields.tokens
  pub is_narrow : narrow ≡ not (over_32_bits fields.tokens)

abbrev count_in : Result Sound TypeNameError → ℕ
count_in (Err e) = 0
count_in (Ok s) = s.count

abbrev narrow_in : Result Sound TypeNameError → Bool
narrow_in (Err e) = true
narrow_in (Ok s) = s.narrow

pub sound_told : (o : Outcome Fields) {count : ℕ} {narrow : Bool} → checked_in o ≡ sound count narrow → SoundTold o count narrow
unfolding checked_in
sound_told (untouched d) q = absurd (clash q)
sound_told (passes c) q = record { fields = c; is = refl; is_count = sym (ap count_in q); is_narrow = sym (ap narrow_in q) }
