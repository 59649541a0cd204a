-- A sound file is the file of its own fields.
-- Assumes nothing.
use Prim.Native.Nat.{ℕ, zero, suc, ◌+◌, ◌*◌, ◌-◌, ◌/◌, ◌%◌, ◌^◌, ◌≤◌, ◌<◌}
use Rattle.std.specs.Prelude.{◌≡◌, Bool, not, ◌&&◌, get_or, drop, leb, ltb, Err, None, Ok, Option, Result, Some}
use Rattle.std.proofs.Math.Path.{refl, sym, ap}
use Rattle.std.proofs.Common.{◌∙◌, arith, mod-eq_of_lt, length-drop, drop_of_length-le, take-append-drop, drop-cons, take-add, nltb→le}
use Rattle.std.proofs.Math.Bool.{true, false}
use mathlib.Core.List.{List, [], ◌∷◌, ◌++◌, map}
use Rattle.std.proofs.Math.Facts.{and_yes}
use Rattle.std.proofs.Math.Nat.{add-mul-div_left, add-mul-mod_self_left, div-eq_of_lt, pow-succ'}
use Rattle.std.proofs.Math.ListN.{length, take}
use Rattle.std.proofs.Math.Seq.{drop-drop}
use Rattle.std.proofs.Math.Dec.{T, eqb, leb→le, eqb→eq}
use Rattle.rows.specs.Format.{short_bytes, allowance_bytes, head_length, at_length, at_kind, at_language, at_standard, at_flag, at_allowance, at_span, span_bytes, token_length, meant}
use Rattle.rows.specs.declared.format.Format.{Format}
use Rattle.rows.specs.declared.answer.TypeNameError.{TypeNameError}
use Rattle.rows.specs.declared.head.Head.{Head}
use Rattle.rows.specs.Records.{byte_values, little_endian, RowToken, head, head_formed, head_with, kind_at, length_at, span_start_at, span_end_at, word_at}
use Rattle.rows.specs.Laws.Tests.{by_if}
use Rattle.rows.specs.Laws.Tokens.{formed_fits}
use Rattle.text.specs.Text.{little_endian_bytes}
use Rattle.text.specs.Laws.Records.{read_at}
use Rattle.convert.specs.Bytes.{AllBytes}
use Rattle.convert.specs.Fields.{token_fields, fields_with, token_bytes, records_bytes, head_bytes, file_bytes}
use Rattle.convert.specs.Laws.Stand.{Stand, StandsAt}
use Rattle.convert.specs.Laws.OneRecord.{word_long}

-- ---- numbers and their bytes

all_behind : (n : ℕ) (xs : List ℕ) → AllBytes xs → AllBytes (drop n xs)
all_behind zero xs a = a
all_behind (suc n) [] a = tt
all_behind (suc n) (x ∷ xs) (b, a) = all_behind n xs a

-- The lowest byte, and the number above it.
split : (b n : ℕ) → b < byte_values → ((b + byte_values * n) % byte_values ≡ b) × ((b + byte_values * n) / byte_values ≡ n)
split b n small = (
  add-mul-mod_self_left b byte_values n ∙ mod-eq_of_lt small,
  add-mul-div_left b n {y = byte_values} (omega arith) ∙ rw (div-eq_of_lt small) (omega arith),
)

front_back : (width : ℕ) (xs : List ℕ) → AllBytes xs → width ≤ length xs → little_endian_bytes width (little_endian width xs 0) ≡ take width xs
unfolding little_endian_bytes little_endian
front_back zero xs a p = refl
front_back (suc width) [] a p = absurd (omega arith)
front_back (suc width) (x ∷ xs) (b, a) p =
    let above : little_endian width (x ∷ xs) 1 ≡ little_endian width xs 0 = read_at width (x ∷ xs) 1 in
    let parts = split x (little_endian width xs 0) b in
    rw (above, parts.0, parts.1, front_back width xs a (omega arith)) refl

module _ (file : List ℕ) (all : AllBytes file) where
  bytes_back : (width at : ℕ) → at + width ≤ length file → little_endian_bytes width (little_endian width file at) ≡ take width (drop at file)
  bytes_back width at p = rw (read_at width file at) (front_back width (drop at file) (all_behind at file all) (omega (arith, length-drop at file, p)))

front_small : (width : ℕ) (xs : List ℕ) → AllBytes xs → little_endian width xs 0 < byte_values ^ width
unfolding little_endian
front_small zero xs a = omega arith
front_small (suc width) [] a =
    let above : little_endian width [] 1 ≡ little_endian width [] 0 = read_at width [] 1 in
    rw (pow-succ' byte_values width, above) (omega (arith, front_small width [] a))
front_small (suc width) (x ∷ xs) (b, a) =
    let above : little_endian width (x ∷ xs) 1 ≡ little_endian width xs 0 = read_at width (x ∷ xs) 1 in
    rw (pow-succ' byte_values width, above) (omega (arith, b, front_small width xs a))

pub number_small : (width at : ℕ) (file : List ℕ) → AllBytes file → little_endian width file at < byte_values ^ width
number_small width at file all = rw (read_at width file at) (front_small width (drop at file) (all_behind at file all))

byte_back : (file : List ℕ) (at : ℕ) → at < length file → get_or file at 0 ∷ [] ≡ take 1 (drop at file)
byte_back file at p = rw (drop-cons file at 0 p) refl

-- ---- a record

-- Parts of a file, one behind the other.
joined : (at at' n m : ℕ) (file : List ℕ) → at + n ≡ at' → take n (drop at file) ++ take m (drop at' file) ≡ take (n + m) (drop at file)
joined at at' n m file e = rw (← e, ← drop-drop n at file) (sym (take-add n m (drop at file)))

module _ (f : Format) (file : List ℕ) (all : AllBytes file) where
  record_back : (at : ℕ) (t : RowToken) → StandsAt f file at t → token_bytes f (token_fields f file t) ≡ take (length_at f file at) (drop at file)
  unfolding token_bytes token_fields length_at kind_at span_start_at span_end_at word_at
  record_back at t s =
      let fit = formed_fits f file at (kind_at f file at) (length_at f file at) s.formed in
      let n : ℕ = length_at f file at in
      let w : ℕ = span_bytes f in
      let size : token_length f + length (word_at f file at) ≡ n = omega (arith, word_long f file at s.formed, fit.long) in
      let whole : at + token_length f ≤ length file = omega (arith, fit.inside, fit.long) in
      let total : short_bytes + short_bytes + w + w + (n - token_length f) ≡ n = omega (arith, fit.long) in
      rw (
        s.is,
        size,
        bytes_back file all short_bytes at (omega (arith, whole)),
        bytes_back file all short_bytes (at + at_kind) (omega (arith, whole)),
        bytes_back file all w (at + at_span) (omega (arith, whole)),
        bytes_back file all w (at + at_span + w) (omega (arith, whole)),
        joined at (at + at_kind) short_bytes short_bytes file refl,
        joined at (at + at_span) (short_bytes + short_bytes) w file refl,
        joined at (at + at_span + w) (short_bytes + short_bytes + w) w file (omega arith),
        joined at (at + token_length f) (short_bytes + short_bytes + w + w) (n - token_length f) file (omega arith),
        total,
      ) refl

  pub records_back : (at : ℕ) (ts : List RowToken) → Stand f file at ts → records_bytes f (map (token_fields f file) ts) ≡ drop at file
  unfolding records_bytes
  records_back at [] s = sym (drop_of_length-le file {i = at} (omega (arith, s)))
  records_back at (t ∷ ts) s =
      rw (record_back at t s.0, records_back (at + length_at f file at) ts s.1, ← drop-drop (length_at f file at) at file) (take-append-drop (length_at f file at) (drop at file))

-- ---- a head

-- A formed head: its length, its kind, its flag.
pub record HeadIs (f : Format) (file : List ℕ) : Type 0 where
  pub short : length file ≤ f.file_limit
  pub long : head_length ≤ length file
  pub has_length : little_endian short_bytes file at_length ≡ head_length
  pub has_kind : little_endian short_bytes file at_kind ≡ f.head_kind
  pub has_flag : get_or file at_flag 0 ≤ f.greatest_flag
  pub the_head : Head
  pub is_head : head f file ≡ Ok the_head
  pub is_meant : meant f (get_or file at_language 0) (get_or file at_standard 0) ≡ Some the_head.standard
  pub has_fields : the_head ≡ record { language = get_or file at_language 0; standard = the_head.standard; flag = get_or file at_flag 0; allowance = little_endian allowance_bytes file at_allowance }

refused_not_formed : {e : TypeNameError} {h : Head} → Err e ≡ Ok h → ⊥
refused_not_formed q = let z : ◌≡◌ {A = ℕ} 0 1 = ap which q in omega (arith, z)
  where
    which : Result Head TypeNameError → ℕ
    which (Err e) = 0
    which (Ok h) = 1

abbrev standard_in : Result Head TypeNameError → ℕ
standard_in (Err e) = 0
standard_in (Ok h) = h.standard

module _ (f : Format) (file : List ℕ) (h : Head) (e : head f file ≡ Ok h) where
  by_meaning : length file ≤ f.file_limit → T (head_formed f file) → (m : Option ℕ) → meant f (get_or file at_language 0) (get_or file at_standard 0) ≡ m
      → head_with f file m ≡ Ok h → HeadIs f file
  unfolding head_with head_formed
  by_meaning short t None q r = absurd (refused_not_formed r)
  by_meaning short t (Some s) q r =
      let u = and_yes (leb head_length (length file) && eqb (little_endian short_bytes file at_length) head_length && eqb (little_endian short_bytes file at_kind) f.head_kind) (leb (get_or file at_flag 0) f.greatest_flag) t in
      let v = and_yes (leb head_length (length file) && eqb (little_endian short_bytes file at_length) head_length) (eqb (little_endian short_bytes file at_kind) f.head_kind) u.0 in
      let w = and_yes (leb head_length (length file)) (eqb (little_endian short_bytes file at_length) head_length) v.0 in
      let same : s ≡ h.standard = ap standard_in r in
      record {
        short = short;
        long = leb→le head_length (length file) w.0;
        has_length = eqb→eq (little_endian short_bytes file at_length) head_length w.1;
        has_kind = eqb→eq (little_endian short_bytes file at_kind) f.head_kind v.1;
        has_flag = leb→le (get_or file at_flag 0) f.greatest_flag u.1;
        the_head = h;
        is_head = e;
        is_meant = q ∙ rw same refl;
        has_fields = sym (formed_same (rw same at r));
      }
    where
      formed_same : {g : Head} → ◌≡◌ {A = Result Head TypeNameError} (Ok g) (Ok h) → g ≡ h
      formed_same p = cc

  pub head_is : HeadIs f file
  unfolding head
  head_is =
      by_if (λ (x : Result Head TypeNameError). x ≡ Ok h → HeadIs f file) (ltb f.file_limit (length file)) (λ _ q. absurd (refused_not_formed q))
      (λ t. by_if (λ (x : Result Head TypeNameError). x ≡ Ok h → HeadIs f file) (not (head_formed f file)) (λ _ q. absurd (refused_not_formed q))
      (λ u. by_meaning (nltb→le f.file_limit (length file) t) (not_not (head_formed f file) u) (meant f (get_or file at_language 0) (get_or file at_standard 0)) refl)) e
    where
      not_not : (b : Bool) → T (not (not b)) → T b
      not_not true t = tt
      not_not false t = absurd t

module _ (f : Format) (file : List ℕ) (all : AllBytes file) (is : HeadIs f file) (ts : List RowToken) where
  head_back : head_bytes f (get_or file at_language 0) (get_or file at_standard 0) (get_or file at_flag 0) (little_endian allowance_bytes file at_allowance) ≡ take head_length file
  unfolding head_bytes
  head_back =
      let long = is.long in
      let first : little_endian_bytes short_bytes head_length ≡ take short_bytes file = rw (← is.has_length) (bytes_back file all short_bytes at_length (omega (arith, long))) in
      let second : little_endian_bytes short_bytes f.head_kind ≡ take short_bytes (drop at_kind file) = rw (← is.has_kind) (bytes_back file all short_bytes at_kind (omega (arith, long))) in
      rw (
        first,
        second,
        byte_back file at_language (omega (arith, long)),
        byte_back file at_standard (omega (arith, long)),
        byte_back file at_flag (omega (arith, long)),
        bytes_back file all allowance_bytes at_allowance (omega (arith, long)),
        joined 0 at_kind short_bytes short_bytes file refl,
        joined 0 at_language (short_bytes + short_bytes) 1 file refl,
        joined 0 at_standard (short_bytes + short_bytes + 1) 1 file refl,
        joined 0 at_flag (short_bytes + short_bytes + 1 + 1) 1 file refl,
        joined 0 at_allowance (short_bytes + short_bytes + 1 + 1 + 1) allowance_bytes file refl,
      ) refl

  -- Written back.
  pub file_back : Stand f file head_length ts → file_bytes f (fields_with f file ts) ≡ file
  unfolding file_bytes fields_with
  file_back s = rw (head_back, records_back f file all head_length ts s) (take-append-drop head_length file)
