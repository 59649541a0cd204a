-- Record numbers as bytes, which are read back as the number, and outputs handed to a caller's buffer.
-- Assumes nothing.
use Rattle.std.specs.Prelude.{ℕ, zero, suc, ◌-◌, ◌/◌, ◌%◌, ◌^◌, ◌≤◌, ◌<◌, ◌≡◌, refl, true, false, List, [], ◌∷◌, ◌++◌, length, take, drop, get_or}
use Rattle.std.proofs.Common.{sym, ap, ◌∙◌, append_assoc, arith, add-zero, pow-suc, div-lt_iff_lt-mul, add-one, sub-one, le-leb, length-take-le, drop-drop, drop_at, get_or-drop}
use Rattle.std.proofs.Math.Nat.{mod-add-div}
use Rattle.std.proofs.lemmas.Bool.{lt-leb}
use Rattle.rows.specs.Records.{byte_values, little_endian}
use Rattle.text.specs.declared.Text.{Text}
use Rattle.text.specs.Text.{Appended, little_endian_bytes, fits, handed}
use Rattle.text.specs.Puts.{Puts}
use Rattle.text.specs.Laws.Appending.{appended_whole, puts_none}

-- ---- record numbers

pub no_bytes : {t : Text} (width number : ℕ) → width ≡ 0 → Puts t (little_endian_bytes width number) t
unfolding little_endian_bytes
no_bytes {t} width number none = rw none (puts_none t)

-- The lowest byte, and then the others.
pub byte_first : (width number : ℕ) → (width ≡ 0 → ⊥) → (number % byte_values ∷ []) ++ little_endian_bytes (width - 1) (number / byte_values) ≡ little_endian_bytes width number
unfolding little_endian_bytes
byte_first zero number some = absurd (some refl)
byte_first (suc width) number some = rw (sub-one (suc width)) refl

pub bytes_long : (width number : ℕ) → length (little_endian_bytes width number) ≡ width
unfolding little_endian_bytes
bytes_long zero number = refl
bytes_long (suc width) number = ap suc (bytes_long width (number / byte_values))

-- What stands before the number does not matter.
pub read_at : (width : ℕ) (file : List ℕ) (at : ℕ) → little_endian width file at ≡ little_endian width (drop at file) 0
unfolding little_endian
read_at zero file at = refl
read_at (suc width) file at =
    let first : get_or (drop at file) 0 0 ≡ get_or file at 0 = get_or-drop at file 0 0 ∙ rw (add-zero at) refl in
    let others : little_endian width (drop at file) 1 ≡ little_endian width file (suc at)
    = read_at width (drop at file) 1 ∙ rw (drop-drop 1 at file, add-one at) (sym (read_at width file (suc at))) in
    rw (first, others) refl

-- Read back from the front.
pub bytes_read : (width number : ℕ) (behind : List ℕ) → number < byte_values ^ width → little_endian width (little_endian_bytes width number ++ behind) 0 ≡ number
unfolding little_endian_bytes little_endian
bytes_read zero number behind less = omega arith
bytes_read (suc width) number behind less =
    let higher : number / byte_values < byte_values ^ width = (div-lt_iff_lt-mul {k = byte_values} {x = number} {y = byte_values ^ width} (omega arith)).1 (rw (pow-suc byte_values width) at less) in
    rw (read_at width (number % byte_values ∷ little_endian_bytes width (number / byte_values) ++ behind) 1, bytes_read width (number / byte_values) behind higher) (mod-add-div number byte_values)

-- Read back from where they were put.
pub put_read : {xs ys : List ℕ} {at r : ℕ} (width number : ℕ) → number < byte_values ^ width → at ≤ length xs → Appended xs at (little_endian_bytes width number) r ys
    → little_endian width ys at ≡ number
put_read {xs} {ys} {at} {r} width number less within put =
    let there : drop at ys ≡ little_endian_bytes width number ++ drop r xs
    = ap (drop at) (appended_whole put ∙ append_assoc (take at xs) (little_endian_bytes width number) (drop r xs)) ∙ drop_at (take at xs) _ at (length-take-le at xs within) in
    read_at width ys at ∙ rw there (bytes_read width number (drop r xs) less)

-- ---- outputs

pub not_handed : (output buffer : List ℕ) → length buffer < length output → (false ≡ fits output buffer) × (buffer ≡ handed output buffer)
unfolding fits handed
not_handed output buffer short = rw (lt-leb (length output) (length buffer) short) (refl, refl)

pub is_handed : (output buffer : List ℕ) {front : List ℕ} → length output ≤ length buffer → front ≡ output → (true ≡ fits output buffer) × (front ++ drop (length output) buffer ≡ handed output buffer)
unfolding fits handed
is_handed output buffer room e = rw (e, le-leb (length output) (length buffer) room) (refl, refl)
