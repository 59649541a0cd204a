-- The parts of a token record, put one behind the other.
-- Assumes nothing.
use Rattle.std.specs.Prelude.{ℕ, ◌+◌, ◌-◌, ◌≡◌, refl, List, length, take, drop}
use Rattle.std.proofs.Common.{◌∙◌}
use Rattle.rows.specs.Format.{short_bytes, span_bytes, token_length}
use Rattle.rows.specs.declared.format.Format.{Format}
use Rattle.rows.specs.Records.{found, kind_at, length_at, word_at, formed}
use Rattle.rows.specs.Laws.Tokens.{word_part}
use Rattle.text.specs.declared.Text.{Text}
use Rattle.text.specs.Text.{little_endian_bytes}
use Rattle.text.specs.Puts.{Puts}
use Rattle.text.specs.Laws.Appending.{puts_then}
use Rattle.text.specs.Laws.Records.{bytes_long}
use Rattle.convert.specs.Fields.{TokenFields, token_bytes}

-- Where the bytes end that a number was put in.
pub number_put : {t u : Text} (width number : ℕ) → Puts t (little_endian_bytes width number) u → u.end ≡ t.end + width
number_put {t} {u} width number put = put.appended.counts ∙ rw (bytes_long width number) refl

-- The part of the file that is a record's word, by what the code found.
pub word_there : (f : Format) (file : List ℕ) (at : ℕ) {plain size : ℕ} → plain ≡ token_length f → size ≡ length_at f file at
    → found f file at ≡ formed (kind_at f file at) (length_at f file at) → take (at + size - (at + plain)) (drop (at + plain) file) ≡ word_at f file at
word_there f file at p q e = rw (p, q) (word_part f file at (kind_at f file at) (length_at f file at) e)

pub record_put : (to : Format) (t : TokenFields) {x₀ x₁ x₂ x₃ x₄ x₅ : Text} {n k b s e : ℕ} {w : List ℕ}
    → n ≡ token_length to + length t.word → k ≡ t.kind → b ≡ span_bytes to → s ≡ t.start → e ≡ t.end → w ≡ t.word
    → Puts x₀ (little_endian_bytes short_bytes n) x₁ → Puts x₁ (little_endian_bytes short_bytes k) x₂ → Puts x₂ (little_endian_bytes b s) x₃
    → Puts x₃ (little_endian_bytes b e) x₄ → Puts x₄ w x₅ → Puts x₀ (token_bytes to t) x₅
unfolding token_bytes
record_put to t n_is k_is b_is s_is e_is w_is n_put k_put s_put e_put w_put =
    rw (← n_is, ← k_is, ← b_is, ← s_is, ← e_is, ← w_is) (puts_then (puts_then (puts_then (puts_then n_put k_put) s_put) e_put) w_put)
