-- What each way through `parse` shows, over lists and numbers alone.
-- Assumes nothing.
use Rattle.std.specs.Prelude.{ℕ, ◌-◌, ◌≤◌, ◌<◌, refl, ◌⊎◌, ◌≢◌, Bool, true, false, List, length}
use Rattle.std.proofs.Math.Path.{◌≡◌, sym, ap}
use Rattle.std.proofs.Common.{◌∙◌, inl, inr}
use native.Mathlib.Omega.{arith}
use Rattle.std.proofs.Math.Decide.{dec_le}
use Rattle.rows.specs.declared.answer.TypeNameError.{TypeNameError}
use Rattle.rows.specs.declared.answer.TypeNameError.TheVariants.{UnexpectedTokenAfterTypeName}
use Rattle.reader.specs.Nodes.{Nodes}
use Rattle.reader.specs.Reading.{top, Fault, refusal, Got, got, bad, reading}
use Rattle.reader.specs.ReaderSays.{Told, TreeRead, LeftOver, region_due}
use Rattle.reader.specs.Allowance.{Limited, done, denied, spent, steps, settled, reading_within}
use Rattle.reader.specs.Laws.Allowance.{allowed, passed}
use Rattle.reader.specs.Laws.Ahead.{down_read}
use Rattle.reader.specs.declared.parser.TypeSyntaxParser.{TypeSyntaxParser}

-- ---- from what came under an allowance back to the reading

module _ (allowance : ℕ) where
  pub done_got : (g : Got) {x : Nodes} {at : ℕ} {half : Bool} {left : ℕ} → reading_within allowance g ≡ done x at half left → (left ≤ allowance) × (g ≡ got x at half (allowance - left))
  unfolding steps settled
  done_got (got y at' half' m) {x} {at} {half} {left} e =
      elim (dec_le m allowance) [
        | yes p ↦
            let q : done y at' half' (allowance - m) ≡ done x at half left = sym (allowed allowance (got y at' half' m) p) ∙ e in
            let l : allowance - m ≡ left = cc in
            let k : m ≡ allowance - left = omega arith in
            (omega arith, ap (got y at' half') k ∙ cc)
        | no p ↦ let q : spent ≡ done x at half left = sym (passed allowance (got y at' half' m) (omega arith)) ∙ e in let z : ◌≡◌ {A = ℕ} 0 1 = cc in absurd (omega arith)
      ]
  done_got (bad f m) {x} {at} {half} {left} e =
      elim (dec_le m allowance) [
        | yes p ↦ let q : denied f (allowance - m) ≡ done x at half left = sym (allowed allowance (bad f m) p) ∙ e in let z : ◌≡◌ {A = ℕ} 0 1 = cc in absurd (omega arith)
        | no p ↦ let q : spent ≡ done x at half left = sym (passed allowance (bad f m) (omega arith)) ∙ e in let z : ◌≡◌ {A = ℕ} 0 1 = cc in absurd (omega arith)
      ]

  pub denied_bad : (g : Got) {f : Fault} {left : ℕ} → reading_within allowance g ≡ denied f left → (left ≤ allowance) × (g ≡ bad f (allowance - left))
  unfolding steps settled
  denied_bad (got y at' half' m) {f} {left} e =
      elim (dec_le m allowance) [
        | yes p ↦ let q : done y at' half' (allowance - m) ≡ denied f left = sym (allowed allowance (got y at' half' m) p) ∙ e in let z : ◌≡◌ {A = ℕ} 0 1 = cc in absurd (omega arith)
        | no p ↦ let q : spent ≡ denied f left = sym (passed allowance (got y at' half' m) (omega arith)) ∙ e in let z : ◌≡◌ {A = ℕ} 0 1 = cc in absurd (omega arith)
      ]
  denied_bad (bad f' m) {f} {left} e =
      elim (dec_le m allowance) [
        | yes p ↦
            let q : denied f' (allowance - m) ≡ denied f left = sym (allowed allowance (bad f' m) p) ∙ e in
            let l : allowance - m ≡ left = cc in
            let k : m ≡ allowance - left = omega arith in
            (omega arith, ap (bad f') k ∙ cc)
        | no p ↦ let q : spent ≡ denied f left = sym (passed allowance (bad f' m) (omega arith)) ∙ e in let z : ◌≡◌ {A = ℕ} 0 1 = cc in absurd (omega arith)
      ]

  settled_some : (g : Got) → settled allowance g ≡ spent → ⊥
  unfolding settled
  settled_some (got y at half m) e = let z : ◌≡◌ {A = ℕ} 0 1 = cc in absurd (omega arith)
  settled_some (bad f m) e = let z : ◌≡◌ {A = ℕ} 0 1 = cc in absurd (omega arith)

  pub spent_over : (g : Got) → reading_within allowance g ≡ spent → allowance < steps g
  spent_over g e = elim (dec_le (steps g) allowance) [ yes p ↦ absurd (settled_some g (sym (allowed allowance g p) ∙ e)) | no p ↦ omega arith ]

-- ---- the whole row

-- The first level is the whole reading.
pub whole_due : (cpp : Bool) (row : List ℕ) {p : TypeSyntaxParser} {allowance : ℕ} → p.cursor ≡ 0 → p.pending_greater ≡ false → p.left ≡ allowance
    → region_due cpp row top 0 0 p ≡ reading_within allowance (reading cpp row)
unfolding reading
whole_due cpp row {p} a h l = down_read cpp row top 0 0 p.left p.cursor p.pending_greater (omega arith) ∙ rw (a, h, l)

module _ {o : Limited} (allowance : ℕ) (g : Got) (due : o ≡ reading_within allowance g) where
  module _ {row : List ℕ} {at : ℕ} {now : TypeSyntaxParser} {n : ℕ} {buf : List ℕ} (told : Told row at 0 o now n buf) where
    ended : (now.left ≤ allowance) × (g ≡ got told.nodes now.cursor now.pending_greater (allowance - now.left))
    ended = done_got allowance g (sym due ∙ told.is)

    pub left_some : now.left ≤ allowance
    left_some = ended.0

    -- Nothing is left over,
    pub row_read : now.cursor ≡ length row → now.pending_greater ≡ false → TreeRead row allowance g n (allowance - now.left) buf
    row_read a h = record {
      nodes = told.nodes;
      is = ended.1 ∙ rw (a, h);
      allowed = omega arith;
      counted = told.counted;
      written = told.written;
    }

    -- or tokens or half a `>>` are.
    pub row_over : (now.cursor ≢ length row) ⊎ (now.pending_greater ≡ true)
        → (allowance - now.left ≤ allowance) × ((g ≡ bad (refusal UnexpectedTokenAfterTypeName) (allowance - now.left)) ⊎ LeftOver row g UnexpectedTokenAfterTypeName (allowance - now.left))
    row_over over = (omega arith, inr record { error = refl; nodes = told.nodes; at = now.cursor; half = now.pending_greater; is = ended.1; over = over })

  pub left_denied : {e : TypeNameError} {left : ℕ} → o ≡ denied (refusal e) left → left ≤ allowance
  left_denied q = (denied_bad allowance g (sym due ∙ q)).0

  pub row_refused : {row : List ℕ} {e : TypeNameError} {left : ℕ} → o ≡ denied (refusal e) left → (allowance - left ≤ allowance) × ((g ≡ bad (refusal e) (allowance - left)) ⊎ LeftOver row g e (allowance - left))
  row_refused q = (omega arith, inl (denied_bad allowance g (sym due ∙ q)).1)

  pub row_passed : o ≡ spent → allowance < steps g
  row_passed q = spent_over allowance g (sym due ∙ q)
