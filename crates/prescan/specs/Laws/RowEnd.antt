-- The row's end, way by way, as code takes it.
-- Assumes nothing.
use Rattle.std.specs.Prelude.{ℕ, suc, ◌-◌, ◌<◌, ◌≤◌, ◌≡◌, Bool, true, false, ◌&&◌, List, [], length, get_or, eqb}
use Rattle.std.proofs.Math.Path.{refl, sym}
use Rattle.std.proofs.Common.{◌∙◌, arith}
use borrow.Author.Tests.{eq-eqb, ne_eqb}
use Rattle.rows.specs.Kinds.{NoToken}
use Rattle.rows.specs.declared.answer.Delimiter.{Delimiter}
use Rattle.rows.specs.declared.answer.TypeNameError.TheVariants.{UnclosedDelimiter, UnclosedAngle, MissingTypeWord, InvalidBoundaryToken}
use Rattle.rows.specs.Laws.Lookups.{any_default}
use Rattle.prescan.specs.Prescan.{Scanned, passed, refused, valid_start, valid_end, row_end}
use Rattle.prescan.specs.ScanState.{delimiter_of, openers, scan_of}
use Rattle.prescan.specs.declared.scan.ScanState.{ScanState}

module _ (language : ℕ) (kinds stack : List ℕ) (s : ScanState) where
  abbrev ended : Scanned
  ended = row_end language kinds (openers kinds stack s.depth) (scan_of (openers kinds stack s.depth) s)

  pub open_bracket : (n : ℕ) → s.depth ≡ suc n → (d : Delimiter) → d ≡ delimiter_of (get_or kinds (get_or stack n 0) 0) → ended ≡ refused (UnclosedDelimiter d (get_or stack n 0))
  unfolding openers row_end
  open_bracket n e d is = rw (e, is) refl

  module _ (none : s.depth ≡ 0) where
    pub open_angle : 0 < s.angles → ended ≡ refused (UnclosedAngle s.first)
    unfolding openers row_end
    open_angle p = rw (none, ne_eqb s.angles 0 (omega arith)) refl

    module _ (closed : s.angles ≤ 0) where
      no_angle : eqb s.angles 0 ≡ true
      no_angle = eq-eqb s.angles 0 (omega arith)

      pub no_identifier : s.word ≡ false → ended ≡ refused MissingTypeWord
      unfolding openers row_end
      no_identifier w = rw (none, no_angle, w) refl

      module _ (worded : s.word ≡ true) (b : Bool)
          (e : b ≡ (valid_start (get_or kinds 0 NoToken) && valid_end language (get_or kinds (length kinds - 2) NoToken) (get_or kinds (length kinds - 1) NoToken))) where
        pub good_boundary : b ≡ true → ended ≡ passed (scan_of [] s)
        unfolding openers row_end
        good_boundary t = rw (none, no_angle, worded, sym e ∙ t) refl

        pub bad_boundary : b ≡ false → ended ≡ refused InvalidBoundaryToken
        unfolding openers row_end
        bad_boundary t = rw (none, no_angle, worded, sym e ∙ t) refl

-- The boundary as code tests it.
pub boundary_test : (language : ℕ) (kinds : List ℕ) {a b : Bool} {before : ℕ} → 0 < length kinds → a ≡ valid_start (get_or kinds 0 0) → b ≡ valid_end language before (get_or kinds (length kinds - 1) 0)
    → before ≡ get_or kinds (length kinds - 2) NoToken
    → (a && b) ≡ (valid_start (get_or kinds 0 NoToken) && valid_end language (get_or kinds (length kinds - 2) NoToken) (get_or kinds (length kinds - 1) NoToken))
boundary_test language kinds some e e' e'' =
    rw (e, e', e'', any_default kinds 0 0 NoToken some, any_default kinds (length kinds - 1) 0 NoToken (omega arith)) refl
