-- The code's state of the prescan as the definition's: what its contracts speak of.
-- Assumes nothing.
use Rattle.std.specs.Prelude.{ℕ, zero, suc, ◌≤◌, ◌<◌, ◌^◌, ◌≡◌, List, [], ◌∷◌, length, get_or, eqb, if◌then◌else◌, Result, Ok, Err}
use Rattle.rows.specs.Kinds.{LeftParen}
use Rattle.rows.specs.declared.answer.Delimiter.{Delimiter}
use Rattle.rows.specs.declared.answer.Delimiter.TheVariants.{Parenthesis, Bracket}
use Rattle.rows.specs.declared.answer.TypeNameError.{TypeNameError}
use Rattle.prescan.specs.Matcher.{Opener}
use Rattle.prescan.specs.Prescan.{Scan, Scanned, passed, refused, past}
use Rattle.prescan.specs.declared.scan.ScanState.{ScanState}

-- The bracket of an opener's kind.
unfoldable pub delimiter_of : (kind : ℕ) → Delimiter
delimiter_of k = if eqb k LeftParen then Parenthesis else Bracket

-- The innermost `depth` openers on a stack of token numbers.
unfoldable pub openers : (kinds stack : List ℕ) (depth : ℕ) → List Opener
openers kinds stack zero = []
openers kinds stack (suc depth) =
    record { delimiter = delimiter_of (get_or kinds (get_or stack depth 0) 0); token = get_or stack depth 0 } ∷ openers kinds stack depth

-- The code's state with these brackets open.
abbrev pub scan_of : List Opener → ScanState → Scan
scan_of held s = record { open_brackets = held; angle_depth = s.angles; first_angle = s.first; has_word = s.word; last = s.last }

-- What a step of the code comes to with these brackets open.
abbrev pub result_of : List Opener → Result ScanState TypeNameError → Scanned
result_of held (Ok s) = passed (scan_of held s)
result_of held (Err e) = refused e

-- A step keeps the brackets, and opens at most one angle.
abbrev pub Keeps : (depth angles : ℕ) → Result ScanState TypeNameError → Type 0
Keeps depth angles (Ok s) = (s.depth ≡ depth) × (s.angles ≤ suc angles)
Keeps depth angles (Err e) = Unit {0}

-- Before token `at`: no more angles than tokens, and token numbers fit 32 bits.
pub record Counted (s : ScanState) (at : ℕ) : Type 0 where
  pub angles : s.angles ≤ at
  pub fits : at < 2 ^ 32

-- The code's state past a token.
pub record Past (s : ScanState) (kind depth angles first : ℕ) (r : ScanState) : Type 0 where
  pub same_depth : r.depth ≡ depth
  pub is : (held : List Opener) → scan_of held r ≡ past kind (scan_of [] s) held angles first

-- A step that changes no bracket comes to what the definition does: `held` are the brackets open.
pub record Steps (held : List Opener) (s : ScanState) (r : Result ScanState TypeNameError) (d : Scanned) : Type 0 where
  pub says : result_of held r ≡ d
  pub keeps : Keeps s.depth s.angles r

-- Before token `at`, with a stack of token numbers that has room for the row's: no more angles and brackets than tokens, and each bracket's token is past.
pub record Sound (kinds stack : List ℕ) (s : ScanState) (at : ℕ) : Type 0 where
  pub angles : s.angles ≤ at
  pub brackets : s.depth ≤ at
  pub tokens : (i : ℕ) → i < s.depth → get_or stack i 0 < at
  pub inside : at ≤ length kinds
  pub room : length kinds ≤ length stack
  pub fits : length kinds < 2 ^ 32

-- What a step of the code comes to, with its openers on the stack.
abbrev pub outcome_of : (kinds stack : List ℕ) → Result ScanState TypeNameError → Scanned
outcome_of kinds stack (Ok s) = passed (scan_of (openers kinds stack s.depth) s)
outcome_of kinds stack (Err e) = refused e

-- The state after a step that refused nothing is sound.
abbrev pub StillSound : (kinds stack : List ℕ) → (at : ℕ) → Result ScanState TypeNameError → Type 0
StillSound kinds stack at (Ok s) = Sound kinds stack s at
StillSound kinds stack at (Err e) = Unit {0}

-- Token `at` was taken as the definition takes it. What the stack holds past its openers, and after a refusal, is free.
pub record Takes (kinds stack : List ℕ) (at : ℕ) (r : Result ScanState TypeNameError) (d : Scanned) : Type 0 where
  pub says : outcome_of kinds stack r ≡ d
  pub sound : StillSound kinds stack (suc at) r
