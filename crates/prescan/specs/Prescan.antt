-- The prescan: document 01, "Bracket pairs", and the places "Prescan" and "Row end" of its table: refusals 10 to 18.
-- Assumes nothing.
use Rattle.std.specs.Prelude.{ℕ, suc, ◌-◌, Bool, false, not, ◌&&◌, ◌||◌, List, [], ◌∷◌, length, get_or, leb, eqb, if◌then◌else◌, Some, None}
use Rattle.rows.specs.Notation.{◌is_one_of◌}
use Rattle.rows.specs.Languages.{C, Cpp, Fortran}
use Rattle.rows.specs.Kinds.{Identifier, Integer, RightParen, RightBracket, Comma, Scope, Star, Ampersand, LogicalAnd, Less, Greater, ShiftRight, End, NoToken}
use Rattle.rows.specs.Refusals.{no_token}
use Rattle.rows.specs.declared.answer.Delimiter.{Delimiter}
use Rattle.rows.specs.declared.answer.TypeNameError.{TypeNameError}
use Rattle.rows.specs.declared.answer.TypeNameError.TheVariants.{Empty, UnexpectedClosingDelimiter, UnexpectedAngle, TopLevelComma, UnexpectedEndToken, UnclosedDelimiter, UnclosedAngle, MissingTypeWord, InvalidBoundaryToken}
use Rattle.prescan.specs.Matcher.{Role, opens, closes, neither, role, same, Opener}

-- What is known after some tokens: the brackets open, the innermost first; the angle depth; the first `<` outside brackets, closed or not;
-- whether an identifier was met; and the kind of the last token.
pub record Scan : Type 0 where
  pub open_brackets : List Opener
  pub angle_depth : ℕ
  pub first_angle : ℕ
  pub has_word : Bool
  pub last : ℕ

-- "The first fault wins."
pub data Scanned : Type 0 where
  passed : Scan → Scanned
  refused : TypeNameError → Scanned

-- Before the first token: `parse_with_profile_mode` as its loop over the tokens begins.
unfoldable pub start : Scan
start = record { open_brackets = []; angle_depth = 0; first_angle = no_token; has_word = false; last = NoToken }

-- Past a token of kind k, with these brackets and angles: "Tokens are taken in order".
unfoldable pub past : (k : ℕ) → Scan → List Opener → (depth first : ℕ) → Scan
past k s brackets depth first = record { open_brackets = brackets; angle_depth = depth; first_angle = first; has_word = s.has_word || eqb k Identifier; last = k }

-- `close_delimiter`: "11 closing bracket unexpected (detail: 0 none, 1 `(` or 2 `[` was open)".
unfoldable pub close : Delimiter → (k at : ℕ) → List Opener → Scan → Scanned
unfolding past same
close d k at [] s = refused (UnexpectedClosingDelimiter None d at)
close d k at (o ∷ outer) s =
    if same o.delimiter d then passed (past k s outer s.angle_depth s.first_angle)
    else refused (UnexpectedClosingDelimiter (Some o.delimiter) d at)

-- "`<` needs C++ and, just before it, an identifier, `>`, `>>`, `)` or `]`."
unfoldable pub opens_angle : (language last : ℕ) → Bool
unfolding ◌is_one_of◌
opens_angle language last = eqb language Cpp && last is_one_of Identifier ∷ Greater ∷ ShiftRight ∷ RightParen ∷ RightBracket ∷ []

-- "Angles and commas are tested only outside brackets." "`>` needs angle depth 1 or more, and so does a comma. `>>` at depth 0 passes, at 1 is
-- refused, at 2 or more takes two."
unfoldable pub outside_brackets : (language k at : ℕ) → Scan → Scanned
unfolding past opens_angle
outside_brackets language k at s =
    let depth = s.angle_depth in
    let first = s.first_angle in
    let on_with : ℕ → ℕ → Scanned = λ d f. passed (past k s [] d f) in
    if eqb k Less && not (opens_angle language s.last) then refused (UnexpectedAngle at)
    else if eqb k Less then on_with (suc depth) (if eqb first no_token then at else first)
    else if eqb k Greater && eqb depth 0 then refused (UnexpectedAngle at)
    else if eqb k Greater then on_with (depth - 1) first
    else if eqb k ShiftRight && eqb depth 1 then refused (UnexpectedAngle at)
    else if eqb k ShiftRight && leb 2 depth then on_with (depth - 2) first
    else if eqb k Comma && eqb depth 0 then refused (TopLevelComma at)
    else on_with depth first

-- "Angles and commas are tested only outside brackets": a token that is no bracket, with these brackets open.
unfoldable pub no_bracket : (language k at : ℕ) → List Opener → Scan → Scanned
unfolding outside_brackets past
no_bracket language k at [] s = outside_brackets language k at s
no_bracket language k at (o ∷ outer) s = passed (past k s (o ∷ outer) s.angle_depth s.first_angle)

-- The arms of the `match` in `parse_with_profile_mode`: an opener, a closer, "14 kind 57", any other token.
unfoldable pub in_role : (language : ℕ) → Role → (k at : ℕ) → Scan → Scanned
unfolding past close no_bracket
in_role language (opens d) k at s = passed (past k s (record { delimiter = d; token = at } ∷ s.open_brackets) s.angle_depth s.first_angle)
in_role language (closes d) k at s = close d k at s.open_brackets s
in_role language neither k at s = if eqb k End then refused (UnexpectedEndToken at) else no_bracket language k at s.open_brackets s

-- One token more: "the first fault wins".
unfoldable pub take_token : (language k at : ℕ) → Scanned → Scanned
unfolding in_role role
take_token language k at (refused e) = refused e
take_token language k at (passed s) = in_role language (role k) k at s

-- "Tokens are taken in order", from number `at` on.
unfoldable pub scan : (language at : ℕ) → List ℕ → Scanned → Scanned
unfolding take_token
scan language at [] r = r
scan language at (k ∷ ks) r = scan language (suc at) ks (take_token language k at r)

-- ---- after the last token

-- "A row starts with an identifier or `::`".
unfoldable pub valid_start : (first : ℕ) → Bool
unfolding ◌is_one_of◌
valid_start first = first is_one_of Identifier ∷ Scope ∷ []

-- "and ends with an identifier, `)`, `]`, `>`, `>>`, `*`, `&` or `&&`; in C not with `&` or `&&`; in Fortran also with `*` and an integer."
unfoldable pub valid_end : (language before last : ℕ) → Bool
unfolding ◌is_one_of◌
valid_end language before last =
    last is_one_of Identifier ∷ RightParen ∷ RightBracket ∷ Greater ∷ ShiftRight ∷ Star ∷ []
    || (not (eqb language C) && last is_one_of Ampersand ∷ LogicalAnd ∷ [])
    || (eqb language Fortran && eqb before Star && eqb last Integer)

-- "In this order: open bracket (the innermost is named), open angle (the first `<` outside brackets is named, closed or not), no identifier, bad boundary."
unfoldable pub row_end : (language : ℕ) → (kinds : List ℕ) → List Opener → Scan → Scanned
unfolding valid_start valid_end
row_end language kinds (o ∷ outer) s = refused (UnclosedDelimiter o.delimiter o.token)
row_end language kinds [] s =
    if not (eqb s.angle_depth 0) then refused (UnclosedAngle s.first_angle)
    else if not s.has_word then refused MissingTypeWord
    else if valid_start (get_or kinds 0 NoToken) && valid_end language (get_or kinds (length kinds - 2) NoToken) (get_or kinds (length kinds - 1) NoToken) then passed s
    else refused InvalidBoundaryToken

-- "After the last token", if none was a fault.
unfoldable pub at_row_end : (language : ℕ) → (kinds : List ℕ) → Scanned → Scanned
unfolding row_end
at_row_end language kinds (refused e) = refused e
at_row_end language kinds (passed s) = row_end language kinds s.open_brackets s

-- The prescan of a row, by its token kinds: "10 empty row", then "Prescan", then "Row end" of the table.
unfoldable pub prescan : (language : ℕ) → (kinds : List ℕ) → Scanned
unfolding at_row_end scan start
prescan language [] = refused Empty
prescan language (k ∷ ks) = at_row_end language (k ∷ ks) (scan language 0 (k ∷ ks) (passed start))
