-- Document 01's **plain matcher**: "Bracket pairs", its second paragraph.
-- Assumes nothing.
use Rattle.std.specs.Prelude.{ℕ, suc, ◌≡◌, Bool, true, false, List, [], ◌∷◌, eqb, if◌then◌else◌}
use Rattle.rows.specs.Kinds.{LeftParen, RightParen, LeftBracket, RightBracket}
use Rattle.rows.specs.declared.answer.Delimiter.{Delimiter}
use Rattle.rows.specs.declared.answer.Delimiter.TheVariants.{Parenthesis, Bracket}

-- What a token of some kind is among brackets: `(` or `[`, `)` or `]`, or neither.
pub data Role : Type 0 where
  opens : Delimiter → Role
  closes : Delimiter → Role
  neither : Role

-- "`(` or `[` goes on the stack"; "`)` wants `(` on top, `]` wants `[`"; "every other token" is neither.
unfoldable pub role : (kind : ℕ) → Role
role k =
    if eqb k LeftParen then opens Parenthesis
    else if eqb k LeftBracket then opens Bracket
    else if eqb k RightParen then closes Parenthesis
    else if eqb k RightBracket then closes Bracket
    else neither

-- The closer is of the opener's sort: "`)` wants `(` on top, `]` wants `[`".
unfoldable pub same : Delimiter → Delimiter → Bool
same Parenthesis Parenthesis = true
same Parenthesis Bracket = false
same Bracket Parenthesis = false
same Bracket Bracket = true

-- "`(` or `[` goes on the stack with its token number."
pub record Opener : Type 0 where
  pub delimiter : Delimiter
  pub token : ℕ

-- An opener's token number and its closer's, "each the other's partner".
pub record Pair : Type 0 where
  pub opener : ℕ
  pub closer : ℕ

-- "It holds a stack of openers and a list of pairs"; or it has stopped, "and the row has no pairing".
pub data Matcher : Type 0 where
  stopped : Matcher
  going : List Opener → List Pair → Matcher

-- "`)` wants `(` on top, `]` wants `[`: that opener comes off, and its number and the closer's become a pair."
unfoldable pub pop : Delimiter → (at : ℕ) → List Opener → List Pair → Matcher
unfolding same
pop d at [] pairs = stopped
pop d at (o ∷ stack) pairs = if same o.delimiter d then going stack (record { opener = o.token; closer = at } ∷ pairs) else stopped

-- "Every other token, angles included, changes nothing."
unfoldable pub meet : Role → (at : ℕ) → Matcher → Matcher
unfolding pop
meet r at stopped = stopped
meet (opens d) at (going stack pairs) = going (record { delimiter = d; token = at } ∷ stack) pairs
meet (closes d) at (going stack pairs) = pop d at stack pairs
meet neither at (going stack pairs) = going stack pairs

-- The tokens from number `at` on, in order.
unfoldable pub matcher : (at : ℕ) → List ℕ → Matcher → Matcher
unfolding meet role
matcher at [] m = m
matcher at (k ∷ ks) m = matcher (suc at) ks (meet (role k) at m)

-- "All brackets are paired if it gets to the end with an empty stack": these are the pairs.
abbrev pub Paired : (kinds : List ℕ) → List Pair → Type 0
Paired kinds pairs = matcher 0 kinds (going [] []) ≡ going [] pairs
