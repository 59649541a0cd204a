-- What the declared types of the specifiers' loop stand for. Assumes nothing.
use Rattle.std.specs.Prelude.{ℕ, ◌<◌, ◌≡◌, Bool, List, length, get_or}
use Rattle.type_nodes.specs.Moves.{Move, stop, on, on_if}
use Rattle.type_nodes.specs.Specifiers.{Specifiers, specifiers}
use Rattle.type_nodes.specs.Combination.{once_more, no_builtin_word, counted_words}
use Rattle.type_nodes.specs.declared.specifiers.SpecifierFlags.{SpecifierFlags}
use Rattle.type_nodes.specs.declared.specifiers.SpecifierMove.{SpecifierMove}
use Rattle.type_nodes.specs.declared.specifiers.SpecifierMove.TheVariants as M

-- The variables of `validate_c_decl_specifiers`.
abbrev pub specifiers_of : (seen : List ℕ) → SpecifierFlags → Specifiers
specifiers_of seen f = specifiers seen f.saw_named_type f.saw_elaborated f.saw_bit_int f.previous_was_scope

-- A move holds no counts: it says which word is counted, `seen` the counts before it.
abbrev pub specifier_move_of : (seen : List ℕ) → SpecifierMove → Move Specifiers
specifier_move_of seen (M.Stop r) = stop r
specifier_move_of seen (M.On f) = on (specifiers_of seen f)
specifier_move_of seen (M.Count w f) = on (specifiers_of (once_more w seen) f)

-- A word that is counted has a count.
abbrev pub HasCount : SpecifierMove → Type 0
HasCount (M.Stop r) = Unit {0}
HasCount (M.On f) = Unit {0}
HasCount (M.Count w f) = w < counted_words

-- Every word of a list has a count.
abbrev pub HaveCounts : (words : List ℕ) → Type 0
HaveCounts words = (i : ℕ) → i < length words → get_or words i 0 < counted_words

-- A move of the specifiers, and what lets the code count.
pub record SpecifierMoves (seen : List ℕ) (r : SpecifierMove) (m : Move Specifiers) : Type 0 where
  pub is : specifier_move_of seen r ≡ m
  pub known : HasCount r

-- A move that serves whatever was counted before.
abbrev pub Always : SpecifierMove → (arm : (seen : List ℕ) → Move Specifiers) → Type 0
Always r arm = (seen : List ℕ) → SpecifierMoves seen r (arm seen)

-- Go on if a condition holds, `after` what the variables then are.
abbrev pub Goes : SpecifierMove → (ok : Bool) → (after : (seen : List ℕ) → Specifiers) → Type 0
Goes r ok after = Always r (λ seen. on_if ok (after seen))

-- A move that serves whatever was counted before, where `none` says whether that is without a builtin type word.
abbrev pub Serves : SpecifierMove → (none : Bool) → (arm : (seen : List ℕ) → Move Specifiers) → Type 0
Serves r none arm = (seen : List ℕ) → none ≡ no_builtin_word seen → SpecifierMoves seen r (arm seen)

-- The same of a condition.
abbrev pub Tells : (r none : Bool) → (condition : (seen : List ℕ) → Bool) → Type 0
Tells r none condition = (seen : List ℕ) → none ≡ no_builtin_word seen → r ≡ condition seen
