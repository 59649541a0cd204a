-- What it is to read a row into a tree, as a derivation that names no language, no try and no word: the reading of document 01 and that of document 02,
-- C-17, are both sound for it (Laws/Derived.antt, and the crate named_reader), and what is promised of trees is proved of every derivation, once.
-- Assumes nothing.
use Rattle.std.specs.Prelude.{ℕ, suc, ◌≤◌, ◌<◌, ◌≡◌, ◌≢◌, Bool, true, false, not, List, T}
use Rattle.rows.specs.Kinds.{LeftParen, RightParen, LeftBracket, RightBracket, Comma, Less, Greater, ShiftRight, NoToken}
use Rattle.reader.specs.Nodes.{NodeKind, t_node, g_node, b_node, l_node, a_node, Nodes, none, node}
use Rattle.reader.specs.Reading.{Region, top, round, square, argument, list, kind_at, MAX_NESTING_DEPTH}

-- A group of this kind holds this level, between tokens of these kinds: "parentheses G, brackets B".
pub data Opens : NodeKind → Region → (opener closer : ℕ) → Type 0 where
  parens : Opens g_node round LeftParen RightParen
  brackets : Opens b_node square LeftBracket RightBracket

-- A token of this kind can be a T: it is there, and opens no group.
pub record Plain (k : ℕ) : Type 0 where
  pub inside : k ≢ NoToken
  pub no_paren : k ≢ LeftParen
  pub no_bracket : k ≢ LeftBracket

-- Nodes are read at this level, in an argument only where no half of a `>>` is left; at `list`, arguments.
abbrev pub nodal : Region → (half : Bool) → Bool
nodal top half = true
nodal round half = true
nodal square half = true
nodal argument half = not half
nodal list half = false

module _ (row : List ℕ) where
  -- A list is closed at a token: by the half of a `>>`, by `>`, or by a `>>`, of which half is left for another of the lists that are open.
  pub data Closes (lists at : ℕ) : (half : Bool) (at' : ℕ) (half' : Bool) → Type 0 where
    by_half : Closes lists at true at false
    by_one : kind_at row at ≡ Greater → Closes lists at false (suc at) false
    by_two : kind_at row at ≡ ShiftRight → 2 ≤ lists → Closes lists at false (suc at) true

  -- An argument ends at a token.
  pub data Stops (lists at : ℕ) : (half : Bool) → Type 0 where
    at_half : Stops lists at true
    at_one : {half : Bool} → kind_at row at ≡ Greater → Stops lists at half
    at_two : {half : Bool} → kind_at row at ≡ ShiftRight → 2 ≤ lists → Stops lists at half
    at_comma : {half : Bool} → kind_at row at ≡ Comma → Stops lists at half

  -- `inner`: how many of the lists around a group can be closed inside it.
  module _ (inner : ℕ → ℕ) where
    -- A level is read: its nodes, the token after it, and whether half a `>>` is left.
    pub data Derivation : Region → (lists nesting at : ℕ) (half : Bool) → Nodes → (at' : ℕ) (half' : Bool) → Type 0 where
      end_row : {d n a : ℕ} {h : Bool} → kind_at row a ≡ NoToken → Derivation top d n a h none a h
      end_group : {v : Region} {k : NodeKind} {o c d n a : ℕ} {h : Bool} → Opens k v o c → kind_at row a ≡ c → Derivation v d n a h none (suc a) h
      end_argument : {d n a : ℕ} {h : Bool} → Stops d a h → Derivation argument d n a h none a h
      a_token : {l : Region} {d n a a' : ℕ} {h h' : Bool} {x : Nodes} → T (nodal l h) → Plain (kind_at row a)
          → Derivation l d n (suc a) h x a' h' → Derivation l d n a h (node t_node a none x) a' h'
      a_group : {l v : Region} {k : NodeKind} {o c d n a a₁ a₂ : ℕ} {h h₁ h₂ : Bool} {b x : Nodes}
          → T (nodal l h) → n < MAX_NESTING_DEPTH → Opens k v o c → kind_at row a ≡ o
          → Derivation v (inner d) (suc n) (suc a) h b a₁ h₁ → Derivation l d n a₁ h₁ x a₂ h₂ → Derivation l d n a h (node k a b x) a₂ h₂
      a_list : {l : Region} {d n a a₁ a₂ : ℕ} {h h₁ h₂ : Bool} {b x : Nodes} → T (nodal l h) → n < MAX_NESTING_DEPTH → kind_at row a ≡ Less
          → Derivation list (suc d) (suc n) (suc a) h b a₁ h₁ → Derivation l d n a₁ h₁ x a₂ h₂ → Derivation l d n a h (node l_node a b x) a₂ h₂
      last : {k : NodeKind} {d n a a₁ a₂ i : ℕ} {h₁ h₂ : Bool} {y z : Nodes}
          → Derivation argument d n a false (node k i y z) a₁ h₁ → Closes d a₁ h₁ a₂ h₂ → Derivation list d n a false (node a_node a (node k i y z) none) a₂ h₂
      more : {k : NodeKind} {d n a a₁ a₂ i : ℕ} {h₂ : Bool} {y z x : Nodes}
          → Derivation argument d n a false (node k i y z) a₁ false → kind_at row a₁ ≡ Comma → Derivation list d n (suc a₁) false x a₂ h₂
          → Derivation list d n a false (node a_node a (node k i y z) x) a₂ h₂

    -- The whole row is read to this tree.
    pub record RowDerived (x : Nodes) : Type 0 where
      pub fewer : (d : ℕ) → inner d ≤ d
      pub at : ℕ
      pub half : Bool
      pub derivation : Derivation top 0 0 0 false x at half
