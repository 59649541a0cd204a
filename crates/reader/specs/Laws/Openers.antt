-- Every `(` has exactly one G and every `[` exactly one B: their tokens in the tree are those of the row, in order.
-- Assumes nothing.
use Rattle.std.specs.Prelude.{ℕ, suc, ◌≤◌, ◌≡◌, ◌≢◌, Bool, true, false, drop, eqb, if◌then◌else◌}
use Rattle.std.proofs.Math.Path.{refl, sym, ap}
use Rattle.std.proofs.Common.{◌∙◌, arith, ne_eqb, drop_of_length-le}
use mathlib.Core.List.{List, ◌∷◌, ◌++◌, append-nil, append_assoc}
use Rattle.std.proofs.Math.ListN.{length}
use Rattle.rows.specs.Kinds.{LeftParen, LeftBracket, Comma, Less, Greater, ShiftRight, NoToken}
use Rattle.reader.specs.Nodes.{NodeKind, t_node, g_node, b_node, l_node, a_node, number, Nodes}
use Rattle.reader.specs.Reading.{Region, kind_at}
use Rattle.reader.specs.Standing.{tokens_of, tokens_of_kind}
use Rattle.reader.specs.Laws.Tokens.{KindsKnown, taken}
use Rattle.reader.specs.Derivation.{Opens, parens, brackets, Closes, by_half, by_one, by_two, Derivation, end_row, end_group, end_argument, a_token, a_group, a_list, last, more, RowDerived}
use Rattle.reader.specs.Laws.Derived.{opener_kind, closer_kind}
use Rattle.reader.specs.Laws.Bounds.{nothing_left}

-- A list with i before it, if the test says so.
abbrev add : Bool → ℕ → List ℕ → List ℕ
add b i l = if b then i ∷ l else l

add_append : (b : Bool) (i : ℕ) (l m : List ℕ) → add b i l ++ m ≡ add b i (l ++ m)
add_append true i l m = refl
add_append false i l m = refl

-- Two groups are of the same kind where their openers are.
alike : {g k : NodeKind} {v₀ v : Region} {o₀ c₀ o c : ℕ} → Opens g v₀ o₀ c₀ → Opens k v o c → eqb (number g) (number k) ≡ eqb o₀ o
unfolding number
alike parens parens = refl
alike parens brackets = refl
alike brackets parens = refl
alike brackets brackets = refl

-- No other node is of a group's kind.
apart : {g : NodeKind} {v : Region} {o c : ℕ} → Opens g v o c
    → (eqb (number g) (number t_node) ≡ false) × (eqb (number g) (number l_node) ≡ false) × (eqb (number g) (number a_node) ≡ false)
unfolding number
apart parens = (refl, refl, refl)
apart brackets = (refl, refl, refl)

-- A kind that is neither `(` nor `[`.
Other : ℕ → Type 0
Other k = (k ≢ LeftParen) × (k ≢ LeftBracket)

other_token : {g : NodeKind} {v : Region} {o c : ℕ} → Opens g v o c → (k : ℕ) → Other k → eqb o k ≡ false
unfolding Other
other_token parens k q = ne_eqb LeftParen k (λ u. q.0 (sym u))
other_token brackets k q = ne_eqb LeftBracket k (λ u. q.1 (sym u))

other_closer : {g : NodeKind} {v : Region} {o c : ℕ} → Opens g v o c → Other c
unfolding Other
other_closer parens = omega arith
other_closer brackets = omega arith

module _ (row : List ℕ) {g : NodeKind} {v₀ : Region} {o₀ c₀ : ℕ} (group : Opens g v₀ o₀ c₀) where
  from : ℕ → List ℕ
  from a = tokens_of_kind o₀ a (drop a row)

  at_opener : (a k : ℕ) → kind_at row a ≡ k → k ≢ NoToken → from a ≡ add (eqb o₀ k) a (from (suc a))
  unfolding from tokens_of_kind
  at_opener a k e q = ap (tokens_of_kind o₀ a) (taken row a (λ u. q (sym e ∙ u))) ∙ ap (λ (j : ℕ). add (eqb o₀ j) a (from (suc a))) e

  at_other : (a k : ℕ) → kind_at row a ≡ k → k ≢ NoToken → Other k → from a ≡ from (suc a)
  at_other a k e q z = at_opener a k e q ∙ ap (λ (b : Bool). add b a (from (suc a))) (other_token group k z)

  at_shut : {d a a' : ℕ} {h h' : Bool} → Closes row d a h a' h' → from a ≡ from a'
  unfolding Other
  at_shut by_half = refl
  at_shut {a = a} (by_one e) = at_other a Greater e (omega arith) (omega arith)
  at_shut {a = a} (by_two e two) = at_other a ShiftRight e (omega arith) (omega arith)

  -- The openers from where a level begins are those of its groups, and those from where it ends.
  placed : {inner : ℕ → ℕ} {l : Region} {d n a a' : ℕ} {h h' : Bool} {x : Nodes} → Derivation row inner l d n a h x a' h' → from a ≡ tokens_of g x ++ from a'
  unfolding tokens_of Other
  placed (end_row e) = refl
  placed (end_group {c = c} {a = a} op e) = at_other a c e (closer_kind op) (other_closer op)
  placed (end_argument s) = refl
  placed (a_token {a = a} t p r) = rw (apart group).0 (at_other a (kind_at row a) refl p.inside (p.no_paren, p.no_bracket) ∙ placed r)
  placed (a_group {o = o} {a = a} t lim op e r₁ r) =
      rw (alike group op) (at_opener a o e (opener_kind op) ∙ simp (add_append, append_assoc, placed r₁, placed r))
  placed (a_list {a = a} t lim e r₁ r) = rw (apart group).1 (at_other a Less e (omega arith) (omega arith) ∙ simp (append_assoc, placed r₁, placed r))
  placed (last r c) = rw (apart group).2 (simp (append-nil, placed r, at_shut c))
  placed (more {a₁ = a} r e r₁) = rw (apart group).2 (simp (append_assoc, placed r, at_other a Comma e (omega arith) (omega arith), placed r₁))

module _ (row : List ℕ) (known : KindsKnown row) {inner : ℕ → ℕ} {x : Nodes} (d : RowDerived row inner x) where
  one_each : {g : NodeKind} {v : Region} {o c : ℕ} → Opens g v o c → tokens_of g x ≡ tokens_of_kind o 0 row
  unfolding from tokens_of_kind
  one_each group =
      let end : length row ≤ d.at = omega (arith, (nothing_left row d known).0) in
      sym (rw (drop_of_length-le row end, append-nil) at (placed row group d.derivation))

  pub one_g_each : tokens_of g_node x ≡ tokens_of_kind LeftParen 0 row
  one_g_each = one_each parens

  pub one_b_each : tokens_of b_node x ≡ tokens_of_kind LeftBracket 0 row
  one_b_each = one_each brackets
