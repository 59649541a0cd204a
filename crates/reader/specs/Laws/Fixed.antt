-- The reading goes by turns: `read ≡ turn read`. Its fuel does not matter where there is enough of it, and there is everywhere in the row.
-- Assumes nothing.
use Prim.Native.Nat.{ℕ, zero, suc, ◌+◌, ◌*◌, ◌≤◌, ◌<◌, min}
use Rattle.std.specs.Prelude.{◌≡◌, Bool, List, T, ltb, eqb}
use Rattle.std.proofs.Math.Path.{refl, ap}
use Rattle.std.proofs.Common.{◌∙◌, arith}
use Rattle.std.proofs.Math.Bool.{true, false}
use Rattle.std.proofs.Math.ListN.{length}
use Rattle.std.proofs.Math.Dec.{eqb→eq}
use Rattle.rows.specs.Kinds.{Comma}
use Rattle.reader.specs.Nodes.{t_node, l_node, a_node, Nodes, none, node}
use Rattle.reader.specs.Reading.{Region, argument, list, Fault, Next, ends, stops, token, group, angle, first, Got, got, bad, case, before, kind_at, MAX_NESTING_DEPTH, next, Reader, down, argued, go, turn, read_f, read}
use Rattle.reader.specs.Laws.Tokens.{inside}
use Rattle.reader.specs.Derivation.{nodal}
use Rattle.reader.specs.Laws.Derived.{Read, Sound, Allowed, next_allowed, down_sound, read_f_sound}
use Rattle.reader.specs.Laws.Bounds.{for_list, for_list_small, nodal_for_list, group_for_list, opener_inside, forwards, within}

module _ (cpp : Bool) (row : List ℕ) where
  -- Fuel that is enough at a token: two for each token from here on, one for a level, one more for a list. Stated without `-`.
  abbrev pub Enough : ℕ → Region → ℕ → Type 0
  Enough fuel l a = (a ≤ length row) × (2 * length row + suc (for_list l) ≤ fuel + 2 * a)

  -- Two readings that agree wherever there is enough fuel for one turn less.
  module _ (r s : Reader cpp row) (ok : (l : Region) (d n : ℕ) (w : Bool) (a : ℕ) (h : Bool) → Sound row l d n a h (r l d n w a h)) (fuel : ℕ)
      (same : (l : Region) (d n : ℕ) (w : Bool) (a : ℕ) (h : Bool) → Enough fuel l a → r l d n w a h ≡ s l d n w a h) where
    down_same : (b : Bool) (l : Region) (d n a : ℕ) (h : Bool) → Enough fuel l a → down cpp row r b l d n a h ≡ down cpp row s b l d n a h
    unfolding down
    down_same true l d n a h en = same l d n false a h en
    down_same false l d n a h en = refl

    -- Two ways on from results that are the same.
    case_same : {l : Region} {d n a : ℕ} {h : Bool} (g g' : Got) → g ≡ g' → Sound row l d n a h g
        → (f f₂ : Nodes → ℕ → Bool → ℕ → Got) → ((x : Nodes) (a' : ℕ) (h' : Bool) (m : ℕ) → Read row l d n a h x a' h' → f x a' h' m ≡ f₂ x a' h' m)
        → (k k₂ : Fault → ℕ → Got) → ((e : Fault) (m : ℕ) → k e m ≡ k₂ e m) → case g f k ≡ case g' f₂ k₂
    unfolding case
    case_same (got x a' h' m) g' e o f f₂ p k k₂ q = p x a' h' m o ∙ ap (λ (c : Got). case c f₂ k₂) e
    case_same (bad x m) g' e o f f₂ p k k₂ q = q x m ∙ ap (λ (c : Got). case c f₂ k₂) e

    argued_same : (l : Region) (d n a : ℕ) (x : Nodes) (comma : Bool) (a₁ : ℕ) (h₁ : Bool) (m : ℕ) → (T comma → Enough fuel list (suc a₁))
        → argued cpp row r l d n a x comma a₁ h₁ m ≡ argued cpp row s l d n a x comma a₁ h₁ m
    unfolding argued
    argued_same l d n a none comma a₁ h₁ m f = refl
    argued_same l d n a (node k i b y) true a₁ h₁ m f = ap (before a_node a (node k i b y) m) (same list d n false (suc a₁) h₁ (f tt))
    argued_same l d n a (node k i b y) false a₁ true m f = refl
    argued_same l d n a (node k i b y) false a₁ false m f = refl

    module _ (l : Region) (d n a : ℕ) (h : Bool) (en : Enough (suc fuel) l a) where
      -- The rest of the level, from a later token.
      on_same : T (nodal l h) → (w : Bool) (a₁ : ℕ) (h₁ : Bool) → a < a₁ → a₁ ≤ length row → r l d n w a₁ h₁ ≡ s l d n w a₁ h₁
      on_same t w a₁ h₁ p q = same l d n w a₁ h₁ (omega arith)

      go_same : (nx : Next) → Allowed row l d n a h nx → go cpp row r l d n nx a h ≡ go cpp row s l d n nx a h
      unfolding go
      go_same (ends a') z = refl
      go_same (stops e) z = refl
      go_same (token w) z = ap (before t_node a none 1) (on_same z.0 w (suc a) h (omega arith) (inside row a z.1.inside))
      go_same (group k v) z =
          let i : a < length row = opener_inside row z.3 a z.4 in
          case_same _ _ (down_same (ltb n MAX_NESTING_DEPTH) v d (suc n) (suc a) h (omega (arith, group_for_list z.3, nodal_for_list l h z.0)))
          (down_sound row cpp r ok (ltb n MAX_NESTING_DEPTH) v d (suc n) (suc a) h)
          _ _ (λ b a₁ h₁ m rd. ap (before k a b (suc m)) (on_same z.0 false a₁ h₁ (forwards row rd) (within row rd i)))
          _ _ (λ e m. refl)
      go_same angle z =
          let i : a < length row = inside row a (omega arith) in
          case_same _ _ (down_same (ltb n MAX_NESTING_DEPTH) list (suc d) (suc n) (suc a) h (omega (arith, nodal_for_list l h z.0)))
          (down_sound row cpp r ok (ltb n MAX_NESTING_DEPTH) list (suc d) (suc n) (suc a) h)
          _ _ (λ b a₁ h₁ m rd. ap (before l_node a b (suc m)) (on_same z.0 false a₁ h₁ (forwards row rd) (within row rd i)))
          _ _ (λ e m. ap (before t_node a none (suc m)) (on_same z.0 false (suc a) h (omega arith) i))
      go_same first z =
          let li : for_list l ≡ 1 = ap for_list z.0 in
          case_same _ _ (same argument d n false a h (omega arith)) (ok argument d n false a h)
          _ _ (λ x a₁ h₁ m rd. argued_same l d n a x (eqb (kind_at row a₁) Comma) a₁ h₁ m
          (λ t. let u : kind_at row a₁ ≡ Comma = eqb→eq _ _ t in let v : a₁ < length row = inside row a₁ (omega arith) in omega (arith, forwards row rd)))
          _ _ (λ e m. refl)

    turn_same : (l : Region) (d n : ℕ) (w : Bool) (a : ℕ) (h : Bool) → Enough (suc fuel) l a → turn cpp row r l d n w a h ≡ turn cpp row s l d n w a h
    unfolding turn
    turn_same l d n w a h en = go_same l d n a h en (next cpp l d w (kind_at row a) a h) (next_allowed row cpp l d n w a h)

  -- Any two fuels that are enough give the same.
  enough : (f g : ℕ) (l : Region) (d n : ℕ) (w : Bool) (a : ℕ) (h : Bool) → Enough f l a → Enough g l a
      → read_f cpp row f l d n w a h ≡ read_f cpp row g l d n w a h
  unfolding read_f
  enough zero g l d n w a h p q = absurd (omega arith)
  enough (suc f) zero l d n w a h p q = absurd (omega arith)
  enough (suc f) (suc g) l d n w a h p q =
      turn_same (read_f cpp row f) (read_f cpp row g) (read_f_sound row cpp f) (min f g)
      (λ l d n w a h en. enough f g l d n w a h (omega arith) (omega arith))
      l d n w a h (omega arith)

  -- The reading is a fixed point of a turn: no later proof and no contract speaks of fuel.
  pub fixed : (l : Region) (d n : ℕ) (w : Bool) (a : ℕ) (h : Bool) → a ≤ length row → read cpp row l d n w a h ≡ turn cpp row (read cpp row) l d n w a h
  unfolding read read_f
  fixed l d n w a h i =
      enough (2 * length row + 2) (suc (2 * length row + 2)) l d n w a h (omega (arith, for_list_small l)) (omega (arith, for_list_small l))
