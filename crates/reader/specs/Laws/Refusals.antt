-- What the reading refuses with: 20, 21 and 22, and nothing else; in particular a failed try of a list never leaves the reading.
-- Assumes nothing.
use Prim.Native.Nat.{ℕ, zero, suc, ◌+◌, ◌*◌, ◌≤◌, ◌<◌}
use Rattle.std.specs.Prelude.{◌≡◌, Bool, ◌&&◌, ◌||◌, List, T, ltb}
use Rattle.std.proofs.Math.Path.{subst}
use Rattle.std.proofs.Math.Bool.{true, false}
use Rattle.std.proofs.Common.{arith}
use Rattle.std.proofs.Math.ListN.{length}
use Rattle.std.proofs.Math.Dec.{eqb}
use Rattle.rows.specs.Kinds.{LeftParen, RightParen, LeftBracket, RightBracket, Comma, Less, NoToken}
use Rattle.rows.specs.Laws.Tests.{by_if}
use Rattle.rows.specs.declared.answer.TypeNameError.TheVariants.{NestingLimitExceeded, UnterminatedGroup, MismatchedClosingDelimiter}
use Rattle.reader.specs.Nodes.{NodeKind, t_node, l_node, Nodes, none}
use Rattle.reader.specs.Reading.{Region, top, round, square, argument, list, Fault, refusal, Next, ends, stops, token, group, angle, first, Got, got, bad, case, before, kind_at, MAX_NESTING_DEPTH, is_angle_close, starts, next, Reader, down, go, turn, read_f, read, reading}
use Rattle.reader.specs.Laws.Tokens.{inside}
use Rattle.reader.specs.Derivation.{Opens, parens, brackets, nodal}
use Rattle.reader.specs.Laws.Derived.{Read, Sound, Allowed, next_allowed, down_sound, read_f_sound}
use Rattle.reader.specs.Laws.Bounds.{nodal_for_list, group_for_list, opener_inside, forwards, within}
use Rattle.reader.specs.Laws.Fixed.{Enough}

-- The faults of a whole row: refusals 20, 21 and 22.
pub data Refuses : Fault → Type 0 where
  too_deep : Refuses (refusal NestingLimitExceeded)
  not_closed : Refuses (refusal UnterminatedGroup)
  wrong_closer : Refuses (refusal MismatchedClosingDelimiter)

-- The levels that are no part of a list: there a fault ends the reading.
abbrev plainly : Region → Bool
plainly top = true
plainly round = true
plainly square = true
plainly argument = false
plainly list = false

opens_plainly : {k : NodeKind} {v : Region} {o c : ℕ} → Opens k v o c → T (plainly v)
opens_plainly parens = tt
opens_plainly brackets = tt

-- What is not read at such a level has one of these faults.
abbrev Named : Region → Got → Type 0
Named l (got x a h m) = Unit {0}
Named l (bad e m) = T (plainly l) → Refuses e

-- The same of what is to be done; and no argument begins there.
abbrev Said : Region → Next → Type 0
Said l (ends a) = Unit {0}
Said l (stops e) = T (plainly l) → Refuses e
Said l (token w) = Unit {0}
Said l (group k v) = Unit {0}
Said l angle = Unit {0}
Said l first = T (plainly l) → ⊥

named_before : (l : Region) (k : NodeKind) (i : ℕ) (b : Nodes) (m : ℕ) (g : Got) → Named l g → Named l (before k i b m g)
unfolding before
named_before l k i b m (got x a h m') p = tt
named_before l k i b m (bad e m') p = p

module _ (cpp : Bool) (row : List ℕ) where
  starts_said : (l : Region) (w : Bool) (k : ℕ) → Said l (starts cpp w k)
  unfolding starts
  starts_said l w k =
      by_if (Said l) (eqb k LeftParen) (λ _. tt) λ _.
      by_if (Said l) (eqb k LeftBracket) (λ _. tt) λ _.
      by_if (Said l) (eqb k Less && cpp && w) (λ _. tt) (λ _. tt)

  next_said : (l : Region) (d : ℕ) (w : Bool) (a : ℕ) (h : Bool) → Said l (next cpp l d w (kind_at row a) a h)
  unfolding next
  next_said top d w a h =
      by_if (Said top) (eqb (kind_at row a) NoToken) (λ _. tt) λ _.
      by_if (Said top) (eqb (kind_at row a) RightParen || eqb (kind_at row a) RightBracket) (λ _ _. wrong_closer) λ _. starts_said top w (kind_at row a)
  next_said round d w a h =
      by_if (Said round) (eqb (kind_at row a) NoToken) (λ _ _. not_closed) λ _.
      by_if (Said round) (eqb (kind_at row a) RightParen) (λ _. tt) λ _.
      by_if (Said round) (eqb (kind_at row a) RightBracket) (λ _ _. wrong_closer) λ _. starts_said round w (kind_at row a)
  next_said square d w a h =
      by_if (Said square) (eqb (kind_at row a) NoToken) (λ _ _. not_closed) λ _.
      by_if (Said square) (eqb (kind_at row a) RightBracket) (λ _. tt) λ _.
      by_if (Said square) (eqb (kind_at row a) RightParen) (λ _ _. wrong_closer) λ _. starts_said square w (kind_at row a)
  next_said argument d w a h =
      by_if (Said argument) (is_angle_close d (kind_at row a) h || eqb (kind_at row a) Comma) (λ _. tt) λ _.
      by_if (Said argument) (eqb (kind_at row a) NoToken) (λ _ t. absurd t) λ _. starts_said argument w (kind_at row a)
  next_said list d w a h = by_if (Said list) (is_angle_close d (kind_at row a) h) (λ _ t. absurd t) (λ _ t. t)

  -- A turn, given what holds of the reading with one fuel less.
  module _ (r : Reader cpp row) (ok : (l : Region) (d n : ℕ) (w : Bool) (a : ℕ) (h : Bool) → Sound row l d n a h (r l d n w a h)) (fuel : ℕ)
      (ih : (l : Region) (d n : ℕ) (w : Bool) (a : ℕ) (h : Bool) → Enough cpp row fuel l a → Named l (r l d n w a h)) where
    down_named : (b : Bool) (l : Region) (d n a : ℕ) (h : Bool) → Enough cpp row fuel l a → Named l (down cpp row r b l d n a h)
    unfolding down
    down_named true l d n a h en = ih l d n false a h en
    down_named false l d n a h en = λ _. too_deep

    named_case : {v : Region} {d n a : ℕ} {h : Bool} (P : Got → Type 0) (g : Got) → Sound row v d n a h g → Named v g
        → (f : Nodes → ℕ → Bool → ℕ → Got) → ((x : Nodes) (a' : ℕ) (h' : Bool) (m : ℕ) → Read row v d n a h x a' h' → P (f x a' h' m))
        → (f' : Fault → ℕ → Got) → ((e : Fault) (m : ℕ) → (T (plainly v) → Refuses e) → P (f' e m)) → P (case g f f')
    unfolding case
    named_case P (got x a' h' m) s nm f p f' q = p x a' h' m s
    named_case P (bad e m) s nm f p f' q = q e m nm

    module _ (l : Region) (pl : T (plainly l)) (d n a : ℕ) (h : Bool) (en : Enough cpp row (suc fuel) l a) where
      rest : (t : T (nodal l h)) (w : Bool) (a₁ : ℕ) (h₁ : Bool) → a < a₁ → a₁ ≤ length row → Named l (r l d n w a₁ h₁)
      rest t w a₁ h₁ p q = ih l d n w a₁ h₁ (omega arith)

      go_named : (nx : Next) → Allowed row l d n a h nx → Said l nx → Named l (go cpp row r l d n nx a h)
      unfolding go
      go_named (ends a') z s = tt
      go_named (stops e) z s = s
      go_named (token w) z s = named_before l t_node a none 1 (r l d n w (suc a) h) (rest z.0 w (suc a) h (omega arith) (inside row a z.1.inside))
      go_named (group k v) z s =
          let i : a < length row = opener_inside row z.3 a z.4 in
          named_case (Named l) (down cpp row r (ltb n MAX_NESTING_DEPTH) v d (suc n) (suc a) h)
          (down_sound row cpp r ok (ltb n MAX_NESTING_DEPTH) v d (suc n) (suc a) h)
          (down_named (ltb n MAX_NESTING_DEPTH) v d (suc n) (suc a) h (omega (arith, group_for_list z.3, nodal_for_list l h z.0)))
          _ (λ b a₁ h₁ m rd. named_before l k a b (suc m) (r l d n false a₁ h₁) (rest z.0 false a₁ h₁ (forwards row rd) (within row rd i)))
          _ (λ e m kn _. kn (opens_plainly z.3))
      go_named angle z s =
          let i : a < length row = inside row a (omega arith) in
          named_case (Named l) (down cpp row r (ltb n MAX_NESTING_DEPTH) list (suc d) (suc n) (suc a) h)
          (down_sound row cpp r ok (ltb n MAX_NESTING_DEPTH) list (suc d) (suc n) (suc a) h)
          (down_named (ltb n MAX_NESTING_DEPTH) list (suc d) (suc n) (suc a) h (omega (arith, nodal_for_list l h z.0)))
          _ (λ b a₁ h₁ m rd. named_before l l_node a b (suc m) (r l d n false a₁ h₁) (rest z.0 false a₁ h₁ (forwards row rd) (within row rd i)))
          _ (λ e m kn. named_before l t_node a none (suc m) (r l d n false (suc a) h) (rest z.0 false (suc a) h (omega arith) i))
      go_named first z s = absurd (s pl)

  by_level : (l : Region) (g : Got) → (T (plainly l) → Named l g) → Named l g
  by_level l (got x a h m) f = tt
  by_level l (bad e m) f = λ t. f t t

  named : (f : ℕ) (l : Region) (d n : ℕ) (w : Bool) (a : ℕ) (h : Bool) → Enough cpp row f l a → Named l (read_f cpp row f l d n w a h)
  unfolding read_f turn
  named zero l d n w a h en = absurd (omega arith)
  named (suc f) l d n w a h en =
      by_level l (turn cpp row (read_f cpp row f) l d n w a h)
      (λ t. go_named (read_f cpp row f) (read_f_sound row cpp f) f (named f) l t d n a h en (next cpp l d w (kind_at row a) a h)
      (next_allowed row cpp l d n w a h) (next_said l d w a h))

  -- What the reading of a row refuses with.
  pub refuses : {e : Fault} {m : ℕ} → reading cpp row ≡ bad e m → Refuses e
  unfolding reading read
  refuses p = subst (Named top) p (named (2 * length row + 2) top 0 0 false 0 false (omega arith)) tt
