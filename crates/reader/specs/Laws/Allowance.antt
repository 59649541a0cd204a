-- The reading under an allowance: refusal 25 exactly where the steps are more. `left` is what is left of the allowance; for the code, one equation
-- for each thing that is to be done at a token.
-- Assumes nothing.
use Rattle.std.specs.Prelude.{ℕ, suc, ◌+◌, ◌-◌, ◌≤◌, ◌<◌, ◌≡◌, Bool, List, leb, ltb, eqb, if◌then◌else◌}
use Rattle.std.proofs.Math.Path.{refl}
use Rattle.std.proofs.Common.{sym, ap, ◌∙◌, arith, le-leb}
use Rattle.std.proofs.Math.Bool.{true, false}
use Rattle.std.proofs.Math.Decide.{dec_le}
use Rattle.std.proofs.Math.Nat.{suc-sub-suc, sub-zero}
use Rattle.std.proofs.lemmas.Bool.{lt-leb}
use Rattle.std.proofs.Math.Dec.{leb-suc-suc, leb-zero}
use Rattle.rows.specs.Kinds.{Comma, ShiftRight}
use Rattle.reader.specs.Allowance.{Limited, done, denied, spent, steps, settled, reading_within, behind}
use Rattle.reader.specs.Nodes.{NodeKind, t_node, l_node, a_node, Nodes, none, node}
use Rattle.reader.specs.Reading.{Region, list, argument, Fault, no_list, Next, ends, stops, token, group, angle, first, Got, got, bad, case, before, kind_at, MAX_NESTING_DEPTH, Reader, down, argued, go}

-- The same comes of a reading under every allowance that is not below its steps,
pub allowed : (left : ℕ) (g : Got) → steps g ≤ left → reading_within left g ≡ settled left g
unfolding reading_within
allowed left g h = rw (le-leb (steps g) left h)

-- and refusal 25 under every other.
pub passed : (left : ℕ) (g : Got) → left < steps g → reading_within left g ≡ spent
unfolding reading_within
passed left g h = rw (lt-leb (steps g) left h)

-- ---- a node before the rest of its level

steps_before : (k : NodeKind) (i : ℕ) (b : Nodes) (m : ℕ) (g : Got) → steps (before k i b m g) ≡ m + steps g
unfolding steps before
steps_before k i b m (got x at half m') = refl
steps_before k i b m (bad e m') = refl

settled_before : (left : ℕ) (k : NodeKind) (i : ℕ) (b : Nodes) (m : ℕ) (g : Got) → settled left (before k i b m g) ≡ behind k i b (settled (left - m) g)
unfolding settled before behind
settled_before left k i b m (got x at half m') = ap (done (node k i b x) at half) (omega arith)
settled_before left k i b m (bad e m') = ap (denied e) (omega arith)

-- The steps of a node and of what is in it, and then the rest.
pub limited_before : (left : ℕ) (k : NodeKind) (i : ℕ) (b : Nodes) (m : ℕ) (g : Got)
    → reading_within left (before k i b m g) ≡ if leb m left then behind k i b (reading_within (left - m) g) else spent
unfolding behind
limited_before left k i b m g =
    elim (dec_le m left) [
      | yes q ↦
          elim (dec_le (m + steps g) left) [
            | yes p ↦
                rw (le-leb m left q, allowed left (before k i b m g) (omega (arith, steps_before k i b m g)), allowed (left - m) g (omega arith))
                (settled_before left k i b m g)
            | no p ↦ rw (le-leb m left q, passed left (before k i b m g) (omega (arith, steps_before k i b m g)), passed (left - m) g (omega arith))
          ]
      | no q ↦ rw (lt-leb m left (omega arith), passed left (before k i b m g) (omega (arith, steps_before k i b m g)))
    ]

-- The node's own step is one of them.
limited_node : (left : ℕ) (k : NodeKind) (i : ℕ) (b : Nodes) (m : ℕ) (g : Got)
    → reading_within (suc left) (before k i b (suc m) g) ≡ if leb m left then behind k i b (reading_within (left - m) g) else spent
limited_node left k i b m g = limited_before (suc left) k i b (suc m) g ∙ rw (leb-suc-suc, suc-sub-suc)

limited_bad : (left : ℕ) (e : Fault) (m : ℕ) → reading_within (suc left) (bad e (suc m)) ≡ if leb m left then denied e (left - m) else spent
unfolding reading_within
limited_bad left e m = rw (leb-suc-suc, suc-sub-suc)

-- ---- by what came of a level

-- As `case` has it. Refusal 25 ends a try of a list too.
unfoldable pub on_done : Limited → (Nodes → ℕ → Bool → ℕ → Limited) → (Fault → ℕ → Limited) → Limited
on_done (done x at half left) f g = f x at half left
on_done (denied e left) f g = g e left
on_done spent f g = spent

on_if : (b : Bool) (l : Limited) (f : Nodes → ℕ → Bool → ℕ → Limited) (g : Fault → ℕ → Limited)
    → on_done (if b then l else spent) f g ≡ if b then on_done l f g else spent
unfolding on_done
on_if true l f g = refl
on_if false l f g = refl

-- `left₁` is what is left before the node's own step, `left` after it.
limited_case : (left₁ left : ℕ) (g : Got) (f : Nodes → ℕ → Bool → ℕ → Got) (f' : Fault → ℕ → Got)
    (F : Nodes → ℕ → Bool → ℕ → Limited) (F' : Fault → ℕ → Limited)
    → ((x : Nodes) (at : ℕ) (half : Bool) (m : ℕ) → reading_within left₁ (f x at half m) ≡ if leb m left then F x at half (left - m) else spent)
    → ((e : Fault) (m : ℕ) → reading_within left₁ (f' e m) ≡ if leb m left then F' e (left - m) else spent)
    → reading_within left₁ (case g f f') ≡ on_done (reading_within left g) F F'
unfolding case reading_within on_done
limited_case left₁ left (got x at half m) f f' F F' p q = p x at half m ∙ sym (on_if (leb m left) (done x at half (left - m)) F F')
limited_case left₁ left (bad e m) f f' F F' p q = q e m ∙ sym (on_if (leb m left) (denied e (left - m)) F F')

steps_case : (g : Got) (f : Nodes → ℕ → Bool → ℕ → Got) (f' : Fault → ℕ → Got) → ((x : Nodes) (at : ℕ) (half : Bool) (m : ℕ) → 0 < steps (f x at half m))
    → ((e : Fault) (m : ℕ) → 0 < steps (f' e m)) → 0 < steps (case g f f')
unfolding case
steps_case (got x at half m) f f' p q = p x at half m
steps_case (bad e m) f f' p q = q e m

-- ---- a turn

-- What is to be done takes a step.
abbrev pub Costs : Next → Type 0
Costs (ends at) = ⊥
Costs (stops e) = ⊥
Costs (token w) = Unit {0}
Costs (group k v) = Unit {0}
Costs angle = Unit {0}
Costs first = ⊥

module _ (cpp : Bool) (row : List ℕ) (read : Reader cpp row) (l : Region) (lists nesting at : ℕ) (half : Bool) where
  pub limited_token : (left : ℕ) (after_identifier : Bool) → reading_within (suc left) (go cpp row read l lists nesting (token after_identifier) at half)
      ≡ behind t_node at none (reading_within left (read l lists nesting after_identifier (suc at) half))
  unfolding go
  limited_token left after_identifier = limited_node left t_node at none 0 (read l lists nesting after_identifier (suc at) half) ∙ rw (leb-zero, sub-zero)

  pub limited_group : (left : ℕ) (k : NodeKind) (v : Region) → reading_within (suc left) (go cpp row read l lists nesting (group k v) at half)
      ≡ on_done (reading_within left (down cpp row read (ltb nesting MAX_NESTING_DEPTH) v lists (suc nesting) (suc at) half))
      (λ b at' half' left'. behind k at b (reading_within left' (read l lists nesting false at' half')))
      (λ e left'. denied e left')
  unfolding go
  limited_group left k v =
      limited_case (suc left) left _ _ _ _ _ (λ b at' half' m. limited_node left k at b m (read l lists nesting false at' half')) (limited_bad left)

  pub limited_angle : (left : ℕ) → reading_within (suc left) (go cpp row read l lists nesting angle at half)
      ≡ on_done (reading_within left (down cpp row read (ltb nesting MAX_NESTING_DEPTH) list (suc lists) (suc nesting) (suc at) half))
      (λ b at' half' left'. behind l_node at b (reading_within left' (read l lists nesting false at' half')))
      (λ e left'. behind t_node at none (reading_within left' (read l lists nesting false (suc at) half)))
  unfolding go
  limited_angle left =
      limited_case (suc left) left _ _ _ _ _ (λ b at' half' m. limited_node left l_node at b m (read l lists nesting false at' half'))
      (λ e m. limited_node left t_node at none m (read l lists nesting false (suc at) half))

  -- It has taken at least one.
  costs : (nx : Next) → Costs nx → 0 < steps (go cpp row read l lists nesting nx at half)
  unfolding go steps
  costs (token after_identifier) c = omega (arith, steps_before t_node at none 1 (read l lists nesting after_identifier (suc at) half))
  costs (group k v) c =
      steps_case (down cpp row read (ltb nesting MAX_NESTING_DEPTH) v lists (suc nesting) (suc at) half) _ _
      (λ b at' half' m. omega (arith, steps_before k at b (suc m) (read l lists nesting false at' half'))) (λ e m. omega arith)
  costs angle c =
      steps_case (down cpp row read (ltb nesting MAX_NESTING_DEPTH) list (suc lists) (suc nesting) (suc at) half) _ _
      (λ b at' half' m. omega (arith, steps_before l_node at b (suc m) (read l lists nesting false at' half')))
      (λ e m. omega (arith, steps_before t_node at none (suc m) (read l lists nesting false (suc at) half)))
  costs (ends at') c = absurd c
  costs (stops e) c = absurd c
  costs first c = absurd c

  -- A node with no step left.
  pub none_left : (nx : Next) → Costs nx → reading_within 0 (go cpp row read l lists nesting nx at half) ≡ spent
  none_left nx c = passed 0 (go cpp row read l lists nesting nx at half) (costs nx c)

  pub limited_ends : (left at' : ℕ) → reading_within left (go cpp row read l lists nesting (ends at') at half) ≡ done none at' half left
  unfolding go reading_within
  limited_ends left at' = rw (leb-zero, sub-zero)

  pub limited_stops : (left : ℕ) (e : Fault) → reading_within left (go cpp row read l lists nesting (stops e) at half) ≡ denied e left
  unfolding go reading_within
  limited_stops left e = rw (leb-zero, sub-zero)

  -- An argument has been read, and so many steps are left: as `argued` has it.
  unfoldable pub argued_left : Nodes → (comma : Bool) (at' : ℕ) (half' : Bool) (left : ℕ) → Limited
  unfolding behind reading_within
  argued_left none comma at' half' left = denied no_list left
  argued_left (node k i b y) true at' half' left = behind a_node at (node k i b y) (reading_within left (read list lists nesting false (suc at') half'))
  argued_left (node k i b y) false at' true left = done (node a_node at (node k i b y) none) at' false left
  argued_left (node k i b y) false at' false left = done (node a_node at (node k i b y) none) (suc at') (eqb (kind_at row at') ShiftRight) left

  argued_limited : (left : ℕ) (x : Nodes) (comma : Bool) (at' : ℕ) (half' : Bool) (m : ℕ)
      → reading_within left (argued cpp row read l lists nesting at x comma at' half' m) ≡ if leb m left then argued_left x comma at' half' (left - m) else spent
  unfolding argued argued_left reading_within
  argued_limited left none comma at' half' m = refl
  argued_limited left (node k i b y) true at' half' m = limited_before left a_node at (node k i b y) m (read list lists nesting false (suc at') half')
  argued_limited left (node k i b y) false at' true m = refl
  argued_limited left (node k i b y) false at' false m = refl

  pub limited_first : (left : ℕ) → reading_within left (go cpp row read l lists nesting first at half)
      ≡ on_done (reading_within left (read argument lists nesting false at half))
      (λ x at' half' left'. argued_left x (eqb (kind_at row at') Comma) at' half' left')
      (λ e left'. denied e left')
  unfolding go reading_within
  limited_first left =
      limited_case left left (read argument lists nesting false at half) _ _ _ _
      (λ x at' half' m. argued_limited left x (eqb (kind_at row at') Comma) at' half' m) (λ e m. refl)
