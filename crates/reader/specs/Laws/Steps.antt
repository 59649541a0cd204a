-- A reading takes at least one step for each node that is no argument.
-- Assumes nothing.
use Prim.Native.Nat.{ℕ, zero, suc, ◌+◌, ◌*◌, ◌≤◌}
use Rattle.std.specs.Prelude.{◌≡◌, Bool, List, ltb, eqb}
use Rattle.std.proofs.Math.Path.{subst}
use Rattle.std.proofs.Math.Bool.{true, false}
use native.Mathlib.Omega.{arith}
use Rattle.std.proofs.Math.ListN.{length}
use Rattle.rows.specs.Kinds.{Comma}
use Rattle.reader.specs.Nodes.{NodeKind, t_node, g_node, b_node, l_node, a_node, Nodes, none, node}
use Rattle.reader.specs.Reading.{Region, top, argument, list, Fault, Next, ends, stops, token, group, angle, first, Got, got, bad, case, before, kind_at, MAX_NESTING_DEPTH, next, Reader, down, argued, go, turn, read_f, read, reading}

-- A node is an entry to `parse_node`, an argument is none.
abbrev entry : NodeKind → ℕ
entry t_node = 1
entry g_node = 1
entry b_node = 1
entry l_node = 1
entry a_node = 0

-- The steps of a tree, no failed try counted.
unfoldable pub entries : Nodes → ℕ
entries none = 0
entries (node k i b x) = entry k + entries b + entries x

-- The steps are enough for the nodes.
abbrev Paid : Got → Type 0
Paid (got x at half m) = entries x ≤ m
Paid (bad e m) = Unit {0}

entry_le : (k : NodeKind) → entry k ≤ 1
entry_le t_node = omega arith
entry_le g_node = omega arith
entry_le b_node = omega arith
entry_le l_node = omega arith
entry_le a_node = omega arith

paid_case : (g : Got) → Paid g → (f : Nodes → ℕ → Bool → ℕ → Got) → ((x : Nodes) (a : ℕ) (h : Bool) (m : ℕ) → entries x ≤ m → Paid (f x a h m))
    → (f' : Fault → ℕ → Got) → ((e : Fault) (m : ℕ) → Paid (f' e m)) → Paid (case g f f')
unfolding case
paid_case (got x a h m) s f p f' q = p x a h m s
paid_case (bad e m) s f p f' q = q e m

paid_before : (k : NodeKind) (i : ℕ) (b : Nodes) (m : ℕ) (g : Got) → entry k + entries b ≤ m → Paid g → Paid (before k i b m g)
unfolding before entries
paid_before k i b m (got x a h m') p q = omega arith
paid_before k i b m (bad e m') p q = tt

module _ (cpp : Bool) (row : List ℕ) where
  -- A turn keeps it.
  module _ (read : Reader cpp row) (ok : (l : Region) (d n : ℕ) (w : Bool) (a : ℕ) (h : Bool) → Paid (read l d n w a h)) where
    paid_down : (b : Bool) (l : Region) (d n a : ℕ) (h : Bool) → Paid (down cpp row read b l d n a h)
    unfolding down
    paid_down true l d n a h = ok l d n false a h
    paid_down false l d n a h = tt

    paid_argued : (l : Region) (d n a : ℕ) (x : Nodes) (comma : Bool) (a₁ : ℕ) (h₁ : Bool) (m : ℕ) → entries x ≤ m
        → Paid (argued cpp row read l d n a x comma a₁ h₁ m)
    unfolding argued entries
    paid_argued l d n a none comma a₁ h₁ m p = tt
    paid_argued l d n a (node k i b y) true a₁ h₁ m p =
        paid_before a_node a (node k i b y) m (read list d n false (suc a₁) h₁) (omega arith) (ok list d n false (suc a₁) h₁)
    paid_argued l d n a (node k i b y) false a₁ true m p = omega arith
    paid_argued l d n a (node k i b y) false a₁ false m p = omega arith

    paid_go : (l : Region) (d n : ℕ) (nx : Next) (a : ℕ) (h : Bool) → Paid (go cpp row read l d n nx a h)
    unfolding go entries
    paid_go l d n (ends a') a h = omega arith
    paid_go l d n (stops e) a h = tt
    paid_go l d n (token w) a h = paid_before t_node a none 1 (read l d n w (suc a) h) (omega arith) (ok l d n w (suc a) h)
    paid_go l d n (group k v) a h =
        paid_case (down cpp row read (ltb n MAX_NESTING_DEPTH) v d (suc n) (suc a) h) (paid_down (ltb n MAX_NESTING_DEPTH) v d (suc n) (suc a) h)
        _ (λ b a₁ h₁ m p. paid_before k a b (suc m) (read l d n false a₁ h₁) (omega (arith, entry_le k)) (ok l d n false a₁ h₁))
        _ (λ e m. tt)
    paid_go l d n angle a h =
        paid_case (down cpp row read (ltb n MAX_NESTING_DEPTH) list (suc d) (suc n) (suc a) h) (paid_down (ltb n MAX_NESTING_DEPTH) list (suc d) (suc n) (suc a) h)
        _ (λ b a₁ h₁ m p. paid_before l_node a b (suc m) (read l d n false a₁ h₁) (omega arith) (ok l d n false a₁ h₁))
        _ (λ e m. paid_before t_node a none (suc m) (read l d n false (suc a) h) (omega arith) (ok l d n false (suc a) h))
    paid_go l d n first a h =
        paid_case (read argument d n false a h) (ok argument d n false a h)
        _ (λ x a₁ h₁ m p. paid_argued l d n a x (eqb (kind_at row a₁) Comma) a₁ h₁ m p)
        _ (λ e m. tt)

  paid : (f : ℕ) (l : Region) (d n : ℕ) (w : Bool) (a : ℕ) (h : Bool) → Paid (read_f cpp row f l d n w a h)
  unfolding read_f turn
  paid zero l d n w a h = tt
  paid (suc f) l d n w a h = paid_go (read_f cpp row f) (paid f) l d n (next cpp l d w (kind_at row a) a h) a h

  pub steps_enough : {x : Nodes} {a : ℕ} {h : Bool} {m : ℕ} → reading cpp row ≡ got x a h m → entries x ≤ m
  unfolding reading read
  steps_enough e = subst Paid e (paid (2 * length row + 2) top 0 0 false 0 false)
