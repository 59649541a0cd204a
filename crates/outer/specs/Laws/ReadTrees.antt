-- Every tree that is read is formed: an L stands behind a word and above arguments, a T above nothing.
-- Assumes nothing.
use Prim.Native.Nat.{ℕ, zero, suc, ◌+◌, ◌*◌, ◌<◌}
use Rattle.std.specs.Prelude.{◌≡◌, Bool, ◌&&◌, ◌||◌, List, T, ltb}
use Rattle.std.proofs.Math.Path.{refl, subst}
use Rattle.std.proofs.Common.{sym, ap}
use Rattle.std.proofs.Math.Bool.{true, false}
use native.Mathlib.Omega.{arith}
use Rattle.std.proofs.Math.Facts.{and_yes}
use Rattle.std.proofs.Math.ListN.{length}
use Rattle.std.proofs.Math.Dec.{eqb}
use Rattle.rows.specs.Kinds.{Identifier, LeftParen, RightParen, LeftBracket, RightBracket, Comma, Less, NoToken}
use Rattle.rows.specs.Laws.Tests.{by_if}
use Rattle.reader.specs.Nodes.{NodeKind, t_node, l_node, a_node, Nodes, none, node, count}
use Rattle.reader.specs.Reading.{Region, top, round, square, argument, list, Fault, Next, ends, stops, token, group, angle, first, Got, got, bad, case, before, is_angle_close, starts, next, kind_at, MAX_NESTING_DEPTH, Reader, down, argued, go, turn, read_f, read, reading}
use Rattle.reader.specs.Derivation.{Opens, parens, brackets, nodal}
use Rattle.reader.specs.Laws.Derived.{Allowed, next_allowed}
use Rattle.type_name.specs.Laws.AcceptedRow.{RowRead, RowComes, row_comes, accepted_read}
use Rattle.type_name.specs.Answers.{accepted, answer_of}
use Rattle.type_list.specs.Laws.Starts.{read_starts}
use Rattle.outer.specs.OuterTemplate.{is_word}
use Rattle.outer.specs.Formed.{Arguments, SomeArguments, NodeFormed, Formed, TreeFormed}

pub some_are : (x : Nodes) → SomeArguments x → Arguments x
some_are none s = absurd s
some_are (node k i b x) s = s

-- What a region's nodes are besides: those of a list its arguments.
abbrev OfRegion : Region → Nodes → Type 0
OfRegion top x = Unit {0}
OfRegion round x = Unit {0}
OfRegion square x = Unit {0}
OfRegion argument x = Unit {0}
OfRegion list x = SomeArguments x

-- Nodes are read at this level; at `list`, arguments.
abbrev has_nodes : Region → Bool
has_nodes top = true
has_nodes round = true
has_nodes square = true
has_nodes argument = true
has_nodes list = false

nodal_has : (l : Region) (h : Bool) → T (nodal l h) → T (has_nodes l)
nodal_has top h t = tt
nodal_has round h t = tt
nodal_has square h t = tt
nodal_has argument h t = tt
nodal_has list h t = t

of_nodal : (l : Region) → T (has_nodes l) → (x : Nodes) → OfRegion l x
of_nodal top t x = tt
of_nodal round t x = tt
of_nodal square t x = tt
of_nodal argument t x = tt
of_nodal list t x = absurd t

-- A group is formed whatever stands below it, and is no word.
group_formed : {k : NodeKind} {v : Region} {o c : ℕ} → Opens k v o c → (w : Bool) (b : Nodes) → NodeFormed k w b
group_formed parens w b = tt
group_formed brackets w b = tt

group_no_word : {k : NodeKind} {v : Region} {o c : ℕ} → Opens k v o c → (row : List ℕ) (a : ℕ) → false ≡ is_word row k a
unfolding is_word
group_no_word parens row a = refl
group_no_word brackets row a = refl

module _ (cpp : Bool) (row : List ℕ) where
  -- What is read from a region behind a word (`w`), or not behind one, is formed.
  abbrev Forms : Region → (w : Bool) → Got → Type 0
  Forms l w (got x a h m) = Formed row w x × OfRegion l x
  Forms l w (bad e m) = Unit {0}

  -- What is known besides where `next` says what is to be done.
  abbrev Told : Region → (w : Bool) (a : ℕ) → Next → Type 0
  Told l w a (ends a') = T (has_nodes l)
  Told l w a (stops e) = Unit {0}
  Told l w a (token v) = v ≡ eqb (kind_at row a) Identifier
  Told l w a (group k v) = Unit {0}
  Told l w a angle = T w
  Told l w a first = Unit {0}

  starts_told : (l : Region) (w : Bool) (a : ℕ) → Told l w a (starts cpp w (kind_at row a))
  unfolding starts
  starts_told l w a =
      by_if (Told l w a) (eqb (kind_at row a) LeftParen) (λ _. tt) λ _.
      by_if (Told l w a) (eqb (kind_at row a) LeftBracket) (λ _. tt) λ _.
      by_if (Told l w a) (eqb (kind_at row a) Less && cpp && w) (λ t. (and_yes (eqb (kind_at row a) Less && cpp) w t).1) λ _. refl

  next_told : (l : Region) (d : ℕ) (w : Bool) (a : ℕ) (h : Bool) → Told l w a (next cpp l d w (kind_at row a) a h)
  unfolding next
  next_told top d w a h =
      by_if (Told top w a) (eqb (kind_at row a) NoToken) (λ _. tt) λ _.
      by_if (Told top w a) (eqb (kind_at row a) RightParen || eqb (kind_at row a) RightBracket) (λ _. tt) λ _.
      starts_told top w a
  next_told round d w a h =
      by_if (Told round w a) (eqb (kind_at row a) NoToken) (λ _. tt) λ _.
      by_if (Told round w a) (eqb (kind_at row a) RightParen) (λ _. tt) λ _.
      by_if (Told round w a) (eqb (kind_at row a) RightBracket) (λ _. tt) λ _.
      starts_told round w a
  next_told square d w a h =
      by_if (Told square w a) (eqb (kind_at row a) NoToken) (λ _. tt) λ _.
      by_if (Told square w a) (eqb (kind_at row a) RightBracket) (λ _. tt) λ _.
      by_if (Told square w a) (eqb (kind_at row a) RightParen) (λ _. tt) λ _.
      starts_told square w a
  next_told argument d w a h =
      by_if (Told argument w a) (is_angle_close d (kind_at row a) h || eqb (kind_at row a) Comma) (λ _. tt) λ _.
      by_if (Told argument w a) (eqb (kind_at row a) NoToken) (λ _. tt) λ _.
      starts_told argument w a
  next_told list d w a h = by_if (Told list w a) (is_angle_close d (kind_at row a) h) (λ _. tt) λ _. tt

  by_case : (l : Region) (w : Bool) (P : Got → Type 0) (g : Got) → Forms l w g
      → (f : Nodes → ℕ → Bool → ℕ → Got) → ((x : Nodes) (a' : ℕ) (h' : Bool) (m : ℕ) → Formed row w x → OfRegion l x → P (f x a' h' m))
      → (f' : Fault → ℕ → Got) → ((e : Fault) (m : ℕ) → P (f' e m)) → P (case g f f')
  unfolding case
  by_case l w P (got x a' h' m) s f p f' q = p x a' h' m s.0 s.1
  by_case l w P (bad e m) s f p f' q = q e m

  before_forms : (l : Region) (w : Bool) (k : NodeKind) (i : ℕ) (b : Nodes) (m : ℕ) (g : Got) → NodeFormed k w b → Formed row false b
      → ((x : Nodes) → OfRegion l x → OfRegion l (node k i b x)) → Forms l (is_word row k i) g → Forms l w (before k i b m g)
  unfolding before
  before_forms l w k i b m (got x a h m') n f r s = ((n, f, s.0), r x s.1)
  before_forms l w k i b m (bad e m') n f r s = tt

  -- A turn keeps it.
  module _ (read : Reader cpp row) (ok : (l : Region) (d n : ℕ) (w : Bool) (a : ℕ) (h : Bool) → Forms l w (read l d n w a h)) where
    down_forms : (b : Bool) (l : Region) (d n a : ℕ) (h : Bool) → Forms l false (down cpp row read b l d n a h)
    unfolding down
    down_forms true l d n a h = ok l d n false a h
    down_forms false l d n a h = tt

    argued_forms : (l : Region) (d n : ℕ) (w : Bool) (a : ℕ) (x : Nodes) (comma : Bool) (a₁ : ℕ) (h₁ : Bool) (m : ℕ) → Formed row false x
        → Forms list w (argued cpp row read l d n a x comma a₁ h₁ m)
    unfolding argued is_word count
    argued_forms l d n w a none comma a₁ h₁ m f = tt
    argued_forms l d n w a (node k i b y) true a₁ h₁ m f =
        before_forms list w a_node a (node k i b y) m (read list d n false (suc a₁) h₁) (omega arith) f (λ x s. (refl, some_are x s)) (ok list d n false (suc a₁) h₁)
    argued_forms l d n w a (node k i b y) false a₁ true m f = ((omega arith, f, tt), (refl, tt))
    argued_forms l d n w a (node k i b y) false a₁ false m f = ((omega arith, f, tt), (refl, tt))

    module _ (l : Region) (d n : ℕ) (w : Bool) (a : ℕ) (h : Bool) where
      -- The T of a token, before what comes of the rest of the region.
      token_forms : T (has_nodes l) → (v : Bool) → v ≡ eqb (kind_at row a) Identifier → (m : ℕ) → Forms l w (before t_node a none m (read l d n v (suc a) h))
      unfolding is_word
      token_forms t v e m =
          before_forms l w t_node a none m (read l d n v (suc a) h) refl tt (λ x _. of_nodal l t (node t_node a none x))
          (subst (λ (u : Bool). Forms l u (read l d n v (suc a) h)) e (ok l d n v (suc a) h))

      go_forms : (nx : Next) → Allowed row l d n a h nx → Told l w a nx → Forms l w (go cpp row read l d n nx a h)
      unfolding go is_word
      go_forms (ends a') p t = (tt, of_nodal l t none)
      go_forms (stops e) p t = tt
      go_forms (token v) p t = token_forms (nodal_has l h p.0) v t 1
      go_forms (group k v) (t, o, c, op, e) _ =
          by_case v false (Forms l w) (down cpp row read (ltb n MAX_NESTING_DEPTH) v d (suc n) (suc a) h) (down_forms (ltb n MAX_NESTING_DEPTH) v d (suc n) (suc a) h)
          _ (λ b a₁ h₁ m f _. before_forms l w k a b (suc m) (read l d n false a₁ h₁) (group_formed op w b) f (λ x _. of_nodal l (nodal_has l h t) (node k a b x))
          (subst (λ (u : Bool). Forms l u (read l d n false a₁ h₁)) (group_no_word op row a) (ok l d n false a₁ h₁)))
          _ (λ e m. tt)
      go_forms angle p t =
          by_case list false (Forms l w) (down cpp row read (ltb n MAX_NESTING_DEPTH) list (suc d) (suc n) (suc a) h) (down_forms (ltb n MAX_NESTING_DEPTH) list (suc d) (suc n) (suc a) h)
          _ (λ b a₁ h₁ m f s. before_forms l w l_node a b (suc m) (read l d n false a₁ h₁) (t, s) f (λ x _. of_nodal l (nodal_has l h p.0) (node l_node a b x)) (ok l d n false a₁ h₁))
          _ (λ e m. token_forms (nodal_has l h p.0) false (sym (ap (λ (k : ℕ). eqb k Identifier) p.1)) (suc m))
      go_forms first p t =
          subst (λ (v : Region). Forms v w (go cpp row read l d n first a h)) (sym p.0)
          (by_case argument false (Forms list w) (read argument d n false a h) (ok argument d n false a h)
          _ (λ x a₁ h₁ m f _. argued_forms l d n w a x (eqb (kind_at row a₁) Comma) a₁ h₁ m f)
          _ (λ e m. tt))

  read_f_forms : (f : ℕ) (l : Region) (d n : ℕ) (w : Bool) (a : ℕ) (h : Bool) → Forms l w (read_f cpp row f l d n w a h)
  unfolding read_f turn
  read_f_forms zero l d n w a h = tt
  read_f_forms (suc f) l d n w a h =
      go_forms (read_f cpp row f) (read_f_forms f) l d n w a h (next cpp l d w (kind_at row a) a h) (next_allowed row cpp l d n w a h) (next_told l d w a h)

  reading_forms : {x : Nodes} {a : ℕ} {h : Bool} {m : ℕ} → reading cpp row ≡ got x a h m → Formed row false x
  unfolding reading read
  reading_forms e = (subst (Forms top false) e (read_f_forms (2 * length row + 2) top 0 0 false 0 false)).0

-- The tree of a row that was read is formed,
pub read_formed : (language : ℕ) (kinds : List ℕ) {x : Nodes} {m : ℕ} → RowRead language kinds x m → TreeFormed kinds x
unfolding count
read_formed language kinds r = record { some = subst (λ y. 0 < count y) (sym (read_starts language kinds r).is) (omega arith); formed = reading_forms _ kinds r.reads }

-- and so is every accepted tree.
pub accepted_formed : (language standard flag : ℕ) (kinds words : List ℕ) (allowance : ℕ) {x : Nodes} {m : ℕ} → answer_of language standard flag kinds words allowance ≡ accepted x m → TreeFormed kinds x
accepted_formed language standard flag kinds words allowance e =
    read_formed language kinds (accepted_read language standard flag kinds words (subst (RowComes language standard flag kinds words) e (row_comes language standard flag kinds words allowance)))
