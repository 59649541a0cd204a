-- What an accepted reading read, as a derivation: `derived` gives it.
-- Assumes nothing.
use Prim.Native.Nat.{ℕ, zero, suc, ◌+◌, ◌*◌}
use Rattle.std.specs.Prelude.{◌≡◌, ◌≢◌, Bool, not, ◌&&◌, ◌||◌, List, T, ltb}
use Rattle.std.proofs.Math.Path.{refl, subst}
use Rattle.std.proofs.Math.Logic.{inl, inr}
use Rattle.std.proofs.Math.Bool.{true, false}
use Rattle.std.proofs.Math.ListN.{length}
use Rattle.std.proofs.Math.Dec.{leb, eqb, eqb→eq, eqb_refl}
use Rattle.std.proofs.Common.{leb→le, ltb→lt, T_not, arith}
use Rattle.std.proofs.Math.Facts.{and_yes, or_yes}
use Rattle.rows.specs.Kinds.{LeftParen, RightParen, LeftBracket, RightBracket, Comma, Less, Greater, ShiftRight, NoToken}
use Rattle.rows.specs.Laws.Tests.{by_if}
use Rattle.rows.specs.declared.answer.TypeNameError.TheVariants.{NestingLimitExceeded}
use Rattle.reader.specs.Nodes.{NodeKind, t_node, l_node, a_node, Nodes, none, node}
use Rattle.reader.specs.Derivation.{Opens, parens, brackets, Plain, nodal, by_half, by_one, by_two, Stops, at_half, at_one, at_two, at_comma, Derivation, end_row, end_group, end_argument, a_token, a_group, a_list, last, more, RowDerived}
use Rattle.reader.specs.Reading.{Region, top, round, square, argument, list, Fault, refusal, Next, ends, stops, token, group, angle, first, Got, got, bad, case, before, is_angle_close, starts, next, kind_at, MAX_NESTING_DEPTH, Reader, down, argued, go, turn, read_f, read, reading}

-- What a test that fails tells.
pub neqb : (m n : ℕ) → T (not (eqb m n)) → m ≢ n
neqb m n t e = T_not (eqb m n) t (subst (λ (k : ℕ). T (eqb m k)) e (eqb_refl m))

pub opener_kind : {k : NodeKind} {v : Region} {o c : ℕ} → Opens k v o c → o ≢ NoToken
opener_kind parens = omega arith
opener_kind brackets = omega arith

pub closer_kind : {k : NodeKind} {v : Region} {o c : ℕ} → Opens k v o c → c ≢ NoToken
closer_kind parens = omega arith
closer_kind brackets = omega arith

-- This reading counts every list that is open, those around a group too.
abbrev pub all_lists : ℕ → ℕ
all_lists d = d

module _ (row : List ℕ) where
  -- What this reading reads.
  abbrev pub Read : Region → (lists nesting at : ℕ) (half : Bool) → Nodes → (at' : ℕ) (half' : Bool) → Type 0
  Read = Derivation row all_lists

  -- An argument's reading stops where an argument ends.
  pub stopped : {d n a a' : ℕ} {h h' : Bool} {x : Nodes} → Read argument d n a h x a' h' → Stops row d a' h'
  stopped (end_argument s) = s
  stopped (a_token t p r) = stopped r
  stopped (a_group t lim op e r₁ r) = stopped r
  stopped (a_list t lim e r₁ r) = stopped r
  stopped (end_group x19 _) = elim x19 [ ]

  -- No list is read from half a `>>` on.
  begins : {d n a a' : ℕ} {h' : Bool} {x : Nodes} → Read list d n a true x a' h' → ⊥
  begins (a_token t p r) = t
  begins (a_group t lim op e r₁ r) = t
  begins (a_list t lim e r₁ r) = t
  begins (end_group x18 _) = elim x18 [ ]

  -- A reading is sound if what it accepts is derived.
  abbrev pub Sound : Region → (d n a : ℕ) (h : Bool) → Got → Type 0
  Sound l d n a h (got x a' h' m) = Read l d n a h x a' h'
  Sound l d n a h (bad e m) = Unit {0}

  -- What is known where `next` says what is to be done.
  abbrev pub Allowed : Region → (d n a : ℕ) (h : Bool) → Next → Type 0
  Allowed l d n a h (ends a') = Read l d n a h none a' h
  Allowed l d n a h (stops e) = Unit {0}
  Allowed l d n a h (token w) = T (nodal l h) × Plain (kind_at row a)
  Allowed l d n a h (group k v) = T (nodal l h) × (o : ℕ) × (c : ℕ) × Opens k v o c × (kind_at row a ≡ o)
  Allowed l d n a h angle = T (nodal l h) × (kind_at row a ≡ Less)
  Allowed l d n a h first = (l ≡ list) × (h ≡ false)

  -- A property of what comes of a sound reading, by its two cases.
  by_case : {l : Region} {d n a : ℕ} {h : Bool} (P : Got → Type 0) (g : Got) → Sound l d n a h g
      → (f : Nodes → ℕ → Bool → ℕ → Got) → ((x : Nodes) (a' : ℕ) (h' : Bool) (m : ℕ) → Read l d n a h x a' h' → P (f x a' h' m))
      → (f' : Fault → ℕ → Got) → ((e : Fault) (m : ℕ) → P (f' e m)) → P (case g f f')
  unfolding case
  by_case P (got x a' h' m) s f p f' q = p x a' h' m s
  by_case P (bad e m) s f p f' q = q e m

  before_sound : {l l' : Region} {d n a d' n' a₁ : ℕ} {h h₁ : Bool} (k : NodeKind) (i : ℕ) (b : Nodes) (m : ℕ) (g : Got) → Sound l' d' n' a₁ h₁ g
      → ((x : Nodes) (a' : ℕ) (h' : Bool) → Read l' d' n' a₁ h₁ x a' h' → Read l d n a h (node k i b x) a' h')
      → Sound l d n a h (before k i b m g)
  unfolding before
  before_sound k i b m (got x a' h' m') s f = f x a' h' s
  before_sound k i b m (bad e m') s f = tt

  module _ (cpp : Bool) where
    starts_allowed : (l : Region) (d n a : ℕ) (h after_identifier : Bool) → T (nodal l h) → kind_at row a ≢ NoToken → Allowed l d n a h (starts cpp after_identifier (kind_at row a))
    unfolding starts
    starts_allowed l d n a h after_identifier t q =
        by_if (Allowed l d n a h) (eqb (kind_at row a) LeftParen) (λ u. (t, LeftParen, RightParen, parens, eqb→eq _ _ u)) λ no_paren.
        by_if (Allowed l d n a h) (eqb (kind_at row a) LeftBracket) (λ u. (t, LeftBracket, RightBracket, brackets, eqb→eq _ _ u)) λ no_bracket.
        by_if (Allowed l d n a h) (eqb (kind_at row a) Less && cpp && after_identifier)
        (λ u. (t, eqb→eq _ _ (and_yes (eqb (kind_at row a) Less) cpp (and_yes (eqb (kind_at row a) Less && cpp) after_identifier u).0).0)) λ _.
        (t, record { inside = q; no_paren = neqb _ _ no_paren; no_bracket = neqb _ _ no_bracket })

    argument_stops : (d a : ℕ) (h : Bool) → T (is_angle_close d (kind_at row a) h || eqb (kind_at row a) Comma) → Stops row d a h
    unfolding is_angle_close
    argument_stops d a true t = at_half
    argument_stops d a false t =
        elim (or_yes (is_angle_close d (kind_at row a) false) (eqb (kind_at row a) Comma) t) [
          | inl u ↦
              elim (or_yes (eqb (kind_at row a) Greater) (eqb (kind_at row a) ShiftRight && leb 2 d) u) [
                | inl v ↦ at_one (eqb→eq _ _ v)
                | inr v ↦ let both = and_yes (eqb (kind_at row a) ShiftRight) (leb 2 d) v in at_two (eqb→eq _ _ both.0) (leb→le 2 d both.1)
              ]
          | inr u ↦ at_comma (eqb→eq _ _ u)
        ]

    argument_on : (d a : ℕ) (h : Bool) → T (not (is_angle_close d (kind_at row a) h || eqb (kind_at row a) Comma)) → T (not h)
    unfolding is_angle_close
    argument_on d a true t = absurd t
    argument_on d a false t = tt

    open_half : (d a : ℕ) (h : Bool) → T (not (is_angle_close d (kind_at row a) h)) → h ≡ false
    unfolding is_angle_close
    open_half d a true t = absurd t
    open_half d a false t = refl

    pub next_allowed : (l : Region) (d n : ℕ) (after_identifier : Bool) (a : ℕ) (h : Bool) → Allowed l d n a h (next cpp l d after_identifier (kind_at row a) a h)
    unfolding next
    next_allowed top d n after_identifier a h =
        by_if (Allowed top d n a h) (eqb (kind_at row a) NoToken) (λ t. end_row (eqb→eq _ _ t)) λ q.
        by_if (Allowed top d n a h) (eqb (kind_at row a) RightParen || eqb (kind_at row a) RightBracket) (λ t. tt) λ _.
        starts_allowed top d n a h after_identifier tt (neqb _ _ q)
    next_allowed round d n after_identifier a h =
        by_if (Allowed round d n a h) (eqb (kind_at row a) NoToken) (λ t. tt) λ q.
        by_if (Allowed round d n a h) (eqb (kind_at row a) RightParen) (λ t. end_group parens (eqb→eq _ _ t)) λ _.
        by_if (Allowed round d n a h) (eqb (kind_at row a) RightBracket) (λ t. tt) λ _.
        starts_allowed round d n a h after_identifier tt (neqb _ _ q)
    next_allowed square d n after_identifier a h =
        by_if (Allowed square d n a h) (eqb (kind_at row a) NoToken) (λ t. tt) λ q.
        by_if (Allowed square d n a h) (eqb (kind_at row a) RightBracket) (λ t. end_group brackets (eqb→eq _ _ t)) λ _.
        by_if (Allowed square d n a h) (eqb (kind_at row a) RightParen) (λ t. tt) λ _.
        starts_allowed square d n a h after_identifier tt (neqb _ _ q)
    next_allowed argument d n after_identifier a h =
        by_if (Allowed argument d n a h) (is_angle_close d (kind_at row a) h || eqb (kind_at row a) Comma) (λ t. end_argument (argument_stops d a h t)) λ z.
        by_if (Allowed argument d n a h) (eqb (kind_at row a) NoToken) (λ t. tt) λ q.
        starts_allowed argument d n a h after_identifier (argument_on d a h z) (neqb _ _ q)
    next_allowed list d n after_identifier a h =
        by_if (Allowed list d n a h) (is_angle_close d (kind_at row a) h) (λ t. tt) λ q. (refl, open_half d a h q)

    -- A turn keeps soundness.
    module _ (read : Reader cpp row) (ok : (l : Region) (d n : ℕ) (w : Bool) (a : ℕ) (h : Bool) → Sound l d n a h (read l d n w a h)) where
      pub down_sound : (b : Bool) (l : Region) (d n a : ℕ) (h : Bool) → Sound l d n a h (down cpp row read b l d n a h)
      unfolding down
      down_sound true l d n a h = ok l d n false a h
      down_sound false l d n a h = tt

      by_down : (P : Got → Type 0) (b : Bool) (l : Region) (d n a : ℕ) (h : Bool)
          → (f : Nodes → ℕ → Bool → ℕ → Got) → ((x : Nodes) (a' : ℕ) (h' : Bool) (m : ℕ) → T b → Read l d n a h x a' h' → P (f x a' h' m))
          → (f' : Fault → ℕ → Got) → ((e : Fault) (m : ℕ) → P (f' e m)) → P (case (down cpp row read b l d n a h) f f')
      unfolding down case
      by_down P true l d n a h f p f' q = by_case P (read l d n false a h) (ok l d n false a h) f (λ x a' h' m r. p x a' h' m tt r) f' q
      by_down P false l d n a h f p f' q = q (refusal NestingLimitExceeded) 0

      argued_sound : (l : Region) (d n a : ℕ) (x : Nodes) (comma : Bool) (a₁ : ℕ) (h₁ : Bool) (m : ℕ) → Read argument d n a false x a₁ h₁ → Stops row d a₁ h₁
          → (T comma → kind_at row a₁ ≡ Comma) → (T (not comma) → kind_at row a₁ ≢ Comma) → Sound list d n a false (argued cpp row read l d n a x comma a₁ h₁ m)
      unfolding argued
      argued_sound l d n a none comma a₁ h₁ m r s f g = tt
      argued_sound l d n a (node k i b y) true a₁ true m r s f g =
          before_sound a_node a (node k i b y) m (read list d n false (suc a₁) true) (ok list d n false (suc a₁) true) (λ x a' h' r'. absurd (begins r'))
      argued_sound l d n a (node k i b y) true a₁ false m r s f g =
          before_sound a_node a (node k i b y) m (read list d n false (suc a₁) false) (ok list d n false (suc a₁) false) (λ x a' h' r'. more r (f tt) r')
      argued_sound l d n a (node k i b y) false a₁ true m r s f g = last r by_half
      argued_sound l d n a (node k i b y) false a₁ false m r (at_one e) f g = rw e (last r (by_one e))
      argued_sound l d n a (node k i b y) false a₁ false m r (at_two e two) f g = rw e (last r (by_two e two))
      argued_sound l d n a (node k i b y) false a₁ false m r (at_comma e) f g = absurd (g tt e)

      module _ (l : Region) (d n a : ℕ) (h : Bool) where
        go_sound : (nx : Next) → Allowed l d n a h nx → Sound l d n a h (go cpp row read l d n nx a h)
        unfolding go
        go_sound (ends a') s = s
        go_sound (stops e) s = tt
        go_sound (token w) p = before_sound t_node a none 1 (read l d n w (suc a) h) (ok l d n w (suc a) h) (λ x a' h' r. a_token p.0 p.1 r)
        go_sound (group k v) p =
            by_down (Sound l d n a h) (ltb n MAX_NESTING_DEPTH) v d (suc n) (suc a) h
            _ (λ b a₁ h₁ m lim r₁. before_sound k a b (suc m) (read l d n false a₁ h₁) (ok l d n false a₁ h₁)
            (λ x a' h' r. a_group p.0 (ltb→lt n MAX_NESTING_DEPTH lim) p.3 p.4 r₁ r))
            _ (λ e m. tt)
        go_sound angle p =
            by_down (Sound l d n a h) (ltb n MAX_NESTING_DEPTH) list (suc d) (suc n) (suc a) h
            _ (λ b a₁ h₁ m lim r₁. before_sound l_node a b (suc m) (read l d n false a₁ h₁) (ok l d n false a₁ h₁)
            (λ x a' h' r. a_list p.0 (ltb→lt n MAX_NESTING_DEPTH lim) p.1 r₁ r))
            _ (λ e m. before_sound t_node a none (suc m) (read l d n false (suc a) h) (ok l d n false (suc a) h) (λ x a' h' r. a_token p.0 (omega arith) r))
        go_sound first p =
            rw (p.0, p.1)
            (by_case (Sound list d n a false) (read argument d n false a false) (ok argument d n false a false)
            _ (λ x a₁ h₁ m r. argued_sound list d n a x (eqb (kind_at row a₁) Comma) a₁ h₁ m r (stopped r) (eqb→eq _ Comma) (neqb _ Comma))
            _ (λ e m. tt))

      turn_sound : (l : Region) (d n : ℕ) (w : Bool) (a : ℕ) (h : Bool) → Sound l d n a h (turn cpp row read l d n w a h)
      unfolding turn
      turn_sound l d n w a h = go_sound l d n a h (next cpp l d w (kind_at row a) a h) (next_allowed l d n w a h)

    pub read_f_sound : (f : ℕ) (l : Region) (d n : ℕ) (w : Bool) (a : ℕ) (h : Bool) → Sound l d n a h (read_f cpp row f l d n w a h)
    unfolding read_f
    read_f_sound zero l d n w a h = tt
    read_f_sound (suc f) l d n w a h = turn_sound (read_f cpp row f) (read_f_sound f) l d n w a h

    -- What is read at any level has a derivation,
    pub read_derived : (l : Region) (d n : ℕ) (w : Bool) (a : ℕ) (h : Bool) {x : Nodes} {a' : ℕ} {h' : Bool} {m : ℕ} → read cpp row l d n w a h ≡ got x a' h' m
        → Read l d n a h x a' h'
    unfolding read
    read_derived l d n w a h e = subst (Sound l d n a h) e (read_f_sound (2 * length row + 2) l d n w a h)

    -- and so has the whole row.
    pub derived : {x : Nodes} {a : ℕ} {h : Bool} {m : ℕ} → reading cpp row ≡ got x a h m → Read top 0 0 0 false x a h
    unfolding reading
    derived e = read_derived top 0 0 false 0 false e

    abbrev pub row_derived : {x : Nodes} {a : ℕ} {h : Bool} {m : ℕ} → reading cpp row ≡ got x a h m → RowDerived row all_lists x
    row_derived {x} {a} {h} e = record { fewer = λ d. omega arith; at = a; half = h; derivation = derived e }
