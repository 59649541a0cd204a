-- Where no `<` follows a name, this reading is the old one with no list tried: the same tree or refusal, and the same steps.
-- Assumes nothing.
use Prim.Native.Nat.{ℕ, zero, suc, ◌+◌, ◌≤◌, ◌<◌}
use Rattle.std.specs.Prelude.{◌≡◌, ◌≢◌, Bool, true, length, get_or, drop, ltb, eqb, if◌then◌else◌, Some}
use Rattle.std.proofs.Math.Path.{refl, sym, ap}
use Rattle.std.proofs.Common.{◌∙◌, eqb→eq}
use Rattle.std.proofs.Math.Bool.{false}
use mathlib.Core.List.{List, [], ◌∷◌}
use native.Mathlib.Omega.{arith}
use borrow.Author.Tests.{ne_eqb}
use Rattle.std.proofs.Math.ListN.{get_or-eq_default}
use Rattle.rows.specs.Kinds.{Identifier, LeftParen, RightParen, LeftBracket, RightBracket, Comma, Less, Greater, ShiftRight, NoToken}
use Rattle.rows.specs.Laws.Tests.{by_if, and_false}
use Rattle.rows.specs.declared.answer.Delimiter.{Delimiter}
use Rattle.rows.specs.declared.answer.Delimiter.TheVariants.{Parenthesis, Bracket}
use Rattle.rows.specs.declared.answer.TypeNameError.{TypeNameError}
use Rattle.rows.specs.declared.answer.TypeNameError.TheVariants.{NestingLimitExceeded}
use Rattle.prescan.specs.Matcher.{Role, role, same}
use Rattle.reader.specs.Nodes.{NodeKind, t_node, Nodes, none, node}
use Rattle.reader.specs.Reading.{Region, top, round, square, Fault, refusal, Next, stops, token, Got, got, bad, case, before, starts, next, kind_at, MAX_NESTING_DEPTH, down, go, turn, read, reading}
use Rattle.reader.specs.Reading as Old
use Rattle.reader.specs.Tables.{node_of, region_of}
use Rattle.reader.specs.Laws.Derived.{neqb}
use Rattle.reader.specs.Laws.Fixed.{fixed}
use Rattle.reader.specs.Laws.Loops.{◌then◌}
use Rattle.named_reader.specs.NamedReading.{Frame, group, list, State, Step, on, push, plain, begin, at_greater, at_shift, at_comma, at_closer, after_name, no_bracket, in_role, take_token, at_end, go_on, read_on, start, named_reading}
use Rattle.named_reader.specs.NamedReading as Named
use Rattle.named_reader.specs.Laws.Sound.{first_of, dropped, push_then, then_none}
use Rattle.named_reader.specs.Laws.SameNames.{same_reading}

-- Only groups are open.
abbrev Groups : List Frame → Type 0
Groups [] = Unit {0}
Groups (group d i x ∷ outer) = Groups outer
Groups (list i x y j ∷ outer) = ⊥

-- The region that is being read.
abbrev region : List Frame → Region
region [] = top
region (group d i x ∷ outer) = region_of (Some d)
region (list i x y j ∷ outer) = top

module _ (row : List ℕ) where
  -- The old reading from a token on, with no list open.
  abbrev old : List Frame → (w : Bool) (at : ℕ) (h : Bool) → Got
  old fs w at h = read false row (region fs) 0 (length fs) w at h

  -- What comes of the whole row where this comes of the rest of the innermost region, behind these nodes and steps.
  unfoldable finish : List Frame → Nodes → (steps : ℕ) → Got → Got
  finish [] b m (got y a h m') = got (b then y) a h (m + m')
  finish [] b m (bad e m') = bad e (m + m')
  finish (group d i x ∷ outer) b m (got y a h m') = finish outer (push (node_of d) i (b then y) x) (m + m') (old outer false a h)
  finish (group d i x ∷ outer) b m (bad e m') = bad e (m + m')
  finish (list i x y j ∷ outer) b m (got z a h m') = bad Old.no_list 0
  finish (list i x y j ∷ outer) b m (bad e m') = bad e (m + m')

  finish_bad : (fs : List Frame) (b : Nodes) (m : ℕ) (e : Fault) (m' : ℕ) → finish fs b m (bad e m') ≡ bad e (m + m')
  unfolding finish
  finish_bad [] b m e m' = refl
  finish_bad (group d i x ∷ outer) b m e m' = refl
  finish_bad (list i x y j ∷ outer) b m e m' = refl

  -- A node before the rest.
  finish_before : (fs : List Frame) (k : NodeKind) (i : ℕ) (c b : Nodes) (m n : ℕ) (g : Got) → finish fs b m (before k i c n g) ≡ finish fs (push k i c b) (m + n) g
  unfolding finish before
  finish_before fs k i c b m n (bad e m') = finish_bad fs b m e (n + m') ∙ ap (bad e) (omega arith) ∙ sym (finish_bad fs (push k i c b) (m + n) e m')
  finish_before [] k i c b m n (got y a h m') = rw (push_then k i c b y) (ap (got (b then node k i c y) a h) (omega arith))
  finish_before (group d i' x ∷ outer) k i c b m n (got y a h m') =
      let e : m + (n + m') ≡ m + n + m' = omega arith in
      rw (push_then k i c b y, e) refl
  finish_before (list i' x y' j ∷ outer) k i c b m n (got y a h m') = refl

  -- ---- token by token

  module _ (fs : List Frame) (groups : Groups fs) (b : Nodes) (m at : ℕ) where
    abbrev state : State
    state = record { frames = fs; nodes = b; steps = m }

    -- What this reading does at a token, given that it goes on as the old one does.
    abbrev Agrees : Step → Got → Type 0
    Agrees (on s) g = (rest : State → Got) → ((s : State) (w : Bool) → Groups s.frames → rest s ≡ finish s.frames s.nodes s.steps (old s.frames w (suc at) false)) → rest s ≡ finish fs b m g
    Agrees (Named.stops e k) g = bad (refusal e) k ≡ finish fs b m g

    -- A T.
    plain_agrees : (w : Bool) → Agrees (plain at state) (before t_node at none 1 (old fs w (suc at) false))
    unfolding plain
    plain_agrees w rest f =
        let one : m + 1 ≡ suc m = omega arith in
        f _ w groups ∙ sym (finish_before fs t_node at none b m 1 (old fs w (suc at) false) ∙ ap (λ (k : ℕ). finish fs (push t_node at none b) k (old fs w (suc at) false)) one)

    -- A group.
    group_agrees : (d : Delimiter)
        → Agrees (begin (group d at b) state)
        (case (down false row (read false row) (ltb (length fs) MAX_NESTING_DEPTH) (region_of (Some d)) 0 (suc (length fs)) (suc at) false)
        (λ c a h k. before (node_of d) at c (suc k) (old fs false a h)) (λ e k. bad e (suc k)))
    unfolding begin down case finish ◌then◌
    group_agrees d = by (ltb (length fs) MAX_NESTING_DEPTH)
      where
        closes_agrees : (g : Got) → finish (group d at b ∷ fs) none (suc m) g ≡ finish fs b m (case g (λ c a h k. before (node_of d) at c (suc k) (old fs false a h)) (λ e k. bad e (suc k)))
        closes_agrees (got c a h k) =
            let more : suc m + k ≡ m + suc k = omega arith in
            ap (λ (j : ℕ). finish fs (push (node_of d) at c b) j (old fs false a h)) more ∙ sym (finish_before fs (node_of d) at c b m (suc k) (old fs false a h))
        closes_agrees (bad e k) = ap (bad e) (omega arith) ∙ sym (finish_bad fs b m e (suc k))

        by : (t : Bool)
            → Agrees (if t then on (record { frames = group d at b ∷ fs; nodes = none; steps = suc m }) else Named.stops NestingLimitExceeded (suc m))
            (case (down false row (read false row) t (region_of (Some d)) 0 (suc (length fs)) (suc at) false)
            (λ c a h k. before (node_of d) at c (suc k) (old fs false a h)) (λ e k. bad e (suc k)))
        by true = λ rest f. f _ false groups ∙ closes_agrees (read false row (region_of (Some d)) 0 (suc (length fs)) false (suc at) false)
        by false = ap (bad (refusal NestingLimitExceeded)) (omega arith) ∙ sym (finish_bad fs b m (refusal NestingLimitExceeded) 1)

    -- A closer: at the top, in its own group, in the other one.
    stray_agrees : (e : Fault) → (x : TypeNameError) → e ≡ refusal x → Agrees (Named.stops x m) (bad e 0)
    stray_agrees e x q = rw q (ap (bad (refusal x)) (omega arith) ∙ sym (finish_bad fs b m (refusal x) 0))

  shut_agrees : (d : Delimiter) (i : ℕ) (x : Nodes) (outer : List Frame) (g : Groups outer) (b : Nodes) (m at : ℕ)
      → Agrees (group d i x ∷ outer) g b m at (on (record { frames = outer; nodes = push (node_of d) i b x; steps = m })) (got none (suc at) false 0)
  unfolding finish
  shut_agrees d i x outer g b m at rest f =
      let same : m + 0 ≡ m = omega arith in
      f _ false g ∙ rw (then_none b, same) refl

  -- ---- no bracket

  none_named : (at : ℕ) → after_name [] at ≡ false
  unfolding after_name
  none_named zero = refl
  none_named (suc i) = refl

  greater_plain : (at : ℕ) (fs : List Frame) (s : State) → Groups fs → at_greater at fs s ≡ plain at s
  unfolding at_greater
  greater_plain at [] s g = refl
  greater_plain at (group d i x ∷ outer) s g = refl
  greater_plain at (list i x y j ∷ outer) s g = absurd g

  shift_plain : (at : ℕ) (fs : List Frame) (s : State) → Groups fs → at_shift at fs s ≡ plain at s
  unfolding at_shift
  shift_plain at [] s g = refl
  shift_plain at (group d i x ∷ outer) s g = refl
  shift_plain at (list i x y j ∷ outer) s g = absurd g

  comma_plain : (at : ℕ) (fs : List Frame) (s : State) → Groups fs → at_comma at fs s ≡ plain at s
  unfolding at_comma
  comma_plain at [] s g = refl
  comma_plain at (group d i x ∷ outer) s g = refl
  comma_plain at (list i x y j ∷ outer) s g = absurd g

  bracketless_plain : (k at : ℕ) (s : State) → Groups s.frames → no_bracket [] k at s ≡ plain at s
  unfolding no_bracket
  bracketless_plain k at s g =
      let P : Step → Type 0 = λ t. t ≡ plain at s in
      rw (none_named at, and_false (eqb k Less))
      (by_if P (eqb k Greater) (λ _. greater_plain at s.frames s g) λ _.
      by_if P (eqb k ShiftRight) (λ _. shift_plain at s.frames s g) λ _.
      by_if P (eqb k Comma) (λ _. comma_plain at s.frames s g) (λ _. refl))

  starts_token : (w : Bool) (k : ℕ) → k ≢ LeftParen → k ≢ LeftBracket → starts false w k ≡ token (eqb k Identifier)
  unfolding starts
  starts_token w k p q = rw (ne_eqb k LeftParen p, ne_eqb k LeftBracket q, and_false (eqb k Less)) refl

  -- What the old reading is to do at a token that is no bracket.
  next_token : (fs : List Frame) → Groups fs → (w : Bool) (k at : ℕ) → k ≢ NoToken → k ≢ LeftParen → k ≢ LeftBracket → k ≢ RightParen → k ≢ RightBracket
      → next false (region fs) 0 w k at false ≡ token (eqb k Identifier)
  unfolding next
  next_token [] g w k at z p q r s = rw (ne_eqb k NoToken z, ne_eqb k RightParen r, ne_eqb k RightBracket s) (starts_token w k p q)
  next_token (group Parenthesis i x ∷ outer) g w k at z p q r s = rw (ne_eqb k NoToken z, ne_eqb k RightParen r, ne_eqb k RightBracket s) (starts_token w k p q)
  next_token (group Bracket i x ∷ outer) g w k at z p q r s = rw (ne_eqb k NoToken z, ne_eqb k RightBracket s, ne_eqb k RightParen r) (starts_token w k p q)
  next_token (list i x y j ∷ outer) g w k at z p q r s = absurd g

  -- At an opener.
  next_opener : (fs : List Frame) → Groups fs → (w : Bool) (at : ℕ)
      → (next false (region fs) 0 w LeftParen at false ≡ Old.group (node_of Parenthesis) round) × (next false (region fs) 0 w LeftBracket at false ≡ Old.group (node_of Bracket) square)
  unfolding next starts
  next_opener [] g w at = (refl, refl)
  next_opener (group Parenthesis i x ∷ outer) g w at = (refl, refl)
  next_opener (group Bracket i x ∷ outer) g w at = (refl, refl)
  next_opener (list i x y j ∷ outer) g w at = absurd g

  -- ---- a turn of the old reading

  abbrev turned : List Frame → (w : Bool) (k at : ℕ) → Got
  turned fs w k at = go false row (read false row) (region fs) 0 (length fs) (next false (region fs) 0 w k at false) at false

  closer_agrees : (fs : List Frame) (g : Groups fs) (w : Bool) (b : Nodes) (m at : ℕ)
      → Agrees fs g b m at (at_closer Parenthesis fs (record { frames = fs; nodes = b; steps = m })) (turned fs w RightParen at)
      × Agrees fs g b m at (at_closer Bracket fs (record { frames = fs; nodes = b; steps = m })) (turned fs w RightBracket at)
  unfolding at_closer same next go
  closer_agrees [] g w b m at = (stray_agrees [] g b m at _ _ refl, stray_agrees [] g b m at _ _ refl)
  closer_agrees (group Parenthesis i x ∷ outer) g w b m at = (shut_agrees Parenthesis i x outer g b m at, stray_agrees (group Parenthesis i x ∷ outer) g b m at _ _ refl)
  closer_agrees (group Bracket i x ∷ outer) g w b m at = (stray_agrees (group Bracket i x ∷ outer) g b m at _ _ refl, shut_agrees Bracket i x outer g b m at)
  closer_agrees (list i x y j ∷ outer) g w b m at = absurd g

  token_agrees : (fs : List Frame) (g : Groups fs) (w : Bool) (b : Nodes) (m k at : ℕ) → k ≢ NoToken
      → Agrees fs g b m at (take_token [] k at (record { frames = fs; nodes = b; steps = m })) (turned fs w k at)
  unfolding take_token in_role role go
  token_agrees fs g w b m k at z =
      let s : State = record { frames = fs; nodes = b; steps = m } in
      let A : Step → Got → Type 0 = Agrees fs g b m at in
      let P : Role → Type 0 = λ r. A (in_role [] r k at s) (turned fs w k at) in
      by_if P (eqb k LeftParen) (λ t. rw (eqb→eq k LeftParen t) (opener_agrees Parenthesis (next_opener fs g w at).0)) λ p.
      by_if P (eqb k LeftBracket) (λ t. rw (eqb→eq k LeftBracket t) (opener_agrees Bracket (next_opener fs g w at).1)) λ q.
      by_if P (eqb k RightParen) (λ t. rw (eqb→eq k RightParen t) (closer_agrees fs g w b m at).0) λ r.
      by_if P (eqb k RightBracket) (λ t. rw (eqb→eq k RightBracket t) (closer_agrees fs g w b m at).1) λ y.
      others (neqb _ _ p) (neqb _ _ q) (neqb _ _ r) (neqb _ _ y)
    where
      opener_agrees : (d : Delimiter) {n : Next} → n ≡ Old.group (node_of d) (region_of (Some d))
          → Agrees fs g b m at (begin (group d at b) (record { frames = fs; nodes = b; steps = m })) (go false row (read false row) (region fs) 0 (length fs) n at false)
      opener_agrees d e = rw e (group_agrees fs g b m at d)

      others : k ≢ LeftParen → k ≢ LeftBracket → k ≢ RightParen → k ≢ RightBracket
          → Agrees fs g b m at (no_bracket [] k at (record { frames = fs; nodes = b; steps = m })) (turned fs w k at)
      others p q r y =
          rw (next_token fs g w k at z p q r y, bracketless_plain k at (record { frames = fs; nodes = b; steps = m }) g) (plain_agrees fs g b m at (eqb k Identifier))

  -- ---- the whole row

  old_turns : (fs : List Frame) (w : Bool) (at k : ℕ) → at ≤ length row → kind_at row at ≡ k → old fs w at false ≡ turned fs w k at
  unfolding turn
  old_turns fs w at k h e = fixed false row (region fs) 0 (length fs) w at false h ∙ ap (λ (j : ℕ). turned fs w j at) e

  go_agrees : (fs : List Frame) (g : Groups fs) (b : Nodes) (m at : ℕ) (t : Step) (o : Got) (rest : State → Got) → Agrees fs g b m at t o
      → ((s : State) (w : Bool) → Groups s.frames → rest s ≡ finish s.frames s.nodes s.steps (old s.frames w (suc at) false)) → go_on t rest ≡ finish fs b m o
  unfolding go_on
  go_agrees fs g b m at (on s) o rest a f = a rest f
  go_agrees fs g b m at (Named.stops e k) o rest a f = a

  ends_agree : (fs : List Frame) (s : State) → s.frames ≡ fs → Groups fs → (w : Bool) (at : ℕ) → length row ≤ at → at ≤ length row
      → at_end at fs s ≡ finish fs s.nodes s.steps (old fs w at false)
  unfolding at_end finish next go kind_at
  ends_agree [] s is g w at h i =
      let same : s.steps + 0 ≡ s.steps = omega arith in
      rw (old_turns [] w at NoToken i (get_or-eq_default row NoToken h), then_none s.nodes, same) refl
  ends_agree (group Parenthesis j x ∷ outer) s is g w at h i =
      let same : s.steps + 0 ≡ s.steps = omega arith in
      rw (old_turns (group Parenthesis j x ∷ outer) w at NoToken i (get_or-eq_default row NoToken h), same) refl
  ends_agree (group Bracket j x ∷ outer) s is g w at h i =
      let same : s.steps + 0 ≡ s.steps = omega arith in
      rw (old_turns (group Bracket j x ∷ outer) w at NoToken i (get_or-eq_default row NoToken h), same) refl
  ends_agree (list j x y k ∷ outer) s is g w at h i = absurd g

  module _ (known : (i : ℕ) → i < length row → kind_at row i < NoToken) where
    read_agrees : (ks : List ℕ) (at : ℕ) (s : State) (w : Bool) → Groups s.frames → drop at row ≡ ks → at ≤ length row
        → read_on [] at ks s ≡ finish s.frames s.nodes s.steps (old s.frames w at false)
    unfolding read_on
    read_agrees [] at s w g e h = ends_agree s.frames s refl g w at (dropped row at e) h
    read_agrees (k ∷ ks) at s w g e h =
        let there = first_of row at k ks e in
        go_agrees s.frames g s.nodes s.steps at (take_token [] k at s) (turned s.frames w k at) (λ s'. read_on [] (suc at) ks s')
        (token_agrees s.frames g w s.nodes s.steps k at (λ z. omega (arith, known at there.0, there.1, z)))
        (λ s' w' g'. read_agrees ks (suc at) s' w' g' there.2 there.0)
        ∙ sym (ap (finish s.frames s.nodes s.steps) (old_turns s.frames w at k h there.1))

    -- With no names,
    unnamed : named_reading [] row ≡ reading false row
    unfolding named_reading start reading finish ◌then◌
    unnamed = read_agrees row 0 start false tt refl (omega arith) ∙ alone (read false row top 0 0 false 0 false)
      where
        alone : (g : Got) → finish [] none 0 g ≡ g
        alone (got y a h m) = ap (got y a h) (omega arith)
        alone (bad e m) = ap (bad e) (omega arith)

    -- and where no `<` follows a name.
    pub no_name_followed : (named : List Bool) → ((i : ℕ) → kind_at row (suc i) ≡ Less → get_or named i false ≡ false) → named_reading named row ≡ reading false row
    no_name_followed named f = same_reading named [] row f ∙ unnamed
