-- Whoever moves to names keeps what was right: if the old reading gives a tree, the row has no `>>`, no T `<` stands right behind a word in that tree (so that
-- no try failed) and the word before each L is a name, this reading gives the same tree and steps.
-- Assumes nothing.
use Prim.Native.Nat.{ℕ, zero, suc, ◌+◌, ◌*◌, ◌<◌}
use Rattle.std.specs.Prelude.{◌≡◌, ◌≢◌, Bool, not, ◌&&◌, ◌||◌, leb, ltb, eqb, Some}
use Rattle.std.proofs.Math.Path.{refl, ap}
use Rattle.std.proofs.Common.{sym, ◌∙◌, subst, ltb→lt, eqb→eq}
use Rattle.std.proofs.Math.Bool.{true, false, true≢false}
use mathlib.Core.List.{List, [], ◌∷◌}
use native.Mathlib.Omega.{arith}
use Rattle.std.proofs.Math.Facts.{and_yes}
use borrow.Author.Tests.{lt-ltb, eq-eqb}
use Rattle.std.proofs.Math.ListN.{length, get_or, drop, drop_of_length-le}
use Rattle.std.proofs.Math.Dec.{T}
use Rattle.rows.specs.Kinds.{Identifier, LeftParen, RightParen, LeftBracket, RightBracket, Comma, Less, Greater, ShiftRight, NoToken}
use Rattle.rows.specs.Laws.Tests.{by_if}
use Rattle.rows.specs.declared.answer.Delimiter.{Delimiter}
use Rattle.rows.specs.declared.answer.Delimiter.TheVariants.{Parenthesis, Bracket}
use Rattle.rows.specs.declared.answer.TypeNameError.TheVariants.{NestingLimitExceeded}
use Rattle.prescan.specs.Matcher.{opens, neither, role, same}
use Rattle.reader.specs.Nodes.{NodeKind, t_node, g_node, b_node, l_node, a_node, Nodes, none, node}
use Rattle.reader.specs.Reading.{Region, top, round, square, argument, list, Fault, Next, ends, stops, token, angle, first, Got, got, bad, case, before, is_angle_close, starts, next, kind_at, MAX_NESTING_DEPTH, Reader, down, argued, go, turn, read_f, read, reading}
use Rattle.reader.specs.Reading as Old
use Rattle.reader.specs.Tables.{node_of, region_of}
use Rattle.reader.specs.Derivation.{Stops, at_half, at_one, at_two, at_comma, Derivation}
use Rattle.reader.specs.Laws.Tokens.{KindsKnown, taken}
use Rattle.reader.specs.Laws.Derived.{neqb, all_lists, Sound, read_f_sound, row_derived, stopped}
use Rattle.reader.specs.Laws.Bounds.{nothing_left}
use Rattle.reader.specs.Laws.Loops.{◌then◌}
use Rattle.reader.specs.Laws.NodeNumbers.{In, here, beside, below}
use Rattle.reader.specs.Laws.Strays.{NoStray}
use Rattle.named_reader.specs.NamedReading.{Frame, State, Step, on, push, plain, begin, unless_empty, closed, at_greater, at_closer, after_name, no_bracket, in_role, take_token, at_end, go_on, read_on, start, named_reading}
use Rattle.named_reader.specs.NamedReading as Named
use Rattle.named_reader.specs.Laws.Sound.{push_then, push_is, then_none}

abbrev st : List Frame → Nodes → ℕ → State
st fs b s = record { frames = fs; nodes = b; steps = s }

-- ---- where a region is read, and what is left behind it

data Fits : Region → List Frame → Type 0 where
  at_top : Fits top []
  in_round : {i : ℕ} {y : Nodes} {outer : List Frame} → Fits round (Named.group Parenthesis i y ∷ outer)
  in_square : {i : ℕ} {y : Nodes} {outer : List Frame} → Fits square (Named.group Bracket i y ∷ outer)
  in_argument : {i j : ℕ} {y arguments : Nodes} {outer : List Frame} → Fits argument (Named.list i y arguments j ∷ outer)

abbrev leave : {l : Region} {fs : List Frame} → Fits l fs → Nodes → ℕ → State
leave at_top b s = st [] b s
leave (in_round {i} {y} {outer}) b s = st outer (push g_node i b y) s
leave (in_square {i} {y} {outer}) b s = st outer (push b_node i b y) s
leave (in_argument {i} {j} {y} {arguments} {outer}) b s = st (Named.list i y arguments j ∷ outer) b s

-- A token of this kind does not end an argument.
abbrev Goes : Region → ℕ → Type 0
Goes top k = Unit {0}
Goes round k = Unit {0}
Goes square k = Unit {0}
Goes argument k = (k ≢ Greater) × (k ≢ Comma)
Goes list k = Unit {0}

-- ---- what the old reading is to do

abbrev Ended : Region → (k a a' : ℕ) → Type 0
Ended top k a a' = a' ≡ a
Ended round k a a' = (k ≡ RightParen) × (a' ≡ suc a)
Ended square k a a' = (k ≡ RightBracket) × (a' ≡ suc a)
Ended argument k a a' = a' ≡ a
Ended list k a a' = ⊥

abbrev Met : Region → (w : Bool) (k a : ℕ) → Next → Type 0
Met l w k a (ends a') = Ended l k a a'
Met l w k a (stops e) = Unit {0}
Met l w k a (token v) = (l ≢ list) × (v ≡ eqb k Identifier) × (k ≢ NoToken) × Goes l k
Met l w k a (Old.group g v) = (l ≢ list) × (k ≢ NoToken) × (d : Delimiter) × (g ≡ node_of d) × (v ≡ region_of (Some d)) × (role k ≡ opens d)
Met l w k a angle = (l ≢ list) × (k ≡ Less) × (w ≡ true)
Met l w k a first = l ≡ list

role_paren : role LeftParen ≡ opens Parenthesis
unfolding role
role_paren = refl

role_bracket : role LeftBracket ≡ opens Bracket
unfolding role
role_bracket = refl

starts_met : (l : Region) (w : Bool) (k a : ℕ) → l ≢ list → k ≢ NoToken → Goes l k → Met l w k a (starts true w k)
unfolding starts
starts_met l w k a q z g =
    by_if (Met l w k a) (eqb k LeftParen) (λ t. (q, z, Parenthesis, refl, refl, ap role (eqb→eq k LeftParen t) ∙ role_paren)) λ _.
    by_if (Met l w k a) (eqb k LeftBracket) (λ t. (q, z, Bracket, refl, refl, ap role (eqb→eq k LeftBracket t) ∙ role_bracket)) λ _.
    by_if (Met l w k a) (eqb k Less && true && w)
    (λ t. let u = and_yes (eqb k Less && true) w t in (q, eqb→eq k Less (and_yes (eqb k Less) true u.0).0, is_true w u.1)) λ _. (q, refl, z, g)
  where
    is_true : (b : Bool) → T b → b ≡ true
    is_true true t = refl
    is_true false t = absurd t

none_ends : (b c : Bool) → T (not (b || c)) → T (not b) × T (not c)
none_ends true c t = absurd t
none_ends false c t = (tt, t)

next_met : (l : Region) (d : ℕ) (w : Bool) (k a : ℕ) → Met l w k a (next true l d w k a false)
unfolding next is_angle_close
next_met top d w k a =
    by_if (Met top w k a) (eqb k NoToken) (λ _. refl) λ z.
    by_if (Met top w k a) (eqb k RightParen || eqb k RightBracket) (λ _. tt) λ _. starts_met top w k a (λ e. apart e) (neqb _ _ z) tt
  where
    apart : top ≡ list → ⊥
    apart e = let z : ◌≡◌ {A = ℕ} 0 1 = cc in absurd (omega arith)
next_met round d w k a =
    by_if (Met round w k a) (eqb k NoToken) (λ _. tt) λ z.
    by_if (Met round w k a) (eqb k RightParen) (λ t. (eqb→eq k RightParen t, refl)) λ _.
    by_if (Met round w k a) (eqb k RightBracket) (λ _. tt) λ _. starts_met round w k a (λ e. apart e) (neqb _ _ z) tt
  where
    apart : round ≡ list → ⊥
    apart e = let z : ◌≡◌ {A = ℕ} 0 1 = cc in absurd (omega arith)
next_met square d w k a =
    by_if (Met square w k a) (eqb k NoToken) (λ _. tt) λ z.
    by_if (Met square w k a) (eqb k RightBracket) (λ t. (eqb→eq k RightBracket t, refl)) λ _.
    by_if (Met square w k a) (eqb k RightParen) (λ _. tt) λ _. starts_met square w k a (λ e. apart e) (neqb _ _ z) tt
  where
    apart : square ≡ list → ⊥
    apart e = let z : ◌≡◌ {A = ℕ} 0 1 = cc in absurd (omega arith)
next_met argument d w k a =
    by_if (Met argument w k a) ((eqb k Greater || (eqb k ShiftRight && leb 2 d)) || eqb k Comma) (λ _. refl) λ e.
    by_if (Met argument w k a) (eqb k NoToken) (λ _. tt) λ z.
    let u = none_ends (eqb k Greater || (eqb k ShiftRight && leb 2 d)) (eqb k Comma) e in
    starts_met argument w k a (λ e. apart e) (neqb _ _ z) (neqb _ _ (none_ends (eqb k Greater) (eqb k ShiftRight && leb 2 d) u.0).0, neqb _ _ u.1)
  where
    apart : argument ≡ list → ⊥
    apart e = let z : ◌≡◌ {A = ℕ} 0 1 = cc in absurd (omega arith)
next_met list d w k a = by_if (Met list w k a) (eqb k Greater || (eqb k ShiftRight && leb 2 d)) (λ _. tt) (λ _. refl)

module _ (row : List ℕ) (named : List Bool) (no_shift : (i : ℕ) → kind_at row i ≢ ShiftRight) (words : (i : ℕ) → get_or named i false ≡ true → kind_at row i ≡ Identifier) where
  run : ℕ → State → Got
  run a s = read_on named a (drop a row) s

  run_on : (a : ℕ) (s s' : State) (k : ℕ) → kind_at row a ≡ k → k ≢ NoToken → take_token named k a s ≡ on s' → run a s ≡ run (suc a) s'
  unfolding run read_on go_on
  run_on a s s' k e q t =
      ap (λ (ks : List ℕ). read_on named a ks s) (taken row a (λ z. q (sym e ∙ z)))
      ∙ ap (λ (u : Step). go_on u (λ s''. read_on named (suc a) (drop (suc a) row) s'')) (ap (λ (j : ℕ). take_token named j a s) e ∙ t)

  -- What a tree must be like.
  pub record Kept (x : Nodes) : Type 0 where
    pub no_try_failed : (i : ℕ) (b : Nodes) → In t_node (suc i) b x → kind_at row (suc i) ≡ Less → kind_at row i ≢ Identifier
    pub lists_named : (i : ℕ) (b : Nodes) → In l_node (suc i) b x → get_or named i false ≡ true
    pub tidy : NoStray row x

  kept_below : {k : NodeKind} {i : ℕ} {b x : Nodes} → Kept (node k i b x) → Kept b
  kept_below q = record { no_try_failed = λ i b u. q.no_try_failed i b (below u); lists_named = λ i b u. q.lists_named i b (below u); tidy = λ i b u. q.tidy i b (below u) }

  kept_beside : {k : NodeKind} {i : ℕ} {b x : Nodes} → Kept (node k i b x) → Kept x
  kept_beside q = record { no_try_failed = λ i b u. q.no_try_failed i b (beside u); lists_named = λ i b u. q.lists_named i b (beside u); tidy = λ i b u. q.tidy i b (beside u) }

  -- ---- single tokens

  greater_plain : {l : Region} {fs : List Frame} → Fits l fs → (a : ℕ) (s : State) → Goes l Greater → at_greater a fs s ≡ plain a s
  unfolding at_greater
  greater_plain at_top a s g = refl
  greater_plain in_round a s g = refl
  greater_plain in_square a s g = refl
  greater_plain in_argument a s g = absurd (g.0 refl)

  comma_plain : {l : Region} {fs : List Frame} → Fits l fs → (a : ℕ) (s : State) → Goes l Comma → Named.at_comma a fs s ≡ plain a s
  unfolding Named.at_comma
  comma_plain at_top a s g = refl
  comma_plain in_round a s g = refl
  comma_plain in_square a s g = refl
  comma_plain in_argument a s g = absurd (g.1 refl)

  not_named : (a : ℕ) → ((i : ℕ) → a ≡ suc i → kind_at row i ≢ Identifier) → after_name named a ≡ false
  unfolding after_name
  not_named zero f = refl
  not_named (suc i) f = by (get_or named i false) refl
    where
      by : (b : Bool) → get_or named i false ≡ b → b ≡ false
      by true e = absurd (f i refl (words i e))
      by false e = refl

  plain_token : {l : Region} {fs : List Frame} → Fits l fs → (k a : ℕ) (b : Nodes) (s : ℕ) → role k ≡ neither → k ≢ ShiftRight → Goes l k → (k ≡ Less → after_name named a ≡ false)
      → take_token named k a (st fs b s) ≡ on (st fs (push t_node a none b) (suc s))
  unfolding take_token in_role no_bracket plain
  plain_token {l} {fs} f k a b s r z g n =
      let P : Step → Type 0 = λ t. t ≡ plain a (st fs b s) in
      rw r
      (by_if P (eqb k Less && after_name named a) (λ t. let u = and_yes (eqb k Less) (after_name named a) t in absurd (subst T (n (eqb→eq k Less u.0)) u.1)) λ _.
      by_if P (eqb k Greater) (λ t. greater_plain f a (st fs b s) (subst (Goes l) (eqb→eq k Greater t) g)) λ _.
      by_if P (eqb k ShiftRight) (λ t. absurd (z (eqb→eq k ShiftRight t))) λ _.
      by_if P (eqb k Comma) (λ t. comma_plain f a (st fs b s) (subst (Goes l) (eqb→eq k Comma t) g)) (λ _. refl))

  opens_group : (d : Delimiter) (k a : ℕ) (fs : List Frame) (b : Nodes) (s : ℕ) → role k ≡ opens d → length fs < MAX_NESTING_DEPTH
      → take_token named k a (st fs b s) ≡ on (st (Named.group d a b ∷ fs) none (suc s))
  unfolding take_token in_role begin
  opens_group d k a fs b s r lim = rw (r, lt-ltb (length fs) MAX_NESTING_DEPTH lim) refl

  opens_list : (k a : ℕ) (fs : List Frame) (b : Nodes) (s : ℕ) → k ≡ Less → after_name named a ≡ true → length fs < MAX_NESTING_DEPTH
      → take_token named k a (st fs b s) ≡ on (st (Named.list a b none (suc a) ∷ fs) none (suc s))
  unfolding take_token in_role no_bracket begin role
  opens_list k a fs b s e n lim = rw (e, n, lt-ltb (length fs) MAX_NESTING_DEPTH lim) refl

  closes_list : (i : ℕ) (y arguments : Nodes) (j : ℕ) (outer : List Frame) (a : ℕ) (k : NodeKind) (i' : ℕ) (c x : Nodes) (s : ℕ)
      → take_token named Greater a (st (Named.list i y arguments j ∷ outer) (node k i' c x) s) ≡ on (st outer (push l_node i (push a_node j (node k i' c x) arguments) y) s)
  unfolding take_token in_role no_bracket role at_greater unless_empty closed
  closes_list i y arguments j outer a k i' c x s = refl

  ends_argument : (i : ℕ) (y arguments : Nodes) (j : ℕ) (outer : List Frame) (a : ℕ) (k : NodeKind) (i' : ℕ) (c x : Nodes) (s : ℕ)
      → take_token named Comma a (st (Named.list i y arguments j ∷ outer) (node k i' c x) s)
      ≡ on (st (Named.list i y (push a_node j (node k i' c x) arguments) (suc a) ∷ outer) none s)
  unfolding take_token in_role no_bracket role Named.at_comma unless_empty
  ends_argument i y arguments j outer a k i' c x s = refl

  closes_paren : (i : ℕ) (y : Nodes) (outer : List Frame) (a : ℕ) (b : Nodes) (s : ℕ)
      → take_token named RightParen a (st (Named.group Parenthesis i y ∷ outer) b s) ≡ on (st outer (push g_node i b y) s)
  unfolding take_token in_role role at_closer same
  closes_paren i y outer a b s = refl

  closes_bracket : (i : ℕ) (y : Nodes) (outer : List Frame) (a : ℕ) (b : Nodes) (s : ℕ)
      → take_token named RightBracket a (st (Named.group Bracket i y ∷ outer) b s) ≡ on (st outer (push b_node i b y) s)
  unfolding take_token in_role role at_closer same
  closes_bracket i y outer a b s = refl

  -- ---- along the old reading

  -- From the region's first token to where it ends this reading goes as the old one has gone, m steps further.
  abbrev Along : Region → (n a : ℕ) → Nodes → (a' m : ℕ) → Type 0
  Along l n a x a' m = (fs : List Frame) (f : Fits l fs) → length fs ≡ n → (b : Nodes) (s : ℕ) → run a (st fs b s) ≡ run a' (leave f (b then x) (s + m))

  -- The same of a list's arguments.
  abbrev ListAlong : (n a : ℕ) → Nodes → (a' m : ℕ) → Type 0
  ListAlong n a x a' m = (i : ℕ) (y arguments : Nodes) (outer : List Frame) (s : ℕ) → suc (length outer) ≡ n
      → run a (st (Named.list i y arguments a ∷ outer) none s) ≡ run a' (st outer (push l_node i (arguments then x) y) (s + m))

  abbrev GoesAs : Region → (n a : ℕ) → Got → Type 0
  GoesAs l n a (bad e m) = Unit {0}
  GoesAs l n a (got x a' h m) = Kept x → (h ≡ false) × Along l n a x a' m × (l ≡ list → ListAlong n a x a' m)

  -- The token before is a word, if it is said to be.
  abbrev WordAt : (w : Bool) (a : ℕ) → Type 0
  WordAt w a = w ≡ true → (i : ℕ) × (a ≡ suc i) × (kind_at row i ≡ Identifier)

  no_word : (a : ℕ) → WordAt false a
  no_word a e = absurd (true≢false (sym e))

  -- A node, and then the rest of its region.
  before_goes : (l : Region) → l ≢ list → (k : NodeKind) (c : Nodes) (n a a₁ m : ℕ) (g : Got) → ((x : Nodes) → Kept (node k a c x) → GoesAs l n a₁ g)
      → ((x : Nodes) → Kept (node k a c x) → (fs : List Frame) → Fits l fs → length fs ≡ n → (b : Nodes) (s : ℕ) → run a (st fs b s) ≡ run a₁ (st fs (push k a c b) (s + m)))
      → GoesAs l n a (before k a c m g)
  unfolding before
  before_goes l q k c n a a₁ m (bad e m') f step = tt
  before_goes l q k c n a a₁ m (got x a' h m') f step = λ kept.
      let rest = f x kept (kept_beside kept) in (
        rest.0,
        λ fs p e b s.
            let more : s + m + m' ≡ s + (m + m') = omega arith in
            step x kept fs p e b s ∙ rest.1 fs p e (push k a c b) (s + m) ∙ ap (λ (z : ℕ). run a' (leave p (push k a c b then x) z)) more
            ∙ ap (λ (z : Nodes). run a' (leave p z (s + (m + m')))) (push_then k a c b x),
        λ e. absurd (q e),
      )

  -- A turn keeps it.
  module _ (read : Reader true row) (ok : (l : Region) (d n : ℕ) (w : Bool) (a : ℕ) (h : Bool) → Sound row l d n a h (read l d n w a h))
      (rec : (l : Region) (d n : ℕ) (w : Bool) (a : ℕ) → WordAt w a → GoesAs l n a (read l d n w a false)) where
    -- The rest of a level behind a group or a list.
    rest_goes : (l : Region) (d n a₁ : ℕ) (h₁ : Bool) → h₁ ≡ false → GoesAs l n a₁ (read l d n false a₁ h₁)
    rest_goes l d n a₁ h₁ q = subst (λ (h : Bool). GoesAs l n a₁ (read l d n false a₁ h)) (sym q) (rec l d n false a₁ (no_word a₁))

    token_goes : (l : Region) (d n : ℕ) (w v : Bool) (a : ℕ) → l ≢ list → v ≡ eqb (kind_at row a) Identifier → kind_at row a ≢ NoToken → Goes l (kind_at row a)
        → GoesAs l n a (before t_node a none 1 (read l d n v (suc a) false))
    token_goes l d n w v a q e z g =
        before_goes l q t_node none n a (suc a) 1 (read l d n v (suc a) false)
        (λ x kept. rec l d n v (suc a) (λ t. (a, refl, eqb_is (kind_at row a) (sym e ∙ t))))
        (λ x kept fs f len b s.
        let one : suc s ≡ s + 1 = omega arith in
        run_on a (st fs b s) (st fs (push t_node a none b) (suc s)) (kind_at row a) refl z
        (plain_token f (kind_at row a) a b s (kept.tidy a none here) (no_shift a) g (λ less. not_named a (λ i is. plain_before x kept i is less)))
        ∙ ap (λ (k : ℕ). run (suc a) (st fs (push t_node a none b) k)) one)
      where
        eqb_is : (k : ℕ) → eqb k Identifier ≡ true → k ≡ Identifier
        eqb_is k t = eqb→eq k Identifier (subst T (sym t) tt)

        plain_before : (x : Nodes) → Kept (node t_node a none x) → (i : ℕ) → a ≡ suc i → kind_at row a ≡ Less → kind_at row i ≢ Identifier
        plain_before x kept i is less =
            kept.no_try_failed i none (subst (λ (j : ℕ). In t_node j none (node t_node a none x)) is here) (ap (kind_at row) (sym is) ∙ less)

    down_goes : (t : Bool) (l v : Region) (d d' n a₁ : ℕ) (P : Got → Type 0) (f : Nodes → ℕ → Bool → ℕ → Got) (f' : Fault → ℕ → Got)
        → ((c : Nodes) (a₂ : ℕ) (h₂ : Bool) (m : ℕ) → T t → GoesAs v (suc n) a₁ (got c a₂ h₂ m) → P (f c a₂ h₂ m)) → ((e : Fault) (m : ℕ) → P (f' e m))
        → P (case (down true row read t v d' (suc n) a₁ false) f f')
    unfolding down case
    down_goes true l v d d' n a₁ P f f' p q = by (read v d' (suc n) false a₁ false) (rec v d' (suc n) false a₁ (no_word a₁))
      where
        by : (g : Got) → GoesAs v (suc n) a₁ g → P (case g f f')
        by (got c a₂ h₂ m) r = p c a₂ h₂ m tt r
        by (bad e m) r = q e m
    down_goes false l v d d' n a₁ P f f' p q = q (Old.refusal NestingLimitExceeded) 0

    deep_enough : (n : ℕ) (fs : List Frame) → T (ltb n MAX_NESTING_DEPTH) → length fs ≡ n → length fs < MAX_NESTING_DEPTH
    deep_enough n fs t e = omega (arith, ltb→lt n MAX_NESTING_DEPTH t, e)

    in_group : (d : Delimiter) {a : ℕ} {b : Nodes} {fs : List Frame} → Fits (region_of (Some d)) (Named.group d a b ∷ fs)
    in_group Parenthesis = in_round
    in_group Bracket = in_square

    left_group : (d : Delimiter) (a : ℕ) (b c : Nodes) (fs : List Frame) (s : ℕ) → leave (in_group d {a = a} {b = b} {fs = fs}) c s ≡ st fs (push (node_of d) a c b) s
    unfolding in_group
    left_group Parenthesis a b c fs s = refl
    left_group Bracket a b c fs s = refl

    group_goes : (l : Region) (d n a : ℕ) (e : Delimiter) → l ≢ list → kind_at row a ≢ NoToken → role (kind_at row a) ≡ opens e
        → GoesAs l n a (case (down true row read (ltb n MAX_NESTING_DEPTH) (region_of (Some e)) d (suc n) (suc a) false)
        (λ c a₁ h₁ m. before (node_of e) a c (suc m) (read l d n false a₁ h₁)) (λ x m. bad x (suc m)))
    unfolding ◌then◌
    group_goes l d n a e q z r =
        down_goes (ltb n MAX_NESTING_DEPTH) l (region_of (Some e)) d d n (suc a) (GoesAs l n a) _ _
        (λ c a₁ h₁ m t inner.
        before_goes l q (node_of e) c n a a₁ (suc m) (read l d n false a₁ h₁)
        (λ x kept. rest_goes l d n a₁ h₁ (inner (kept_below kept)).0)
        (λ x kept fs f len b s.
        let more : suc s + m ≡ s + suc m = omega arith in
        run_on a (st fs b s) (st (Named.group e a b ∷ fs) none (suc s)) (kind_at row a) refl z (opens_group e (kind_at row a) a fs b s r (deep_enough n fs t len))
        ∙ (inner (kept_below kept)).1 (Named.group e a b ∷ fs) (in_group e) (ap suc len) none (suc s)
        ∙ ap (run a₁) (left_group e a b c fs (suc s + m)) ∙ ap (λ (k : ℕ). run a₁ (st fs (push (node_of e) a c b) k)) more))
        (λ x m. tt)

    angle_goes : (l : Region) (d n a : ℕ) (w : Bool) → l ≢ list → kind_at row a ≡ Less → w ≡ true → WordAt w a
        → GoesAs l n a (case (down true row read (ltb n MAX_NESTING_DEPTH) list (suc d) (suc n) (suc a) false)
        (λ c a₁ h₁ m. before l_node a c (suc m) (read l d n false a₁ h₁)) (λ x m. before t_node a none (suc m) (read l d n false (suc a) false)))
    unfolding ◌then◌ after_name
    angle_goes l d n a w q less is word =
        let before_it = word is in
        let i = before_it.0 in
        down_goes (ltb n MAX_NESTING_DEPTH) l list d (suc d) n (suc a) (GoesAs l n a) _ _
        (λ c a₁ h₁ m t inner.
        before_goes l q l_node c n a a₁ (suc m) (read l d n false a₁ h₁)
        (λ x kept. rest_goes l d n a₁ h₁ (inner (kept_below kept)).0)
        (λ x kept fs f len b s.
        let more : suc s + m ≡ s + suc m = omega arith in
        let name : after_name named a ≡ true = named_before a i before_it.1 (kept.lists_named i c (subst (λ (j : ℕ). In l_node j c (node l_node a c x)) before_it.1 here)) in
        run_on a (st fs b s) (st (Named.list a b none (suc a) ∷ fs) none (suc s)) Less less (omega arith) (opens_list Less a fs b s refl name (deep_enough n fs t len))
        ∙ (inner (kept_below kept)).2 refl a b none fs (suc s) (ap suc len) ∙ ap (λ (k : ℕ). run a₁ (st fs (push l_node a c b) k)) more))
        (λ x m.
        before_goes l q t_node none n a (suc a) (suc m) (read l d n false (suc a) false)
        (λ y kept. absurd (tried y kept i before_it.1 before_it.2)) (λ y kept. absurd (tried y kept i before_it.1 before_it.2)))
      where
        named_before : (a i : ℕ) → a ≡ suc i → get_or named i false ≡ true → after_name named a ≡ true
        named_before a i e n = rw e n

        tried : (y : Nodes) → Kept (node t_node a none y) → (i : ℕ) → a ≡ suc i → kind_at row i ≡ Identifier → ⊥
        tried y kept i is word = kept.no_try_failed i none (subst (λ (j : ℕ). In t_node j none (node t_node a none y)) is here) (ap (kind_at row) (sym is) ∙ less) word

    -- ---- a list's arguments

    -- An argument that ends without a comma ends at a `>`.
    closes_at : {d n a a₁ : ℕ} {h₁ : Bool} {x : Nodes} → Derivation row all_lists argument d n a false x a₁ h₁ → h₁ ≡ false → kind_at row a₁ ≢ Comma → kind_at row a₁ ≡ Greater
    closes_at {a₁ = a₁} r q c = by (stopped row r) q
      where
        by : {d : ℕ} {h : Bool} → Stops row d a₁ h → h ≡ false → kind_at row a₁ ≡ Greater
        by at_half q = absurd (true≢false q)
        by (at_one e) q = e
        by (at_two e two) q = absurd (no_shift a₁ e)
        by (at_comma e) q = absurd (c e)

    more_goes : (n a a₁ m : ℕ) (k : NodeKind) (i' : ℕ) (c z : Nodes) (g : Got) → kind_at row a₁ ≡ Comma
        → (Kept (node k i' c z) → Along argument n a (node k i' c z) a₁ m) → (Kept (node k i' c z) → GoesAs list n (suc a₁) g) → GoesAs list n a (before a_node a (node k i' c z) m g)
    unfolding before ◌then◌
    more_goes n a a₁ m k i' c z (bad e m') comma along f = tt
    more_goes n a a₁ m k i' c z (got x a₂ h₂ m₂) comma along f = λ kept.
        let X : Nodes = node k i' c z in
        let v = f (kept_below kept) (kept_beside kept) in (
          v.0,
          λ fs p. elim p [ ],
          λ _ i y arguments outer s len.
              let more : s + m + m₂ ≡ s + (m + m₂) = omega arith in
              along (kept_below kept) (Named.list i y arguments a ∷ outer) in_argument len none s
              ∙ run_on a₁ (st (Named.list i y arguments a ∷ outer) X (s + m)) (st (Named.list i y (push a_node a X arguments) (suc a₁) ∷ outer) none (s + m)) Comma comma (omega arith)
              (ends_argument i y arguments a outer a₁ k i' c z (s + m))
              ∙ v.2 refl i y (push a_node a X arguments) outer (s + m) len
              ∙ ap (λ (w : Nodes). run a₂ (st outer (push l_node i w y) (s + m + m₂))) (push_then a_node a X arguments x)
              ∙ ap (λ (j : ℕ). run a₂ (st outer (push l_node i (arguments then node a_node a X x) y) j)) more,
        )

    last_goes : (d n a a₁ m : ℕ) (h₁ : Bool) (k : NodeKind) (i' : ℕ) (c z : Nodes) → Derivation row all_lists argument d n a false (node k i' c z) a₁ h₁ → kind_at row a₁ ≢ Comma
        → (Kept (node k i' c z) → (h₁ ≡ false) × Along argument n a (node k i' c z) a₁ m) → GoesAs list n a (argued true row read list d n a (node k i' c z) false a₁ h₁ m)
    unfolding argued ◌then◌
    last_goes d n a a₁ m true k i' c z r comma f = λ kept. absurd (true≢false (f (kept_below kept)).0)
    last_goes d n a a₁ m false k i' c z r comma f = λ kept.
        let X : Nodes = node k i' c z in
        let closer = closes_at r refl comma in (
          rw closer refl,
          λ fs p. elim p [ ],
          λ _ i y arguments outer s len.
              (f (kept_below kept)).1 (Named.list i y arguments a ∷ outer) in_argument len none s
              ∙ run_on a₁ (st (Named.list i y arguments a ∷ outer) X (s + m)) (st outer (push l_node i (push a_node a X arguments) y) (s + m)) Greater closer (omega arith)
              (closes_list i y arguments a outer a₁ k i' c z (s + m))
              ∙ ap (λ (w : Nodes). run (suc a₁) (st outer (push l_node i w y) (s + m))) (push_is a_node a X arguments),
        )

    argued_goes : (d n a : ℕ) (x : Nodes) (comma : Bool) (a₁ : ℕ) (h₁ : Bool) (m : ℕ) → eqb (kind_at row a₁) Comma ≡ comma → Derivation row all_lists argument d n a false x a₁ h₁
        → GoesAs argument n a (got x a₁ h₁ m) → GoesAs list n a (argued true row read list d n a x comma a₁ h₁ m)
    unfolding argued
    argued_goes d n a none comma a₁ h₁ m e r f = tt
    argued_goes d n a (node k i c z) true a₁ h₁ m e r f =
        more_goes n a a₁ m k i c z (read list d n false (suc a₁) h₁) (eqb→eq _ _ (subst T (sym e) tt)) (λ kept. (f kept).1) (λ kept. rest_goes list d n (suc a₁) h₁ (f kept).0)
    argued_goes d n a (node k i c z) false a₁ h₁ m e r f =
        last_goes d n a a₁ m h₁ k i c z r (λ q. true≢false (sym (eq-eqb (kind_at row a₁) Comma q) ∙ e)) (λ kept. ((f kept).0, (f kept).1))

    first_goes : (d n a : ℕ) → GoesAs list n a (case (read argument d n false a false) (λ x a₁ h₁ m. argued true row read list d n a x (eqb (kind_at row a₁) Comma) a₁ h₁ m) (λ e m. bad e m))
    unfolding case
    first_goes d n a = by (read argument d n false a false) (ok argument d n false a false) (rec argument d n false a (no_word a))
      where
        by : (g : Got) → Sound row argument d n a false g → GoesAs argument n a g
            → GoesAs list n a (case g (λ x a₁ h₁ m. argued true row read list d n a x (eqb (kind_at row a₁) Comma) a₁ h₁ m) (λ e m. bad e m))
        by (got x a₁ h₁ m) r f = argued_goes d n a x (eqb (kind_at row a₁) Comma) a₁ h₁ m refl r f
        by (bad e m) r f = tt

    -- ---- the end of a region

    ends_goes : (l : Region) (n a a' : ℕ) → Ended l (kind_at row a) a a' → GoesAs l n a (got none a' false 0)
    ends_goes top n a a' e = λ kept. (refl, λ fs f len b s. top_ends fs f b s, λ q. absurd (top_apart q))
      where
        top_apart : top ≡ list → ⊥
        top_apart q = let z : ◌≡◌ {A = ℕ} 0 1 = cc in absurd (omega arith)

        top_ends : (fs : List Frame) (f : Fits top fs) (b : Nodes) (s : ℕ) → run a (st fs b s) ≡ run a' (leave f (b then none) (s + 0))
        top_ends fs at_top b s = let same : s + 0 ≡ s = omega arith in rw (e, then_none b, same) refl
    ends_goes round n a a' e = λ kept. (refl, λ fs f len b s. round_ends fs f b s, λ q. absurd (round_apart q))
      where
        round_apart : round ≡ list → ⊥
        round_apart q = let z : ◌≡◌ {A = ℕ} 0 1 = cc in absurd (omega arith)

        round_ends : (fs : List Frame) (f : Fits round fs) (b : Nodes) (s : ℕ) → run a (st fs b s) ≡ run a' (leave f (b then none) (s + 0))
        round_ends fs (in_round {i} {y} {outer}) b s =
            let same : s + 0 ≡ s = omega arith in
            rw (e.1, then_none b, same) (run_on a (st (Named.group Parenthesis i y ∷ outer) b s) (st outer (push g_node i b y) s) RightParen e.0 (omega arith) (closes_paren i y outer a b s))
    ends_goes square n a a' e = λ kept. (refl, λ fs f len b s. square_ends fs f b s, λ q. absurd (square_apart q))
      where
        square_apart : square ≡ list → ⊥
        square_apart q = let z : ◌≡◌ {A = ℕ} 0 1 = cc in absurd (omega arith)

        square_ends : (fs : List Frame) (f : Fits square fs) (b : Nodes) (s : ℕ) → run a (st fs b s) ≡ run a' (leave f (b then none) (s + 0))
        square_ends fs (in_square {i} {y} {outer}) b s =
            let same : s + 0 ≡ s = omega arith in
            rw (e.1, then_none b, same) (run_on a (st (Named.group Bracket i y ∷ outer) b s) (st outer (push b_node i b y) s) RightBracket e.0 (omega arith) (closes_bracket i y outer a b s))
    ends_goes argument n a a' e = λ kept. (refl, λ fs f len b s. argument_ends fs f b s, λ q. absurd (argument_apart q))
      where
        argument_apart : argument ≡ list → ⊥
        argument_apart q = let z : ◌≡◌ {A = ℕ} 0 1 = cc in absurd (omega arith)

        argument_ends : (fs : List Frame) (f : Fits argument fs) (b : Nodes) (s : ℕ) → run a (st fs b s) ≡ run a' (leave f (b then none) (s + 0))
        argument_ends fs in_argument b s = let same : s + 0 ≡ s = omega arith in rw (e, then_none b, same) refl
    ends_goes list n a a' e = absurd e

    go_goes : (l : Region) (d n a : ℕ) (w : Bool) → WordAt w a → (nx : Next) → Met l w (kind_at row a) a nx → GoesAs l n a (go true row read l d n nx a false)
    unfolding go
    go_goes l d n a w word (ends a') m = ends_goes l n a a' m
    go_goes l d n a w word (stops e) m = tt
    go_goes l d n a w word (token v) (q, e, z, g) = token_goes l d n w v a q e z g
    go_goes l d n a w word (Old.group g v) (q, z, e, eg, ev, r) = rw (eg, ev) (group_goes l d n a e q z r)
    go_goes l d n a w word angle (q, e, is) = angle_goes l d n a w q e is word
    go_goes l d n a w word first q = rw q (first_goes d n a)

  goes : (fuel : ℕ) (l : Region) (d n : ℕ) (w : Bool) (a : ℕ) → WordAt w a → GoesAs l n a (read_f true row fuel l d n w a false)
  unfolding read_f turn
  goes zero l d n w a word = tt
  goes (suc fuel) l d n w a word =
      go_goes (read_f true row fuel) (read_f_sound row true fuel) (λ l d n w a word. goes fuel l d n w a word) l d n a w word (next true l d w (kind_at row a) a false) (next_met l d w (kind_at row a) a)

  -- The same tree, and the same steps.
  pub as_before : KindsKnown row → {x : Nodes} {a : ℕ} {h : Bool} {m : ℕ} → reading true row ≡ got x a h m → Kept x → named_reading named row ≡ got x (length row) false m
  unfolding reading read named_reading start run read_on at_end ◌then◌
  as_before known {x} {a} {h} {m} e kept =
      let all : a ≡ length row = (nothing_left row (row_derived row true e) known).0 in
      let along = (subst (GoesAs top 0 0) e (goes (2 * length row + 2) top 0 0 false 0 (no_word 0)) kept).1 [] at_top refl none 0 in
      let last : drop a row ≡ [] = drop_of_length-le row {i = a} (omega (arith, all)) in
      let none_before : 0 + m ≡ m = omega arith in
      along ∙ rw (last, all, none_before) refl
