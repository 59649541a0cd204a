-- What this reading accepts is derived (crate reader, specs/Derivation.antt), with no list around a group to be closed inside it: so what is proved of
-- derivations holds of its trees.
-- Assumes nothing.
use Prim.Native.Nat.{ℕ, suc, ◌+◌, ◌-◌, ◌≤◌, ◌<◌}
use Rattle.std.specs.Prelude.{◌≡◌, ◌≢◌, Bool, ◌&&◌, length, get_or, drop, T, ltb, eqb, Some}
use Rattle.std.proofs.Math.Path.{refl, ap, subst}
use Rattle.std.proofs.Common.{sym, ◌∙◌, length-drop, drop-cons, ltb→lt}
use Rattle.std.proofs.Math.Bool.{false}
use mathlib.Core.List.{List, [], ◌∷◌}
use native.Mathlib.Omega.{arith}
use Rattle.std.proofs.Math.Facts.{and_yes}
use Rattle.std.proofs.Math.ListN.{get_or-eq_default}
use Rattle.std.proofs.Math.Dec.{eqb→eq}
use Rattle.rows.specs.Kinds.{LeftParen, RightParen, LeftBracket, RightBracket, Comma, Less, Greater, ShiftRight, NoToken}
use Rattle.rows.specs.Laws.Tests.{by_if}
use Rattle.rows.specs.declared.answer.Delimiter.{Delimiter}
use Rattle.rows.specs.declared.answer.Delimiter.TheVariants.{Parenthesis, Bracket}
use Rattle.prescan.specs.Matcher.{Role, role, same}
use Rattle.reader.specs.Nodes.{NodeKind, t_node, l_node, a_node, Nodes, none, node}
use Rattle.reader.specs.Reading.{Region, top, round, square, argument, list, Got, got, bad, kind_at, MAX_NESTING_DEPTH}
use Rattle.reader.specs.Tables.{node_of, region_of}
use Rattle.reader.specs.Derivation.{Opens, parens, brackets, Plain, nodal, Closes, by_half, by_one, by_two, Stops, at_half, at_one, at_two, at_comma, Derivation, end_row, end_group, end_argument, a_token, a_group, a_list, last, more, RowDerived}
use Rattle.reader.specs.Laws.Derived.{neqb}
use Rattle.reader.specs.Laws.Loops.{◌then◌}
use Rattle.named_reader.specs.NamedReading.{Frame, State, Step, on, stops, push, plain, begin, unless_empty, closed, at_greater, second_half, at_shift, at_closer, after_name, no_bracket, in_role, take_token, at_end, go_on, read_on, start, named_reading}
use Rattle.named_reader.specs.NamedReading as Named

-- Inside a group no list around it can be closed.
abbrev pub no_lists : ℕ → ℕ
no_lists d = 0

-- The lists opened since the innermost open bracket.
unfoldable pub lists_here : List Frame → ℕ
lists_here [] = 0
lists_here (Named.group d i x ∷ outer) = 0
lists_here (Named.list i x y j ∷ outer) = suc (lists_here outer)

-- ---- nodes one after another

-- One more node, and then others.
pub push_then : (k : NodeKind) (i : ℕ) (b x y : Nodes) → push k i b x then y ≡ x then node k i b y
unfolding push ◌then◌
push_then k i b none y = refl
push_then k i b (node k' i' b' x) y = ap (node k' i' b') (push_then k i b x y)

pub then_none : (x : Nodes) → x then none ≡ x
unfolding ◌then◌
then_none none = refl
then_none (node k i b x) = ap (node k i b) (then_none x)

pub push_is : (k : NodeKind) (i : ℕ) (b x : Nodes) → push k i b x ≡ x then node k i b none
push_is k i b x = sym (then_none (push k i b x)) ∙ push_then k i b x none

-- ---- a row from a token on

pub dropped : (row : List ℕ) (at : ℕ) → drop at row ≡ [] → length row ≤ at
dropped row at e = let l : length row - at ≡ 0 = sym (length-drop at row) ∙ ap length e in omega (arith, l)

pub first_of : (row : List ℕ) (at k : ℕ) (ks : List ℕ) → drop at row ≡ k ∷ ks → (at < length row) × (kind_at row at ≡ k) × (drop (suc at) row ≡ ks)
unfolding kind_at
first_of row at k ks e =
    let l : length row - at ≡ suc (length ks) = sym (length-drop at row) ∙ ap length e in
    let inside : at < length row = omega (arith, l) in
    let c : get_or row at NoToken ∷ drop (suc at) row ≡ k ∷ ks = sym (drop-cons row at NoToken inside) ∙ e in
    (inside, ap (λ (l : List ℕ). get_or l 0 0) c, ap (λ (l : List ℕ). drop 1 l) c)

-- ---- the rest of what is open

-- There is a node.
abbrev pub SomeNode : Nodes → Type 0
SomeNode none = ⊥
SomeNode (node k i b x) = Unit {0}

opens_by : (d : Delimiter) (o c : ℕ) → Type 0
opens_by d o c = Opens (node_of d) (region_of (Some d)) o c

module _ (row : List ℕ) where
  -- What remains of a list behind one of its arguments: it is closed, or more arguments follow.
  pub data Remains (d n a : ℕ) : (h : Bool) → Nodes → (a' : ℕ) (h' : Bool) → Type 0 where
    no_more : {h h' : Bool} {a' : ℕ} → Closes row d a h a' h' → Remains d n a h none a' h'
    one_more : {x : Nodes} {h' : Bool} {a' : ℕ} → kind_at row a ≡ Comma → Derivation row no_lists list d n (suc a) false x a' h' → Remains d n a false x a' h'

  -- From token `a` on the rest of everything that is open is derived, and the whole row's tree is x.
  pub data Rest : List Frame → (nodes : Nodes) (a : ℕ) (h : Bool) → (x : Nodes) → Type 0 where
    rest_top : {b y x : Nodes} {a a' : ℕ} {h h' : Bool} → Derivation row no_lists top 0 0 a h y a' h' → b then y ≡ x → Rest [] b a h x
    rest_group : {d : Delimiter} {i : ℕ} {b before y x : Nodes} {outer : List Frame} {a a₁ : ℕ} {h h₁ : Bool}
        → Derivation row no_lists (region_of (Some d)) 0 (suc (length outer)) a h y a₁ h₁ → Rest outer (push (node_of d) i (b then y) before) a₁ h₁ x
        → Rest (Named.group d i before ∷ outer) b a h x
    rest_list : {i j : ℕ} {b before arguments y z x : Nodes} {outer : List Frame} {a a₁ a₂ : ℕ} {h h₁ h₂ : Bool}
        → Derivation row no_lists argument (suc (lists_here outer)) (suc (length outer)) a h y a₁ h₁ → SomeNode (b then y)
        → Remains (suc (lists_here outer)) (suc (length outer)) a₁ h₁ z a₂ h₂
        → Rest outer (push l_node i (arguments then node a_node j (b then y) z) before) a₂ h₂ x
        → Rest (Named.list i before arguments j ∷ outer) b a h x

  -- ---- one token back

  module _ (x : Nodes) where
    -- A T.
    plain_back : {fs : List Frame} {b : Nodes} {a : ℕ} → Plain (kind_at row a) → Rest fs (push t_node a none b) (suc a) false x → Rest fs b a false x
    plain_back {b = b} {a = a} p (rest_top {y = y} r e) = rest_top (a_token tt p r) (sym (push_then t_node a none b y) ∙ e)
    plain_back {b = b} {a = a} p (rest_group {d = Parenthesis} {i = i} {before = before} {y = y} {outer = outer} {a₁ = a₁} {h₁ = h₁} r s) =
        rest_group (a_token tt p r) (subst (λ (z : Nodes). Rest outer (push (node_of Parenthesis) i z before) a₁ h₁ x) (push_then t_node a none b y) s)
    plain_back {b = b} {a = a} p (rest_group {d = Bracket} {i = i} {before = before} {y = y} {outer = outer} {a₁ = a₁} {h₁ = h₁} r s) =
        rest_group (a_token tt p r) (subst (λ (z : Nodes). Rest outer (push (node_of Bracket) i z before) a₁ h₁ x) (push_then t_node a none b y) s)
    plain_back {b = b} {a = a} p (rest_list {i = i} {j = j} {before = before} {arguments = arguments} {y = y} {z = z} {outer = outer} {a₂ = a₂} {h₂ = h₂} r q m s) =
        let e = push_then t_node a none b y in
        rest_list (a_token tt p r) (subst SomeNode e q) m (subst (λ (w : Nodes). Rest outer (push l_node i (arguments then node a_node j w z) before) a₂ h₂ x) e s)

    -- A node with others below it, whose closer has been taken.
    Onto : (k : NodeKind) (below : Nodes) (fs : List Frame) (a a₁ : ℕ) (h₁ : Bool) → Type 0
    Onto k below fs a a₁ h₁ = (l : Region) → T (nodal l false) → (y : Nodes) (a₂ : ℕ) (h₂ : Bool) → Derivation row no_lists l (lists_here fs) (length fs) a₁ h₁ y a₂ h₂
        → Derivation row no_lists l (lists_here fs) (length fs) a false (node k a below y) a₂ h₂

    node_back : {fs : List Frame} {b : Nodes} (below : Nodes) (k : NodeKind) {a : ℕ} (a₁ : ℕ) (h₁ : Bool) → Onto k below fs a a₁ h₁ → Rest fs (push k a below b) a₁ h₁ x → Rest fs b a false x
    unfolding lists_here Onto
    node_back {b = b} below k {a} a₁ h₁ f (rest_top {y = y} r e) = rest_top (f top tt _ _ _ r) (sym (push_then k a below b y) ∙ e)
    node_back {b = b} below k {a} a₁ h₁ f (rest_group {d = Parenthesis} {i = i} {before = before} {y = y} {outer = outer} {a₁ = a₂} {h₁ = h₂} r s) =
        rest_group (f round tt _ _ _ r) (subst (λ (z : Nodes). Rest outer (push (node_of Parenthesis) i z before) a₂ h₂ x) (push_then k a below b y) s)
    node_back {b = b} below k {a} a₁ h₁ f (rest_group {d = Bracket} {i = i} {before = before} {y = y} {outer = outer} {a₁ = a₂} {h₁ = h₂} r s) =
        rest_group (f square tt _ _ _ r) (subst (λ (z : Nodes). Rest outer (push (node_of Bracket) i z before) a₂ h₂ x) (push_then k a below b y) s)
    node_back {b = b} below k {a} a₁ h₁ f (rest_list {i = i} {j = j} {before = before} {arguments = arguments} {y = y} {z = z} {outer = outer} {a₂ = a₂} {h₂ = h₂} r q m s) =
        let e = push_then k a below b y in
        rest_list (f argument tt _ _ _ r) (subst SomeNode e q) m (subst (λ (w : Nodes). Rest outer (push l_node i (arguments then node a_node j w z) before) a₂ h₂ x) e s)

    group_back : {fs : List Frame} {b : Nodes} {a : ℕ} (d : Delimiter) {o c : ℕ} → Opens (node_of d) (region_of (Some d)) o c → kind_at row a ≡ o → length fs < MAX_NESTING_DEPTH
        → Rest (Named.group d a b ∷ fs) none (suc a) false x → Rest fs b a false x
    unfolding ◌then◌ Onto
    group_back {fs} {b} {a} d op e lim (rest_group {y = y} {a₁ = a₁} {h₁ = h₁} r s) = node_back y (node_of d) a₁ h₁ (λ l t z a₂ h₂ r₁. a_group t lim op e r r₁) s

    -- The arguments of a list, from its first on.
    arguments_derived : {d n a a₁ a₂ : ℕ} {h₁ h₂ : Bool} (y : Nodes) {z : Nodes} → Derivation row no_lists argument d n a false y a₁ h₁ → SomeNode y → Remains d n a₁ h₁ z a₂ h₂
        → Derivation row no_lists list d n a false (node a_node a y z) a₂ h₂
    arguments_derived none r q m = absurd q
    arguments_derived (node k i b y) r q (no_more c) = last r c
    arguments_derived (node k i b y) r q (one_more e r₁) = more r e r₁

    list_back : {fs : List Frame} {b : Nodes} {a : ℕ} → kind_at row a ≡ Less → length fs < MAX_NESTING_DEPTH → Rest (Named.list a b none (suc a) ∷ fs) none (suc a) false x → Rest fs b a false x
    unfolding ◌then◌ Onto
    list_back {a = a} e lim (rest_list {y = y} {z = z} {a₂ = a₂} {h₂ = h₂} r q m s) =
        node_back (node a_node (suc a) y z) l_node a₂ h₂ (λ l t w a₃ h₃ r₁. a_list t lim e (arguments_derived y r q m) r₁) s

    -- An argument has ended.
    argument_back : {i j a a₂ : ℕ} {b before arguments : Nodes} {outer : List Frame} {h h₂ : Bool} → SomeNode b → Stops row (suc (lists_here outer)) a h → Closes row (suc (lists_here outer)) a h a₂ h₂
        → Rest outer (push l_node i (push a_node j b arguments) before) a₂ h₂ x → Rest (Named.list i before arguments j ∷ outer) b a h x
    argument_back {i} {j} {a} {a₂} {b} {before} {arguments} {outer} {h} {h₂} q t c s =
        let e = then_none b in
        rest_list (end_argument t) (subst SomeNode (sym e) q) (no_more c)
        (subst (λ (w : Nodes). Rest outer (push l_node i w before) a₂ h₂ x) (push_is a_node j b arguments ∙ ap (λ (w : Nodes). arguments then node a_node j w none) (sym e)) s)

    comma_back : {i j a : ℕ} {b before arguments : Nodes} {outer : List Frame} → SomeNode b → kind_at row a ≡ Comma
        → Rest (Named.list i before (push a_node j b arguments) (suc a) ∷ outer) none (suc a) false x → Rest (Named.list i before arguments j ∷ outer) b a false x
    unfolding ◌then◌
    comma_back {i} {j} {a} {b} {before} {arguments} {outer} q c (rest_list {y = y} {z = z} {a₂ = a₂} {h₂ = h₂} r p m s) =
        let e = then_none b in
        rest_list (end_argument (at_comma c)) (subst SomeNode (sym e) q) (one_more c (arguments_derived y r p m))
        (subst (λ (w : Nodes). Rest outer (push l_node i w before) a₂ h₂ x)
        (push_then a_node j b arguments (node a_node (suc a) y z) ∙ ap (λ (w : Nodes). arguments then node a_node j w (node a_node (suc a) y z)) (sym e)) s)

    shut_back : {d : Delimiter} {i a : ℕ} {b before : Nodes} {outer : List Frame} {o c : ℕ} → Opens (node_of d) (region_of (Some d)) o c → kind_at row a ≡ c
        → Rest outer (push (node_of d) i b before) (suc a) false x → Rest (Named.group d i before ∷ outer) b a false x
    shut_back {d} {i} {a} {b} {before} {outer} op e s =
        rest_group (end_group op e) (subst (λ (w : Nodes). Rest outer (push (node_of d) i w before) (suc a) false x) (sym (then_none b)) s)

  -- ---- token by token

  module _ (at : ℕ) where
    -- Where the rest from the next token on is derived, it is from this one on.
    abbrev Backs : List Frame → Nodes → Step → Type 0
    Backs fs b (on s) = (x : Nodes) → Rest s.frames s.nodes (suc at) false x → Rest fs b at false x
    Backs fs b (stops e m) = Unit {0}

    plain_backs : (s : State) → Plain (kind_at row at) → Backs s.frames s.nodes (plain at s)
    unfolding plain
    plain_backs s p x r = plain_back x p r

    group_backs : (d : Delimiter) {o c : ℕ} (s : State) → Opens (node_of d) (region_of (Some d)) o c → kind_at row at ≡ o
        → Backs s.frames s.nodes (begin (Named.group d at s.nodes) s)
    unfolding begin
    group_backs d s op e =
        by_if (Backs s.frames s.nodes) (ltb (length s.frames) MAX_NESTING_DEPTH)
        (λ t x r. group_back x d op e (ltb→lt (length s.frames) MAX_NESTING_DEPTH t) r) (λ _. tt)

    list_backs : (s : State) → kind_at row at ≡ Less → Backs s.frames s.nodes (begin (Named.list at s.nodes none (suc at)) s)
    unfolding begin
    list_backs s e =
        by_if (Backs s.frames s.nodes) (ltb (length s.frames) MAX_NESTING_DEPTH)
        (λ t x r. list_back x e (ltb→lt (length s.frames) MAX_NESTING_DEPTH t) r) (λ _. tt)

    unless_backs : (fs : List Frame) (b : Nodes) (m : ℕ) (t : Step) → (SomeNode b → Backs fs b t) → Backs fs b (unless_empty b m t)
    unfolding unless_empty
    unless_backs fs none m t f = tt
    unless_backs fs (node k i b x) m t f = f tt

    greater_backs : (fs : List Frame) (s : State) → s.frames ≡ fs → kind_at row at ≡ Greater → Backs fs s.nodes (at_greater at fs s)
    unfolding at_greater closed
    greater_backs [] s is e = subst (λ (fs : List Frame). Backs fs s.nodes (plain at s)) is (plain_backs s (omega arith))
    greater_backs (Named.group d i x ∷ outer) s is e = subst (λ (fs : List Frame). Backs fs s.nodes (plain at s)) is (plain_backs s (omega arith))
    greater_backs (Named.list i x y j ∷ outer) s is e =
        unless_backs (Named.list i x y j ∷ outer) s.nodes s.steps (on (closed i x y j outer s)) (λ q z r. argument_back z q (at_one e) (by_one e) r)

    second_backs : (i : ℕ) (x y : Nodes) (j : ℕ) (outer : List Frame) (s : State) → kind_at row at ≡ ShiftRight → SomeNode s.nodes
        → Backs (Named.list i x y j ∷ outer) s.nodes (second_half outer (closed i x y j outer s))
    unfolding second_half closed lists_here push
    second_backs i x y j [] s e q = tt
    second_backs i x y j (Named.group d i' x' ∷ outer) s e q = tt
    second_backs i x y j (Named.list i' x' y' j' ∷ outer) s e q = λ z r.
        let two : 2 ≤ suc (suc (lists_here outer)) = omega arith in
        argument_back z q (at_two e two) (by_two e two)
        (argument_back z (some_push l_node i (push a_node j s.nodes y) x) at_half by_half r)
      where
        some_push : (k : NodeKind) (i : ℕ) (b x : Nodes) → SomeNode (push k i b x)
        some_push k i b none = tt
        some_push k i b (node k' i' b' x) = tt

    shift_backs : (fs : List Frame) (s : State) → s.frames ≡ fs → kind_at row at ≡ ShiftRight → Backs fs s.nodes (at_shift at fs s)
    unfolding at_shift
    shift_backs [] s is e = subst (λ (fs : List Frame). Backs fs s.nodes (plain at s)) is (plain_backs s (omega arith))
    shift_backs (Named.group d i x ∷ outer) s is e = subst (λ (fs : List Frame). Backs fs s.nodes (plain at s)) is (plain_backs s (omega arith))
    shift_backs (Named.list i x y j ∷ outer) s is e =
        unless_backs (Named.list i x y j ∷ outer) s.nodes s.steps (second_half outer (closed i x y j outer s)) (second_backs i x y j outer s e)

    comma_backs : (fs : List Frame) (s : State) → s.frames ≡ fs → kind_at row at ≡ Comma → Backs fs s.nodes (Named.at_comma at fs s)
    unfolding Named.at_comma
    comma_backs [] s is e = subst (λ (fs : List Frame). Backs fs s.nodes (plain at s)) is (plain_backs s (omega arith))
    comma_backs (Named.group d i x ∷ outer) s is e = subst (λ (fs : List Frame). Backs fs s.nodes (plain at s)) is (plain_backs s (omega arith))
    comma_backs (Named.list i x y j ∷ outer) s is e =
        unless_backs (Named.list i x y j ∷ outer) s.nodes s.steps
        (on (record { frames = Named.list i x (push a_node j s.nodes y) (suc at) ∷ outer; nodes = none; steps = s.steps })) (λ q z r. comma_back z q e r)

    same_is : (d' d : Delimiter) → T (same d' d) → d' ≡ d
    unfolding same
    same_is Parenthesis Parenthesis t = refl
    same_is Parenthesis Bracket t = absurd t
    same_is Bracket Parenthesis t = absurd t
    same_is Bracket Bracket t = refl

    closer_backs : (d : Delimiter) {o c : ℕ} → Opens (node_of d) (region_of (Some d)) o c → kind_at row at ≡ c → (fs : List Frame) (s : State) → Backs fs s.nodes (at_closer d fs s)
    unfolding at_closer
    closer_backs d op e [] s = tt
    closer_backs d {o} {c} op e (Named.group d' i x ∷ outer) s =
        by_if (Backs (Named.group d' i x ∷ outer) s.nodes) (same d' d)
        (λ t z r. shut_back z {o = o} {c = c} (subst (λ (f : Delimiter). Opens (node_of f) (region_of (Some f)) o c) (sym (same_is d' d t)) op) e r) (λ _. tt)
    closer_backs d op e (Named.list i x y j ∷ outer) s = tt

    module _ (named : List Bool) (k : ℕ) (e : kind_at row at ≡ k) (s : State) where
      bracketless_backs : Plain k → Backs s.frames s.nodes (no_bracket named k at s)
      unfolding no_bracket
      bracketless_backs p =
          let P : Step → Type 0 = Backs s.frames s.nodes in
          let p' : Plain (kind_at row at) = subst Plain (sym e) p in
          by_if P (eqb k Less && after_name named at) (λ t. list_backs s (e ∙ eqb→eq k Less (and_yes (eqb k Less) (after_name named at) t).0)) λ _.
          by_if P (eqb k Greater) (λ t. greater_backs s.frames s refl (e ∙ eqb→eq k Greater t)) λ _.
          by_if P (eqb k ShiftRight) (λ t. shift_backs s.frames s refl (e ∙ eqb→eq k ShiftRight t)) λ _.
          by_if P (eqb k Comma) (λ t. comma_backs s.frames s refl (e ∙ eqb→eq k Comma t)) (λ _. plain_backs s p')

      token_backs : k ≢ NoToken → Backs s.frames s.nodes (take_token named k at s)
      unfolding take_token in_role role
      token_backs q =
          let P : Role → Type 0 = λ r. Backs s.frames s.nodes (in_role named r k at s) in
          by_if P (eqb k LeftParen) (λ t. group_backs Parenthesis s parens (e ∙ eqb→eq k LeftParen t)) λ a.
          by_if P (eqb k LeftBracket) (λ t. group_backs Bracket s brackets (e ∙ eqb→eq k LeftBracket t)) λ b.
          by_if P (eqb k RightParen) (λ t. closer_backs Parenthesis parens (e ∙ eqb→eq k RightParen t) s.frames s) λ _.
          by_if P (eqb k RightBracket) (λ t. closer_backs Bracket brackets (e ∙ eqb→eq k RightBracket t) s.frames s) λ _.
          bracketless_backs (record { inside = q; no_paren = neqb _ _ a; no_bracket = neqb _ _ b })

  -- ---- the whole row

  -- What is accepted from a state on: the rest of all that is open is derived.
  abbrev Accepts : List Frame → Nodes → (at : ℕ) → Got → Type 0
  Accepts fs b at (got x a h m) = Rest fs b at false x
  Accepts fs b at (bad e m) = Unit {0}

  ends_accepts : (at : ℕ) → kind_at row at ≡ NoToken → (fs : List Frame) (s : State) → Accepts fs s.nodes at (at_end at fs s)
  unfolding at_end
  ends_accepts at e [] s = rest_top (end_row e) (then_none s.nodes)
  ends_accepts at e (Named.group d i x ∷ outer) s = tt
  ends_accepts at e (Named.list i x y j ∷ outer) s = tt

  by_got : (fs fs' : List Frame) (b b' : Nodes) (at at' : ℕ) (g : Got) → ((x : Nodes) → Rest fs' b' at' false x → Rest fs b at false x) → Accepts fs' b' at' g → Accepts fs b at g
  by_got fs fs' b b' at at' (got x a h m) f r = f x r
  by_got fs fs' b b' at at' (bad e m) f r = tt

  go_accepts : (at : ℕ) (fs : List Frame) (b : Nodes) (t : Step) (rest : State → Got) → Backs at fs b t → ((s : State) → Accepts s.frames s.nodes (suc at) (rest s)) → Accepts fs b at (go_on t rest)
  unfolding go_on
  go_accepts at fs b (on s) rest f g = by_got fs s.frames b s.nodes at (suc at) (rest s) f (g s)
  go_accepts at fs b (stops e m) rest f g = tt

  module _ (named : List Bool) (known : (i : ℕ) → i < length row → kind_at row i < NoToken) where
    read_accepts : (ks : List ℕ) (at : ℕ) (s : State) → drop at row ≡ ks → Accepts s.frames s.nodes at (read_on named at ks s)
    unfolding read_on kind_at
    read_accepts [] at s e = ends_accepts at (get_or-eq_default row NoToken (dropped row at e)) s.frames s
    read_accepts (k ∷ ks) at s e =
        let there = first_of row at k ks e in
        go_accepts at s.frames s.nodes (take_token named k at s) (λ s'. read_on named (suc at) ks s')
        (token_backs at named k there.1 s (λ z. absurd (omega (arith, known at there.0, there.1, z))))
        (λ s'. read_accepts ks (suc at) s' there.2)

    -- Every tree that is read is derived.
    pub named_derived : {x : Nodes} {a : ℕ} {h : Bool} {m : ℕ} → named_reading named row ≡ got x a h m → RowDerived row no_lists x
    unfolding named_reading start ◌then◌
    named_derived {x} q = by (subst (Accepts [] none 0) q (read_accepts row 0 start refl))
      where
        by : Rest [] none 0 false x → RowDerived row no_lists x
        by (rest_top {a' = a'} {h' = h'} r e) = record { fewer = λ d. omega arith; at = a'; half = h'; derivation = subst (λ (y : Nodes). Derivation row no_lists top 0 0 0 false y a' h') e r }

-- ---- a tree is read to the row's end

abbrev EndsAt : (end : ℕ) → Got → Type 0
EndsAt end (got x a h m) = (a ≡ end) × (h ≡ false)
EndsAt end (bad e m) = Unit {0}

module _ (named : List Bool) where
  end_ends : (at end : ℕ) → at ≡ end → (fs : List Frame) (s : State) → EndsAt end (at_end at fs s)
  unfolding at_end
  end_ends at end p [] s = (p, refl)
  end_ends at end p (Named.group d i x ∷ outer) s = tt
  end_ends at end p (Named.list i x y j ∷ outer) s = tt

  go_ends : (end : ℕ) (t : Step) (rest : State → Got) → ((s : State) → EndsAt end (rest s)) → EndsAt end (go_on t rest)
  unfolding go_on
  go_ends end (on s) rest f = f s
  go_ends end (stops e m) rest f = tt

  read_ends : (ks : List ℕ) (at end : ℕ) → at + length ks ≡ end → (s : State) → EndsAt end (read_on named at ks s)
  unfolding read_on
  read_ends [] at end p s = end_ends at end (omega (arith, p)) s.frames s
  read_ends (k ∷ ks) at end p s = go_ends end (take_token named k at s) (λ s'. read_on named (suc at) ks s') (λ s'. read_ends ks (suc at) end (omega (arith, p)) s')

  pub read_whole : (row : List ℕ) {x : Nodes} {a : ℕ} {h : Bool} {m : ℕ} → named_reading named row ≡ got x a h m → (a ≡ length row) × (h ≡ false)
  unfolding named_reading
  read_whole row q = subst (EndsAt (length row)) q (read_ends row 0 (length row) (omega arith) start)
