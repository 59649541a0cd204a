-- Behind a prescan that passed, this reading refuses at a token or not at all, and only with 20, 26 or 27: no bracket is left to refuse, and no list is open
-- at the row's end. Its groups are the brackets that the prescan holds, and outside them it has at most the angles open that the prescan counts.
-- Assumes nothing.
use Rattle.std.specs.Prelude.{ℕ, suc, ◌-◌, ◌≤◌, ◌<◌, Bool, ◌&&◌, length, drop, ltb, if◌then◌else◌, Some}
use Rattle.std.proofs.Math.Path.{◌≡◌, refl, ap}
use Rattle.std.proofs.Common.{sym, ◌∙◌, subst, arith, T_not, eqb→eq}
use Rattle.std.proofs.Math.Bool.{true, false, not}
use mathlib.Core.List.{List, [], ◌∷◌}
use Rattle.std.proofs.Math.Facts.{and_yes}
use Rattle.std.proofs.Math.Dec.{T, leb, eqb, leb→le, nleb→lt}
use Rattle.rows.specs.Kinds.{Comma, Less, Greater, ShiftRight, End}
use Rattle.rows.specs.Languages.{Cpp}
use Rattle.rows.specs.Laws.Tests.{by_if}
use Rattle.rows.specs.declared.answer.Delimiter.{Delimiter}
use Rattle.rows.specs.declared.answer.TypeNameError.{TypeNameError}
use Rattle.rows.specs.declared.answer.TypeNameError.TheVariants.{UnexpectedClosingDelimiter, MismatchedClosingDelimiter, NestingLimitExceeded, ShiftWithoutList, EmptyOrUnclosedList, UnclosedAngle}
use Rattle.prescan.specs.Matcher.{Role, opens, closes, neither, role, same, Opener}
use Rattle.prescan.specs.Prescan.{Scan, Scanned, passed}
use Rattle.prescan.specs.Prescan as Scanning
use Rattle.reader.specs.Nodes.{Nodes, none, node}
use Rattle.reader.specs.Tables.{node_of}
use Rattle.reader.specs.Reading.{Got, got, bad, Fault, refusal, no_list, kind_at, MAX_NESTING_DEPTH}
use Rattle.reader.specs.Laws.Derived.{neqb}
use Rattle.named_reader.specs.NamedReading.{Frame, group, list, State, Step, on, stops, push, plain, begin, unless_empty, closed, at_greater, second_half, at_shift, at_comma, at_closer, after_name, no_bracket, in_role, take_token, at_end, go_on, read_on, start, named_reading}
use Rattle.named_reader.specs.Laws.Sound.{first_of}

-- The refusals of this reading behind the prescan: 20, 26 and 27.
pub data Refuses : TypeNameError → Type 0 where
  too_deep : Refuses NestingLimitExceeded
  alone : Refuses ShiftWithoutList
  empty_or_over : Refuses EmptyOrUnclosedList

-- ---- what a token does to what is open

-- After the token what is open has this property, or the token is refused with one of these.
abbrev Keeps : (List Frame → Type 0) → Step → Type 0
Keeps Q (on s) = Q s.frames
Keeps Q (stops e m) = Refuses e

begin_keeps : (Q : List Frame → Type 0) (f : Frame) (s : State) → Q (f ∷ s.frames) → Keeps Q (begin f s)
unfolding begin
begin_keeps Q f s q = by_if (Keeps Q) (ltb (length s.frames) MAX_NESTING_DEPTH) (λ _. q) (λ _. too_deep)

plain_keeps : (Q : List Frame → Type 0) (at : ℕ) (s : State) → Q s.frames → Keeps Q (plain at s)
unfolding plain
plain_keeps Q at s q = q

unless_keeps : (Q : List Frame → Type 0) (b : Nodes) (m : ℕ) (t : Step) → Keeps Q t → Keeps Q (unless_empty b m t)
unfolding unless_empty
unless_keeps Q none m t k = empty_or_over
unless_keeps Q (node k' i b x) m t k = k

-- Every frame is a list.
abbrev pub Lists : List Frame → Type 0
Lists [] = Unit {0}
Lists (group d i x ∷ outer) = ⊥
Lists (list i x y j ∷ outer) = Lists outer

-- The frames and what the prescan holds: the groups are its brackets, and where it holds none, the lists are at most its angles.
pub data Holds (angles : ℕ) : List Frame → List Opener → Type 0 where
  outside : {fs : List Frame} → length fs ≤ angles → Lists fs → Holds angles fs []
  in_list : {i j : ℕ} {x y : Nodes} {fs : List Frame} {o : Opener} {held : List Opener} → Holds angles fs (o ∷ held) → Holds angles (list i x y j ∷ fs) (o ∷ held)
  in_group : {d : Delimiter} {i : ℕ} {x : Nodes} {fs : List Frame} {o : Opener} {held : List Opener} → d ≡ o.delimiter → Holds angles fs held → Holds angles (group d i x ∷ fs) (o ∷ held)

-- ---- inside brackets

module _ (angles : ℕ) (o : Opener) (held : List Opener) where
  abbrev In : List Frame → Type 0
  In fs = Holds angles fs (o ∷ held)

  greater_in : (at : ℕ) (fs : List Frame) (s : State) → s.frames ≡ fs → In fs → Keeps In (at_greater at fs s)
  unfolding at_greater closed
  greater_in at [] s is h = plain_keeps In at s (subst In (sym is) h)
  greater_in at (group d i x ∷ outer) s is h = plain_keeps In at s (subst In (sym is) h)
  greater_in at (list i x y j ∷ outer) s is (in_list h) = unless_keeps In s.nodes s.steps (on (closed i x y j outer s)) h

  half_in : (fs : List Frame) (s : State) → In fs → Keeps In (second_half fs s)
  unfolding second_half closed
  half_in [] s h = alone
  half_in (group d i x ∷ outer) s h = alone
  half_in (list i x y j ∷ outer) s (in_list h) = h

  shift_in : (at : ℕ) (fs : List Frame) (s : State) → s.frames ≡ fs → In fs → Keeps In (at_shift at fs s)
  unfolding at_shift
  shift_in at [] s is h = plain_keeps In at s (subst In (sym is) h)
  shift_in at (group d i x ∷ outer) s is h = plain_keeps In at s (subst In (sym is) h)
  shift_in at (list i x y j ∷ outer) s is (in_list h) = unless_keeps In s.nodes s.steps (second_half outer (closed i x y j outer s)) (half_in outer (closed i x y j outer s) h)

  comma_in : (at : ℕ) (fs : List Frame) (s : State) → s.frames ≡ fs → In fs → Keeps In (at_comma at fs s)
  unfolding at_comma
  comma_in at [] s is h = plain_keeps In at s (subst In (sym is) h)
  comma_in at (group d i x ∷ outer) s is h = plain_keeps In at s (subst In (sym is) h)
  comma_in at (list i x y j ∷ outer) s is (in_list h) = unless_keeps In s.nodes s.steps _ (in_list h)

  token_in : (named : List Bool) (k at : ℕ) (s : State) → In s.frames → Keeps In (no_bracket named k at s)
  unfolding no_bracket
  token_in named k at s h =
      by_if (Keeps In) (eqb k Less && after_name named at) (λ _. begin_keeps In (list at s.nodes none (suc at)) s (in_list h)) λ _.
      by_if (Keeps In) (eqb k Greater) (λ _. greater_in at s.frames s refl h) λ _.
      by_if (Keeps In) (eqb k ShiftRight) (λ _. shift_in at s.frames s refl h) λ _.
      by_if (Keeps In) (eqb k Comma) (λ _. comma_in at s.frames s refl h) (λ _. plain_keeps In at s h)

-- ---- outside them

-- At most so many lists are open, and nothing else.
abbrev Open : ℕ → List Frame → Type 0
Open n fs = (length fs ≤ n) × Lists fs

greater_out : (n at : ℕ) (fs : List Frame) (s : State) → s.frames ≡ fs → Open (suc n) fs → Keeps (Open n) (at_greater at fs s)
unfolding at_greater closed plain
greater_out n at [] s is h = subst (Open n) (sym is) (omega arith, tt)
greater_out n at (group d i x ∷ outer) s is h = absurd h.1
greater_out n at (list i x y j ∷ outer) s is h = unless_keeps (Open n) s.nodes s.steps (on (closed i x y j outer s)) (omega (arith, h.0), h.1)

half_out : (n : ℕ) (fs : List Frame) (s : State) → Open (suc n) fs → Keeps (Open n) (second_half fs s)
unfolding second_half closed
half_out n [] s h = alone
half_out n (group d i x ∷ outer) s h = alone
half_out n (list i x y j ∷ outer) s h = (omega (arith, h.0), h.1)

shift_out : (n at : ℕ) (fs : List Frame) (s : State) → s.frames ≡ fs → Open (suc (suc n)) fs → Keeps (Open n) (at_shift at fs s)
unfolding at_shift plain
shift_out n at [] s is h = subst (Open n) (sym is) (omega arith, tt)
shift_out n at (group d i x ∷ outer) s is h = absurd h.1
shift_out n at (list i x y j ∷ outer) s is h =
    unless_keeps (Open n) s.nodes s.steps (second_half outer (closed i x y j outer s)) (half_out n outer (closed i x y j outer s) (omega (arith, h.0), h.1))

-- A `>>` with nothing open.
shift_none : (at : ℕ) (fs : List Frame) (s : State) → s.frames ≡ fs → Open 0 fs → Keeps (Open 0) (at_shift at fs s)
unfolding at_shift plain
shift_none at [] s is h = subst (Open 0) (sym is) (omega arith, tt)
shift_none at (group d i x ∷ outer) s is h = absurd h.1
shift_none at (list i x y j ∷ outer) s is h = absurd (omega (arith, h.0))

comma_out : (n at : ℕ) (fs : List Frame) (s : State) → s.frames ≡ fs → Open n fs → Keeps (Open n) (at_comma at fs s)
unfolding at_comma plain
comma_out n at [] s is h = subst (Open n) (sym is) (omega arith, tt)
comma_out n at (group d i x ∷ outer) s is h = absurd h.1
comma_out n at (list i x y j ∷ outer) s is h = unless_keeps (Open n) s.nodes s.steps _ h

-- ---- the prescan and the reading side by side

-- What the prescan comes to at a token, and what the reading does.
abbrev Beside : Scanned → Step → Type 0
Beside (Scanning.refused e) t = Unit {0}
Beside (passed s) t = Keeps (λ fs. Holds s.angle_depth fs s.open_brackets) t

keeps_open : (n : ℕ) (t : Step) → Keeps (Open n) t → Keeps (λ fs. Holds n fs []) t
keeps_open n (on s) h = outside h.0 h.1
keeps_open n (stops e m) r = r

-- The second test fails where both do not hold and the first does.
rest_not : (b c : Bool) → T b → T (not (b && c)) → T (not c)
rest_not true c t n = n
rest_not false c t n = absurd t

module _ (named : List Bool) (k at n : ℕ) (s : State) (h : Open n s.frames) where
  less_out : k ≡ Less → Keeps (Open (suc n)) (no_bracket named k at s)
  unfolding no_bracket
  less_out e =
      rw e
      (by_if (Keeps (Open (suc n))) (after_name named at) (λ _. begin_keeps (Open (suc n)) (list at s.nodes none (suc at)) s (omega (arith, h.0), h.1))
      (λ _. plain_keeps (Open (suc n)) at s (omega (arith, h.0), h.1)))

  closer_out : (m : ℕ) → k ≡ Greater → n ≡ suc m → Keeps (Open m) (no_bracket named k at s)
  unfolding no_bracket
  closer_out m e q = rw e (greater_out m at s.frames s refl (omega (arith, h.0, q), h.1))

  two_out : (m : ℕ) → k ≡ ShiftRight → n ≡ suc (suc m) → Keeps (Open m) (no_bracket named k at s)
  unfolding no_bracket
  two_out m e q = rw e (shift_out m at s.frames s refl (omega (arith, h.0, q), h.1))

  none_out : (fs : List Frame) → s.frames ≡ fs → n ≡ 0 → Keeps (Open n) (at_shift at s.frames s)
  none_out fs is q = rw q (shift_none at s.frames s refl (omega (arith, h.0, q), h.1))

  others_out : T (not (eqb k Less)) → T (not (eqb k Greater)) → T (not (eqb k ShiftRight && eqb n 1)) → T (not (eqb k ShiftRight && leb 2 n)) → Keeps (Open n) (no_bracket named k at s)
  unfolding no_bracket
  others_out l g y w =
      by_if (Keeps (Open n)) (eqb k Less && after_name named at) (λ t. absurd (T_not (eqb k Less) l (and_yes (eqb k Less) (after_name named at) t).0)) λ _.
      by_if (Keeps (Open n)) (eqb k Greater) (λ t. absurd (T_not (eqb k Greater) g t)) λ _.
      by_if (Keeps (Open n)) (eqb k ShiftRight)
      (λ t. none_out s.frames refl (omega (arith, neqb n 1 (rest_not (eqb k ShiftRight) (eqb n 1) t y), nleb→lt 2 n (rest_not (eqb k ShiftRight) (leb 2 n) t w)))) λ _.
      by_if (Keeps (Open n)) (eqb k Comma) (λ _. comma_out n at s.frames s refl h) (λ _. plain_keeps (Open n) at s h)

module _ (named : List Bool) (k at : ℕ) (c : Scan) (s : State) where
  outside_beside : Open c.angle_depth s.frames → Beside (Scanning.outside_brackets Cpp k at c) (no_bracket named k at s)
  unfolding Scanning.outside_brackets Scanning.past
  outside_beside h =
      let d = c.angle_depth in
      let P : Scanned → Type 0 = λ r. Beside r (no_bracket named k at s) in
      by_if P (eqb k Less && not (Scanning.opens_angle Cpp c.last)) (λ _. tt) λ _.
      by_if P (eqb k Less) (λ e. keeps_open (suc d) (no_bracket named k at s) (less_out named k at d s h (eqb→eq k Less e))) λ l.
      by_if P (eqb k Greater && eqb d 0) (λ _. tt) λ z.
      by_if P (eqb k Greater)
      (λ e. keeps_open (d - 1) (no_bracket named k at s) (closer_out named k at d s h (d - 1) (eqb→eq k Greater e) (omega (arith, neqb d 0 (rest_not (eqb k Greater) (eqb d 0) e z))))) λ g.
      by_if P (eqb k ShiftRight && eqb d 1) (λ _. tt) λ y.
      by_if P (eqb k ShiftRight && leb 2 d)
      (λ e.
      let both = and_yes (eqb k ShiftRight) (leb 2 d) e in
      keeps_open (d - 2) (no_bracket named k at s) (two_out named k at d s h (d - 2) (eqb→eq k ShiftRight both.0) (omega (arith, leb→le 2 d both.1)))) λ w.
      by_if P (eqb k Comma && eqb d 0) (λ _. tt) λ _. keeps_open d (no_bracket named k at s) (others_out named k at d s h l g y w)

  bracketless_beside : (held : List Opener) (fs : List Frame) → s.frames ≡ fs → Holds c.angle_depth fs held → Beside (Scanning.no_bracket Cpp k at held c) (no_bracket named k at s)
  unfolding Scanning.no_bracket Scanning.past
  bracketless_beside [] fs is (outside n l) = outside_beside (subst (Open c.angle_depth) (sym is) (n, l))
  bracketless_beside (o ∷ held) fs is h = token_in c.angle_depth o held named k at s (subst (λ (fs : List Frame). Holds c.angle_depth fs (o ∷ held)) (sym is) h)

  closer_beside : (d : Delimiter) (fs : List Frame) (held : List Opener) → Holds c.angle_depth fs held → Beside (Scanning.close d k at held c) (at_closer d fs s)
  unfolding Scanning.close Scanning.past at_closer
  closer_beside d fs [] h = tt
  closer_beside d (list i x y j ∷ outer) (o ∷ held) (in_list h) = by_if (λ r. Beside r (stops EmptyOrUnclosedList s.steps)) (same o.delimiter d) (λ _. empty_or_over) (λ _. tt)
  closer_beside d (group d' i x ∷ outer) (o ∷ held) (in_group e h) = rw e (both (same o.delimiter d))
    where
      both : (b : Bool)
          → Beside (if b then passed (Scanning.past k c held c.angle_depth c.first_angle) else Scanning.refused (UnexpectedClosingDelimiter (Some o.delimiter) d at))
          (if b then on (record { frames = outer; nodes = push (node_of o.delimiter) i s.nodes x; steps = s.steps }) else stops MismatchedClosingDelimiter s.steps)
      both true = h
      both false = tt
  closer_beside d [] (o ∷ held) h = elim h [ ]

  role_beside : (r : Role) → Holds c.angle_depth s.frames c.open_brackets → Beside (Scanning.in_role Cpp r k at c) (in_role named r k at s)
  unfolding Scanning.in_role Scanning.past in_role
  role_beside (opens d) h = begin_keeps (λ fs. Holds c.angle_depth fs (record { delimiter = d; token = at } ∷ c.open_brackets)) (group d at s.nodes) s (in_group refl h)
  role_beside (closes d) h = closer_beside d s.frames c.open_brackets h
  role_beside neither h = by_if (λ r. Beside r (no_bracket named k at s)) (eqb k End) (λ _. tt) (λ _. bracketless_beside c.open_brackets s.frames refl h)

-- ---- the whole row

-- A prescan that has refused stays so.
refused_stays : (at : ℕ) (ks : List ℕ) (e : TypeNameError) → Scanning.scan Cpp at ks (Scanning.refused e) ≡ Scanning.refused e
unfolding Scanning.scan Scanning.take_token
refused_stays at [] e = refl
refused_stays at (k ∷ ks) e = refused_stays (suc at) ks e

-- The reading was refused at a token: there, and not at the row's end.
pub record RefusedAt (named : List Bool) (row : List ℕ) (e : TypeNameError) (m : ℕ) : Type 0 where
  pub token : ℕ
  pub inside : token < length row
  pub state : State
  pub reached : named_reading named row ≡ read_on named token (drop token row) state
  pub refused_there : take_token named (kind_at row token) token state ≡ stops e m
  pub number : Refuses e

module _ (named : List Bool) (row : List ℕ) where
  abbrev Right : Got → Type 0
  Right (got x a h m) = Unit {0}
  Right (bad (refusal e) m) = RefusedAt named row e m
  Right (bad no_list m) = ⊥

  -- At the row's end nothing is open.
  ends_right : (c z : Scan) → Scanning.at_row_end Cpp row (passed c) ≡ passed z → (at : ℕ) (s : State) (fs : List Frame) → Holds c.angle_depth fs c.open_brackets
      → Right (at_end at fs s)
  unfolding Scanning.at_row_end Scanning.row_end at_end
  ends_right c z p at s fs h = by c.open_brackets fs h p
    where
      clear : (b : Bool) (t : Scanned) → (if not b then Scanning.refused (UnclosedAngle c.first_angle) else t) ≡ passed z → T b
      clear true t q = tt
      clear false t q = let w : ◌≡◌ {A = ℕ} 0 1 = cc in absurd (omega arith)

      by : (held : List Opener) (fs : List Frame) → Holds c.angle_depth fs held → Scanning.row_end Cpp row held c ≡ passed z → Right (at_end at fs s)
      by [] [] h q = tt
      by [] (f ∷ fs) (outside n l) q = absurd (omega (arith, n, eqb→eq c.angle_depth 0 (clear (eqb c.angle_depth 0) _ q)))
      by (o ∷ held) fs h q = let w : ◌≡◌ {A = ℕ} 0 1 = cc in absurd (omega arith)

  module _ (z : Scan) where
    -- One token, given what comes of the rest.
    step_right : (k : ℕ) (ks : List ℕ) (at : ℕ) (s : State) → drop at row ≡ k ∷ ks → named_reading named row ≡ read_on named at (k ∷ ks) s
        → (d : Scanned) (t : Step) → take_token named k at s ≡ t → Beside d t → Scanning.at_row_end Cpp row (Scanning.scan Cpp (suc at) ks d) ≡ passed z
        → ((c : Scan) (s' : State) → d ≡ passed c → t ≡ on s' → Holds c.angle_depth s'.frames c.open_brackets → Right (read_on named (suc at) ks s'))
        → Right (go_on t (λ s'. read_on named (suc at) ks s'))
    unfolding go_on Scanning.at_row_end
    step_right k ks at s e r (Scanning.refused f) t q b p rest =
        let stays : Scanning.at_row_end Cpp row (Scanning.refused f) ≡ passed z = ap (Scanning.at_row_end Cpp row) (sym (refused_stays (suc at) ks f)) ∙ p in
        let w : ◌≡◌ {A = ℕ} 0 1 = cc in absurd (omega arith)
    step_right k ks at s e r (passed c) (on s') q b p rest = rest c s' refl refl b
    step_right k ks at s e r (passed c) (stops f m) q b p rest =
        let there = first_of row at k ks e in
        record {
          token = at;
          inside = there.0;
          state = s;
          reached = r ∙ ap (λ (l : List ℕ). read_on named at l s) (sym e);
          refused_there = ap (λ (j : ℕ). take_token named j at s) there.1 ∙ q;
          number = b;
        }

    read_right : (ks : List ℕ) (at : ℕ) (c : Scan) (s : State) → drop at row ≡ ks → named_reading named row ≡ read_on named at ks s
        → Holds c.angle_depth s.frames c.open_brackets → Scanning.at_row_end Cpp row (Scanning.scan Cpp at ks (passed c)) ≡ passed z → Right (read_on named at ks s)
    unfolding read_on Scanning.scan Scanning.take_token go_on take_token
    read_right [] at c s e r h p = ends_right c z p at s s.frames h
    read_right (k ∷ ks) at c s e r h p =
        step_right k ks at s e r (Scanning.in_role Cpp (role k) k at c) (take_token named k at s) refl (role_beside named k at c s (role k) h) p
        (λ c' s' d t b. read_right ks (suc at) c' s' (first_of row at k ks e).2 (r ∙ ap (λ (u : Step). go_on u (λ s''. read_on named (suc at) ks s'')) t) b
        (ap (λ (u : Scanned). Scanning.at_row_end Cpp row (Scanning.scan Cpp (suc at) ks u)) (sym d) ∙ p))

-- Behind the prescan every refusal of the reading is given at a token, and is 20, 26 or 27.
pub refused_at : (named : List Bool) (row : List ℕ) (z : Scan) → Scanning.prescan Cpp row ≡ passed z → (e : Fault) (m : ℕ) → named_reading named row ≡ bad e m
    → Right named row (bad e m)
unfolding Scanning.prescan Scanning.start named_reading start
refused_at named [] z p e m q = let w : ◌≡◌ {A = ℕ} 0 1 = cc in absurd (omega arith)
refused_at named (k ∷ ks) z p e m q =
    subst (Right named (k ∷ ks)) q (read_right named (k ∷ ks) z (k ∷ ks) 0 Scanning.start start refl refl (outside (omega arith) tt) p)
