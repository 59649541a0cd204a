-- The row token by token: what the loop of the code keeps, and what it comes to.
-- Assumes nothing.
use Prim.Native.Nat.{ℕ, suc, ◌+◌, ◌*◌, ◌-◌, ◌≤◌, ◌<◌}
use Rattle.std.specs.Prelude.{◌≡◌, ◌≢◌, Bool, true, false, ◌&&◌, get_or, drop, ltb, eqb, Result, Ok, Err}
use Rattle.std.proofs.Math.Path.{refl, ap, subst}
use Rattle.std.proofs.Common.{sym, ◌∙◌, true≢false, drop_of_length-le, drop-cons}
use Rattle.std.proofs.Math.Logic.{inl}
use mathlib.Core.List.{List, [], ◌∷◌}
use native.Mathlib.Omega.{arith}
use Rattle.std.proofs.Math.ListN.{length}
use Rattle.rows.specs.Kinds.{Comma, Less, Greater, ShiftRight}
use Rattle.rows.specs.Laws.Tests.{by_if}
use Rattle.rows.specs.declared.answer.Delimiter.{Delimiter}
use Rattle.rows.specs.declared.answer.TypeNameError.{TypeNameError}
use Rattle.rows.specs.declared.answer.TypeNameError.TheVariants.{UnterminatedGroup, EmptyOrUnclosedList}
use Rattle.prescan.specs.Matcher.{Role, opens, closes, neither, role, same}
use Rattle.reader.specs.Nodes.{Nodes, none, node, count, records}
use Rattle.reader.specs.Reading.{Got, got, bad, MAX_NESTING_DEPTH}
use Rattle.reader.specs.Allowance as Allowance
use Rattle.reader.specs.ReaderSays.{ParseSays, Parses}
use Rattle.reader.specs.declared.parser.Tree.{Tree}
use Rattle.reader.specs.declared.parser.ParseError.{ParseError}
use Rattle.named_reader.specs.NamedReading.{Frame, group, list, State, Step, on, stops, plain, begin, unless_empty, closed, at_greater, second_half, at_shift, at_comma, at_closer, no_bracket, after_name, in_role, take_token, at_end, go_on, read_on, start, named_reading}
use Rattle.named_reader.specs.NamedSays.{begun, link, open_records, Stands, list_innermost, InList, Comes, Does, Grows, EndSays, Ends}
use Rattle.named_reader.specs.declared.frames.NamedReader.{NamedReader}
use Rattle.reader.specs.declared.parser.Stop.{Stop}
use Rattle.named_reader.specs.Laws.Moves.{moved}

-- ---- no token takes a step back

abbrev pub step_steps : Step → ℕ
step_steps (on s) = s.steps
step_steps (stops e m) = m

-- At most one step is taken at a token.
pub record Paced (m : ℕ) (t : Step) : Type 0 where
  pub no_less : m ≤ step_steps t
  pub one_more : step_steps t ≤ suc m

plain_paced : (at : ℕ) (s : State) → Paced s.steps (plain at s)
unfolding plain
plain_paced at s = record { no_less = omega arith; one_more = omega arith }

begin_paced : (f : Frame) (s : State) → Paced s.steps (begin f s)
unfolding begin
begin_paced f s = by_if (Paced s.steps) (ltb (length s.frames) MAX_NESTING_DEPTH) (λ _. record { no_less = omega arith; one_more = omega arith }) (λ _. record { no_less = omega arith; one_more = omega arith })

still : (m : ℕ) (t : Step) → step_steps t ≡ m → Paced m t
still m t e = record { no_less = omega (arith, e); one_more = omega (arith, e) }

unless_paced : (b : Nodes) (m : ℕ) (t : Step) → step_steps t ≡ m → Paced m (unless_empty b m t)
unfolding unless_empty
unless_paced none m t e = still m _ refl
unless_paced (node k i b x) m t e = still m t e

second_still : (fs : List Frame) (s : State) → step_steps (second_half fs s) ≡ s.steps
unfolding second_half closed
second_still [] s = refl
second_still (group d i x ∷ outer) s = refl
second_still (list i x y j ∷ outer) s = refl

greater_paced : (at : ℕ) (fs : List Frame) (s : State) → Paced s.steps (at_greater at fs s)
unfolding at_greater closed
greater_paced at [] s = plain_paced at s
greater_paced at (group d i x ∷ outer) s = plain_paced at s
greater_paced at (list i x y j ∷ outer) s = unless_paced s.nodes s.steps _ refl

shift_paced : (at : ℕ) (fs : List Frame) (s : State) → Paced s.steps (at_shift at fs s)
unfolding at_shift closed
shift_paced at [] s = plain_paced at s
shift_paced at (group d i x ∷ outer) s = plain_paced at s
shift_paced at (list i x y j ∷ outer) s = unless_paced s.nodes s.steps _ (second_still outer (closed i x y j outer s))

comma_paced : (at : ℕ) (fs : List Frame) (s : State) → Paced s.steps (at_comma at fs s)
unfolding at_comma
comma_paced at [] s = plain_paced at s
comma_paced at (group d i x ∷ outer) s = plain_paced at s
comma_paced at (list i x y j ∷ outer) s = unless_paced s.nodes s.steps _ refl

closer_paced : (d : Delimiter) (fs : List Frame) (s : State) → Paced s.steps (at_closer d fs s)
unfolding at_closer
closer_paced d [] s = still s.steps _ refl
closer_paced d (group d' i x ∷ outer) s = by_if (Paced s.steps) (same d' d) (λ _. still s.steps _ refl) (λ _. still s.steps _ refl)
closer_paced d (list i x y j ∷ outer) s = still s.steps _ refl

module _ (named : List Bool) where
  bracketless_paced : (k at : ℕ) (s : State) → Paced s.steps (no_bracket named k at s)
  unfolding no_bracket
  bracketless_paced k at s =
      let P : Step → Type 0 = Paced s.steps in
      by_if P (eqb k Less && after_name named at) (λ _. begin_paced (list at s.nodes none (suc at)) s) λ _.
      by_if P (eqb k Greater) (λ _. greater_paced at s.frames s) λ _.
      by_if P (eqb k ShiftRight) (λ _. shift_paced at s.frames s) λ _.
      by_if P (eqb k Comma) (λ _. comma_paced at s.frames s) (λ _. plain_paced at s)

  role_paced : (r : Role) (k at : ℕ) (s : State) → Paced s.steps (in_role named r k at s)
  unfolding in_role
  role_paced (opens d) k at s = begin_paced (group d at s.nodes) s
  role_paced (closes d) k at s = closer_paced d s.frames s
  role_paced neither k at s = bracketless_paced k at s

  pub token_paced : (k at : ℕ) (s : State) → Paced s.steps (take_token named k at s)
  unfolding take_token
  token_paced k at s = role_paced (role k) k at s

  end_steps : (at : ℕ) (fs : List Frame) (s : State) → Allowance.steps (at_end at fs s) ≡ s.steps
  unfolding at_end Allowance.steps
  end_steps at [] s = refl
  end_steps at (group d i x ∷ outer) s = refl
  end_steps at (list i x y j ∷ outer) s = refl

  -- The reading from a state on takes no step back, and at most one for each token.
  pub record ReadPaced (m n : ℕ) (g : Got) : Type 0 where
    pub no_less : m ≤ Allowance.steps g
    pub at_most : Allowance.steps g ≤ m + n

  go_paced : (m n : ℕ) (t : Step) (rest : State → Got) → Paced m t → ((s : State) → ReadPaced s.steps n (rest s)) → ReadPaced m (suc n) (go_on t rest)
  unfolding go_on Allowance.steps
  go_paced m n (on s) rest p f = record { no_less = omega (arith, (f s).no_less, p.no_less); at_most = omega (arith, (f s).at_most, p.one_more) }
  go_paced m n (stops e k) rest p f = record { no_less = omega (arith, p.no_less); at_most = omega (arith, p.one_more) }

  pub read_paced : (at : ℕ) (ks : List ℕ) (s : State) → ReadPaced s.steps (length ks) (read_on named at ks s)
  unfolding read_on
  read_paced at [] s = record { no_less = omega (arith, end_steps at s.frames s); at_most = omega (arith, end_steps at s.frames s) }
  read_paced at (k ∷ ks) s = go_paced s.steps (length ks) (take_token named k at s) (λ s'. read_on named (suc at) ks s') (token_paced k at s) (λ s'. read_paced (suc at) ks s')

-- ---- the row's end

pub ends_read : {tree : List ℕ} {r : NamedReader} (allowance steps : ℕ) → steps ≡ allowance - r.left → r.inner ≡ 0 → Ends tree r allowance (Ok (record { nodes = r.nodes; steps = steps }))
unfolding at_end link begun open_records
ends_read {tree} {r} allowance steps e q = record { says = λ s st c at. by s st c at s.frames refl }
  where
    by : (s : State) → Stands tree r s → s.steps + r.left ≡ allowance → (at : ℕ) (fs : List Frame) → s.frames ≡ fs → EndSays allowance tree (at_end at fs s) (Ok (record { nodes = r.nodes; steps = steps }))
    by s st c at [] is = (omega (arith, e, c), sym (st.nodes_begun ∙ ap (λ (fs : List Frame). begun fs s.nodes) is), st.written ∙ ap (λ (fs : List Frame). open_records fs s.nodes) is)
    by s st c at (group d i x ∷ outer) is = absurd (omega (arith, q, st.linked ∙ ap link is))
    by s st c at (list i x y j ∷ outer) is = absurd (omega (arith, q, st.linked ∙ ap link is))

pub ends_list : {tree : List ℕ} {r : NamedReader} {b : Bool} (allowance steps : ℕ) → steps ≡ allowance - r.left → b ≡ true → InList tree r b
    → Ends tree r allowance (Err (ParseError.Refused EmptyOrUnclosedList steps))
unfolding at_end list_innermost
ends_list {tree} {r} allowance steps e eb l = record { says = λ s st c at. by s c at s.frames (sym eb ∙ l.says s st) }
  where
    by : (s : State) → s.steps + r.left ≡ allowance → (at : ℕ) (fs : List Frame) → true ≡ list_innermost fs → EndSays allowance tree (at_end at fs s) (Err (ParseError.Refused EmptyOrUnclosedList steps))
    by s c at [] q = absurd (true≢false q)
    by s c at (group d i x ∷ outer) q = absurd (true≢false q)
    by s c at (list i x y j ∷ outer) q = (refl, omega (arith, e, c))

pub ends_group : {tree : List ℕ} {r : NamedReader} {b : Bool} (allowance steps : ℕ) → steps ≡ allowance - r.left → r.inner ≢ 0 → b ≡ false → InList tree r b
    → Ends tree r allowance (Err (ParseError.Refused UnterminatedGroup steps))
unfolding at_end list_innermost link
ends_group {tree} {r} allowance steps e n eb l = record { says = λ s st c at. by s st c at s.frames refl (sym eb ∙ l.says s st) }
  where
    by : (s : State) → Stands tree r s → s.steps + r.left ≡ allowance → (at : ℕ) (fs : List Frame) → s.frames ≡ fs → false ≡ list_innermost s.frames
        → EndSays allowance tree (at_end at fs s) (Err (ParseError.Refused UnterminatedGroup steps))
    by s st c at [] is q = absurd (n (st.linked ∙ ap link is))
    by s st c at (group d i x ∷ outer) is q = (refl, omega (arith, e, c))
    by s st c at (list i x y j ∷ outer) is q = absurd (true≢false (sym (ap list_innermost is) ∙ sym q))

-- ---- the loop

-- The definition's state before token `at`.
pub record Loop (kinds : List ℕ) (named : List Bool) (allowance : ℕ) (tree₀ tree : List ℕ) (r : NamedReader) (at : ℕ) : Type 0 where
  pub inside : at ≤ length kinds
  pub long : length tree ≡ length tree₀
  pub few : r.nodes ≤ 2 * at
  pub state : State
  pub stands : Stands tree r state
  pub counted : state.steps + r.left ≡ allowance
  pub is : named_reading named kinds ≡ read_on named at (drop at kinds) state

pub loop_starts : (kinds : List ℕ) (named : List Bool) (allowance : ℕ) (tree : List ℕ) → Loop kinds named allowance tree tree (moved 0 0 0 allowance) 0
unfolding named_reading start begun link open_records count records
loop_starts kinds named allowance tree = record {
  inside = omega arith;
  long = refl;
  few = omega arith;
  state = start;
  stands = record { nodes_begun = refl; linked = refl; nested = refl; written = refl };
  counted = omega arith;
  is = refl;
}

module _ {kinds : List ℕ} {named : List Bool} {allowance : ℕ} {tree₀ tree : List ℕ} {r : NamedReader} {at : ℕ} (lp : Loop kinds named allowance tree₀ tree r at) where
  -- What is due at the token.
  due : at < length kinds → named_reading named kinds ≡ go_on (take_token named (get_or kinds at 0) at lp.state) (λ s. read_on named (suc at) (drop (suc at) kinds) s)
  unfolding read_on
  due h = lp.is ∙ ap (λ (ks : List ℕ). read_on named at ks lp.state) (drop-cons kinds at 0 h)

  module _ {after : List ℕ} {done : Result NamedReader Stop} (h : at < length kinds) (d : Does tree r after done (take_token named (get_or kinds at 0) at)) where
    abbrev came : Comes (lp.state.steps + r.left) after (take_token named (get_or kinds at 0) at lp.state) done
    came = d.says lp.state lp.stands

    -- On with the next token,
    pub loop_on : {next : NamedReader} → done ≡ Ok next → length after ≡ length tree → Loop kinds named allowance tree₀ after next (at + 1)
    unfolding go_on
    loop_on {next} e long =
        by (take_token named (get_or kinds at 0) at lp.state) refl (subst (λ (t : Result NamedReader Stop). Comes (lp.state.steps + r.left) after (take_token named (get_or kinds at 0) at lp.state) t) e came)
      where
        by : (t : Step) → take_token named (get_or kinds at 0) at lp.state ≡ t
            → Comes (lp.state.steps + r.left) after (take_token named (get_or kinds at 0) at lp.state) (Ok next) → Loop kinds named allowance tree₀ after next (at + 1)
        by (stops f m) q c = absurd (subst (λ (t : Step). Comes (lp.state.steps + r.left) after t (Ok next)) q c)
        by (on s) q c =
            let told : Stands after next s × (s.steps + next.left ≡ lp.state.steps + r.left) = subst (λ (t : Step). Comes (lp.state.steps + r.left) after t (Ok next)) q c in
            let grew : next.nodes ≤ r.nodes + 2 = subst (Grows r.nodes) e d.grown in
            let one : at + 1 ≡ suc at = omega arith in
            record {
              inside = omega (arith, h);
              long = omega (arith, long, lp.long);
              few = omega (arith, lp.few, grew);
              state = s;
              stands = told.0;
              counted = omega (arith, told.1, lp.counted);
              is = due h ∙ rw (q, one) refl;
            }

    -- a refusal, for which there were steps,
    pub loop_refused : {e : TypeNameError} {left : ℕ} {tree' : List ℕ} (steps : ℕ) → done ≡ Err (Stop.Refused e left) → steps ≡ allowance - left
        → Parses kinds allowance (named_reading named kinds) (Err (ParseError.Refused e steps)) tree'
    unfolding go_on
    loop_refused {e} {left} {tree'} steps q es =
        by (take_token named (get_or kinds at 0) at lp.state) refl (subst (λ (t : Result NamedReader Stop). Comes (lp.state.steps + r.left) after (take_token named (get_or kinds at 0) at lp.state) t) q came)
      where
        by : (t : Step) → take_token named (get_or kinds at 0) at lp.state ≡ t
            → Comes (lp.state.steps + r.left) after (take_token named (get_or kinds at 0) at lp.state) (Err (Stop.Refused e left))
            → Parses kinds allowance (named_reading named kinds) (Err (ParseError.Refused e steps)) tree'
        by (on s) p c = absurd (subst (λ (t : Step). Comes (lp.state.steps + r.left) after t (Err (Stop.Refused e left))) p c)
        by (stops f m) p c =
            let told : (f ≡ e) × (m + left ≡ lp.state.steps + r.left) = subst (λ (t : Step). Comes (lp.state.steps + r.left) after t (Err (Stop.Refused e left))) p c in
            let same : steps ≡ m = omega (arith, es, told.1, lp.counted) in
            record { says = (omega (arith, es, lp.counted, told.1), inl (due h ∙ rw (p, told.0, same) refl)) }

    -- or no step is left.
    pub loop_spent : {tree' : List ℕ} → done ≡ Err Stop.Spent → Parses kinds allowance (named_reading named kinds) (Err ParseError.AllowancePassed) tree'
    unfolding go_on Allowance.steps
    loop_spent q =
        record { says = by (take_token named (get_or kinds at 0) at lp.state) refl (subst (λ (t : Result NamedReader Stop). Comes (lp.state.steps + r.left) after (take_token named (get_or kinds at 0) at lp.state) t) q came) }
      where
        by : (t : Step) → take_token named (get_or kinds at 0) at lp.state ≡ t
            → Comes (lp.state.steps + r.left) after (take_token named (get_or kinds at 0) at lp.state) (Err Stop.Spent) → allowance < Allowance.steps (named_reading named kinds)
        by (on s) p c =
            let told : lp.state.steps + r.left < s.steps = subst (λ (t : Step). Comes (lp.state.steps + r.left) after t (Err Stop.Spent)) p c in
            rw (due h, p) (omega (arith, told, lp.counted, (read_paced named (suc at) (drop (suc at) kinds) s).no_less))
        by (stops f m) p c =
            let told : lp.state.steps + r.left < m = subst (λ (t : Step). Comes (lp.state.steps + r.left) after t (Err Stop.Spent)) p c in
            rw (due h, p) (omega (arith, told, lp.counted))

  -- Every token has been taken.
  pub loop_ends : {p : Result Tree ParseError} → length kinds ≤ at → Ends tree r allowance p → Parses kinds allowance (named_reading named kinds) p tree
  unfolding read_on Allowance.steps at_end
  loop_ends {p} h d =
      let all : at ≡ length kinds = omega (arith, h, lp.inside) in
      let g : named_reading named kinds ≡ at_end at lp.state.frames lp.state = lp.is ∙ ap (λ (ks : List ℕ). read_on named at ks lp.state) (drop_of_length-le kinds h) in
      record {
        says = subst (λ (g : Got). ParseSays kinds allowance g p tree) (sym g)
            (end_says (at_end at lp.state.frames lp.state) p (whole at lp.state.frames lp.state all) (omega (arith, lp.counted, end_steps named at lp.state.frames lp.state)) (d.says lp.state lp.stands lp.counted at));
      }
    where
      Whole : Got → Type 0
      Whole (got x at half m) = (at ≡ length kinds) × (half ≡ false)
      Whole (bad e m) = Unit {0}

      whole : (at : ℕ) (fs : List Frame) (s : State) → at ≡ length kinds → Whole (at_end at fs s)
      whole at [] s e = (e, refl)
      whole at (group d i x ∷ outer) s e = tt
      whole at (list i x y j ∷ outer) s e = tt

      end_says : (g : Got) (p : Result Tree ParseError) → Whole g → Allowance.steps g ≤ allowance → EndSays allowance tree g p → ParseSays kinds allowance g p tree
      end_says (got x at half m) (Ok t) w c q = record { nodes = x; is = rw (w.0, w.1, q.0) refl; allowed = omega (arith, c, q.0); counted = q.1; written = q.2 }
      end_says (got x at half m) (Err (ParseError.Refused e k)) w c q = absurd q
      end_says (got x at half m) (Err ParseError.AllowancePassed) w c q = absurd q
      end_says (bad f m) (Ok t) w c q = absurd q
      end_says (bad f m) (Err (ParseError.Refused e k)) w c q = (omega (arith, c, q.1), inl (rw (q.0, q.1) refl))
      end_says (bad f m) (Err ParseError.AllowancePassed) w c q = absurd q
