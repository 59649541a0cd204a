-- What the functions of single tokens say, of whichever state the code's state and buffer are.
-- Assumes nothing.
use Prim.Native.Nat.{ℕ, suc, ◌+◌, ◌*◌, ◌-◌}
use Rattle.std.specs.Prelude.{◌≡◌, ◌≢◌, Bool, false, eqb, Result, Ok, Err}
use Rattle.std.proofs.Math.Path.{refl, sym, ap, subst}
use Rattle.std.proofs.Common.{◌∙◌, true≢false, arith}
use Rattle.std.proofs.Math.Bool.{true}
use mathlib.Core.List.{List, [], ◌∷◌}
use borrow.Author.Tests.{eq-eqb, ne_eqb}
use Rattle.std.proofs.Math.ListN.{get_or}
use Rattle.rows.specs.declared.answer.Delimiter.{Delimiter}
use Rattle.rows.specs.declared.answer.Delimiter.TheVariants.{Parenthesis, Bracket}
use Rattle.rows.specs.declared.answer.TypeNameError.TheVariants.{MismatchedClosingDelimiter, ShiftWithoutList, EmptyOrUnclosedList}
use Rattle.prescan.specs.Matcher.{same}
use Rattle.reader.specs.Nodes.{a_node, number, Nodes, none, node, count, node_width}
use Rattle.reader.specs.Tables.{node_of}
use Rattle.named_reader.specs.NamedReading.{Frame, group, list, State, Step, on, stops, plain, unless_empty, closed, at_greater, second_half, at_shift, at_comma, at_closer}
use Rattle.named_reader.specs.NamedSays.{begun, link, Stands, Held, HeldList, HeldGroup, list_innermost, InList, Comes, Does, innermost_closed, argument_ended, group_closed, Moves}
use Rattle.named_reader.specs.declared.frames.NamedReader.{NamedReader}
use Rattle.reader.specs.declared.parser.Stop.{Stop}
use Rattle.named_reader.specs.Laws.Moves.{many, list_inner, group_inner, group_kind, argument_kind, group_no_argument}

-- ---- what is open innermost

module _ {tree : List ℕ} {r : NamedReader} where
  -- A list is, in the state that is held.
  pub held_list : Held tree r → InList tree r true → HeldList tree r
  unfolding list_innermost
  held_list h l = by h.state.frames refl (l.says h.state h.stands)
    where
      by : (fs : List Frame) → h.state.frames ≡ fs → true ≡ list_innermost h.state.frames → HeldList tree r
      by [] is q = absurd (true≢false (q ∙ ap list_innermost is))
      by (group d i x ∷ outer) is q = absurd (true≢false (q ∙ ap list_innermost is))
      by (list i x y j ∷ outer) is q = record { token = i; before = x; arguments = y; first = j; outer = outer; state = h.state; is = is; stands = h.stands }

  pub in_list_is : {b : Bool} → b ≡ true → InList tree r b → InList tree r true
  in_list_is e l = subst (InList tree r) e l

  -- The state after a move.
  pub moves_held : {after : List ℕ} {r' : NamedReader} {more : ℕ} {due : State → State} → Held tree r → Moves tree r after r' more due → Held after r'
  moves_held {due = due} h m = record { state = due h.state; stands = m.says h.state h.stands }

-- ---- no list: a plain token

module _ (at : ℕ) (s : State) where
  greater_plain : (fs : List Frame) → false ≡ list_innermost fs → at_greater at fs s ≡ plain at s
  unfolding at_greater list_innermost
  greater_plain [] q = refl
  greater_plain (group d i x ∷ outer) q = refl
  greater_plain (list i x y j ∷ outer) q = absurd (true≢false (sym q))

  shift_plain : (fs : List Frame) → false ≡ list_innermost fs → at_shift at fs s ≡ plain at s
  unfolding at_shift list_innermost
  shift_plain [] q = refl
  shift_plain (group d i x ∷ outer) q = refl
  shift_plain (list i x y j ∷ outer) q = absurd (true≢false (sym q))

  comma_plain : (fs : List Frame) → false ≡ list_innermost fs → at_comma at fs s ≡ plain at s
  unfolding at_comma list_innermost
  comma_plain [] q = refl
  comma_plain (group d i x ∷ outer) q = refl
  comma_plain (list i x y j ∷ outer) q = absurd (true≢false (sym q))

module _ {tree after : List ℕ} {r : NamedReader} {done : Result NamedReader Stop} where
  -- What is due in each state is the same.
  pub due_same : {due due' : State → Step} → Does tree r after done due → ((s : State) → Stands tree r s → due' s ≡ due s) → Does tree r after done due'
  due_same {due} {due'} d f =
      record { says = λ s st. subst (λ (t : Step). Comes (s.steps + r.left) after t done) (sym (f s st)) (d.says s st); grown = d.grown }

  pub greater_none : {b : Bool} (at : ℕ) → b ≡ false → InList tree r b → Does tree r after done (plain at) → Does tree r after done (λ s. at_greater at s.frames s)
  greater_none at e l d = due_same d (λ s st. greater_plain at s s.frames (sym e ∙ l.says s st))

  pub shift_none : {b : Bool} (at : ℕ) → b ≡ false → InList tree r b → Does tree r after done (plain at) → Does tree r after done (λ s. at_shift at s.frames s)
  shift_none at e l d = due_same d (λ s st. shift_plain at s s.frames (sym e ∙ l.says s st))

  pub comma_none : {b : Bool} (at : ℕ) → b ≡ false → InList tree r b → Does tree r after done (plain at) → Does tree r after done (λ s. at_comma at s.frames s)
  comma_none at e l d = due_same d (λ s st. comma_plain at s s.frames (sym e ∙ l.says s st))

-- ---- a list: its argument is empty, or not

empty_is : (b : Nodes) (m : ℕ) (next : Step) → count b ≡ 0 → unless_empty b m next ≡ stops EmptyOrUnclosedList m
unfolding unless_empty count
empty_is none m next e = refl
empty_is (node k i b x) m next e = absurd (omega (arith, e))

some_is : (b : Nodes) (m : ℕ) (next : Step) → count b ≢ 0 → unless_empty b m next ≡ next
unfolding unless_empty count
some_is none m next e = absurd (e refl)
some_is (node k i b x) m next e = refl

-- What `>`, `>>` and a comma do where a list is open innermost.
greater_in : (at : ℕ) (fs : List Frame) (s : State) → true ≡ list_innermost fs → at_greater at fs s ≡ unless_empty s.nodes s.steps (on (innermost_closed fs s))
unfolding at_greater innermost_closed list_innermost
greater_in at [] s q = absurd (true≢false q)
greater_in at (group d i x ∷ outer) s q = absurd (true≢false q)
greater_in at (list i x y j ∷ outer) s q = refl

shift_in : (at : ℕ) (fs : List Frame) (s : State) → true ≡ list_innermost fs
    → at_shift at fs s ≡ unless_empty s.nodes s.steps (second_half (innermost_closed fs s).frames (innermost_closed fs s))
unfolding at_shift innermost_closed list_innermost closed
shift_in at [] s q = absurd (true≢false q)
shift_in at (group d i x ∷ outer) s q = absurd (true≢false q)
shift_in at (list i x y j ∷ outer) s q = refl

comma_in : (at : ℕ) (fs : List Frame) (s : State) → true ≡ list_innermost fs → at_comma at fs s ≡ unless_empty s.nodes s.steps (on (argument_ended at fs s))
unfolding at_comma argument_ended list_innermost
comma_in at [] s q = absurd (true≢false q)
comma_in at (group d i x ∷ outer) s q = absurd (true≢false q)
comma_in at (list i x y j ∷ outer) s q = refl

module _ {tree : List ℕ} {r : NamedReader} (l : InList tree r true) where
  nodes_there : (s : State) → Stands tree r s → r.nodes ≡ r.inner + count s.nodes
  unfolding list_innermost
  nodes_there s st = by s.frames refl
    where
      by : (fs : List Frame) → s.frames ≡ fs → r.nodes ≡ r.inner + count s.nodes
      by [] is = absurd (true≢false (l.says s st ∙ ap list_innermost is))
      by (group d i x ∷ outer) is = absurd (true≢false (l.says s st ∙ ap list_innermost is))
      by (list i x y j ∷ outer) is = omega (arith, many st i x y j outer is, list_inner st i x y j outer is)

  module _ {after : List ℕ} (due : State → Step) (next : State → Step)
      (in_due : (s : State) → true ≡ list_innermost s.frames → due s ≡ unless_empty s.nodes s.steps (next s)) where
    pub argument_empty : r.inner ≡ r.nodes → Does tree r after (Err (Stop.Refused EmptyOrUnclosedList r.left)) due
    argument_empty e = record {
      says = λ s st.
          subst (λ (t : Step). Comes (s.steps + r.left) after t (Err (Stop.Refused EmptyOrUnclosedList r.left)))
          (sym (in_due s (l.says s st) ∙ empty_is s.nodes s.steps (next s) (omega (arith, e, nodes_there s st)))) (refl, refl);
      grown = tt;
    }

    pub argument_some : {done : Result NamedReader Stop} → r.inner ≢ r.nodes → Does tree r after done next → Does tree r after done due
    argument_some e d = due_same d (λ s st. in_due s (l.says s st) ∙ some_is s.nodes s.steps (next s) (omega (arith, e, nodes_there s st)))

-- A move is a step on.
kept_steps : (fs : List Frame) (s : State) → (innermost_closed fs s).steps ≡ s.steps
unfolding innermost_closed closed
kept_steps [] s = refl
kept_steps (group d i x ∷ outer) s = refl
kept_steps (list i x y j ∷ outer) s = refl

ended_steps : (at : ℕ) (fs : List Frame) (s : State) → (argument_ended at fs s).steps ≡ s.steps
unfolding argument_ended
ended_steps at [] s = refl
ended_steps at (group d i x ∷ outer) s = refl
ended_steps at (list i x y j ∷ outer) s = refl

module _ {tree after : List ℕ} {r r' : NamedReader} where
  pub greater_closes : {b : Bool} (at : ℕ) → b ≡ true → InList tree r b → r.inner ≢ r.nodes → Moves tree r after r' 0 (λ s. innermost_closed s.frames s)
      → Does tree r after (Ok r') (λ s. at_greater at s.frames s)
  greater_closes at eb l e m =
      argument_some (in_list_is eb l) (λ s. at_greater at s.frames s) (λ s. on (innermost_closed s.frames s)) (λ s q. greater_in at s.frames s q) e
      (record { says = λ s st. (m.says s st, omega (arith, m.same_left, kept_steps s.frames s)); grown = omega (arith, m.grown) })

  pub comma_ends : {b : Bool} (at : ℕ) → b ≡ true → InList tree r b → r.inner ≢ r.nodes → Moves tree r after r' 1 (λ s. argument_ended at s.frames s)
      → Does tree r after (Ok r') (λ s. at_comma at s.frames s)
  comma_ends at eb l e m =
      argument_some (in_list_is eb l) (λ s. at_comma at s.frames s) (λ s. on (argument_ended at s.frames s)) (λ s q. comma_in at s.frames s q) e
      (record { says = λ s st. (m.says s st, omega (arith, m.same_left, ended_steps at s.frames s)); grown = omega (arith, m.grown) })

module _ {tree after : List ℕ} {r : NamedReader} where
  pub greater_empty : {b : Bool} (at : ℕ) → b ≡ true → InList tree r b → r.inner ≡ r.nodes → Does tree r after (Err (Stop.Refused EmptyOrUnclosedList r.left)) (λ s. at_greater at s.frames s)
  greater_empty at eb l e = argument_empty (in_list_is eb l) (λ s. at_greater at s.frames s) (λ s. on (innermost_closed s.frames s)) (λ s q. greater_in at s.frames s q) e

  pub comma_empty : {b : Bool} (at : ℕ) → b ≡ true → InList tree r b → r.inner ≡ r.nodes → Does tree r after (Err (Stop.Refused EmptyOrUnclosedList r.left)) (λ s. at_comma at s.frames s)
  comma_empty at eb l e = argument_empty (in_list_is eb l) (λ s. at_comma at s.frames s) (λ s. on (argument_ended at s.frames s)) (λ s q. comma_in at s.frames s q) e

-- ---- both halves of a `>>`

half : State → Step
half s = second_half (innermost_closed s.frames s).frames (innermost_closed s.frames s)

second_none : (fs : List Frame) (s : State) → false ≡ list_innermost fs → second_half fs s ≡ stops ShiftWithoutList s.steps
unfolding second_half list_innermost
second_none [] s q = refl
second_none (group d i x ∷ outer) s q = refl
second_none (list i x y j ∷ outer) s q = absurd (true≢false (sym q))

second_list : (fs : List Frame) (s : State) → true ≡ list_innermost fs → second_half fs s ≡ on (innermost_closed fs s)
unfolding second_half list_innermost innermost_closed
second_list [] s q = absurd (true≢false q)
second_list (group d i x ∷ outer) s q = absurd (true≢false q)
second_list (list i x y j ∷ outer) s q = refl

module _ {tree : List ℕ} {r : NamedReader} {b : Bool} (at : ℕ) (eb : b ≡ true) (l : InList tree r b) where
  pub shift_empty : {after : List ℕ} → r.inner ≡ r.nodes → Does tree r after (Err (Stop.Refused EmptyOrUnclosedList r.left)) (λ s. at_shift at s.frames s)
  unfolding half
  shift_empty e = argument_empty (in_list_is eb l) (λ s. at_shift at s.frames s) half (λ s q. shift_in at s.frames s q) e

  module _ {between : List ℕ} {r₁ : NamedReader} (e : r.inner ≢ r.nodes) (m : Moves tree r between r₁ 0 (λ s. innermost_closed s.frames s)) where
    pub shift_alone : {c : Bool} {after : List ℕ} → c ≡ false → InList between r₁ c → Does tree r after (Err (Stop.Refused ShiftWithoutList r₁.left)) (λ s. at_shift at s.frames s)
    unfolding half
    shift_alone {after = after} ec l₁ =
        argument_some (in_list_is eb l) (λ s. at_shift at s.frames s) half (λ s q. shift_in at s.frames s q) e
        (record {
          says = λ s st.
              subst (λ (t : Step). Comes (s.steps + r.left) after t (Err (Stop.Refused ShiftWithoutList r₁.left)))
              (sym (second_none (innermost_closed s.frames s).frames (innermost_closed s.frames s) (sym ec ∙ l₁.says (innermost_closed s.frames s) (m.says s st))))
              (refl, omega (arith, m.same_left, kept_steps s.frames s));
          grown = tt;
        })

    pub shift_closes : {c : Bool} {after : List ℕ} {r₂ : NamedReader} → c ≡ true → InList between r₁ c → Moves between r₁ after r₂ 0 (λ s. innermost_closed s.frames s)
        → Does tree r after (Ok r₂) (λ s. at_shift at s.frames s)
    unfolding half
    shift_closes {after = after} {r₂ = r₂} ec l₁ m₁ =
        argument_some (in_list_is eb l) (λ s. at_shift at s.frames s) half (λ s q. shift_in at s.frames s q) e
        (record {
          says = λ s st.
              let s₁ = innermost_closed s.frames s in
              subst (λ (t : Step). Comes (s.steps + r.left) after t (Ok r₂))
              (sym (second_list s₁.frames s₁ (sym ec ∙ l₁.says s₁ (m.says s st))))
              (m₁.says s₁ (m.says s st), omega (arith, m.same_left, m₁.same_left, kept_steps s.frames s, kept_steps s₁.frames s₁));
          grown = omega (arith, m.grown, m₁.grown);
        })

-- ---- a bracket

same_by_kind : (d' d : Delimiter) → same d' d ≡ eqb (number (node_of d')) (number (node_of d))
unfolding same number
same_by_kind Parenthesis Parenthesis = refl
same_by_kind Parenthesis Bracket = refl
same_by_kind Bracket Parenthesis = refl
same_by_kind Bracket Bracket = refl

group_steps : (fs : List Frame) (s : State) → (group_closed fs s).steps ≡ s.steps
unfolding group_closed
group_steps [] s = refl
group_steps (group d i x ∷ outer) s = refl
group_steps (list i x y j ∷ outer) s = refl

-- The kind of the node that is open innermost.
abbrev inner_kind : List ℕ → NamedReader → ℕ
inner_kind tree r = get_or tree (node_width * (r.inner - 1)) 0

module _ {tree : List ℕ} {r : NamedReader} where
  -- What is open innermost by the kind of its node.
  by_kind : (P : List Frame → Type 0) (s : State) → Stands tree r s → r.inner ≢ 0
      → ((d : Delimiter) (i : ℕ) (x : Nodes) (outer : List Frame) → s.frames ≡ group d i x ∷ outer → inner_kind tree r ≡ number (node_of d) → P s.frames)
      → ((i : ℕ) (x y : Nodes) (j : ℕ) (outer : List Frame) → s.frames ≡ list i x y j ∷ outer → inner_kind tree r ≡ number a_node → P s.frames) → P s.frames
  unfolding link
  by_kind P s st e f g = by s.frames refl
    where
      by : (fs : List Frame) → s.frames ≡ fs → P s.frames
      by [] is = absurd (e (st.linked ∙ ap link is))
      by (group d i x ∷ outer) is =
          let at : r.inner - 1 ≡ begun outer x = omega (arith, group_inner st d i x outer is) in
          f d i x outer is (ap (λ (m : ℕ). get_or tree (node_width * m) 0) at ∙ group_kind st d i x outer is)
      by (list i x y j ∷ outer) is =
          let at : r.inner - 1 ≡ begun outer x + suc (count y) = omega (arith, list_inner st i x y j outer is) in
          g i x y j outer is (ap (λ (m : ℕ). get_or tree (node_width * m) 0) at ∙ argument_kind st i x y j outer is)

  pub held_group : (h : Held tree r) (k : ℕ) → k ≡ inner_kind tree r → r.inner ≢ 0 → k ≢ number a_node → HeldGroup tree r
  held_group h k ek e q =
      by_kind (λ _. HeldGroup tree r) h.state h.stands e
      (λ d i x outer is _. record { delimiter = d; token = i; before = x; outer = outer; state = h.state; is = is; stands = h.stands })
      (λ i x y j outer is z. absurd (q (ek ∙ z)))

  module _ {after : List ℕ} (d : Delimiter) where
    pub closer_none : r.inner ≡ 0 → Does tree r after (Err (Stop.Refused MismatchedClosingDelimiter r.left)) (λ s. at_closer d s.frames s)
    unfolding at_closer link
    closer_none e = record { says = λ s st. by s s.frames (sym st.linked ∙ e); grown = tt }
      where
        by : (s : State) (fs : List Frame) → link fs ≡ 0 → Comes (s.steps + r.left) after (at_closer d fs s) (Err (Stop.Refused MismatchedClosingDelimiter r.left))
        by s [] q = (refl, refl)
        by s (group d' i x ∷ outer) q = absurd (omega (arith, q))
        by s (list i x y j ∷ outer) q = absurd (omega (arith, q))

    pub closer_list : {k : ℕ} → r.inner ≢ 0 → k ≡ inner_kind tree r → k ≡ number a_node → Does tree r after (Err (Stop.Refused EmptyOrUnclosedList r.left)) (λ s. at_closer d s.frames s)
    unfolding at_closer
    closer_list e ek q = record {
      says = λ s st.
          by_kind (λ fs. Comes (s.steps + r.left) after (at_closer d fs s) (Err (Stop.Refused EmptyOrUnclosedList r.left))) s st e
          (λ d' i x outer is z. absurd (group_no_argument d' (sym z ∙ sym ek ∙ q)))
          (λ i x y j outer is z. rw is (refl, refl));
      grown = tt;
    }

    pub closer_group : {k n : ℕ} {r' : NamedReader} → r.inner ≢ 0 → k ≡ inner_kind tree r → k ≢ number a_node → k ≡ n → n ≡ number (node_of d)
        → Moves tree r after r' 0 (λ s. group_closed s.frames s) → Does tree r after (Ok r') (λ s. at_closer d s.frames s)
    unfolding at_closer group_closed
    closer_group {r' = r'} e ek q p en m =
        due_same
        (record { says = λ s st. (m.says s st, omega (arith, m.same_left, group_steps s.frames s)); grown = omega (arith, m.grown) })
        (λ s st. by_kind (λ fs. at_closer d fs s ≡ on (group_closed fs s)) s st e
        (λ d' i x outer is z. rw (is, same_by_kind d' d, eq-eqb (number (node_of d')) (number (node_of d)) (sym z ∙ sym ek ∙ p ∙ en)) refl)
        (λ i x y j outer is z. absurd (q (ek ∙ z))))

    pub closer_other : {k n : ℕ} → r.inner ≢ 0 → k ≡ inner_kind tree r → k ≢ number a_node → k ≢ n → n ≡ number (node_of d)
        → Does tree r after (Err (Stop.Refused MismatchedClosingDelimiter r.left)) (λ s. at_closer d s.frames s)
    unfolding at_closer
    closer_other e ek q p en = record {
      says = λ s st.
          by_kind (λ fs. Comes (s.steps + r.left) after (at_closer d fs s) (Err (Stop.Refused MismatchedClosingDelimiter r.left))) s st e
          (λ d' i x outer is z. rw (is, same_by_kind d' d, ne_eqb (number (node_of d')) (number (node_of d)) (λ u. p (ek ∙ z ∙ u ∙ sym en))) (refl, refl))
          (λ i x y j outer is z. absurd (q (ek ∙ z)));
      grown = tt;
    }
