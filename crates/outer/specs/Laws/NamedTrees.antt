-- Every tree that is read by names is formed: an L stands behind a name, which is a word, and above arguments, a T above nothing.
-- Assumes nothing.
use Rattle.std.specs.Prelude.{ℕ, suc, ◌<◌, ◌≡◌, Bool, ◌&&◌, length, drop, ltb, eqb}
use Rattle.std.proofs.Math.Path.{refl, sym, subst}
use Rattle.std.proofs.Common.{◌∙◌}
use Rattle.std.proofs.Math.Bool.{true, false}
use mathlib.Core.List.{List, [], ◌∷◌}
use native.Mathlib.Omega.{arith}
use Rattle.std.proofs.Math.Facts.{and_yes}
use Rattle.std.proofs.Math.ListN.{get_or}
use Rattle.std.proofs.Math.Dec.{T}
use Rattle.rows.specs.Kinds.{Identifier, Comma, Less, Greater, ShiftRight}
use Rattle.rows.specs.Languages.{Cpp}
use Rattle.rows.specs.Records.{RowToken, kinds_of}
use Rattle.rows.specs.Laws.Tests.{by_if}
use Rattle.rows.specs.Laws.RowFacts.{GoodTokens}
use Rattle.rows.specs.declared.head.Head.{Head}
use Rattle.rows.specs.declared.answer.Delimiter.{Delimiter}
use Rattle.rows.specs.declared.answer.Delimiter.TheVariants.{Parenthesis, Bracket}
use Rattle.prescan.specs.Matcher.{Role, opens, closes, neither, role, same}
use Rattle.reader.specs.Nodes.{NodeKind, t_node, l_node, a_node, Nodes, none, node, count}
use Rattle.reader.specs.Reading.{Got, got, bad, kind_at, MAX_NESTING_DEPTH}
use Rattle.reader.specs.Tables.{node_of}
use Rattle.named_reader.specs.NamedReading.{Frame, group, list, State, Step, on, stops, push, plain, begin, unless_empty, closed, at_greater, second_half, at_shift, at_comma, at_closer, after_name, no_bracket, in_role, take_token, at_end, go_on, read_on, start, named_reading}
use Rattle.named_reader.specs.Laws.Sound.{first_of}
use Rattle.names.specs.NameList.{names_marked}
use Rattle.type_name.specs.Answers.{accepted}
use Rattle.type_list.specs.Laws.Starts.{derived_starts}
use Rattle.named_answers.specs.NamedAnswers.{named_answer}
use Rattle.named_answers.specs.Laws.NamedRow.{named_accepted, named_words, row_read, is_derived}
use Rattle.outer.specs.OuterTemplate.{is_word}
use Rattle.outer.specs.Formed.{Arguments, SomeArguments, NodeFormed, Formed, TreeFormed}
use Rattle.outer.specs.Laws.ReadTrees.{some_are}

module _ (row : List ℕ) where
  -- A word is the last of these nodes; of none, stands before them.
  ends_word : (behind_word : Bool) → Nodes → Bool
  ends_word w none = w
  ends_word w (node k i b x) = ends_word (is_word row k i) x

  pushed_word : (w : Bool) (k : NodeKind) (i : ℕ) (b x : Nodes) → ends_word w (push k i b x) ≡ is_word row k i
  unfolding push ends_word
  pushed_word w k i b none = refl
  pushed_word w k i b (node k' i' b' x) = pushed_word (is_word row k' i') k i b x

  pushed_formed : (w : Bool) (k : NodeKind) (i : ℕ) (b x : Nodes) → Formed row w x → NodeFormed k (ends_word w x) b → Formed row false b → Formed row w (push k i b x)
  unfolding push ends_word
  pushed_formed w k i b none f n g = (n, g, tt)
  pushed_formed w k i b (node k' i' b' x) f n g = (f.0, f.1, pushed_formed (is_word row k' i') k i b x f.2 n g)

  -- ---- arguments

  pushed_arguments : (i : ℕ) (b x : Nodes) → Arguments x → SomeArguments (push a_node i b x)
  unfolding push
  pushed_arguments i b none a = (refl, tt)
  pushed_arguments i b (node k' i' b' x) a = (a.0, some_are (push a_node i b x) (pushed_arguments i b x a.1))

  -- ---- what is open

  abbrev FramesFormed : List Frame → Type 0
  FramesFormed [] = Unit {0}
  FramesFormed (group d i x ∷ outer) = Formed row false x × FramesFormed outer
  FramesFormed (list i x y j ∷ outer) = Formed row false x × T (ends_word false x) × Formed row false y × Arguments y × FramesFormed outer

  record StateFormed (s : State) : Type 0 where
    open_formed : FramesFormed s.frames
    formed : Formed row false s.nodes

  abbrev StepFormed : Step → Type 0
  StepFormed (on s) = StateFormed s
  StepFormed (stops e m) = Unit {0}

  plain_formed : (at : ℕ) (s : State) → StateFormed s → StepFormed (plain at s)
  unfolding plain
  plain_formed at s f = record { open_formed = f.open_formed; formed = pushed_formed false t_node at none s.nodes f.formed refl tt }

  begin_formed : (frame : Frame) (s : State) → FramesFormed (frame ∷ s.frames) → StepFormed (begin frame s)
  unfolding begin
  begin_formed frame s f = by_if StepFormed (ltb (length s.frames) MAX_NESTING_DEPTH) (λ _. record { open_formed = f; formed = tt }) (λ _. tt)

  -- An argument is not empty.
  unless_empty_formed : (x : Nodes) (m : ℕ) (next : Step) → (0 < count x → StepFormed next) → StepFormed (unless_empty x m next)
  unfolding unless_empty count
  unless_empty_formed none m next f = tt
  unless_empty_formed (node k i b x) m next f = f (omega arith)

  module _ (i : ℕ) (x y : Nodes) (j : ℕ) (outer : List Frame) (s : State) (f : FramesFormed (list i x y j ∷ outer)) (g : Formed row false s.nodes) (some : 0 < count s.nodes) where
    argument_formed : Formed row false (push a_node j s.nodes y)
    argument_formed = pushed_formed false a_node j s.nodes y f.2 some g

    closed_formed : StateFormed (closed i x y j outer s)
    unfolding closed
    closed_formed = record {
      open_formed = f.4;
      formed = pushed_formed false l_node i (push a_node j s.nodes y) x f.0 (f.1, pushed_arguments j s.nodes y f.3) argument_formed;
    }

  push_some : (k : NodeKind) (i : ℕ) (b x : Nodes) → 0 < count (push k i b x)
  unfolding push count
  push_some k i b none = omega arith
  push_some k i b (node k' i' b' x) = omega arith

  at_greater_formed : (at : ℕ) (fs : List Frame) (s : State) → FramesFormed fs → StateFormed s → StepFormed (at_greater at fs s)
  unfolding at_greater
  at_greater_formed at [] s f g = plain_formed at s g
  at_greater_formed at (group d i x ∷ outer) s f g = plain_formed at s g
  at_greater_formed at (list i x y j ∷ outer) s f g = unless_empty_formed s.nodes s.steps _ (λ some. closed_formed i x y j outer s f g.formed some)

  second_half_formed : (fs : List Frame) (s : State) → FramesFormed fs → StateFormed s → 0 < count s.nodes → StepFormed (second_half fs s)
  unfolding second_half
  second_half_formed [] s f g some = tt
  second_half_formed (group d i x ∷ outer) s f g some = tt
  second_half_formed (list i x y j ∷ outer) s f g some = closed_formed i x y j outer s f g.formed some

  at_shift_formed : (at : ℕ) (fs : List Frame) (s : State) → FramesFormed fs → StateFormed s → StepFormed (at_shift at fs s)
  unfolding at_shift closed
  at_shift_formed at [] s f g = plain_formed at s g
  at_shift_formed at (group d i x ∷ outer) s f g = plain_formed at s g
  at_shift_formed at (list i x y j ∷ outer) s f g =
      unless_empty_formed s.nodes s.steps _
      (λ some. second_half_formed outer (closed i x y j outer s) f.4 (closed_formed i x y j outer s f g.formed some) (push_some l_node i (push a_node j s.nodes y) x))

  at_comma_formed : (at : ℕ) (fs : List Frame) (s : State) → FramesFormed fs → StateFormed s → StepFormed (at_comma at fs s)
  unfolding at_comma
  at_comma_formed at [] s f g = plain_formed at s g
  at_comma_formed at (group d i x ∷ outer) s f g = plain_formed at s g
  at_comma_formed at (list i x y j ∷ outer) s f g =
      unless_empty_formed s.nodes s.steps _
      (λ some. record {
        open_formed = (f.0, f.1, argument_formed i x y j outer s f g.formed some, some_are (push a_node j s.nodes y) (pushed_arguments j s.nodes y f.3), f.4);
        formed = tt;
      })

  group_formed : (d : Delimiter) (w : Bool) (b : Nodes) → NodeFormed (node_of d) w b
  group_formed Parenthesis w b = tt
  group_formed Bracket w b = tt

  at_closer_formed : (d : Delimiter) (fs : List Frame) (s : State) → FramesFormed fs → StateFormed s → StepFormed (at_closer d fs s)
  unfolding at_closer
  at_closer_formed d [] s f g = tt
  at_closer_formed d (group d' i x ∷ outer) s f g =
      by_if StepFormed (same d' d)
      (λ _. record { open_formed = f.1; formed = pushed_formed false (node_of d') i s.nodes x f.0 (group_formed d' _ s.nodes) g.formed })
      (λ _. tt)
  at_closer_formed d (list i x y j ∷ outer) s f g = tt

  -- ---- a token, and the row

  module _ (named : List Bool) (words : (i : ℕ) → get_or named i false ≡ true → kind_at row i ≡ Identifier) where
    no_bracket_formed : (k at : ℕ) (s : State) → StateFormed s → (T (after_name named at) → T (ends_word false s.nodes)) → StepFormed (no_bracket named k at s)
    unfolding no_bracket
    no_bracket_formed k at s f w =
        by_if StepFormed (eqb k Less && after_name named at)
        (λ t. begin_formed (list at s.nodes none (suc at)) s (f.formed, w (and_yes (eqb k Less) (after_name named at) t).1, tt, tt, f.open_formed)) λ _.
        by_if StepFormed (eqb k Greater) (λ _. at_greater_formed at s.frames s f.open_formed f) λ _.
        by_if StepFormed (eqb k ShiftRight) (λ _. at_shift_formed at s.frames s f.open_formed f) λ _.
        by_if StepFormed (eqb k Comma) (λ _. at_comma_formed at s.frames s f.open_formed f) λ _. plain_formed at s f

    in_role_formed : (r : Role) (k at : ℕ) (s : State) → StateFormed s → (T (after_name named at) → T (ends_word false s.nodes)) → StepFormed (in_role named r k at s)
    unfolding in_role
    in_role_formed (opens d) k at s f w = begin_formed (group d at s.nodes) s (f.formed, f.open_formed)
    in_role_formed (closes d) k at s f w = at_closer_formed d s.frames s f.open_formed f
    in_role_formed neither k at s f w = no_bracket_formed k at s f w

    -- Behind a token that is a name a word is the last node.
    abbrev BehindName : (at : ℕ) → Step → Type 0
    BehindName at (on s) = T (after_name named (suc at)) → T (ends_word false s.nodes)
    BehindName at (stops e m) = Unit {0}

    word_behind : (at : ℕ) (s : State) → kind_at row at ≡ Identifier → BehindName at (take_token named Identifier at s)
    unfolding take_token in_role no_bracket plain role is_word
    word_behind at s e = λ _. rw (pushed_word false t_node at none s.nodes, e) tt

    other_behind : (at : ℕ) → (T (after_name named (suc at)) → ⊥) → (t : Step) → BehindName at t
    other_behind at q (on s) = λ v. absurd (q v)
    other_behind at q (stops e m) = tt

    token_behind : (k at : ℕ) (s : State) → kind_at row at ≡ k → BehindName at (take_token named k at s)
    unfolding after_name
    token_behind k at s e = by (get_or named at false) refl
      where
        by : (b : Bool) → get_or named at false ≡ b → BehindName at (take_token named k at s)
        by true q =
            let is : k ≡ Identifier = sym e ∙ words at q in
            subst (λ (n : ℕ). BehindName at (take_token named n at s)) (sym is) (word_behind at s (words at q))
        by false q = other_behind at (λ v. subst T q v) (take_token named k at s)

    abbrev GotFormed : Got → Type 0
    GotFormed (got x a h m) = Formed row false x
    GotFormed (bad e m) = Unit {0}

    end_formed : (at : ℕ) (fs : List Frame) (s : State) → StateFormed s → GotFormed (at_end at fs s)
    unfolding at_end
    end_formed at [] s f = f.formed
    end_formed at (group d i x ∷ outer) s f = tt
    end_formed at (list i x y j ∷ outer) s f = tt

    go_formed : (at : ℕ) (t : Step) (rest : State → Got) → StepFormed t → BehindName at t → ((s : State) → StateFormed s → (T (after_name named (suc at)) → T (ends_word false s.nodes)) → GotFormed (rest s))
        → GotFormed (go_on t rest)
    unfolding go_on
    go_formed at (on s) rest f w g = g s f w
    go_formed at (stops e m) rest f w g = tt

    read_formed : (ks : List ℕ) (at : ℕ) (s : State) → drop at row ≡ ks → StateFormed s → (T (after_name named at) → T (ends_word false s.nodes)) → GotFormed (read_on named at ks s)
    unfolding read_on take_token
    read_formed [] at s e f w = end_formed at s.frames s f
    read_formed (k ∷ ks) at s e f w =
        let there = first_of row at k ks e in
        go_formed at (take_token named k at s) (λ s'. read_on named (suc at) ks s') (in_role_formed (role k) k at s f w) (token_behind k at s there.1)
        (λ s' g v. read_formed ks (suc at) s' there.2 g v)

    named_formed : {x : Nodes} {a : ℕ} {h : Bool} {m : ℕ} → named_reading named row ≡ got x a h m → Formed row false x
    unfolding named_reading start after_name
    named_formed e = subst GotFormed e (read_formed row 0 start refl (record { open_formed = tt; formed = tt }) (λ t. absurd t))

-- The tree of an accepted row is formed.
pub accepted_named_formed : (names : List ℕ) (h : Head) (ts : List RowToken) → GoodTokens ts → {x : Nodes} {steps : ℕ} → named_answer names (record { the_head = h; tokens = ts }) ≡ accepted x steps
    → TreeFormed (kinds_of ts) x
unfolding count
accepted_named_formed names h ts good e =
    let r = named_accepted names h ts e in
    let named : List Bool = names_marked r.listing ts in
    let read = row_read ts good named r.checked.is_read in
    let starts = derived_starts Cpp (kinds_of ts) read.scan read.scanned (is_derived ts good named r.checked.is_read) in
    record {
      some = subst (λ (y : Nodes). 0 < count y) (sym starts.is) (omega arith);
      formed = named_formed (kinds_of ts) named (named_words names r.listing r.is_listed ts good) read.reads;
    }
