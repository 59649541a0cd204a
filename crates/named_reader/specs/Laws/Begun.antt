-- What the functions that begin a node say, of whichever state the code's state and buffer are.
-- Assumes nothing.
use Rattle.std.specs.Prelude.{ℕ, suc, ◌+◌, ◌*◌, ◌-◌, ◌≤◌, ◌<◌, ◌≡◌, refl, ◌≢◌, Bool, true, false, List, [], ◌∷◌, ◌++◌, length, take, ltb, if◌then◌else◌, Ok, Err}
use native.Mathlib.Omega.{arith}
use Rattle.std.proofs.Common.{lt-ltb, le-ltb}
use Rattle.rows.specs.declared.answer.Delimiter.{Delimiter}
use Rattle.rows.specs.declared.answer.TypeNameError.TheVariants.{NestingLimitExceeded}
use Rattle.reader.specs.Nodes.{t_node, l_node, a_node, number, none, node_width}
use Rattle.reader.specs.Reading.{MAX_NESTING_DEPTH}
use Rattle.reader.specs.Tables.{node_of}
use Rattle.named_reader.specs.NamedReading.{Frame, group, list, State, on, stops, plain, begin}
use Rattle.named_reader.specs.NamedSays.{Stands, Comes, Does, begin_group, begin_list}
use Rattle.named_reader.specs.declared.frames.NamedReader.{NamedReader}
use Rattle.reader.specs.declared.parser.Stop.{Stop}
use Rattle.named_reader.specs.Laws.Moves.{moved, plain_stands, group_stands, list_stands}

-- No step is left,
begin_spent : (after : List ℕ) (r : NamedReader) (f : Frame) (s : State) → r.left ≡ 0 → Comes (s.steps + r.left) after (begin f s) (Err Stop.Spent)
unfolding begin
begin_spent after r f s e = by (ltb (length s.frames) MAX_NESTING_DEPTH)
  where
    by : (b : Bool) → Comes (s.steps + r.left) after
        (if b then on (record { frames = f ∷ s.frames; nodes = none; steps = suc s.steps }) else stops NestingLimitExceeded (suc s.steps)) (Err Stop.Spent)
    by true = omega (arith, e)
    by false = omega (arith, e)

-- nesting over 64,
begin_deep : {tree : List ℕ} {r : NamedReader} (f : Frame) (s : State) → Stands tree r s → MAX_NESTING_DEPTH ≤ r.nesting → begin f s ≡ stops NestingLimitExceeded (suc s.steps)
unfolding begin
begin_deep f s st h = rw (le-ltb (length s.frames) MAX_NESTING_DEPTH (omega (arith, st.nested, h))) refl

-- or it begins.
begin_on : {tree : List ℕ} {r : NamedReader} (f : Frame) (s : State) → Stands tree r s → r.nesting < MAX_NESTING_DEPTH
    → begin f s ≡ on (record { frames = f ∷ s.frames; nodes = none; steps = suc s.steps })
unfolding begin
begin_on f s st h = rw (lt-ltb (length s.frames) MAX_NESTING_DEPTH (omega (arith, st.nested, h))) refl

module _ {tree after : List ℕ} {r : NamedReader} where
  -- No step is left.
  pub plain_spent : (at : ℕ) → r.left ≡ 0 → Does tree r after (Err Stop.Spent) (plain at)
  unfolding plain
  plain_spent at e = record { says = λ s st. omega (arith, e); grown = tt }

  pub group_spent : (d : Delimiter) (at : ℕ) → r.left ≡ 0 → Does tree r after (Err Stop.Spent) (begin_group d at)
  unfolding begin_group
  group_spent d at e = record { says = λ s st. begin_spent after r (group d at s.nodes) s e; grown = tt }

  pub list_spent : (at : ℕ) → r.left ≡ 0 → Does tree r after (Err Stop.Spent) (begin_list at)
  unfolding begin_list
  list_spent at e = record { says = λ s st. begin_spent after r (list at s.nodes none (suc at)) s e; grown = tt }

  pub group_deep : (d : Delimiter) (at left : ℕ) → r.left ≢ 0 → left ≡ r.left - 1 → MAX_NESTING_DEPTH ≤ r.nesting
      → Does tree r after (Err (Stop.Refused NestingLimitExceeded left)) (begin_group d at)
  unfolding begin_group
  group_deep d at left e q h = record { says = λ s st. rw (begin_deep (group d at s.nodes) s st h) (refl, omega (arith, e, q)); grown = tt }

  pub list_deep : (at left : ℕ) → r.left ≢ 0 → left ≡ r.left - 1 → MAX_NESTING_DEPTH ≤ r.nesting
      → Does tree r after (Err (Stop.Refused NestingLimitExceeded left)) (begin_list at)
  unfolding begin_list
  list_deep at left e q h = record { says = λ s st. rw (begin_deep (list at s.nodes none (suc at)) s st h) (refl, omega (arith, e, q)); grown = tt }

  -- A node is begun.
  pub plain_done : (at left : ℕ) → r.left ≢ 0 → left ≡ r.left - 1
      → take (node_width * (r.nodes + 1)) after ≡ take (node_width * r.nodes) tree ++ number t_node ∷ at ∷ 1 ∷ []
      → Does tree r after (Ok (moved (r.nodes + 1) r.inner r.nesting left)) (plain at)
  unfolding plain
  plain_done at left e q w = record { says = λ s st. (plain_stands st at left w, omega (arith, e, q)); grown = omega arith }

  pub group_done : (d : Delimiter) (at left k nodes : ℕ) → r.left ≢ 0 → left ≡ r.left - 1 → r.nesting < MAX_NESTING_DEPTH → k ≡ number (node_of d) → nodes ≡ r.nodes + 1
      → take (node_width * (r.nodes + 1)) after ≡ take (node_width * r.nodes) tree ++ k ∷ at ∷ r.inner ∷ []
      → Does tree r after (Ok (moved nodes nodes (r.nesting + 1) left)) (begin_group d at)
  unfolding begin_group
  group_done d at left k nodes e q h ek en w = record { says = λ s st. rw (begin_on (group d at s.nodes) s st h, en) (group_stands st d at left k ek w, omega (arith, e, q)); grown = omega arith }

  pub list_done : (between : List ℕ) (at first left nodes : ℕ) → r.left ≢ 0 → left ≡ r.left - 1 → r.nesting < MAX_NESTING_DEPTH → first ≡ at + 1 → nodes ≡ r.nodes + 2
      → take (node_width * (r.nodes + 1)) between ≡ take (node_width * r.nodes) tree ++ number l_node ∷ at ∷ r.inner ∷ []
      → take (node_width * (r.nodes + 1 + 1)) after ≡ take (node_width * (r.nodes + 1)) between ++ number a_node ∷ first ∷ r.nodes ∷ []
      → Does tree r after (Ok (moved nodes nodes (r.nesting + 1) left)) (begin_list at)
  unfolding begin_list
  list_done between at first left nodes e q h ef en w v =
      record { says = λ s st. rw (begin_on (list at s.nodes none (suc at)) s st h, en) (list_stands st between at first left (omega (arith, ef)) w v, omega (arith, e, q)); grown = omega arith }
