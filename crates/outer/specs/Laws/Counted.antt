-- Of an accepted tree the walk by extents gives what is counted from the full tree.
-- Assumes nothing.
use Prim.Native.Nat.{ℕ, suc, ◌-◌, ◌<◌}
use Rattle.std.specs.Prelude.{◌≡◌, ◌≢◌, Bool, true, false, ◌&&◌, length, T, if◌then◌else◌}
use Rattle.std.proofs.Math.Path.{refl, sym, subst}
use Rattle.std.proofs.Common.{ap, ◌∙◌, arith}
use mathlib.Core.List.{List, [], ◌∷◌, Memᴰ}
use Rattle.reader.specs.Nodes.{t_node, g_node, b_node, l_node, a_node, Nodes, none, node, number, count, records, kind_of, extent_of}
use Rattle.reader.specs.Laws.NodeNumbers.{three_each}
use Rattle.type_nodes.specs.Nodes.{next, arguments_of}
use Rattle.type_nodes.specs.Stands.{below}
use Rattle.outer.specs.Formed.{SomeArguments, Formed}
use Rattle.outer.specs.OuterTemplate.{node_numbers, list_first, is_word, word_first, begins_with_list, outer_arguments, argument_nodes}
use Rattle.outer.specs.ByExtents.{outer_by_extents}
use Rattle.outer.specs.OuterPromises.{Agrees, AgreesWith, Counted, ArgumentsFill}
use Rattle.outer.specs.Laws.ReadTrees.{some_are}
use Rattle.outer.specs.Laws.Placed.{level_placed, agree_placed, placed_fill}
use Rattle.outer.specs.Laws.Lists.{list_counted, list_none}

some_count : (x : Nodes) → SomeArguments x → 0 < count x
unfolding count
some_count none s = absurd s
some_count (node k i b x) s = omega arith

no_list : (b : Bool) (n : ℕ) → (if b && false then n else 0) ≡ 0
no_list true n = refl
no_list false n = refl

a_list : {A : Type 0} (b : Bool) → T b → (x y : A) → (if b && true then x else y) ≡ x
a_list true t x y = refl
a_list false t x y = absurd t

module _ (kinds numbers : List ℕ) where
  -- A word and a list.
  begins : (i j : ℕ) (c z : Nodes) → SomeArguments c → AgreesWith kinds (node t_node i none (node l_node j c z)) numbers
      → ((n : ℕ) → Memᴰ n (node_numbers 2 c) → Agrees numbers (node t_node i none (node l_node j c z)) n)
      → outer_by_extents numbers ≡ length (arguments_of c)
  unfolding records count number
  begins i j c z s a f =
      let all : Nodes = node t_node i none (node l_node j c z) in
      let second = a.second (omega arith) in
      let placed = agree_placed numbers all 2 c (level_placed (0 ∷ i ∷ 1 ∷ 3 ∷ j ∷ suc (count c) ∷ []) 2 c (records z) refl) f in
      let left : count c ≡ extent_of numbers 1 - 1 = omega (arith, second.1) in
      list_counted numbers (length (arguments_of c)) (record {
        word = a.first.0;
        word_extent = a.first.1;
        list = second.0;
        list_extent = omega (arith, second.1, some_count c s);
        within = omega (arith, second.1, a.long, three_each all);
        filled = subst (λ (n : ℕ). ArgumentsFill numbers 2 n (length (arguments_of c))) left (placed_fill numbers 2 c (some_are c s) placed);
      })

  -- What does not begin so.
  not_word : (x : Nodes) → AgreesWith kinds x numbers → kind_of (records x) 0 ≢ number t_node → outer_by_extents numbers ≡ 0
  not_word x a w = list_none numbers (λ many b. w (sym a.first.0 ∙ b.word))

  not_list : (x : Nodes) → AgreesWith kinds x numbers → 1 < count x → kind_of (records x) 1 ≢ number l_node → outer_by_extents numbers ≡ 0
  not_list x a p l = list_none numbers (λ many b. l (sym (a.second p).0 ∙ b.list))

  alone : (x : Nodes) → AgreesWith kinds x numbers → count x ≡ 1 → outer_by_extents numbers ≡ 0
  alone x a e = list_none numbers (λ many b. a.no_second e (omega (arith, b.within, b.list_extent)) b.list)

  after_token : (i : ℕ) (y : Nodes) → Formed kinds (is_word kinds t_node i) y → AgreesWith kinds (node t_node i none y) numbers
      → outer_by_extents numbers ≡ outer_arguments kinds (node t_node i none y)
  unfolding outer_arguments argument_nodes begins_with_list is_word word_first list_first next below arguments_of records count number
  after_token i none f a = alone (node t_node i none none) a refl ∙ sym (no_list (is_word kinds t_node i) 0)
  after_token i (node t_node j c z) f a = not_list (node t_node i none (node t_node j c z)) a (omega arith) (omega arith) ∙ sym (no_list (is_word kinds t_node i) _)
  after_token i (node g_node j c z) f a = not_list (node t_node i none (node g_node j c z)) a (omega arith) (omega arith) ∙ sym (no_list (is_word kinds t_node i) _)
  after_token i (node b_node j c z) f a = not_list (node t_node i none (node b_node j c z)) a (omega arith) (omega arith) ∙ sym (no_list (is_word kinds t_node i) _)
  after_token i (node l_node j c z) f a =
      begins i j c z f.0.1 a (λ n m. a.arguments n (subst (Memᴰ n) (sym (a_list (is_word kinds t_node i) f.0.0 (node_numbers 2 c) [])) m))
      ∙ sym (a_list (is_word kinds t_node i) f.0.0 (length (arguments_of c)) 0)
  after_token i (node a_node j c z) f a = not_list (node t_node i none (node a_node j c z)) a (omega arith) (omega arith) ∙ sym (no_list (is_word kinds t_node i) _)

pub counted : (numbers : List ℕ) → Counted numbers (outer_by_extents numbers)
unfolding count outer_arguments begins_with_list is_word word_first number records
counted numbers kinds none f a = absurd (omega (arith, f.some))
counted numbers kinds (node t_node i none y) f a = after_token kinds numbers i y f.formed.2 a
counted numbers kinds (node t_node i (node k j c z) y) f a = let clash : count (node k j c z) ≡ 0 = ap count f.formed.0 in absurd (omega (arith, clash))
counted numbers kinds (node g_node i b y) f a = not_word kinds numbers (node g_node i b y) a (omega arith)
counted numbers kinds (node b_node i b y) f a = not_word kinds numbers (node b_node i b y) a (omega arith)
counted numbers kinds (node l_node i b y) f a = not_word kinds numbers (node l_node i b y) a (omega arith)
counted numbers kinds (node a_node i b y) f a = not_word kinds numbers (node a_node i b y) a (omega arith)
