-- Where the nodes of a level stand in numbers, by kind and extent.
-- Assumes nothing.
use Rattle.std.specs.Prelude.{ℕ, suc, ◌+◌, ◌*◌, ◌<◌, ◌≡◌, refl, length, get_or}
use Rattle.std.proofs.Common.{ap, ◌∙◌, subst, arith, length-append, get_or-append-add}
use mathlib.Core.List.{List, ◌∷◌, ◌++◌, append_assoc, Memᴰ}
use Rattle.reader.specs.Nodes.{Nodes, none, node, number, count, node_width, records, kind_of, extent_of}
use Rattle.reader.specs.Laws.NodeNumbers.{three_each}
use Rattle.type_nodes.specs.Nodes.{arguments_of}
use Rattle.outer.specs.Formed.{Arguments}
use Rattle.outer.specs.OuterTemplate.{node_numbers}
use Rattle.outer.specs.OuterPromises.{Agrees, ArgumentsFill, nothing_left, argument}

-- The numbers say so of the nodes of a level, the first of which has number `from`.
abbrev pub Placed : (numbers : List ℕ) (from : ℕ) → Nodes → Type 0
Placed numbers from none = Unit {0}
Placed numbers from (node k i b x) = (kind_of numbers from ≡ number k) × (extent_of numbers from ≡ suc (count b)) × Placed numbers (from + suc (count b)) x

-- A level whose records stand behind those of `from` nodes is placed there.
pub level_placed : (front : List ℕ) (from : ℕ) (x : Nodes) (back : List ℕ) → length front ≡ node_width * from → Placed (front ++ (records x ++ back)) from x
unfolding records count
level_placed front from none back e = tt
level_placed front from (node k i b x) back e =
    let tail : List ℕ = number k ∷ i ∷ suc (count b) ∷ (records b ++ records x) ++ back in
    let field : (j : ℕ) → get_or (front ++ tail) (node_width * from + j) 0 ≡ get_or tail j 0 = λ j. rw (← e) (get_or-append-add front tail j 0) in
    let further : List ℕ = front ++ (number k ∷ i ∷ suc (count b) ∷ records b) in
    let same : further ++ (records x ++ back) ≡ front ++ tail = simp append_assoc in
    let long : length further ≡ node_width * (from + suc (count b)) = simp length-append (omega (arith, e, three_each b)) in (
      ap (λ (n : ℕ). get_or (front ++ tail) n 0) (omega arith) ∙ field 0,
      field 2,
      subst (λ (l : List ℕ). Placed l (from + suc (count b)) x) same (level_placed further (from + suc (count b)) x back long),
    )

-- Numbers that agree at its nodes have it too.
pub agree_placed : (numbers : List ℕ) (y : Nodes) (from : ℕ) (x : Nodes) → Placed (records y) from x → ((n : ℕ) → Memᴰ n (node_numbers from x) → Agrees numbers y n) → Placed numbers from x
unfolding node_numbers
agree_placed numbers y from none p a = tt
agree_placed numbers y from (node k i b x) p a = let h = a from (Memᴰ.head refl) in (h.0 ∙ p.0, h.1 ∙ p.1, agree_placed numbers y (from + suc (count b)) x p.2 (λ n m. a n (Memᴰ.tail m)))

-- Arguments that are placed fill their nodes.
pub placed_fill : (numbers : List ℕ) (from : ℕ) (x : Nodes) → Arguments x → Placed numbers from x → ArgumentsFill numbers from (count x) (length (arguments_of x))
unfolding count arguments_of
placed_fill numbers from none a p = nothing_left
placed_fill numbers from (node k i b x) a p =
    let extent = p.1 in
    argument {left = suc (count b + count x)} {many = length (arguments_of x)} (p.0 ∙ ap number a.0) (omega (arith, extent)) (omega (arith, extent))
    (rw extent (subst (λ (n : ℕ). ArgumentsFill numbers (from + suc (count b)) n (length (arguments_of x))) (omega arith) (placed_fill numbers (from + suc (count b)) x a.1 p.2)))

-- The numbers of a level's nodes are below where it ends.
pub numbers_below : (from : ℕ) (x : Nodes) (n : ℕ) → Memᴰ n (node_numbers from x) → n < from + count x
unfolding node_numbers count
numbers_below from (node k i b x) n (Memᴰ.head e) = omega (arith, e)
numbers_below from (node k i b x) n (Memᴰ.tail m) = omega (arith, numbers_below (from + suc (count b)) x n m)
numbers_below from none n x'' = elim x'' [ ]
