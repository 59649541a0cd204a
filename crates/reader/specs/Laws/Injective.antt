-- Trees with the same node records are the same: a caller's buffer holds one tree.
-- Assumes nothing.
use Rattle.std.specs.Prelude.{ℕ, zero, suc, ◌≡◌, refl, List, [], ◌++◌, length}
use Rattle.std.proofs.Common.{sym, ap, ◌∙◌, append_assoc, arith}
use Rattle.reader.specs.Nodes.{NodeKind, t_node, g_node, b_node, l_node, a_node, number, Nodes, none, node, count, records}
use Rattle.reader.specs.Laws.NodeNumbers.{three_each}

-- The kind of node with a number.
numbered : ℕ → NodeKind
numbered zero = t_node
numbered (suc zero) = g_node
numbered (suc (suc zero)) = b_node
numbered (suc (suc (suc zero))) = l_node
numbered (suc (suc (suc (suc n)))) = a_node

kind_back : (k : NodeKind) → numbered (number k) ≡ k
unfolding numbered number
kind_back t_node = refl
kind_back g_node = refl
kind_back b_node = refl
kind_back l_node = refl
kind_back a_node = refl

same_kind : (k k' : NodeKind) → number k ≡ number k' → k ≡ k'
same_kind k k' e = sym (kind_back k) ∙ ap numbered e ∙ kind_back k'

-- Of two trees with as many nodes, also where other numbers follow their records.
same_front : (x y : Nodes) (s t : List ℕ) → count x ≡ count y → records x ++ s ≡ records y ++ t → (x ≡ y) × (s ≡ t)
unfolding count records
same_front none none s t n e = (refl, e)
same_front none (node k i b y) s t n e = absurd (omega arith)
same_front (node k i b x) none s t n e = absurd (omega arith)
same_front (node k i b x) (node k' i' b' y) s t n e =
    let kind : number k ≡ number k' = cc in
    let token : i ≡ i' = cc in
    let extent : suc (count b) ≡ suc (count b') = cc in
    let rest : (records b ++ records x) ++ s ≡ (records b' ++ records y) ++ t = cc in
    let beneath = same_front b b' (records x ++ s) (records y ++ t) (omega arith)
    (sym (append_assoc (records b) (records x) s) ∙ rest ∙ append_assoc (records b') (records y) t) in
    let beside = same_front x y s t (omega arith) beneath.1 in
    (rw (same_kind k k' kind, token, beneath.0, beside.0), beside.1)

pub records_injective : (x y : Nodes) → records x ≡ records y → x ≡ y
records_injective x y e =
    let n : count x ≡ count y = omega (arith, three_each x, three_each y, ap length e) in
    (same_front x y [] [] n (ap (λ (l : List ℕ). l ++ []) e)).0
