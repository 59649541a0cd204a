-- Numbers in a buffer: what is written at its front, and behind what stands there.
-- Assumes nothing.
use Rattle.std.specs.Prelude.{ℕ, suc, ◌+◌, ◌*◌, ◌-◌, ◌≤◌, ◌≡◌, List, [], ◌∷◌, ◌++◌, length, take, drop}
use Rattle.std.proofs.Common.{ap, sym, ◌∙◌, append_assoc, append-nil, arith, length-take, length-drop, drop_at, length-take-le, take-add, drop-drop, take-take, take_all}
use Rattle.std.proofs.Math.Seq.{take-append-add}
use Rattle.std.proofs.lemmas.List.{take-append-le}
use Rattle.reader.specs.Nodes.{NodeKind, Nodes, none, node, number, count, node_width, records}
use Rattle.reader.specs.Laws.NodeNumbers.{three_each}
use Rattle.reader.specs.Laws.Loops.{◌then◌, then_records}

-- What is lent of a buffer from number k on, and the buffer when it is given back with other numbers.
abbrev pub lent : (k : ℕ) → List ℕ → List ℕ
lent k xs = take (length xs - k) (drop k xs)

abbrev pub given_back : (k : ℕ) → List ℕ → List ℕ → List ℕ
given_back k xs ys = take k xs ++ (ys ++ drop (length xs - k) (drop k xs))

-- A first part, and n of what follows it.
take_past : (p q : List ℕ) (m n : ℕ) → length p ≡ m → take (m + n) (p ++ q) ≡ p ++ take n q
take_past p q m n h = rw (← h) (take-append-add p q n)

-- What stands from k on, m numbers, and n numbers ys after them.
pub after : (xs ys zs : List ℕ) (k m n : ℕ) → k + m ≤ length xs → n ≤ length ys
    → take (m + n) (drop k (take (k + m) xs ++ (ys ++ zs))) ≡ take m (drop k xs) ++ take n ys
after xs ys zs k m n h l =
    ap (λ (p : List ℕ). take (m + n) (drop k (p ++ (ys ++ zs)))) (take-add k m xs)
    ∙ ap (λ (p : List ℕ). take (m + n) (drop k p)) (append_assoc (take k xs) (take m (drop k xs)) (ys ++ zs))
    ∙ ap (λ (p : List ℕ). take (m + n) p) (drop_at (take k xs) (take m (drop k xs) ++ (ys ++ zs)) k (length-take-le k xs (omega arith)))
    ∙ take_past (take m (drop k xs)) (ys ++ zs) m n (length-take-le m (drop k xs) (simp length-drop (omega arith)))
    ∙ ap (λ (p : List ℕ). take m (drop k xs) ++ p) (take-append-le n ys zs l)

pub after_front : (xs ys zs : List ℕ) (m n : ℕ) → m ≤ length xs → n ≤ length ys → take (m + n) (take m xs ++ (ys ++ zs)) ≡ take m xs ++ take n ys
after_front xs ys zs m n h l = take_past (take m xs) (ys ++ zs) m n (length-take-le m xs h) ∙ ap (λ (p : List ℕ). take m xs ++ p) (take-append-le n ys zs l)

-- The front of a list that is put together is the front of its first part.
pub front : (h s : ℕ) (xs ys : List ℕ) → h ≤ s → s ≤ length xs → take h (take s xs ++ ys) ≡ take h xs
front h s xs ys l m = take-append-le h (take s xs) ys (simp length-take (omega arith)) ∙ take-take h s xs l

-- A node's numbers before those of n nodes.
pub take_node : (n a b c : ℕ) (r : List ℕ) → take (node_width * suc n) (a ∷ b ∷ c ∷ r) ≡ a ∷ b ∷ c ∷ take (node_width * n) r
take_node n a b c r = let h : node_width * suc n ≡ suc (suc (suc (node_width * n))) = omega arith in rw h

-- The records of n nodes at the front of a list are all in it.
pub holds : (x : Nodes) (n : ℕ) (ys : List ℕ) → count x ≡ n → take (node_width * n) ys ≡ records x → node_width * n ≤ length ys
holds x n ys c w = let l : length (take (node_width * n) ys) ≡ node_width * n = ap length w ∙ three_each x ∙ omega (arith, c) in let m = rw length-take at l in omega arith

-- A node's record, written before those of the nodes below it.
pub node_written : (k : NodeKind) {at : ℕ} (b : Nodes) {kn n : ℕ} (tree ys zs : List ℕ) {buf : List ℕ} → node_width ≤ length tree → kn ≡ number k → count b ≡ n
    → take (node_width * n) ys ≡ records b → buf ≡ kn ∷ at ∷ (n + 1) ∷ drop node_width (take node_width tree ++ (ys ++ zs))
    → take (node_width * (n + 1)) buf ≡ records (node k at b none)
unfolding records
node_written k {at} b {kn} {n} tree ys zs {buf} room q c w e =
    let s : n + 1 ≡ suc n = omega arith in
    let t : suc n ≡ suc (count b) = ap suc (sym c) in
    ap (take (node_width * (n + 1))) e
    ∙ ap (λ (j : ℕ). take (node_width * j) (kn ∷ at ∷ j ∷ drop node_width (take node_width tree ++ (ys ++ zs)))) s
    ∙ take_node n kn at (suc n) (drop node_width (take node_width tree ++ (ys ++ zs)))
    ∙ ap (λ (l : List ℕ). kn ∷ at ∷ suc n ∷ take (node_width * n) l) (drop_at (take node_width tree) (ys ++ zs) node_width (length-take-le node_width tree room))
    ∙ ap (λ (l : List ℕ). kn ∷ at ∷ suc n ∷ l) (take-append-le (node_width * n) ys zs (holds b n ys c w) ∙ w ∙ sym (append-nil (records b)))
    ∙ ap (λ (j : ℕ). j ∷ at ∷ suc n ∷ (records b ++ [])) q
    ∙ ap (λ (j : ℕ). number k ∷ at ∷ j ∷ (records b ++ [])) t

-- A token's record.
pub token_written : (k : NodeKind) {at kn : ℕ} {r buf : List ℕ} → kn ≡ number k → buf ≡ kn ∷ at ∷ 1 ∷ r → take (node_width * 1) buf ≡ records (node k at none none)
unfolding records count
token_written k q e = rw (e, q)

-- An argument's record, written behind m nodes and before the argument's own.
pub argument_written : (k : NodeKind) (x y : Nodes) (at m i kn : ℕ) (tree ys zs : List ℕ) → count y ≡ i → kn ≡ number k
    → take (node_width * m) tree ≡ records x → take (node_width * i) (drop (node_width * m + node_width) tree) ≡ records y
    → ys ≡ kn ∷ at ∷ (i + 1) ∷ drop node_width (lent (node_width * m) tree) → length ys ≡ length tree - node_width * m
    → node_width * m + node_width + node_width * i ≤ length tree
    → take (node_width * (m + (i + 1))) (take (node_width * m) tree ++ (ys ++ zs)) ≡ records (x then node k at y none)
unfolding records
argument_written k x y at m i kn tree ys zs c q wx wy put long room =
    let e : node_width * (m + (i + 1)) ≡ node_width * m + node_width * suc i = omega arith in
    let s : i + 1 ≡ suc i = omega arith in
    let t : suc i ≡ suc (count y) = ap suc (sym c) in
    let whole : lent (node_width * m) tree ≡ drop (node_width * m) tree = take_all (length tree - node_width * m) (drop (node_width * m) tree) (simp length-drop (omega arith)) in
    ap (λ (j : ℕ). take j (take (node_width * m) tree ++ (ys ++ zs))) e
    ∙ after_front tree ys zs (node_width * m) (node_width * suc i) (omega arith) (omega arith)
    ∙ ap (λ (l : List ℕ). l ++ take (node_width * suc i) ys) wx
    ∙ ap (λ (l : List ℕ). records x ++ l)
    (ap (take (node_width * suc i)) put
    ∙ take_node i kn at (i + 1) (drop node_width (lent (node_width * m) tree))
    ∙ ap (λ (l : List ℕ). kn ∷ at ∷ (i + 1) ∷ take (node_width * i) (drop node_width l)) whole
    ∙ ap (λ (l : List ℕ). kn ∷ at ∷ (i + 1) ∷ take (node_width * i) l) (drop-drop node_width (node_width * m) tree)
    ∙ ap (λ (l : List ℕ). kn ∷ at ∷ (i + 1) ∷ l) (wy ∙ sym (append-nil (records y)))
    ∙ ap (λ (j : ℕ). kn ∷ at ∷ j ∷ (records y ++ [])) (s ∙ t)
    ∙ ap (λ (j : ℕ). j ∷ at ∷ suc (count y) ∷ (records y ++ [])) q)
    ∙ sym (then_records x (node k at y none))
