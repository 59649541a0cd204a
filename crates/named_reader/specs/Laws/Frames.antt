-- How the state's nodes stand in the tree buffer: what is written behind them, and what takes the place of a link.
-- Assumes nothing.
use Rattle.std.specs.Prelude.{ℕ, suc, ◌+◌, ◌*◌, ◌<◌, ◌≡◌, refl, List, [], ◌∷◌, ◌++◌, length, get_or, take, set}
use Rattle.std.proofs.Common.{sym, ap, ◌∙◌, append_assoc, append-nil, arith, length-append, get_or-take}
use Rattle.std.proofs.lemmas.List.{set_at, get_or_at}
use Rattle.std.proofs.Math.Seq.{take-set-lt}
use Rattle.reader.specs.Nodes.{NodeKind, number, Nodes, none, node, count, node_width, records}
use Rattle.reader.specs.Laws.NodeNumbers.{three_each}
use Rattle.named_reader.specs.NamedReading.{Frame, group, list, push}
use Rattle.named_reader.specs.NamedSays.{begun, open_records}

-- ---- one node more

pub count_push : (k : NodeKind) (i : ℕ) (b x : Nodes) → count (push k i b x) ≡ count x + suc (count b)
unfolding push count
count_push k i b none = omega arith
count_push k i b (node k' i' b' x) = omega (arith, count_push k i b x)

pub records_push : (k : NodeKind) (i : ℕ) (b x : Nodes) → records (push k i b x) ≡ records x ++ number k ∷ i ∷ suc (count b) ∷ records b
unfolding push records
records_push k i b none = rw (append-nil (records b)) refl
records_push k i b (node k' i' b' x) = rw (records_push k i b x) (simp append_assoc)

-- What is begun, and its records, are those before the innermost level's nodes and those nodes'.
pub begun_with : (fs : List Frame) (b : Nodes) → begun fs b ≡ begun fs none + count b
unfolding begun count
begun_with [] b = omega arith
begun_with (group d i x ∷ outer) b = omega arith
begun_with (list i x y j ∷ outer) b = omega arith

pub records_with : (fs : List Frame) (b : Nodes) → open_records fs b ≡ open_records fs none ++ records b
unfolding open_records records
records_with [] b = refl
records_with (group d i x ∷ outer) b = simp append_assoc
records_with (list i x y j ∷ outer) b = simp append_assoc

pub begun_push : (fs : List Frame) (k : NodeKind) (i : ℕ) (b x : Nodes) → begun fs (push k i b x) ≡ begun fs x + suc (count b)
begun_push fs k i b x = omega (arith, begun_with fs (push k i b x), begun_with fs x, count_push k i b x)

pub open_push : (fs : List Frame) (k : NodeKind) (i : ℕ) (b x : Nodes) → open_records fs (push k i b x) ≡ open_records fs x ++ number k ∷ i ∷ suc (count b) ∷ records b
open_push fs k i b x =
    records_with fs (push k i b x) ∙ ap (λ (l : List ℕ). open_records fs none ++ l) (records_push k i b x)
    ∙ sym (append_assoc (open_records fs none) (records x) (number k ∷ i ∷ suc (count b) ∷ records b))
    ∙ ap (λ (l : List ℕ). l ++ number k ∷ i ∷ suc (count b) ∷ records b) (sym (records_with fs x))

-- Three numbers a node.
pub open_length : (fs : List Frame) (b : Nodes) → length (open_records fs b) ≡ node_width * begun fs b
unfolding open_records begun
open_length [] b = three_each b
open_length (group d i x ∷ outer) b = rw length-append (omega (arith, open_length outer x, three_each b))
open_length (list i x y j ∷ outer) b = rw (length-append, length-append) (omega (arith, open_length outer x, three_each b, three_each y))

-- ---- a record among others

module _ (n : ℕ) (tree front behind : List ℕ) (k i v p : ℕ) (held : take n tree ≡ front ++ k ∷ i ∷ v ∷ behind) (long : length front ≡ p) (inside : p + 2 < n) where
  apart : front ++ k ∷ i ∷ v ∷ behind ≡ (front ++ k ∷ i ∷ []) ++ v ∷ behind
  apart = sym (append_assoc front (k ∷ i ∷ []) (v ∷ behind))

  apart_long : length (front ++ k ∷ i ∷ []) ≡ p + 2
  apart_long = rw length-append (omega (arith, long))

  -- Its first number,
  pub kind_there : get_or tree p 0 ≡ k
  kind_there = sym (get_or-take n tree p 0 (omega (arith, inside))) ∙ ap (λ (l : List ℕ). get_or l p 0) held ∙ get_or_at front k (i ∷ v ∷ behind) 0 p long

  -- its last one,
  pub last_there : get_or tree (p + 2) 0 ≡ v
  last_there = sym (get_or-take n tree (p + 2) 0 inside) ∙ ap (λ (l : List ℕ). get_or l (p + 2) 0) (held ∙ apart) ∙ get_or_at (front ++ k ∷ i ∷ []) v behind 0 (p + 2) apart_long

  -- and another in its place.
  pub last_put : (w : ℕ) → take n (set tree (p + 2) w) ≡ front ++ k ∷ i ∷ w ∷ behind
  last_put w =
      take-set-lt n tree (p + 2) w inside ∙ ap (λ (l : List ℕ). set l (p + 2) w) (held ∙ apart)
      ∙ set_at (front ++ k ∷ i ∷ []) v behind w (p + 2) apart_long ∙ append_assoc front (k ∷ i ∷ []) (w ∷ behind)
