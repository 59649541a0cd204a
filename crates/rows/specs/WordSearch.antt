-- The tables by which code finds a known word, made from the definitions' table of known words: what the contracts of the search speak of.
-- Assumes nothing.
use Rattle.std.specs.Prelude.{ℕ, zero, suc, ◌+◌, ◌≡◌, List, [], ◌∷◌, ◌++◌, map, length, get_or, eqb, if◌then◌else◌}
use Rattle.rows.specs.Words.{Known, known, bytes, same_exactly, same_ignoring_case, lower}
use Rattle.rows.specs.declared.words.Comparison.{Comparison}
use Rattle.rows.specs.declared.words.Comparison.TheVariants.{Exact, OtherCase, Different}

-- Two words beside each other.
unfoldable pub compared : (w v : List ℕ) → Comparison
compared w v = if same_exactly w v then Exact else if same_ignoring_case w v then OtherCase else Different

-- ---- lists put one after another

-- All lists as one.
unfoldable pub joined {ℓ} : {A : Type ℓ} → List (List A) → List A
joined [] = []
joined (xs ∷ xss) = xs ++ joined xss

-- Where list number r begins.
unfoldable pub start {ℓ} : {A : Type ℓ} → List (List A) → (r : ℕ) → ℕ
start xss zero = 0
start [] (suc r) = 0
start (xs ∷ xss) (suc r) = length xs + start xss r

-- The numbers below n.
unfoldable pub below : (n : ℕ) → List ℕ
below zero = []
below (suc n) = below n ++ n ∷ []

-- ---- the known words, shorter ones first

-- How many known words there are.
abbrev pub known_words : ℕ
known_words = 42

-- The length of the longest.
abbrev pub longest_known : ℕ
longest_known = 16

-- Those of length n.
unfoldable pub of_length : (n : ℕ) → List Known → List Known
unfolding bytes
of_length n [] = []
of_length n (k ∷ ks) = let rest = of_length n ks in if eqb (length (bytes k.text)) n then k ∷ rest else rest

-- Those of each length.
unfoldable pub groups : List (List Known)
unfolding of_length below known
groups = map (λ n. of_length n known) (below (suc longest_known))

-- All of them, shorter ones first, those of one length as in the table of known words.
unfoldable pub ordered : List Known
unfolding joined groups
ordered = joined groups

-- Their bytes, in that order.
unfoldable pub spellings : List (List ℕ)
unfolding ordered bytes
spellings = map (λ (k : Known). bytes k.text) ordered

-- ---- the tables

-- The known words one after another.
unfoldable pub texts : List ℕ
unfolding joined spellings
texts = joined spellings

-- The bytes of all known words.
abbrev pub texts_length : ℕ
texts_length = 307

-- Their numbers.
unfoldable pub numbers : List ℕ
unfolding ordered
numbers = map (λ (k : Known). k.number) ordered

-- Their first bytes in lower case.
unfoldable pub firsts : List ℕ
unfolding spellings lower
firsts = map (λ (w : List ℕ). lower (get_or w 0 0)) spellings

-- Where each begins in `texts`.
unfoldable pub starts : List ℕ
unfolding start spellings below
starts = map (λ r. start spellings r) (below known_words)

-- For each length, up to one past the longest, how many known words are shorter.
unfoldable pub shorter : List ℕ
unfolding start groups below
shorter = map (λ n. start groups n) (below (longest_known + 2))

-- What is lent to the search.
pub record Tables (known' numbers' firsts' starts' shorter' : List ℕ) : Type 0 where
  pub known_are : known' ≡ texts
  pub numbers_are : numbers' ≡ numbers
  pub firsts_are : firsts' ≡ firsts
  pub starts_are : starts' ≡ starts
  pub shorter_are : shorter' ≡ shorter
