-- Which builtin type words go together: the word counts of `validate_c_decl_specifiers`, and what it asks of them. Document 01, "Port order and what
-- changes shape". `seen`: how often each builtin type word and each qualifier was seen, by word number (`builtin_words` and `qualifiers` in one list).
-- Assumes nothing.
use Rattle.std.specs.Prelude.{ℕ, suc, Bool, false, ◌&&◌, ◌||◌, not, List, [], ◌∷◌, get_or, set, replicate, leb, ltb, eqb, if◌then◌else◌}
use Rattle.rows.specs.Words.{void, char, short, long, signed, unsigned, float, double, _Atomic}
use Rattle.type_nodes.specs.Sets.{builtin_type_words, scalar_bases}

-- "`HashMap` word counts become an array by word number": builtin type words and qualifiers have the first numbers.
abbrev pub counted_words : ℕ
counted_words = suc _Atomic

-- `HashMap::new()`. `_Atomic` has the greatest number of these words.
unfoldable pub none_seen : List ℕ
none_seen = replicate counted_words 0

-- `words.get(..)`: how often a word was seen.
unfoldable pub times : (w : ℕ) (seen : List ℕ) → ℕ
times w seen = get_or seen w 0

-- `contains_key`
unfoldable pub has : (w : ℕ) (seen : List ℕ) → Bool
unfolding times
has w seen = ltb 0 (times w seen)

-- `*words.entry(..).or_default() += 1`
unfoldable pub once_more : (w : ℕ) (seen : List ℕ) → List ℕ
unfolding times
once_more w seen = set seen w (suc (times w seen))

-- `filter(..).count()`: how many of these words were seen.
unfoldable pub how_many : (ws seen : List ℕ) → ℕ
unfolding has
how_many [] seen = 0
how_many (w ∷ ws) seen =
    let rest = how_many ws seen in
    if has w seen then suc rest else rest

-- `builtin_words.len()`
unfoldable pub builtin_words : (seen : List ℕ) → ℕ
unfolding how_many builtin_type_words
builtin_words seen = how_many builtin_type_words seen

-- One of these words was seen too often: `long` more than twice, another more than once.
unfoldable pub too_often : (ws seen : List ℕ) → Bool
unfolding times
too_often [] seen = false
too_often (w ∷ ws) seen = ltb (if eqb w long then 2 else 1) (times w seen) || too_often ws seen

-- `builtin_words.is_empty()`
unfoldable pub no_builtin_word : (seen : List ℕ) → Bool
unfolding builtin_words
no_builtin_word seen = eqb (builtin_words seen) 0

-- `validate_c_bit_int_sign`
unfoldable pub validate_c_bit_int_sign : (seen : List ℕ) → Bool
unfolding no_builtin_word builtin_words times
validate_c_bit_int_sign seen =
    no_builtin_word seen || (eqb (builtin_words seen) 1 && (eqb (times signed seen) 1 || eqb (times unsigned seen) 1))

-- `validate_c_builtin_combination`: a line for each of its tests.
unfoldable pub validate_c_builtin_combination : (seen : List ℕ) → Bool
unfolding too_often has how_many builtin_words times builtin_type_words scalar_bases
validate_c_builtin_combination seen =
    not (too_often builtin_type_words seen)
    && not (has signed seen && has unsigned seen)
    && not (has short seen && has long seen)
    && leb (how_many scalar_bases seen) 1
    && not (has void seen && not (eqb (builtin_words seen) 1))
    && not (has float seen && (has short seen || has long seen || has signed seen || has unsigned seen))
    && not (has double seen && (has short seen || has signed seen || has unsigned seen || ltb 1 (times long seen)))
    && not (has char seen && (has short seen || has long seen))
