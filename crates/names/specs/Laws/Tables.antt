-- The table of names: empty, with one name more, and a word looked for in it. Assumes nothing.
use Rattle.std.specs.Prelude.{ℕ, ◌+◌, ◌-◌, ◌≤◌, ◌<◌, ◌≡◌, ◌≢◌, refl, Bool, true, false, List, [], ◌∷◌, ◌++◌, length, get_or, set}
use Rattle.std.proofs.Common.{sym, ap, subst, ◌∙◌, arith, lt_of_not-le, length-set, length-append, get_or-set_same, get_or-set_other}
use Rattle.std.proofs.Math.Decide.{dec_le, ℕ_discrete}
use Rattle.std.proofs.lemmas.List.{length-replicate, get_or-replicate, get_or_at}
use Rattle.std.proofs.Math.ListN.{get_or-append}
use Rattle.rows.specs.Words.{same_exactly}
use Rattle.names.specs.NameList.{most_names}
use Rattle.names.specs.NamesSay.{buckets, bucket_of, name, word_of, SomeRecord, Newest, Linked, Table, Clear, SomeChain, LooksInChain, SomeTable, TableThere, Looks, Adds}
use Rattle.names.specs.Laws.Same.{otherwise, same_equal}
use Rattle.names.specs.Laws.Names.{name_there, name_nowhere}

-- ---- no names

pub no_table : (file heads links places : List ℕ) → Clear heads links places → Table file [] heads links places
no_table file heads links places c =
    record {
      linked =
          record {
            few = omega arith;
            for_links = c.for_links;
            for_places = c.for_places;
            recorded = λ i p. absurd (omega arith);
            placed = λ i p. absurd (omega arith);
            linked = λ i p. absurd (omega arith);
          };
      for_heads = omega (arith, ap length c.no_heads ∙ length-replicate {A = ℕ} buckets 0);
      headed = λ b p.
          rw (c.no_heads, get_or-replicate {A = ℕ} buckets b 0 0 p)
          (record { below = omega arith; in_bucket = λ q. absurd (omega arith); none_newer = λ j q r. absurd (omega arith) });
    }

-- Heads of no names, with this room, are the table of no names.
pub some_table : {file heads links places : List ℕ} → Clear heads links places → SomeTable file 0 heads links places
some_table c = record { names = []; table = no_table _ _ _ _ c; counted = refl }

pub empty_table : {file heads links places : List ℕ} {count : ℕ} → SomeTable file count heads links places → count ≡ 0 → Table file [] heads links places
empty_table {file} {heads} {links} {places} s e = by s.names (s.counted ∙ e) s.table
  where
    by : (ns : List (List ℕ)) → length ns ≡ 0 → Table file ns heads links places → Table file [] heads links places
    by [] q t = t
    by (n ∷ ns) q t = absurd (omega (arith, q))

-- The table of so many names is that of some.
pub table_there : {file heads links places : List ℕ} {count : ℕ} → SomeTable file count heads links places → TableThere file heads links places
table_there s = record { names = s.names; table = s.table }

-- ---- one name more

module _ (ns : List (List ℕ)) (w : List ℕ) where
  name_kept : (i : ℕ) → i < length ns → name (ns ++ (w ∷ [])) i ≡ name ns i
  name_kept i p = get_or-append ns (w ∷ []) [] i p

  name_last : (i : ℕ) → length ns ≡ i → name (ns ++ (w ∷ [])) i ≡ w
  name_last i e = get_or_at ns w [] [] i e

  newest_kept : {b n newest : ℕ} → n ≤ length ns → Newest ns b n newest → Newest (ns ++ (w ∷ [])) b n newest
  newest_kept {b} {n} {newest} p h =
      record {
        below = h.below;
        in_bucket = λ q. ap bucket_of (name_kept (newest - 1) (omega (arith, h.below))) ∙ h.in_bucket q;
        none_newer = λ j q r e. h.none_newer j q r (sym (ap bucket_of (name_kept j (omega arith))) ∙ e);
      }

  newest_of_other : {b newest : ℕ} → bucket_of w ≢ b → Newest ns b (length ns) newest → Newest (ns ++ (w ∷ [])) b (length ns + 1) newest
  newest_of_other {b} {newest} d h =
      let k = newest_kept (omega arith) h in
      record {
        below = omega (arith, h.below);
        in_bucket = k.in_bucket;
        none_newer = λ j q r e.
            elim (dec_le (length ns) j) [
              | no n ↦ k.none_newer j q (lt_of_not-le n) e
              | yes p ↦ d (sym (ap bucket_of (name_last j (omega arith))) ∙ e)
            ];
      }

  newest_itself : {b : ℕ} → bucket_of w ≡ b → Newest (ns ++ (w ∷ [])) b (length ns + 1) (length ns + 1)
  newest_itself e =
      record {
        below = omega arith;
        in_bucket = λ q. ap bucket_of (name_last (length ns + 1 - 1) (omega arith)) ∙ e;
        none_newer = λ j q r. absurd (omega arith);
      }

module _ {file : List ℕ} {ns : List (List ℕ)} {heads links places : List ℕ} (t : Table file ns heads links places) (at count bucket : ℕ)
    (there : SomeRecord file at) (counted : length ns ≡ count) (room : count < most_names) (is_bucket : bucket ≡ bucket_of (word_of file at)) (small : bucket < buckets) where
  abbrev w : List ℕ
  w = word_of file at

  recorded_then : (i : ℕ) → i < length (ns ++ (w ∷ [])) → SomeRecord file (get_or (set places count at) i 0)
  recorded_then i p =
      elim (dec_le count i) [
        | no n ↦
            let q = lt_of_not-le n in
            rw (get_or-set_other places count i at 0 (λ c. absurd (omega (arith, c, q)))) (t.linked.recorded i (omega arith))
        | yes q ↦
            let last : count ≡ i = omega (arith, length-append ns (w ∷ [])) in
            subst (λ (k : ℕ). SomeRecord file (get_or (set places count at) k 0)) last (rw (get_or-set_same places count at 0 (omega (arith, t.linked.for_places))) there)
      ]

  placed_then : (i : ℕ) → i < length (ns ++ (w ∷ [])) → word_of file (get_or (set places count at) i 0) ≡ name (ns ++ (w ∷ [])) i
  placed_then i p =
      elim (dec_le count i) [
        | no n ↦
            let q = lt_of_not-le n in
            rw (get_or-set_other places count i at 0 (λ c. absurd (omega (arith, c, q)))) (t.linked.placed i (omega arith) ∙ sym (name_kept ns w i (omega arith)))
        | yes q ↦
            let last : i ≡ count = omega (arith, length-append ns (w ∷ [])) in
            ap (λ (k : ℕ). word_of file (get_or (set places count at) k 0)) last
            ∙ ap (word_of file) (get_or-set_same places count at 0 (omega (arith, t.linked.for_places)))
            ∙ sym (name_last ns w i (counted ∙ sym last))
      ]

  linked_then : (i : ℕ) → i < length (ns ++ (w ∷ []))
      → Newest (ns ++ (w ∷ [])) (bucket_of (name (ns ++ (w ∷ [])) i)) i (get_or (set links count (get_or heads bucket 0)) i 0)
  linked_then i p =
      elim (dec_le count i) [
        | no n ↦
            let q = lt_of_not-le n in
            rw (get_or-set_other links count i (get_or heads bucket 0) 0 (λ c. absurd (omega (arith, c, q))), name_kept ns w i (omega arith))
            (newest_kept ns w (omega arith) (t.linked.linked i (omega arith)))
        | yes q ↦
            let last : i ≡ count = omega (arith, length-append ns (w ∷ [])) in
            let here : get_or (set links count (get_or heads bucket 0)) i 0 ≡ get_or heads bucket 0 = ap (λ (k : ℕ). get_or (set links count (get_or heads bucket 0)) k 0) last ∙ get_or-set_same links count (get_or heads bucket 0) 0 (omega (arith, t.linked.for_links)) in
            let whose : bucket_of (name (ns ++ (w ∷ [])) i) ≡ bucket = ap bucket_of (name_last ns w i (counted ∙ sym last)) ∙ sym is_bucket in
            let many : i ≡ length ns = last ∙ sym counted in
            rw (here, whose, many) (newest_kept ns w (omega arith) (t.headed bucket small))
      ]

  headed_then : (b : ℕ) → b < buckets → Newest (ns ++ (w ∷ [])) b (length (ns ++ (w ∷ []))) (get_or (set heads bucket (count + 1)) b 0)
  headed_then b p =
      let more : length (ns ++ (w ∷ [])) ≡ length ns + 1 = length-append ns (w ∷ []) in
      elim (ℕ_discrete b bucket) [
        | yes e ↦
            let here : get_or (set heads bucket (count + 1)) b 0 ≡ length ns + 1 = ap (λ (k : ℕ). get_or (set heads bucket (count + 1)) k 0) e ∙ get_or-set_same heads bucket (count + 1) 0 (omega (arith, t.for_heads)) ∙ ap (λ (k : ℕ). k + 1) (sym counted) in
            rw (here, more) (newest_itself ns w (sym is_bucket ∙ sym e))
        | no d ↦
            rw (get_or-set_other heads bucket b (count + 1) 0 d, more) (newest_of_other ns w (λ e. d (sym (is_bucket ∙ e))) (t.headed b p))
      ]

  pub table_with : Table file (ns ++ (w ∷ [])) (set heads bucket (count + 1)) (set links count (get_or heads bucket 0)) (set places count at)
  table_with = record {
    linked =
        record {
          few = omega (arith, length-append ns (w ∷ []));
          for_links = rw (length-set links count (get_or heads bucket 0)) t.linked.for_links;
          for_places = rw (length-set places count at) t.linked.for_places;
          recorded = recorded_then;
          placed = placed_then;
          linked = linked_then;
        };
    for_heads = rw (length-set heads bucket (count + 1)) t.for_heads;
    headed = headed_then;
  }

-- What stands behind the last name's place and link is free.
module _ {file : List ℕ} {ns : List (List ℕ)} {heads links places : List ℕ} (t : Table file ns heads links places) (count x : ℕ) (counted : length ns ≡ count) where
  pub place_free : Table file ns heads links (set places count x)
  place_free = record {
    linked =
        record {
          few = t.linked.few;
          for_links = t.linked.for_links;
          for_places = rw (length-set places count x) t.linked.for_places;
          recorded = λ i p. rw (get_or-set_other places count i x 0 (λ c. absurd (omega (arith, c, p, counted)))) (t.linked.recorded i p);
          placed = λ i p. rw (get_or-set_other places count i x 0 (λ c. absurd (omega (arith, c, p, counted)))) (t.linked.placed i p);
          linked = t.linked.linked;
        };
    for_heads = t.for_heads;
    headed = t.headed;
  }

  pub link_free : Table file ns heads (set links count x) places
  link_free = record {
    linked =
        record {
          few = t.linked.few;
          for_links = rw (length-set links count x) t.linked.for_links;
          for_places = t.linked.for_places;
          recorded = t.linked.recorded;
          placed = t.linked.placed;
          linked = λ i p. rw (get_or-set_other links count i x 0 (λ c. absurd (omega (arith, c, p, counted)))) (t.linked.linked i p);
        };
    for_heads = t.for_heads;
    headed = t.headed;
  }

-- ---- a word looked for

-- None of the names from number `entry` on is the word, and the one before it is in its bucket.
pub record Looked (ns : List (List ℕ)) (word : List ℕ) (entry : ℕ) : Type 0 where
  pub below : entry ≤ length ns
  pub in_bucket : 0 < entry → bucket_of (name ns (entry - 1)) ≡ bucket_of word
  pub none : (j : ℕ) → entry ≤ j → j < length ns → same_exactly (name ns j) word ≡ false

other_bucket : (n word : List ℕ) → bucket_of n ≢ bucket_of word → same_exactly n word ≡ false
other_bucket n word d = otherwise (same_exactly n word) (λ e. d (ap bucket_of (same_equal n word e)))

module _ (file links places word : List ℕ) (first : ℕ) where
  -- Of all names that are so linked.
  pub record ChainLoop (entry : ℕ) : Type 0 where
    pub looked : (ns : List (List ℕ)) → Linked file ns links places → Newest ns (bucket_of word) (length ns) first → Looked ns word entry

  pub chain_begins : ChainLoop first
  chain_begins = record {
    looked = λ ns l h. record { below = h.below; in_bucket = h.in_bucket; none = λ j p q. other_bucket (name ns j) word (h.none_newer j p q) };
  }

  pub chain_ends : {entry : ℕ} → ChainLoop entry → entry ≤ 0 → LooksInChain file links places first word false
  chain_ends c p = record {
    says = λ ns l h. let s = c.looked ns l h in sym (name_nowhere ns word (λ i q. s.none i (omega arith) q));
  }

  -- The name before it stands in the arrays, is linked to an older one, and has a record.
  pub chain_within : SomeChain file links places first word → {entry : ℕ} → ChainLoop entry → 0 < entry
      → (entry - 1 < length links) × (entry - 1 < length places) × (get_or links (entry - 1) 0 < entry) × SomeRecord file (get_or places (entry - 1) 0)
  chain_within some {entry} c more =
      let l = some.linked in
      let s = c.looked some.names l some.newest in
      let next = l.linked (entry - 1) (omega (arith, s.below)) in
      (omega (arith, s.below, l.few, l.for_links), omega (arith, s.below, l.few, l.for_places), omega (arith, next.below), l.recorded (entry - 1) (omega (arith, s.below)))

  module _ {entry : ℕ} (c : ChainLoop entry) (more : 0 < entry) {b : Bool} (h : b ≡ same_exactly (word_of file (get_or places (entry - 1) 0)) word) where
    compared : {ns : List (List ℕ)} → Linked file ns links places → Newest ns (bucket_of word) (length ns) first → b ≡ same_exactly (name ns (entry - 1)) word
    compared {ns} l n =
        let s = c.looked ns l n in
        h ∙ ap (λ (x : List ℕ). same_exactly x word) (l.placed (entry - 1) (omega (arith, s.below)))

    pub chain_here : b ≡ true → LooksInChain file links places first word true
    chain_here e = record {
      says = λ ns l n. let s = c.looked ns l n in sym (name_there ns (entry - 1) word (omega (arith, s.below)) (sym (compared l n) ∙ e));
    }

    pub chain_again : b ≡ false → ChainLoop (get_or links (entry - 1) 0)
    chain_again e = record { looked = λ ns l n. further ns l n }
      where
        further : (ns : List (List ℕ)) → Linked file ns links places → Newest ns (bucket_of word) (length ns) first → Looked ns word (get_or links (entry - 1) 0)
        further ns l n =
            let s = c.looked ns l n in
            let next = l.linked (entry - 1) (omega (arith, s.below)) in
            record {
              below = omega (arith, next.below, s.below);
              in_bucket = λ q. next.in_bucket q ∙ s.in_bucket more;
              none = λ j p q. elim (dec_le entry j) [
                | yes y ↦ s.none j y q
                | no m ↦ elim (ℕ_discrete j (entry - 1)) [
                  | yes at ↦ ap (λ (k : ℕ). same_exactly (name ns k) word) at ∙ sym (compared l n) ∙ e
                  | no d ↦ other_bucket (name ns j) word (λ x. next.none_newer j p (omega (arith, d, lt_of_not-le m)) (x ∙ sym (s.in_bucket more)))
                ]
              ];
            }

-- ---- a word's chain

module _ {file heads links places : List ℕ} (word : List ℕ) {bucket first : ℕ} (is_bucket : bucket ≡ bucket_of word) (small : bucket < buckets) (is_first : first ≡ get_or heads bucket 0) where
  chain_newest : {ns : List (List ℕ)} → Table file ns heads links places → Newest ns (bucket_of word) (length ns) first
  chain_newest t = rw (is_first, ← is_bucket) (t.headed bucket small)

  pub some_chain : TableThere file heads links places → SomeChain file links places first word
  some_chain s = record { names = s.names; linked = s.table.linked; newest = chain_newest s.table }

  pub looks : {r : Bool} → LooksInChain file links places first word r → Looks file heads links places word r
  looks h = record { says = λ ns t. h.says ns t.linked (chain_newest t) }

module _ {file heads links places : List ℕ} {at count : ℕ} {r : Bool} (h : Looks file heads links places (word_of file at) r) where
  pub adds_none : {heads' links' places' : List ℕ} → r ≡ true → Adds file at count heads links places false heads' links' places'
  adds_none e = record { says = λ ns c t. sym (h.says ns t) ∙ e }

  module _ (room : count < most_names) (there : SomeRecord file at) {bucket : ℕ} (b : bucket ≡ bucket_of (word_of file at)) (small : bucket < buckets) (e : r ≡ false) where
    pub adds_one : Adds file at count heads links places true (set heads bucket (count + 1)) (set links count (get_or heads bucket 0)) (set places count at)
    adds_one = record { says = λ ns c t. (sym (h.says ns t) ∙ e, table_with t at count bucket there c room b small) }

    pub one_more : SomeTable file count heads links places → SomeTable file (count + 1) (set heads bucket (count + 1)) (set links count (get_or heads bucket 0)) (set places count at)
    one_more s = record {
      names = s.names ++ (word_of file at ∷ []);
      table = table_with s.table at count bucket there s.counted room b small;
      counted = omega (arith, length-append s.names (word_of file at ∷ []), s.counted);
    }

module _ {file heads links places : List ℕ} {count : ℕ} (s : SomeTable file count heads links places) (x : ℕ) where
  pub some_place_free : SomeTable file count heads links (set places count x)
  some_place_free = record { names = s.names; table = place_free s.table count x s.counted; counted = s.counted }

  pub some_link_free : SomeTable file count heads (set links count x) places
  some_link_free = record { names = s.names; table = link_free s.table count x s.counted; counted = s.counted }
