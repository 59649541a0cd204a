-- The name list record by record: what the loop of `read_names` keeps. Assumes nothing.
use Rattle.std.specs.Prelude.{ℕ, zero, suc, eqb, not, ◌+◌, ◌*◌, ◌-◌, ◌^◌, ◌≤◌, ◌<◌, ◌≡◌, ◌≢◌, Bool, false, ◌&&◌, length, leb, None}
use Rattle.std.proofs.Math.Path.{refl, ap, subst}
use Rattle.std.proofs.Common.{sym, ◌∙◌, le-leb, ne_eqb}
use Rattle.std.proofs.Math.Bool.{true}
use mathlib.Core.List.{List, [], ◌∷◌, ◌++◌, append_assoc, append-nil}
use native.Mathlib.Omega.{arith}
use Rattle.std.proofs.lemmas.Bool.{lt-leb}
use Rattle.std.proofs.Math.ListN.{length-append, length-map}
use Rattle.rows.specs.Kinds.{Identifier}
use Rattle.rows.specs.Format.{format, token_length, longest_word}
use Rattle.rows.specs.Records.{RowToken, Tokens, tokens, before_tokens, Row, found, word_at, tokens_from, to_end, records_from, formed}
use Rattle.rows.specs.Records as Records
use Rattle.rows.specs.Laws.Tests.{by_if, and_false}
use Rattle.rows.specs.Laws.Tokens.{formed_fits, word_there}
use Rattle.rows.specs.Laws.RowLoop.{ends, begins_malformed, begins_token}
use Rattle.rows.specs.Laws.RowFacts.{token_there}
use Rattle.names.specs.NameList.{most_names, is_name, distinct, all_words, words_in, NameList, malformed, names_of, names_in, name_list}
use Rattle.names.specs.NamesSay.{word_of, Table, SomeRecord, SomeTable, Added, Adds, NamesListed, ReadsNames}
use Rattle.names.specs.Laws.Names.{twice, one_more_apart, one_word_more, other_record}
use Rattle.names.specs.Laws.Tables.{empty_table}
use Rattle.names.specs.Laws.Records.{formed_sized}

-- The greatest length of a record.
abbrev longest_record : ℕ
longest_record = token_length format + longest_word

-- ---- tokens behind others

unfoldable pub after : List RowToken → Tokens → Tokens
after ts (Records.malformed offset) = Records.malformed offset
after ts (tokens us next) = tokens (ts ++ us) next

after_none : (r : Tokens) → r ≡ after [] r
unfolding after
after_none (Records.malformed offset) = refl
after_none (tokens us next) = refl

after_token : (ts : List RowToken) (t : RowToken) (r : Tokens) → after ts (before_tokens t r) ≡ after (ts ++ (t ∷ [])) r
unfolding after before_tokens
after_token ts t (Records.malformed offset) = refl
after_token ts t (tokens us next) = ap (λ (x : List RowToken). tokens x next) (sym (append_assoc ts (t ∷ []) us))

-- ---- what no list is

not_all_words : (ts : List RowToken) → all_words ts ≡ false → names_of ts ≡ malformed
unfolding names_of
not_all_words ts e = rw (e, and_false (leb 1 (length ts))) refl

pub not_distinct : (ts : List RowToken) → distinct (words_in ts) ≡ false → names_of ts ≡ malformed
unfolding names_of
not_distinct ts e = rw (e, and_false (leb 1 (length ts) && all_words ts)) refl

word_more : (ts : List RowToken) (t : RowToken) (us : List RowToken) → words_in (ts ++ (t ∷ us)) ≡ words_in ts ++ (t.word ∷ words_in us)
unfolding words_in
word_more [] t us = refl
word_more (u ∷ ts) t us = ap (λ (ns : List (List ℕ)). u.word ∷ ns) (word_more ts t us)

module _ (file : List ℕ) where
  abbrev told : Tokens → NameList
  told r = names_in (to_end format file r)

  stopped : (ts : List RowToken) (t : RowToken) (r : Tokens) → ((us : List RowToken) → names_of (ts ++ (t ∷ us)) ≡ malformed) → told (after ts (before_tokens t r)) ≡ malformed
  unfolding after before_tokens to_end names_in
  stopped ts t (Records.malformed offset) h = refl
  stopped ts t (tokens us next) h = by_if (λ (x : Row). names_in x ≡ malformed) (leb (length file) next) (λ _. h us) (λ _. refl)

  -- The names so far are distinct and in the table.
  pub record NamesLoop (heads links places : List ℕ) (at count : ℕ) : Type 0 where
    pub so_far : List RowToken
    pub counted : length so_far ≡ count
    pub few : count ≤ most_names
    pub offset : at ≤ count * longest_record
    pub all : all_words so_far ≡ true
    pub apart : distinct (words_in so_far) ≡ true
    pub table : Table file (words_in so_far) heads links places
    pub is : tokens_from format file most_names 0 ≡ after so_far (tokens_from format file (most_names - count) at)

  pub names_begin : {heads links places : List ℕ} {count : ℕ} → SomeTable file count heads links places → count ≡ 0 → NamesLoop heads links places 0 count
  unfolding all_words distinct words_in
  names_begin s e =
      record {
        so_far = [];
        counted = sym e;
        few = omega (arith, e);
        offset = omega arith;
        all = refl;
        apart = refl;
        table = empty_table s e;
        is = rw e (after_none (tokens_from format file most_names 0));
      }

  module _ {heads links places : List ℕ} {at count : ℕ} (l : NamesLoop heads links places at count) where
    words_counted : length (words_in l.so_far) ≡ count
    unfolding words_in
    words_counted = length-map l.so_far (λ (t : RowToken). t.word) ∙ l.counted

    pub record_there : count ≢ most_names → {k n : ℕ} → found format file at ≡ formed k n → (count < most_names) × SomeRecord file at × (at < 2 ^ 32)
    record_there d {k} {n} e = (omega (arith, l.few, d), record { kind = k; size = n; is = e }, omega (arith, l.offset, l.few))

    -- ---- behind the last record

    ended : tokens_from format file (most_names - count) at ≡ tokens [] at → tokens_from format file most_names 0 ≡ tokens l.so_far at
    unfolding after
    ended e = l.is ∙ ap (after l.so_far) e ∙ ap (λ (ts : List RowToken). tokens ts at) (append-nil l.so_far)

    pub names_full : at < length file → count ≡ most_names → name_list file ≡ malformed
    unfolding name_list records_from to_end names_in tokens_from
    names_full p e =
        let none : most_names - count ≡ 0 = omega arith in
        ap told (ended (rw none refl)) ∙ rw (lt-leb (length file) at p) refl

    at_end : length file ≤ at → name_list file ≡ names_of l.so_far
    unfolding name_list records_from to_end names_in
    at_end p = ap told (ended (ends format file (most_names - count) at p)) ∙ rw (le-leb (length file) at p) refl

    pub names_empty : length file ≤ at → count ≡ 0 → name_list file ≡ malformed
    unfolding names_of
    names_empty p e = at_end p ∙ rw (lt-leb 1 (length l.so_far) (omega (arith, l.counted, e))) refl

    pub names_end : length file ≤ at → count ≢ 0 → NamesListed file count heads links places
    unfolding names_of
    names_end p d = record {
      names = words_in l.so_far;
      is = at_end p ∙ rw (le-leb 1 (length l.so_far) (omega (arith, l.counted, d)), l.all, l.apart) refl;
      counted = words_counted;
      table = l.table;
    }

    -- A list of no names is malformed.
    pub names_told : length file ≤ at → ReadsNames file (not (eqb count 0)) count heads links places
    names_told p = by count refl
      where
        by : (n : ℕ) → count ≡ n → ReadsNames file (not (eqb n 0)) count heads links places
        by zero e = record { told = names_empty p e }
        by (suc n) e = rw (ne_eqb (suc n) 0 (omega arith)) (record { told = names_end p (omega (arith, e)) })

    -- ---- at a record

    module _ (p : at < length file) (d : count ≢ most_names) where
      more : most_names - count ≡ suc (most_names - (count + 1))
      more = omega (arith, l.few, d)

      pub names_malformed : found format file at ≡ None → name_list file ≡ malformed
      unfolding name_list records_from to_end names_in after
      names_malformed e = ap told (l.is ∙ ap (λ (n : ℕ). after l.so_far (tokens_from format file n at)) more ∙ ap (after l.so_far) (begins_malformed format file (most_names - (count + 1)) at p e))

      module _ {k n : ℕ} (e : found format file at ≡ formed k n) where
        abbrev t : RowToken
        t = token_there format file at k

        abbrev rest : Tokens
        rest = tokens_from format file (most_names - (count + 1)) (at + n)

        opened : tokens_from format file most_names 0 ≡ after l.so_far (before_tokens t rest)
        opened = l.is ∙ ap (λ (m : ℕ). after l.so_far (tokens_from format file m at)) more ∙ ap (after l.so_far) (begins_token format file (most_names - (count + 1)) at k n p e)

        pub names_other_kind : k ≢ Identifier → name_list file ≡ malformed
        unfolding name_list records_from
        names_other_kind q = ap told opened ∙ stopped l.so_far t rest (λ us. not_all_words (l.so_far ++ (t ∷ us)) (other_record l.so_far t us (ne_eqb k Identifier q)))

        word_same : word_of file at ≡ word_at format file at
        word_same = sym (word_there format file at k n e)

        pub names_twice : {heads' links' places' : List ℕ} {b : Bool} → b ≡ false → Adds file at count heads links places b heads' links' places' → name_list file ≡ malformed
        unfolding name_list records_from
        names_twice {heads'} {links'} {places'} q a =
            let there : is_name (words_in l.so_far) (word_of file at) ≡ true =
            subst (λ (b : Bool). Added file at (words_in l.so_far) b heads' links' places') q (a.says (words_in l.so_far) words_counted l.table) in
            ap told opened
            ∙ stopped l.so_far t rest
            (λ us. not_distinct (l.so_far ++ (t ∷ us))
            (ap distinct (word_more l.so_far t us) ∙ twice (words_in l.so_far) (word_at format file at) (words_in us) (ap (is_name (words_in l.so_far)) (sym word_same) ∙ there)))

        pub names_further : (at < at + n) × (at + n ≤ length file)
        names_further = let fit = formed_fits format file at k n e in (omega (arith, fit.long), fit.inside)

        pub names_again : k ≡ Identifier → {heads' links' places' : List ℕ} {b : Bool} → b ≡ true → Adds file at count heads links places b heads' links' places'
            → NamesLoop heads' links' places' (at + n) (count + 1)
        unfolding words_in
        names_again i {heads'} {links'} {places'} q a =
            let added : Added file at (words_in l.so_far) true heads' links' places' =
            subst (λ (b : Bool). Added file at (words_in l.so_far) b heads' links' places') q (a.says (words_in l.so_far) words_counted l.table) in
            let now : words_in (l.so_far ++ (t ∷ [])) ≡ words_in l.so_far ++ (word_of file at ∷ []) = word_more l.so_far t [] ∙ ap (λ (w : List ℕ). words_in l.so_far ++ (w ∷ [])) (sym word_same) in
            record {
              so_far = l.so_far ++ (t ∷ []);
              counted = omega (arith, length-append l.so_far (t ∷ []), l.counted);
              few = omega (arith, l.few, d);
              offset = omega (arith, l.offset, (formed_sized format file at k n e).short);
              all = one_word_more l.so_far t l.all i;
              apart = ap distinct now ∙ one_more_apart (words_in l.so_far) (word_of file at) l.apart added.0;
              table = subst (λ (ns : List (List ℕ)). Table file ns heads' links' places') (sym now) added.1;
              is = opened ∙ after_token l.so_far t rest;
            }
