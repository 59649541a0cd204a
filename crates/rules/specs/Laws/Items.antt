-- Items as code reads them, test by test: document 02, C-11. Assumes nothing.
use Rattle.std.specs.Prelude.{ℕ, suc, ◌+◌, ◌-◌, ◌≤◌, ◌<◌, ◌≡◌, ◌≢◌, Bool, List, length, get_or, take, drop, eqb, if◌then◌else◌, None, Some}
use Rattle.std.proofs.Math.Path.{refl, sym}
use Rattle.std.proofs.Math.Bool.{true, false}
use native.Mathlib.Omega.{arith}
use borrow.Author.Tests.{le-leb, lt-leb, ne_eqb}
use Rattle.std.proofs.Common.{length-take, length-drop}
use Rattle.std.proofs.Math.Facts.{eqb_no}
use Rattle.rows.specs.Laws.Tests.{by_if}
use Rattle.rows.specs.Kinds.{Identifier, End}
use Rattle.rows.specs.Format.{longest_word}
use Rattle.rows.specs.Records.{in_range}
use Rattle.rules.specs.Rules.{word, good_word, good_kind}
use Rattle.rules.specs.RuleTable.{ItemFound, no_item, item, word_byte, kind_byte, group_byte, list_byte, any_byte, after_two, word_item, kind_item, item_at}
use Rattle.rules.specs.ItemsStand.{item_read}

no_other : (b : ℕ) → b ≤ any_byte → b ≢ word_byte → b ≢ kind_byte → b ≢ group_byte → b ≢ list_byte → b ≢ any_byte → ⊥
no_other b p a c d e f = omega arith

module _ (table : List ℕ) (end at : ℕ) where
  -- ---- a kind

  pub kind_cut_off : end < at + after_two → None ≡ item_read (kind_item table end at)
  unfolding kind_item
  kind_cut_off p = sym (rw (lt-leb (at + after_two) end p) refl)

  module _ (whole : at + after_two ≤ end) where
    pub kind_nought : get_or table (at + 1) 0 ≡ Identifier → None ≡ item_read (kind_item table end at)
    unfolding kind_item good_kind
    kind_nought e = sym (rw (le-leb (at + after_two) end whole, e) refl)

    pub kind_too_great : End < get_or table (at + 1) 0 → None ≡ item_read (kind_item table end at)
    unfolding kind_item good_kind
    kind_too_great p = sym (rw (le-leb (at + after_two) end whole, lt-leb (get_or table (at + 1) 0) End p, le-leb (suc Identifier) (get_or table (at + 1) 0) (omega arith)) refl)

    pub kind_whole : (get_or table (at + 1) 0 ≡ Identifier → ⊥) → get_or table (at + 1) 0 ≤ End → Some (at + after_two) ≡ item_read (kind_item table end at)
    unfolding kind_item good_kind
    kind_whole d p = sym (rw (le-leb (at + after_two) end whole, le-leb (get_or table (at + 1) 0) End p, le-leb (suc Identifier) (get_or table (at + 1) 0) (omega (arith, d))) refl)

  -- ---- a word of so many bytes

  module _ (size : ℕ) (is_size : size ≡ get_or table (at + 1) 0) where
    pub word_cut_off : end < at + after_two + size → None ≡ item_read (word_item table end at)
    unfolding word_item
    word_cut_off p = sym (rw (← is_size, lt-leb (at + after_two + size) end p) refl)

    module _ (whole : at + after_two + size ≤ end) where
      pub word_empty : size ≡ 0 → None ≡ item_read (word_item table end at)
      unfolding word_item good_word
      word_empty e = sym (rw (← is_size, le-leb (at + after_two + size) end whole, e) refl)

      module _ (inside : end ≤ length table) (some : (size ≡ 0 → ⊥)) (small : size ≤ longest_word) where
        long : length (take size (drop (at + after_two) table)) ≡ size
        long = simp (length-take, length-drop) (omega (arith, inside, whole))

        pub word_whole : (b : Bool) → b ≡ in_range (take (at + after_two + size - (at + after_two)) (drop (at + after_two) table))
            → (if b then Some (at + after_two + size) else None) ≡ item_read (word_item table end at)
        unfolding word_item good_word
        word_whole b e =
            let same : at + after_two + size - (at + after_two) ≡ size = omega arith in
            rw (e, same, ← is_size, le-leb (at + after_two + size) end whole, long, le-leb 1 size (omega (arith, some)), le-leb size longest_word small) (by (in_range (take size (drop (at + after_two) table))))
          where
            by : (b : Bool) → (if b then Some (at + after_two + size) else None) ≡ item_read (if b then item (word (take size (drop (at + after_two) table))) (at + after_two + size) else no_item)
            by true = refl
            by false = refl

  -- ---- an item by its byte

  abbrev byte : ℕ
  byte = get_or table at 0

  pub item_is_word : get_or table at 0 ≡ word_byte → item_read (word_item table end at) ≡ item_read (item_at table end at)
  unfolding item_at
  item_is_word e = sym (rw e refl)

  pub item_is_kind : get_or table at 0 ≡ kind_byte → item_read (kind_item table end at) ≡ item_read (item_at table end at)
  unfolding item_at
  item_is_kind e = sym (rw e refl)

  module _ (no_word : get_or table at 0 ≡ word_byte → ⊥) (no_kind : get_or table at 0 ≡ kind_byte → ⊥) where
    pub item_is_plain : get_or table at 0 ≤ any_byte → Some (at + 1) ≡ item_read (item_at table end at)
    unfolding item_at
    item_is_plain p =
        rw (ne_eqb _ word_byte no_word, ne_eqb _ kind_byte no_kind)
        (by_if Whole (eqb byte group_byte) (λ _. refl) λ no_group.
        by_if Whole (eqb byte list_byte) (λ _. refl) λ no_list.
        by_if Whole (eqb byte any_byte) (λ _. refl) λ no_any.
        absurd (no_other byte p no_word no_kind (eqb_no no_group) (eqb_no no_list) (eqb_no no_any)))
      where
        Whole : ItemFound → Type 0
        Whole x = Some (at + 1) ≡ item_read x

    pub item_is_none : any_byte < get_or table at 0 → None ≡ item_read (item_at table end at)
    unfolding item_at
    item_is_none p =
        sym (rw (ne_eqb _ word_byte no_word, ne_eqb _ kind_byte no_kind, ne_eqb (get_or table at 0) group_byte (λ e. absurd (omega (arith, e))), ne_eqb (get_or table at 0) list_byte (λ e. absurd (omega (arith, e))), ne_eqb (get_or table at 0) any_byte (λ e. absurd (omega (arith, e)))) refl)
