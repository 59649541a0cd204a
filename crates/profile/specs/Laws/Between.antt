-- Words of a row by a span of numbers: where none is among them, none of these is called. Assumes nothing.
use Prim.Native.Nat.{ℕ, zero, suc, ◌+◌, ◌≤◌, ◌<◌}
use Rattle.std.specs.Prelude.{◌≡◌, Bool, not, ◌&&◌, ◌||◌, List, length, get_or, leb}
use Rattle.std.proofs.Math.Path.{refl}
use Rattle.std.proofs.Common.{sym, ap, ◌∙◌, arith, add-one, lt_of_not-le, le-leb, ne_eqb}
use Rattle.std.proofs.Math.Bool.{true, false}
use Rattle.std.proofs.Math.Decide.{dec_le}
use Rattle.std.proofs.Math.ListN.{get_or-eq_default}
use Rattle.rows.specs.Kinds.{Identifier, LeftParen}
use Rattle.rows.specs.Words.{no_word, exactly, ignoring_case}
use Rattle.profile.specs.Profile.{some_below, some_token, kind_is, compared, identifier_is, has_identifier_call}
use Rattle.profile.specs.Laws.SomeToken.{found_below}

pub negated : (b : Bool) → not b ≡ true → b ≡ false
negated true e = sym e
negated false e = refl

-- Of a row's word: its number is one of these, as words are compared.
abbrev pub between : (ignoring : Bool) (words : List ℕ) (least most at : ℕ) → Bool
between ignoring words least most at = leb least (compared ignoring (get_or words at no_word)) && leb (compared ignoring (get_or words at no_word)) most

module _ (p : ℕ → Bool) where
  pub one_more : (at : ℕ) (found : Bool) → found ≡ some_below at p → (found || p at) ≡ some_below (at + 1) p
  unfolding some_below
  one_more at found e = rw (add-one at, ← e) refl

  pub no_more : (at n : ℕ) (found : Bool) → at ≤ n → n ≤ at → found ≡ some_below at p → found ≡ some_below n p
  no_more at n found l m e = let same : at ≡ n = omega arith in rw same at e

  none_passes : (n at : ℕ) → some_below n p ≡ false → at < n → p at ≡ false
  none_passes n at e l = by (p at) refl
    where
      by : (b : Bool) → p at ≡ b → b ≡ false
      by true q = sym (found_below p at n l q) ∙ e
      by false q = refl

  none_below : (n : ℕ) → ((at : ℕ) → p at ≡ false) → some_below n p ≡ false
  unfolding some_below
  none_below zero f = refl
  none_below (suc n) f = rw (none_below n f, f n) refl

-- No word of the row has the number 0 as such.
compared_none : (ignoring : Bool) → compared ignoring no_word ≡ no_word
unfolding ignoring_case exactly
compared_none true = refl
compared_none false = refl

module _ (ignoring : Bool) (kinds words : List ℕ) (least most : ℕ) (none : some_below (length words) (between ignoring words least most) ≡ false) where
  module _ (name : ℕ) (known : no_word < least) (above : least ≤ name) (below : name ≤ most) where
    other_word : (at : ℕ) → compared ignoring (get_or words at no_word) ≡ name → ⊥
    other_word at e =
        elim (dec_le (length words) at) [
          | yes h ↦
              let gone : name ≡ no_word = sym e ∙ ap (compared ignoring) (get_or-eq_default words no_word h) ∙ compared_none ignoring in
              omega (arith, gone)
          | no h ↦
              let passes : between ignoring words least most at ≡ true = rw (e, le-leb least name above, le-leb name most below) refl in
              let fails : between ignoring words least most at ≡ false = none_passes (between ignoring words least most) (length words) at none (lt_of_not-le h) in
              let z : ◌≡◌ {A = ℕ} 0 1 = cc in
              omega arith
        ]

    pub no_call : has_identifier_call ignoring kinds words name ≡ false
    unfolding has_identifier_call some_token identifier_is
    no_call = none_below _ (length kinds) (λ at. rw (ne_eqb (compared ignoring (get_or words at no_word)) name (other_word at)) (neither (kind_is kinds at Identifier) (kind_is kinds (at + 1) LeftParen)))
      where
        neither : (a b : Bool) → ((a && false) && b) ≡ false
        neither true b = refl
        neither false b = refl
