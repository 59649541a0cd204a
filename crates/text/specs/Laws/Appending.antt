-- How pieces of text come one behind the other.
-- Assumes nothing.
use Rattle.std.specs.Prelude.{ℕ, zero, suc, ◌+◌, ◌-◌, ◌/◌, ◌≤◌, ◌<◌, ◌≡◌, refl, Bool, true, false, List, [], ◌∷◌, ◌++◌, length, take, drop, get_or, set, ltb, if◌then◌else◌}
use Rattle.std.proofs.Common.{sym, ap, subst, ◌∙◌, append_assoc, append-nil, arith, add-one, sub-one, add-zero, add-suc, length-append, length-set, take-append-drop, take-suc, take-suc-set, drop-drop, drop-set-lt, lt-ltb, le-ltb}
use Rattle.std.proofs.Math.Seq.{take-length}
use Rattle.text.specs.declared.Text.{Text}
use Rattle.text.specs.Text.{Appended, base, most_digits, longest_ended, decimal, last_digit, last_digits, ended}
use Rattle.text.specs.Puts.{Puts}

-- One piece behind another.
pub appended_then : {xs ys zs : List ℕ} {a b c : ℕ} {p q : List ℕ} → Appended xs a p b ys → Appended ys b q c zs → Appended xs a (p ++ q) c zs
appended_then {xs} {ys} {zs} {a} {b} {c} {p} {q} first next = record {
  counts = next.counts ∙ simp length-append (omega (arith, first.counts));
  says = next.says ∙ ap (λ (l : List ℕ). l ++ q) first.says ∙ append_assoc (take a xs) p q;
  behind = next.behind ∙ rw (next.counts, ← drop-drop (length q) b ys, ← drop-drop (length q) b xs, first.behind) refl;
}

pub appended_as : {xs ys : List ℕ} {a b : ℕ} {p q : List ℕ} → p ≡ q → Appended xs a p b ys → Appended xs a q b ys
appended_as {xs} {ys} {a} {b} same h = subst (λ (l : List ℕ). Appended xs a l b ys) same h

-- Nothing added.
pub appended_none : (xs : List ℕ) (at : ℕ) → Appended xs at [] at xs
appended_none xs at = record { counts = omega arith; says = sym (append-nil (take at xs)); behind = refl }

-- The same over a text.
pub puts_then : {t u v : Text} {p q : List ℕ} → Puts t p u → Puts u q v → Puts t (p ++ q) v
puts_then first next = record { same_buffer = next.same_buffer ∙ first.same_buffer; as_long = next.as_long ∙ first.as_long; appended = appended_then first.appended next.appended }

pub puts_as : {t u : Text} {p q : List ℕ} → p ≡ q → Puts t p u → Puts t q u
puts_as {t} {u} same h = subst (λ (l : List ℕ). Puts t l u) same h

pub puts_none : (t : Text) → Puts t [] t
puts_none t = record { same_buffer = refl; as_long = refl; appended = appended_none t.bytes.now t.end }

-- The first piece of a text that was empty.
pub puts_front : {t u : Text} {xs p : List ℕ} → (t.bytes.now ≡ xs) × (t.end ≡ 0) → Puts t p u → Appended xs 0 p u.end u.bytes.now
puts_front {t} {u} {xs} {p} empty h = rw (empty.0, empty.1) at h.appended

-- A byte stored.
pub appended_byte : (xs : List ℕ) (at byte : ℕ) → at < length xs → Appended xs at (byte ∷ []) (at + 1) (set xs at byte)
appended_byte xs at byte less = record {
  counts = refl;
  says = rw (add-one at) (take-suc-set xs at byte less);
  behind = drop-set-lt (at + 1) xs at byte (omega arith);
}

-- What the whole buffer holds.
pub appended_whole : {xs ys : List ℕ} {a b : ℕ} {p : List ℕ} → Appended xs a p b ys → ys ≡ take a xs ++ p ++ drop b xs
appended_whole {xs} {ys} {a} {b} {p} h = rw (← h.says, ← h.behind) (sym (take-append-drop b ys))

-- The loop that copies bytes: the first i of them are added.
pub record Copying (entry : List ℕ) (at : ℕ) (bytes text : List ℕ) (i : ℕ) : Type 0 where
  pub within : i ≤ length bytes
  pub long : length text ≡ length entry
  pub so_far : Appended entry at (take i bytes) (at + i) text

pub copying_start : (xs : List ℕ) (at : ℕ) (bytes : List ℕ) → Copying xs at bytes xs 0
copying_start xs at bytes = record { within = omega arith; long = refl; so_far = rw add-zero (appended_none xs at) }

pub copying_on : {xs bytes ys : List ℕ} {at i : ℕ} → Copying xs at bytes ys i → at + length bytes ≤ length xs → i < length bytes → Copying xs at bytes (set ys (at + i) (get_or bytes i 0)) (i + 1)
copying_on {xs} {bytes} {ys} {at} {i} c room less =
    let next = appended_then c.so_far (appended_byte ys (at + i) (get_or bytes i 0) (omega (arith, c.long))) in
    record {
      within = omega arith;
      long = length-set ys (at + i) (get_or bytes i 0) ∙ c.long;
      so_far = rw (add-one i, take-suc bytes i 0 less, add-suc at i, ← add-one (at + i)) next;
    }

pub copying_end : {xs bytes ys : List ℕ} {at i : ℕ} → Copying xs at bytes ys i → length bytes ≤ i → Appended xs at bytes (at + i) ys
copying_end {xs} {bytes} {ys} {at} {i} c past =
    let whole : i ≡ length bytes = omega (arith, c.within, past) in
    subst (λ (l : List ℕ). Appended xs at l (at + i) ys) (ap (λ (n : ℕ). take n bytes) whole ∙ take-length bytes) c.so_far

-- ---- decimal digits

pub digits_long : (k n : ℕ) → length (last_digits k n) ≤ k + 1
unfolding last_digits
digits_long zero n = omega arith
digits_long (suc k) n = go (ltb n base) (digits_long k (n / base)) where
  go : (b : Bool) → length (last_digits k (n / base)) ≤ k + 1 → length (if b then last_digit n ∷ [] else last_digits k (n / base) ++ (last_digit n ∷ [])) ≤ suc k + 1
  go true h = omega arith
  go false h = simp length-append (omega (arith, h))

-- Here `d` is the last digit, as the code found it.
pub digits_last : (k n d : ℕ) → k ≡ 0 → d ≡ last_digit n → d ∷ [] ≡ last_digits k n
unfolding last_digits
digits_last k n d none e = rw (e, none) refl

pub digits_few : (k n d : ℕ) → n < base → d ≡ last_digit n → d ∷ [] ≡ last_digits k n
unfolding last_digits
digits_few zero n d less e = rw e refl
digits_few (suc k) n d less e = rw (e, lt-ltb n base less, last_digits) refl

pub digits_more : (k n d : ℕ) → (k ≡ 0 → ⊥) → base ≤ n → d ≡ last_digit n → last_digits (k - 1) (n / base) ++ (d ∷ []) ≡ last_digits k n
unfolding last_digits
digits_more zero n d some more e = absurd (some refl)
digits_more (suc k) n d some more e = rw (e, le-ltb n base more, sub-one (suc k), last_digits) refl

pub decimal_long : (n : ℕ) → length (decimal n) ≤ most_digits
unfolding decimal
decimal_long n = omega (arith, digits_long (most_digits - 1) n)

pub ended_long : (n end : ℕ) → length (ended n end) ≤ longest_ended
unfolding ended
ended_long n end = simp length-append (omega (arith, decimal_long n))

pub decimal_is : (n : ℕ) → last_digits (most_digits - 1) n ≡ decimal n
unfolding decimal
decimal_is n = refl
