-- The records of a row one after another: where each begins, and what `mark_names` keeps as it goes from one to the next.
-- Assumes nothing.
use Prim.Native.Nat.{ℕ, zero, suc, ◌+◌, ◌-◌, ◌≤◌, ◌<◌}
use Rattle.std.proofs.Math.Path.{◌≡◌, refl, ap, subst}
use Rattle.std.proofs.Common.{sym, ◌∙◌, arith, length-set}
use Rattle.std.specs.Prelude.{Bool, get_or, drop, set, leb, if◌then◌else◌, None, Option, Some}
use Rattle.std.proofs.Math.Bool.{true, false}
use mathlib.Core.List.{List, [], ◌∷◌}
use Rattle.std.proofs.Math.ListN.{length, length-map}
use Rattle.rows.specs.Kinds.{Less}
use Rattle.rows.specs.Format.{format, head_length, most_tokens}
use Rattle.rows.specs.Records.{RowToken, Tokens, tokens, malformed, row, found, word_at, length_at, before_tokens, after_record, tokens_from, to_end, records_from, kinds_of, places_of, formed}
use Rattle.rows.specs.Records
use Rattle.rows.specs.Laws.Tokens.{formed_fits}
use Rattle.rows.specs.declared.answer.TypeNameError.TheVariants.{TooManyRecords}
use Rattle.rows.specs.declared.token.TokenRecord.{TokenRecord}
use Rattle.names.specs.NamesSay.{SomeRecord, Looks, word_of, RowIs, Marks}
use Rattle.names.specs.Laws.MarkLoop.{MarkLoop, marks_begin, marks_pass, marks_again, marks_end}

module _ (file : List ℕ) where
  -- The tokens' records stand one after another from a byte offset on.
  abbrev Chained : (at : ℕ) → List RowToken → Type 0
  Chained at [] = Unit {0}
  Chained at (t ∷ ts) = (t.place ≡ at) × SomeRecord file at × Chained (at + length_at format file at) ts

  abbrev AllChained : (at : ℕ) → Tokens → Type 0
  AllChained at (malformed offset) = Unit {0}
  AllChained at (tokens ts next) = Chained at ts

  record_chained : (at : ℕ) (r : Option TokenRecord) (rest : ℕ → Tokens) → found format file at ≡ r → ((n : ℕ) → AllChained n (rest n)) → AllChained at (after_record format file at r rest)
  unfolding after_record before_tokens
  record_chained at None rest e f = tt
  record_chained at (Some r) rest e f = by (rest (at + r.length)) (f (at + r.length))
    where
      length_is : r.length ≡ length_at format file at
      length_is = (formed_fits format file at r.kind r.length e).is_length

      by : (ts : Tokens) → AllChained (at + r.length) ts → AllChained at (before_tokens (record { place = at; kind = r.kind; word = word_at format file at }) ts)
      by (malformed offset) c = tt
      by (tokens ts next) c = (refl, record { kind = r.kind; size = r.length; is = e }, subst (λ (m : ℕ). Chained (at + m) ts) length_is c)

  tokens_chained : (most at : ℕ) → AllChained at (tokens_from format file most at)
  unfolding tokens_from
  tokens_chained zero at = tt
  tokens_chained (suc most) at = by (leb (length file) at) (λ n. tokens_chained most n)
    where
      by : (b : Bool) → ((n : ℕ) → AllChained n (tokens_from format file most n)) → AllChained at (elim b as (λ _. Tokens) [ true ↦ tokens [] at | false ↦ after_record format file at (found format file at) (λ next. tokens_from format file most next) ])
      by true f = tt
      by false f = record_chained at (found format file at) (λ next. tokens_from format file most next) refl f

  ends_chained : (at : ℕ) (r : Tokens) → AllChained at r → (ts : List RowToken) → to_end format file r ≡ row ts → Chained at ts
  unfolding to_end
  ends_chained at (malformed offset) c ts e = let z : ◌≡◌ {A = ℕ} 0 1 = cc in absurd (omega arith)
  ends_chained at (tokens us next) c ts e = by (leb (length file) next) e
    where
      by : (b : Bool) → (if b then row us else Records.refused TooManyRecords) ≡ row ts → Chained at ts
      by true e = subst (Chained at) (same us ts e) c
        where
          same : (us ts : List RowToken) → row us ≡ row ts → us ≡ ts
          same us ts e = cc
      by false e = let z : ◌≡◌ {A = ℕ} 0 1 = cc in absurd (omega arith)

  row_chained : (most at : ℕ) (ts : List RowToken) → records_from format file most at ≡ row ts → Chained at ts
  unfolding records_from
  row_chained most at ts e = ends_chained at (tokens_from format file most at) (tokens_chained most at) ts e

  -- One record further.
  further : (at j : ℕ) (ts : List RowToken) → j < length ts → Chained at (drop j ts)
      → (get_or (places_of ts) j 0 ≡ at) × SomeRecord file at × Chained (at + length_at format file at) (drop (suc j) ts)
  unfolding places_of
  further at zero [] p c = absurd (omega arith)
  further at zero (t ∷ ts) p c = (c.0, c.1, c.2)
  further at (suc j) [] p c = absurd (omega arith)
  further at (suc j) (t ∷ ts) p c = further at j ts (omega arith) c

-- ---- the loop

module _ (file kinds names heads links places : List ℕ) (marks₀ : List Bool) where
  -- Before token i: the marks of those before it are made, and the record of the one before it begins at `next`.
  pub record Walk (marks : List Bool) (i next : ℕ) : Type 0 where
    pub made : (ts : List RowToken) → RowIs file kinds ts → MarkLoop file kinds (places_of ts) names heads links places marks₀ marks i
    pub chained : (ts : List RowToken) → RowIs file kinds ts → Chained file next (drop (i - 1) ts)
    pub kept : length marks ≡ length marks₀
    pub first : 1 ≤ i

  pub walk_begins : Walk marks₀ 1 head_length
  walk_begins = record {
    made = λ ts r. marks_begin file kinds (places_of ts) names heads links places marks₀;
    chained = λ ts r. row_chained file most_tokens head_length ts r.row_is;
    kept = refl;
    first = omega arith;
  }

  module _ {marks : List Bool} {i next : ℕ} (w : Walk marks i next) (inside : i < length kinds) where
    here : (ts : List RowToken) → RowIs file kinds ts
        → (get_or (places_of ts) (i - 1) 0 ≡ next) × SomeRecord file next × Chained file (next + length_at format file next) (drop i ts)
    unfolding kinds_of
    here ts r =
        let long : length kinds ≡ length ts = ap length r.kinds_are ∙ length-map ts (λ (t : RowToken). t.kind) in
        let one : suc (i - 1) ≡ i = omega (arith, w.first) in
        subst (λ (j : ℕ). (get_or (places_of ts) (i - 1) 0 ≡ next) × SomeRecord file next × Chained file (next + length_at format file next) (drop j ts)) one
        (further file next (i - 1) ts (omega (arith, long, inside, w.first)) (w.chained ts r))

    pub record_there : (ts : List RowToken) → RowIs file kinds ts → SomeRecord file next
    record_there ts r = (here ts r).1

    behind : (ts : List RowToken) → RowIs file kinds ts → (n : ℕ) → n ≡ length_at format file next → Chained file (next + n) (drop (i + 1 - 1) ts)
    behind ts r n e = let same : i + 1 - 1 ≡ i = omega arith in rw (e, same) (here ts r).2

    pub walk_passes : (n : ℕ) → n ≡ length_at format file next → (get_or kinds i 0 ≡ Less → ⊥) → Walk marks (i + 1) (next + n)
    walk_passes n e d = record {
      made = λ ts r. marks_pass file kinds (places_of ts) names heads links places marks₀ (w.made ts r) d;
      chained = λ ts r. behind ts r n e;
      kept = w.kept;
      first = omega (arith, w.first);
    }

    pub walk_marks : (n : ℕ) → n ≡ length_at format file next → length kinds ≤ length marks₀ → get_or kinds i 0 ≡ Less → {sought : List ℕ} → sought ≡ word_of file next → {b : Bool}
        → Looks names heads links places sought b → Walk (set marks (i - 1) b) (i + 1) (next + n)
    walk_marks n e room less {sought} s {b} h = record {
      made = λ ts r.
          marks_again file kinds (places_of ts) names heads links places marks₀ (w.made ts r) inside room less (s ∙ ap (word_of file) (sym (here ts r).0)) h;
      chained = λ ts r. behind ts r n e;
      kept = length-set marks (i - 1) b ∙ w.kept;
      first = omega (arith, w.first);
    }

  pub walk_ends : {marks : List Bool} {i next : ℕ} → Walk marks i next → length kinds ≤ i → Marks file kinds names heads links places marks₀ marks
  walk_ends w p = record { says = λ ts r ns t. marks_end file kinds (places_of ts) names heads links places marks₀ (w.made ts r) p ns t; kept = w.kept }
