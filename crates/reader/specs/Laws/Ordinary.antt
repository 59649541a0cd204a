-- A token of an ordinary kind is a node by itself in every region, and so is a comma outside lists.
-- Assumes nothing.
use Rattle.std.specs.Prelude.{ℕ, List, Result, ◌≡◌, refl, ◌≢◌, ◌⊎◌, Bool, true, false, not, ◌||◌, eqb, Option, Some, None}
use Rattle.std.proofs.Math.Path.{sym}
use Rattle.std.proofs.Common.{◌∙◌, ⊎_elim, true≢false, arith, ne_eqb}
use Rattle.rows.specs.Notation.{◌is_one_of◌}
use Rattle.rows.specs.Kinds.{LeftParen, RightParen, LeftBracket, RightBracket, Comma, Less, Greater, ShiftRight, NoToken}
use Rattle.rows.specs.declared.answer.Delimiter.TheVariants.{Parenthesis, Bracket}
use Rattle.rows.specs.declared.answer.Delimiter.{Delimiter}
use Rattle.prescan.specs.Laws.Ordinary.{no_ordinary_kinds, Ordinary, ordinary_so}
use Rattle.reader.specs.Reading.{is_angle_close, starts, kind_at, next}
use Rattle.reader.specs.ReaderSays.{NodeAnswers, TokenAnswers}
use Rattle.reader.specs.Laws.NodeWays.{node_by_token}
use Rattle.reader.specs.Laws.Tokens.{inside}
use Rattle.reader.specs.declared.parser.TypeSyntaxParser.{TypeSyntaxParser}
use Rattle.reader.specs.declared.parser.NodesRead.{NodesRead}
use Rattle.reader.specs.declared.parser.Stop.{Stop}
use Rattle.reader.specs.Tables.{region_of, started, planned, Plans}
use Rattle.reader.specs.declared.tables.Start.TheVariants.{Token}
use Rattle.reader.specs.declared.tables.GroupStep.TheVariants.{Node}

-- The kind of a token that opens and closes no group, and begins no list.
pub record Single (k : ℕ) : Type 0 where
  pub no_round_opener : eqb k LeftParen ≡ false
  pub no_square_opener : eqb k LeftBracket ≡ false
  pub no_round_closer : eqb k RightParen ≡ false
  pub no_square_closer : eqb k RightBracket ≡ false
  pub no_less : eqb k Less ≡ false
  pub a_token : k ≢ NoToken

pub ordinary_single : {k : ℕ} → Ordinary k → Single k
unfolding ◌is_one_of◌
ordinary_single {k} o = record {
  no_round_opener = ne_eqb k LeftParen (o.apart LeftParen refl);
  no_square_opener = ne_eqb k LeftBracket (o.apart LeftBracket refl);
  no_round_closer = ne_eqb k RightParen (o.apart RightParen refl);
  no_square_closer = ne_eqb k RightBracket (o.apart RightBracket refl);
  no_less = ne_eqb k Less (o.apart Less refl);
  a_token = o.apart NoToken refl;
}

comma_single : {k : ℕ} → k ≡ Comma → Single k
comma_single e = record { no_round_opener = rw e; no_square_opener = rw e; no_round_closer = rw e; no_square_closer = rw e; no_less = rw e; a_token = omega arith }

-- What the tests say of the token whose kind they were told.
pub single_so : {k k' : ℕ} {r : Bool} → k ≡ k' → r ≡ not (k is_one_of no_ordinary_kinds) → (r ≡ true) ⊎ ((r ≡ false) × (k ≡ Comma)) → Single k'
single_so ke h t = ⊎_elim (λ e. ordinary_single (ordinary_so ke h e)) (λ w. comma_single (sym ke ∙ w.1)) t

module _ {k : ℕ} (o : Single k) where
  -- A node begins there, whatever group is open,
  pub single_plans : {at : ℕ} (end : Option Delimiter) → Plans Node (region_of end) k at
  unfolding planned next
  single_plans None = record { plans = λ cpp after_identifier half lists. sym (rw (ne_eqb k NoToken o.a_token, o.no_round_closer, o.no_square_closer)) }
  single_plans (Some Parenthesis) = record { plans = λ cpp after_identifier half lists. sym (rw (ne_eqb k NoToken o.a_token, o.no_round_closer, o.no_square_closer)) }
  single_plans (Some Bracket) = record { plans = λ cpp after_identifier half lists. sym (rw (ne_eqb k NoToken o.a_token, o.no_square_closer, o.no_round_closer)) }

  -- as a token.
  pub single_starts : (cpp after_identifier : Bool) → started k Token ≡ starts cpp after_identifier k
  unfolding started starts
  single_starts cpp after_identifier = sym (rw (o.no_round_opener, o.no_square_opener, o.no_less))

-- A token of such a kind, read.
pub node_by_single : (cpp : Bool) {row : List ℕ} (lists nesting : ℕ) (after_identifier : Bool) {p : TypeSyntaxParser} → Single (kind_at row p.cursor) → {r : Result NodesRead Stop} {before buf : List ℕ}
    → TokenAnswers p r before buf → NodeAnswers cpp row lists nesting after_identifier p r buf
node_by_single cpp {row} lists nesting after_identifier {p} o h = node_by_token cpp row lists nesting after_identifier p (single_starts o cpp after_identifier) (inside row p.cursor o.a_token) h

-- An argument does not end at an ordinary kind, where no half of a `>>` is left.
pub ordinary_goes_on : {k : ℕ} → Ordinary k → (lists : ℕ) (half : Bool) → not half ≡ true → (is_angle_close lists k half || eqb k Comma) ≡ false
unfolding is_angle_close ◌is_one_of◌
ordinary_goes_on o lists true e = absurd (true≢false (sym e))
ordinary_goes_on {k} o lists false e =
    rw (ne_eqb k Greater (o.apart Greater refl), ne_eqb k ShiftRight (o.apart ShiftRight refl), ne_eqb k Comma (o.apart Comma refl))
