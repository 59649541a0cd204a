-- What is proved of the answers to a search for an overlap, on one page: each theorem with what it means. The proofs are in Laws/ and in crate `rules`.
-- Assumes nothing.
use Rattle.rule_answers.specs.OverlapAnswer.{overlaps, no_further, overlap_refuses, OverlapAnswer}
use Rattle.std.specs.Prelude.{ℕ, ◌≤◌, ◌<◌, ◌^◌, ◌≡◌, ◌↔◌, false, List, length, take, drop, T}
use Rattle.rows.specs.declared.answer.TypeNameError.{TypeNameError}
use Rattle.rows.specs.declared.answer.TypeNameError.TheVariants.{InvalidRuleTable, ShortBuffer}
use Rattle.rules.specs.Rules.{Node, Rule, good_nodes, matches}
use Rattle.rules.specs.RuleTable.{no_table, a_table, table_of}
use Rattle.rules.specs.Overlaps.{longest_shown, rule, Pair, FirstAfter, NoneAfter, Places, Walk}
use Rattle.rules.specs.Laws.Walks.{Reported, InOrder}
use Rattle.rule_answers.specs.OverlapAnswers.{shown_items, shown_bytes, TooShort, OverlapTold}
use Rattle.rule_answers.specs.OverlapWalks.{NextPair, Calls, CallsAnswered}
use Rattle.rule_answers.specs.Laws.Overlaps as Overlaps
use Rattle.rule_answers.specs.Laws.FirstPairs as FirstPairs
use Rattle.rule_answers.specs.Laws.Walks as Walks

-- ---- one call

-- For every table, pair handed in and buffer there is an answer,
pub some_answer : (rules : List ℕ) (e l : ℕ) (before : List ℕ) → (a : OverlapAnswer) × (after : List ℕ) × OverlapTold rules e l before a after
some_answer = FirstPairs.some_answer

module _ (rules : List ℕ) (e l : ℕ) (before after : List ℕ) where
  -- and only one answer with one final buffer.
  pub one_answer : (a a' : OverlapAnswer) (after' : List ℕ) → OverlapTold rules e l before a after → OverlapTold rules e l before a' after'
      → (a ≡ a') × (after ≡ after')
  one_answer a a' after' = Overlaps.one_answer

  -- "no refusal touches it",
  pub refused_untouched : (error : TypeNameError) → OverlapTold rules e l before (overlap_refuses error) after → after ≡ before
  refused_untouched error = Overlaps.refused_untouched

  -- and nor does the answer that there is no further pair.
  pub no_further_untouched : OverlapTold rules e l before no_further after → after ≡ before
  no_further_untouched = Overlaps.no_further_untouched

  -- "50 rule table not of this form or of over 256 rules": before all else.
  pub not_of_the_form : (a : OverlapAnswer) → table_of rules ≡ no_table → OverlapTold rules e l before a after → a ≡ overlap_refuses InvalidRuleTable
  not_of_the_form a = Overlaps.not_of_the_form

-- ---- one call, to a table of the form

module _ (rules : List ℕ) (rs : List Rule) (is : table_of rules ≡ a_table rs) where
  module _ (e l : ℕ) (before after : List ℕ) where
    -- The pair that is reported overlaps, and is the first after the pair handed in: "one a call, by earlier, then later place".
    pub first_reported : (i j bytes : ℕ) → OverlapTold rules e l before (overlaps i j bytes) after → FirstAfter rs e l i j
    first_reported i j bytes = Overlaps.first_reported rules is

    -- If there is no further pair, none overlaps after the pair handed in.
    pub none_left : OverlapTold rules e l before no_further after → NoneAfter rs e l
    none_left = Overlaps.none_left rules is

    -- "A short byte buffer for output is 6, checked last": the only refusal, and only if the next pair's sequence is longer than the buffer.
    pub only_short : (error : TypeNameError) → OverlapTold rules e l before (overlap_refuses error) after → (error ≡ ShortBuffer) × TooShort rs e l before
    only_short error = Overlaps.only_short rules is

    -- 4,112 bytes are enough: then the next pair is reported or that there is none.
    pub enough : (a : OverlapAnswer) → longest_shown ≤ length before → OverlapTold rules e l before a after → NextPair rs e l a
    enough a = Overlaps.enough rules is

    -- The bytes that are shown stand in front, and "bytes past the output stay".
    pub shown_in_front : (i j bytes : ℕ) → OverlapTold rules e l before (overlaps i j bytes) after
        → (take bytes after ≡ shown_bytes rs i j) × (drop bytes after ≡ drop bytes before)
    shown_in_front i j bytes = Overlaps.shown_in_front rules is

  -- ---- the sequence that is shown for a pair

  module _ (i j : ℕ) (p : Pair rs i j) where
    -- No shorter sequence of nodes is matched by both rules: it is "as long as the longer rule, 'the rest' not counted".
    pub not_shorter : (ns : List Node) → T (matches (rule rs i) ns) → T (matches (rule rs j) ns) → length (shown_items rs i j) ≤ length ns
    not_shorter = Overlaps.not_shorter rules is p

    -- The sequences of its length that both rules match are exactly those that fit the shown items place by place,
    pub both_exactly : (ns : List Node) → length ns ≡ length (shown_items rs i j)
        → (T (matches (rule rs i) ns) × T (matches (rule rs j) ns)) ↔ T (matches (record { items = shown_items rs i j; rest = false }) ns)
    both_exactly = Overlaps.both_exactly rules is p

    -- and there is one.
    pub both_some : (ns : List Node) × T (good_nodes ns) × (length ns ≡ length (shown_items rs i j)) × T (matches (rule rs i) ns) × T (matches (rule rs j) ns)
    both_some = Overlaps.both_some rules is p

  -- ---- the calls one after the other

  -- What they report is what the definition of all pairs in order says.
  pub calls_walk : (e l : ℕ) (ps : List Places) → Calls rules e l ps → Walk rs e l ps
  calls_walk e l ps = Walks.calls_walk rules is

  -- "exactly the pairs of rules that some sequence of nodes, from a row or not, matches together": from (0, 0) on,
  pub reported_exactly : (ps : List Places) → Calls rules 0 0 ps → (i j : ℕ) → Reported i j ps ↔ Pair rs i j
  reported_exactly ps = Walks.reported_exactly rules is

  -- "by earlier, then later place": each comes after the one before, so each is reported once.
  pub in_order : (e l : ℕ) (ps : List Places) → Calls rules e l ps → InOrder e l ps
  in_order e l ps = Walks.in_order rules is

  -- The calls end, from every pair of numbers of 32 bits, if each is answered and lent 4,112 bytes,
  pub calls_end : CallsAnswered rules → (e l : ℕ) → e < 2 ^ 32 → l < 2 ^ 32 → (ps : List Places) × Calls rules e l ps
  calls_end = Walks.calls_end rules is

-- and each can be.
pub calls_answered : (rules : List ℕ) → CallsAnswered rules
calls_answered = FirstPairs.calls_answered
