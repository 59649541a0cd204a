-- From what `parse_type_name` answers to the answer of a match. Assumes nothing.
use Rattle.rule_answers.specs.MatchAnswer.{matches_with, match_refuses, MatchAnswer}
use Rattle.rows.specs.Answer.{accepted_with, refused_with, Answer}
use Rattle.std.specs.Prelude.{ℕ, ◌*◌, ◌≤◌, ◌<◌, ◌≡◌, Bool, true, false, List, length, take, replicate, leb, eqb, Err, Ok}
use Rattle.std.proofs.Math.Path.{refl}
use Rattle.std.proofs.Common.{sym, ap, ◌∙◌, subst, arith, leb-true, leb-false}
use Rattle.std.proofs.Math.ListN.{length-map}
use Rattle.rows.specs.Format.{format, head_length, most_tokens}
use Rattle.rows.specs.Languages.{Cpp}
use Rattle.rows.specs.Records.{RowToken, kinds_of}
use Rattle.rows.specs.Refusals.{refusal_of}
use Rattle.rows.specs.Laws.RowFacts.{good_row, few_tokens}
use Rattle.rows.specs.declared.answer.TypeNameError.{TypeNameError}
use Rattle.rows.specs.declared.answer.TypeNameError.TheVariants.{InvalidRuleTable, NoRuleMatches}
use Rattle.reader.specs.Nodes.{Nodes, count, node_width, records}
use Rattle.reader.specs.Reading.{reading}
use Rattle.reader.specs.ReaderSays.{TreeRead}
use Rattle.reader.specs.Laws.Derived.{row_derived}
use Rattle.reader.specs.Laws.Bounds.{nothing_left, two_nodes}
use Rattle.reader.specs.Laws.Buffer.{holds}
use Rattle.reader.specs.Laws.NodeNumbers.{three_each}
use Rattle.type_nodes.specs.Stands.{Stands, NodesStand}
use Rattle.structure.specs.Laws.Trees.{tree_stands}
use Rattle.type_name.specs.FileRow.{passes}
use Rattle.type_name.specs.Answers.{accepted, outcome, answer}
use Rattle.type_name.specs.Promises.{last_untouched, Promised}
use Rattle.type_name.specs.Laws.Fields.{is_refused, nodes_in, number_in, one_row}
use Rattle.type_name.specs.Laws.FileRow.{head_short}
use Rattle.type_name.specs.Laws.AcceptedRow.{FileAccepted, accepted_file, accepted_read}
use Rattle.type_name.specs.Laws.RowTokens.{kinds_known}
use Rattle.type_name.specs.Laws.Total.{refused_buffer}
use Rattle.rules.specs.Rules.{Rule, Winner, no_winner, wins, winner}
use Rattle.rules.specs.Seen.{seen}
use Rattle.rules.specs.RuleTable.{no_table, a_table, table_of}
use Rattle.rules.specs.RowSeen.{RowSeen, SomeRow, OfNodes}
use Rattle.rules.specs.TableStands.{RulesRead, OfTable}
use Rattle.rules.specs.Laws.Winners.{winner_matches}
use Rattle.rule_answers.specs.MatchAnswers.{by_winner, match_in, match_answer, match_buffer}
use Rattle.rule_answers.specs.MatchPromises.{AcceptedTree, MatchPromised}
use Rattle.rule_answers.specs.MatchSays.{TreeLeft, AnswerLeft, WinnerSays, left_by}
use Rattle.rule_answers.specs.RowPlaces.{PlacesReady, PlacesRead}
use Rattle.rule_answers.specs.Laws.Promised.{match_promised, accepted_match, late_zeros, passed_in, tree_in}

-- ---- an accepted file

module _ {file : List ℕ} {room : ℕ} {ts : List RowToken} {x : Nodes} {steps : ℕ} (a : AcceptedTree file room ts x steps) where
  accepted_as : FileAccepted file ts x steps
  accepted_as =
      let f = accepted_file file room x steps a.defined in
      subst (λ (us : List RowToken). FileAccepted file us x steps) (one_row _ f.0 ts f.1.row_is a.row_read) f.1

  few : length (kinds_of ts) ≤ most_tokens
  unfolding kinds_of
  few = omega (arith, length-map ts (λ (t : RowToken). t.kind), few_tokens format file most_tokens head_length a.row_read)

  abbrev cpp : Bool
  cpp = eqb accepted_as.head_of.language Cpp

  module _ (tree : List ℕ) (w : take (node_width * count x) tree ≡ records x) where
    -- Its tree was read, and nothing is left over.
    tree_read : (m : ℕ) × TreeRead (kinds_of ts) m (reading cpp (kinds_of ts)) (count x) m tree
    tree_read =
        let f = accepted_as in
        let r = accepted_read f.head_of.language f.head_of.standard f.head_of.flag (kinds_of ts) _ f.row_accepted in
        let left = nothing_left (kinds_of ts) (row_derived (kinds_of ts) cpp r.reads) (kinds_known ts (good_row format file most_tokens head_length ts a.row_read)) in (
          f.row_accepted.reading_steps,
          record {
            nodes = x;
            is = rw (← left.0, ← left.1) r.reads;
            allowed = omega arith;
            counted = refl;
            written = w;
          },
        )

    accepted_stands : Stands tree (kinds_of ts) 0 (count x) x
    unfolding tree_read
    accepted_stands = tree_stands tree_read.1 (row_derived (kinds_of ts) cpp tree_read.1.is)

    accepted_nodes : NodesStand tree (kinds_of ts) 0 (count x)
    unfolding tree_read
    accepted_nodes = record {
      nodes = x;
      stands = accepted_stands;
      room = holds x (count x) tree refl w;
      few = omega (arith, few, two_nodes (kinds_of ts) (row_derived (kinds_of ts) cpp tree_read.1.is));
    }

-- The tree of a file and a buffer's length is one.
same_tree : {file : List ℕ} {room : ℕ} {ts us : List RowToken} {x y : Nodes} {m n : ℕ} → AcceptedTree file room ts x m → AcceptedTree file room us y n → x ≡ y
same_tree {x = x} a b = ap (λ (o : _). tree_in (passed_in o (accepted x 0)) x) (sym a.defined ∙ b.defined)

-- ---- the winner

-- The answer to an accepted row, by its winner.
abbrev winner_answer : (nodes steps : ℕ) → Winner → MatchAnswer
winner_answer nodes steps no_winner = match_refuses NoRuleMatches steps
winner_answer nodes steps (wins place) = matches_with nodes steps place

won_answer : (x : Nodes) (m : ℕ) (w : Winner) → match_in (passes (by_winner x m w)) ≡ winner_answer (count x) m w
unfolding match_in by_winner
won_answer x m no_winner = refl
won_answer x m (wins place) = refl

module _ {file tree : List ℕ} {nodes steps : ℕ} (t : TreeLeft file tree nodes steps) where
  written_whole : take (node_width * count t.the_tree) tree ≡ records t.the_tree
  written_whole = ap (λ (k : ℕ). take (node_width * k) tree) t.counted ∙ t.written

  pub places_ready : {kinds places : List ℕ} → most_tokens ≤ length kinds → most_tokens ≤ length places → PlacesReady file kinds places
  places_ready p q = record {
    tokens = t.tokens;
    row_is = t.accepted_tree.row_read;
    short = head_short (record { is = (accepted_as t.accepted_tree).formed });
    for_kinds = p;
    for_places = q;
  }

  module _ {n : ℕ} {kinds places : List ℕ} (r : PlacesRead file n kinds places) where
    abbrev is_seen : RowSeen file (take n kinds) (take n places) t.tokens
    is_seen = r.seen t.tokens t.accepted_tree.row_read

    pub row_there : SomeRow file (take n kinds) (take n places)
    row_there = record { row = t.tokens; seen = is_seen }

    pub nodes_there : NodesStand tree (take n kinds) 0 nodes
    nodes_there =
        subst (λ (ks : List ℕ). NodesStand tree ks 0 nodes) (sym is_seen.kinds_are)
        (subst (NodesStand tree (kinds_of t.tokens) 0) t.counted (accepted_nodes t.accepted_tree tree written_whole))

    module _ {rules : List ℕ} {won w : Winner} (is : won ≡ w)
        (f : OfNodes file (take n kinds) (take n places) tree 0 nodes (λ row x. OfTable rules (λ rs. won ≡ winner rs (seen row x)))) where
      row_won : (rs : List Rule) → table_of rules ≡ a_table rs → (ts : List RowToken) (x : Nodes) → AcceptedTree file (length tree) ts x steps
          → winner_answer nodes steps w ≡ match_in (passes (by_winner x steps (winner rs (seen ts x))))
      row_won rs e ts x a =
          let same : x ≡ t.the_tree = same_tree a t.accepted_tree in
          let as_many : count x ≡ nodes = ap count same ∙ t.counted in
          let w' : take (node_width * count x) tree ≡ records x = rw same written_whole in
          let s = r.seen ts a.row_read in
          let st : Stands tree (take n kinds) 0 nodes x = rw s.kinds_are (subst (λ (k : ℕ). Stands tree (kinds_of ts) 0 k x) as_many (accepted_stands a tree w')) in
          let told = (f.says ts s x st).says rs e in
          rw (← as_many, sym is ∙ told) (sym (won_answer x steps (winner rs (seen ts x))))

      pub winner_told : WinnerSays rules file (length tree) steps (winner_answer nodes steps w)
      winner_told = record { says = row_won }

    -- A winner's place is below the number of rules.
    pub place_below : {rules starts : List ℕ} {many place : ℕ} {won : Winner} → won ≡ wins place
        → OfNodes file (take n kinds) (take n places) tree 0 nodes (λ row x. OfTable rules (λ rs. won ≡ winner rs (seen row x))) → RulesRead rules many starts → place < many
    place_below {place = place} q f rr =
        let told = (f.says t.tokens is_seen nodes_there.nodes nodes_there.stands).says rr.rules rr.is in
        let m = winner_matches rr.rules (seen t.tokens nodes_there.nodes) place (sym told ∙ q) in
        omega (arith, m.0, rr.counted)

-- ---- the table

module _ (file rules tree : List ℕ) {a : Answer} (l : AnswerLeft file tree a) where
  abbrev defined : MatchPromised file rules tree (match_answer file rules (length tree)) (match_buffer file rules tree)
  defined = match_promised file rules tree _ _ refl refl

  pub table_refused : table_of rules ≡ no_table → match_refuses InvalidRuleTable 0 ≡ match_answer file rules (length tree)
  table_refused q = sym ((defined.refused_table (λ e m p. l.late e m (l.answered ∙ p))).0 q)

  module _ {rs : List Rule} (t : table_of rules ≡ a_table rs) where
    pub row_refused : {e : TypeNameError} {m : ℕ} → a ≡ refused_with e m → match_refuses e m ≡ match_answer file rules (length tree)
    row_refused {e} {m} q = sym (defined.refused_row rs t e m (sym l.answered ∙ q)).0

    pub row_accepted : {nodes steps : ℕ} {r : MatchAnswer} → a ≡ accepted_with nodes steps → WinnerSays rules file (length tree) steps r → r ≡ match_answer file rules (length tree)
    row_accepted {nodes} {steps} q w =
        let left = l.left nodes steps q in
        w.says rs t left.tokens left.the_tree left.accepted_tree ∙ sym (accepted_match file rules tree t left.accepted_tree)

-- ---- the file

module _ (file rules before : List ℕ) {a : Answer} {tree : List ℕ} (p : Promised file before a tree) (long : length tree ≡ length before) where
  -- A refusal up to 6: neither entry touches the buffer.
  pub early_told : {e : TypeNameError} {m : ℕ} → a ≡ refused_with e m → leb (refusal_of e).number last_untouched ≡ true
      → MatchPromised file rules before (match_refuses e m) tree
  early_told {e} {m} q s =
      let small = leb-true (refusal_of e).number last_untouched s in
      let read : answer file (length before) ≡ refused_with e m = sym p.answered ∙ q in
      let d = (match_promised file rules before _ _ refl refl).first_refusals e m read small in
      match_promised file rules before _ _ (sym d.0) (p.buffered ∙ (refused_buffer file before e m read).kept small ∙ sym d.1)

  tree_left : (nodes steps : ℕ) → a ≡ accepted_with nodes steps → TreeLeft file tree nodes steps
  tree_left nodes steps q =
      let h = p.tree_defined nodes steps q in
      let many : count h.tree ≡ nodes = ap nodes_in (sym h.accepted_as.answered ∙ q) in
      record {
        tokens = h.tokens;
        the_tree = h.tree;
        accepted_tree = record { row_read = h.accepted_as.row_read; defined = ap (outcome file) long ∙ h.defined };
        counted = many;
        written = ap (λ (k : ℕ). take k tree) (ap (λ (k : ℕ). node_width * k) (sym many) ∙ sym (three_each h.tree)) ∙ h.accepted_as.tree_held;
      }

  module _ (late : (e : TypeNameError) (m : ℕ) → a ≡ refused_with e m → last_untouched < (refusal_of e).number) where
    pub answer_left : AnswerLeft file tree a
    answer_left = record { answered = p.answered ∙ ap (answer file) (sym long); late = late; left = tree_left }

    left_told : (r : MatchAnswer) → r ≡ match_answer file rules (length before) → left_by tree r ≡ match_buffer file rules before
    left_told (Ok m) q =
        p.buffered ∙ sym ((match_promised file rules before _ _ refl refl).won m.nodes m.steps m.place (sym q)).as_read
    left_told (Err r) q =
        ap (λ (k : ℕ). replicate {A = ℕ} k 0) long ∙ sym (late_zeros file rules before (λ f n s. late f n (p.answered ∙ s)) (sym q))

    pub match_told : {r : MatchAnswer} {after : List ℕ} → r ≡ match_answer file rules (length tree) → after ≡ left_by tree r → MatchPromised file rules before r after
    match_told {r} q s =
        let is : r ≡ match_answer file rules (length before) = q ∙ ap (match_answer file rules) long in
        match_promised file rules before _ _ is (s ∙ left_told r is)

-- An accepted answer is no refusal; a refusal of another number comes late.
pub accepted_late : {a : Answer} {nodes steps : ℕ} → a ≡ accepted_with nodes steps → (e : TypeNameError) (m : ℕ) → a ≡ refused_with e m → last_untouched < (refusal_of e).number
accepted_late q e m p = let clash : ◌≡◌ {A = ℕ} 0 1 = ap is_refused (sym q ∙ p) in absurd (omega (arith, clash))

pub refused_late : {a : Answer} {e : TypeNameError} {m : ℕ} → a ≡ refused_with e m → leb (refusal_of e).number last_untouched ≡ false
    → (e' : TypeNameError) (n : ℕ) → a ≡ refused_with e' n → last_untouched < (refusal_of e').number
refused_late {e = e} q s e' n p = omega (arith, leb-false (refusal_of e).number last_untouched s, ap number_in (sym q ∙ p))
