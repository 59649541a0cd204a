-- What each way through `parse_group` shows, over lists and numbers alone.
-- Assumes nothing.
use Rattle.std.specs.Prelude.{ℕ, ◌+◌, ◌*◌, ◌-◌, ◌≤◌, ◌≡◌, refl, ◌≢◌, Bool, false, List, take, drop, eqb, Option, Some, None, Result, Ok, Err}
use Rattle.std.proofs.Common.{sym, ◌∙◌, length-append}
use Rattle.std.proofs.Math.Path.{subst}
use native.Mathlib.Omega.{arith}
use Rattle.std.proofs.Math.ListN.{length, length-take, length-drop}
use Rattle.rows.specs.Kinds.{Identifier, NoToken}
use Rattle.rows.specs.declared.answer.TypeNameError.{TypeNameError}
use Rattle.rows.specs.declared.answer.Delimiter.TheVariants.{Parenthesis, Bracket}
use Rattle.rows.specs.declared.answer.Delimiter.{Delimiter}
use Rattle.reader.specs.Nodes.{none, node, count, node_width}
use Rattle.reader.specs.Reading.{Region, refusal, starts, next, kind_at, MAX_NESTING_DEPTH}
use Rattle.reader.specs.Tables.{region_of, planned, Plans}
use Rattle.reader.specs.ReaderSays.{ParserReady, Told, Denied, GroupSays, GroupAnswers, Found, NodeAnswers, region_due, rest_due}
use Rattle.reader.specs.Laws.Derived.{Read, Allowed, next_allowed}
use Rattle.reader.specs.Laws.Bounds.{forwards, within}
use Rattle.reader.specs.Laws.Buffer.{lent, given_back, after_front, holds}
use Rattle.reader.specs.Allowance.{Limited, denied, spent}
use Rattle.reader.specs.Laws.Ahead.{down_read, turned_ends, turned_stops}
use Rattle.reader.specs.Laws.Reached.{Way, Reached, begun, reached_done, reached_denied, node_stop, node_more}
use Rattle.reader.specs.declared.tables.GroupStep.{GroupStep}
use Rattle.reader.specs.declared.parser.TypeSyntaxParser.{TypeSyntaxParser}
use Rattle.reader.specs.declared.parser.Stop.{Stop}
use Rattle.reader.specs.declared.parser.Stop.TheVariants.{Refused, Spent}
use Rattle.reader.specs.declared.parser.NodesRead.{NodesRead}

-- The node that `parse_node` wrote.
pub node_finds_so : {cpp : Bool} {row : List ℕ} {lists nesting : ℕ} {after_identifier : Bool} {p now : TypeSyntaxParser} {n : ℕ} {x : NodesRead} {buf : List ℕ} → x ≡ record { next = now; nodes = n }
    → Found cpp row lists nesting after_identifier p now n buf → NodeAnswers cpp row lists nesting after_identifier p (Ok x) buf
node_finds_so {cpp} {row} {lists} {nesting} {after_identifier} {p} {buf = buf} e h =
    record { says = subst (λ (y : NodesRead). Found cpp row lists nesting after_identifier p y.next y.nodes buf) (sym e) h }

-- ---- the loop

pub record GroupLoop (cpp : Bool) (row tree₀ : List ℕ) (l : Region) (lists nesting : ℕ) (p : TypeSyntaxParser) (tree : List ℕ) (now : TypeSyntaxParser) (after_identifier : Bool) (m : ℕ) : Type 0 where
  pub long : length tree ≡ length tree₀
  pub way : Way row p.cursor now m
  pub reached : Reached cpp row l lists nesting (rest_due cpp row lists nesting false p l) after_identifier now m (take (node_width * m) tree)

pub group_begins : {cpp : Bool} {row tree : List ℕ} {l : Region} {lists nesting limit spare : ℕ} {p : TypeSyntaxParser} → ParserReady row p.cursor lists nesting limit spare tree
    → GroupLoop cpp row tree l lists nesting p tree p false 0
group_begins ready = record { long = refl; way = record { forwards = omega arith; within = omega arith; size = omega arith }; reached = begun }

-- A token where a node begins is one.
pub node_here : {k at : ℕ} (end : Option Delimiter) → Plans GroupStep.Node (region_of end) k at → k ≢ NoToken
unfolding planned next starts
node_here None p e = let h = p.plans false false false 0 in let h' = rw e at h in let z : ◌≡◌ {A = ℕ} 0 1 = cc in absurd (omega arith)
node_here (Some Parenthesis) p e = let h = p.plans false false false 0 in let h' = rw e at h in let z : ◌≡◌ {A = ℕ} 0 1 = cc in absurd (omega arith)
node_here (Some Bracket) p e = let h = p.plans false false false 0 in let h' = rw e at h in let z : ◌≡◌ {A = ℕ} 0 1 = cc in absurd (omega arith)

pub planned_so : {step : GroupStep} {l : Region} {k k' at : ℕ} → k ≡ k' → Plans step l k at → Plans step l k' at
planned_so {step} {l} {k} {k'} {at} ke p = subst (λ (j : ℕ). Plans step l j at) ke p

module _ {cpp : Bool} {row tree₀ : List ℕ} {l : Region} {lists nesting : ℕ} {p : TypeSyntaxParser} {tree : List ℕ} {now : TypeSyntaxParser} {after_identifier : Bool} {m : ℕ}
    (inv : GroupLoop cpp row tree₀ l lists nesting p tree now after_identifier m) (shallow : nesting ≤ MAX_NESTING_DEPTH) where
  down : region_due cpp row l lists nesting p ≡ rest_due cpp row lists nesting false p l
  down = down_read cpp row l lists nesting p.left p.cursor p.pending_greater shallow

  -- The level ends.
  pub group_ends : (at' : ℕ) → Plans (GroupStep.Ends at') l (kind_at row now.cursor) now.cursor
      → Told row p.cursor 0 (region_due cpp row l lists nesting p) (record { cursor = at'; pending_greater = now.pending_greater; left = now.left }) m tree
  unfolding planned
  group_ends at' plan =
      let e = plan.plans cpp after_identifier now.pending_greater lists in
      let rd : Read row l lists nesting now.cursor now.pending_greater none at' now.pending_greater =
      subst (Allowed row l lists nesting now.cursor now.pending_greater) (sym e) (next_allowed row cpp l lists nesting after_identifier now.cursor now.pending_greater) in
      let r = inv.reached in
      let w = inv.way in
      record {
        nodes = r.nodes;
        is = down ∙ reached_done r at' now.pending_greater now.left (turned_ends cpp row l lists nesting after_identifier now.cursor now.pending_greater w.within now.left at' e);
        counted = r.counted;
        written = r.written;
        forwards = omega (arith, forwards row rd);
        within = within row rd w.within;
        size = omega (arith, forwards row rd);
      }

  -- It is refused.
  pub group_stops : (x : TypeNameError) → Plans (GroupStep.Stops x) l (kind_at row now.cursor) now.cursor → region_due cpp row l lists nesting p ≡ denied (refusal x) now.left
  unfolding planned
  group_stops x plan =
      down ∙ reached_denied inv.reached (refusal x) now.left
      (turned_stops cpp row l lists nesting after_identifier now.cursor now.pending_greater inv.way.within now.left (refusal x) (plan.plans cpp after_identifier now.pending_greater lists))

  module _ (plan : Plans GroupStep.Node l (kind_at row now.cursor) now.cursor) where
    at_node : starts cpp after_identifier (kind_at row now.cursor) ≡ next cpp l lists after_identifier (kind_at row now.cursor) now.cursor now.pending_greater
    unfolding planned
    at_node = plan.plans cpp after_identifier now.pending_greater lists

    -- A node stops it.
    pub group_node_stops : {s : Stop} {buf buf' : List ℕ} → NodeAnswers cpp row lists nesting after_identifier now (Err s) buf
        → GroupAnswers row p.cursor (region_due cpp row l lists nesting p) (Err s) buf'
    group_node_stops {s} h = record { says = rw down (node_stop inv.reached inv.way.within at_node s h.says) }

    -- One node more.
    pub group_again : {k : ℕ} → k ≡ kind_at row now.cursor → {to : TypeSyntaxParser} {more : ℕ} (ys : List ℕ) → Found cpp row lists nesting after_identifier now to more ys
        → length ys ≡ length (lent (node_width * m) tree)
        → GroupLoop cpp row tree₀ l lists nesting p (given_back (node_width * m) tree ys) to (eqb k Identifier) (m + more)
    unfolding count
    group_again {k} ke {to} {more} ys f kept =
        let w = inv.way in
        let r = inv.reached in
        let room : node_width * m ≤ length tree = holds r.nodes m tree r.counted r.written in
        let room' : node_width * more ≤ length ys = holds (node f.kind now.cursor f.below none) more ys (omega (arith, f.counted)) f.written in
        let e : node_width * (m + more) ≡ node_width * m + node_width * more = omega arith in
        record {
          long = simp (length-append, length-take, length-drop) (omega (arith, inv.long, kept, length-take (length tree - node_width * m) (drop (node_width * m) tree), length-drop (node_width * m) tree));
          way = record { forwards = omega arith; within = f.within; size = omega arith };
          reached = rw ke (node_more r w.within at_node f (rw e (after_front tree ys (drop (length tree - node_width * m) (drop (node_width * m) tree)) (node_width * m) (node_width * more) room room')));
        }

-- Why a level stopped.
module _ {row : List ℕ} {at : ℕ} {o : Limited} {r : Result NodesRead Stop} {s : Stop} {buf : List ℕ} (e : r ≡ Err s) (h : GroupAnswers row at o r buf) where
  group_stopped : Denied o s
  group_stopped = subst (λ (x : Result NodesRead Stop). GroupSays row at o x buf) e h.says

  pub stopped_refused : {x : TypeNameError} {left : ℕ} → s ≡ Refused x left → o ≡ denied (refusal x) left
  stopped_refused q = subst (Denied o) q group_stopped

  pub stopped_spent : s ≡ Spent → o ≡ spent
  stopped_spent q = subst (Denied o) q group_stopped
