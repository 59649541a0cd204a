-- What each way through `parse_template_arguments` shows, over lists and numbers alone.
-- Assumes nothing.
use Prim.Native.Nat.{ℕ, suc, ◌+◌, ◌*◌, ◌-◌, ◌≤◌, ◌<◌}
use Rattle.std.specs.Prelude.{◌≡◌, ◌≢◌, Bool, ◌||◌, List, ◌∷◌, ◌++◌, take, eqb, Result, Err}
use Rattle.std.proofs.Math.Path.{refl, sym, ap}
use Rattle.std.proofs.Common.{subst, ◌∙◌, length-append}
use Rattle.std.proofs.Math.Bool.{true, false}
use native.Mathlib.Omega.{arith}
use borrow.Author.Tests.{eq-eqb, ne_eqb}
use Rattle.std.proofs.Math.ListN.{length, drop, length-take, length-drop}
use Rattle.rows.specs.Kinds.{Identifier, Comma, NoToken}
use Rattle.rows.specs.declared.answer.TypeNameError.TheVariants.{NestingLimitExceeded}
use Rattle.reader.specs.Nodes.{a_node, Nodes, none, node, number, count, node_width, records}
use Rattle.reader.specs.Reading.{argument, list, Fault, refusal, no_list, first, is_angle_close, starts, next, kind_at, MAX_NESTING_DEPTH, read}
use Rattle.reader.specs.ReaderSays.{ParserReady, Denied, Found, NodeAnswers, ListSays, ListAnswers, region_due, rest_due, list_stop_of, closed_at, closed_half, list_ended}
use Rattle.reader.specs.Laws.Tokens.{inside}
use Rattle.reader.specs.Laws.Loops.{◌then◌, then_count}
use Rattle.reader.specs.Laws.Buffer.{lent, given_back, after, front, holds, argument_written}
use Rattle.reader.specs.Allowance.{Limited, done, denied, reading_within, behind}
use Rattle.reader.specs.Laws.Allowance.{on_done, argued_left, limited_first}
use Rattle.reader.specs.Laws.Ahead.{ahead, ahead_behind, ahead_done, down_deep, down_read, turned, turned_ends, turned_stops}
use Rattle.reader.specs.Laws.Reached.{Way, Reached, begun, reached_done, reached_denied, reached_spent, node_stop, node_more}
use Rattle.reader.specs.declared.parser.TypeSyntaxParser.{TypeSyntaxParser}
use Rattle.reader.specs.declared.parser.Stop.{Stop}
use Rattle.reader.specs.declared.parser.Stop.TheVariants.{Refused, Spent}
use Rattle.reader.specs.declared.parser.NodesRead.{NodesRead}
use Rattle.reader.specs.declared.parser.ListStop.{ListStop}
use Rattle.reader.specs.declared.parser.ListEnd.{ListEnd}
use Rattle.reader.specs.declared.parser.ListEnd.TheVariants.{Closed, EmptyArgument, Unterminated}

-- ---- the loops

pub record ArgumentsLoop (cpp : Bool) (row tree₀ : List ℕ) (lists nesting : ℕ) (p : TypeSyntaxParser) (tree : List ℕ) (now : TypeSyntaxParser) (m : ℕ) : Type 0 where
  pub long : length tree ≡ length tree₀
  pub way : Way row p.cursor now m
  pub reached : Reached cpp row list lists nesting (rest_due cpp row lists nesting false p list) false now m (take (node_width * m) tree)

-- The argument began at `now₁`, with the buffer `tree₁` and its node at `head`.
pub record NodesLoop (cpp : Bool) (row : List ℕ) (lists nesting head : ℕ) (tree₁ : List ℕ) (now₁ : TypeSyntaxParser) (tree : List ℕ) (now : TypeSyntaxParser) (after_identifier : Bool) (i : ℕ) : Type 0 where
  pub long : length tree ≡ length tree₁
  pub same : take head tree ≡ take head tree₁
  pub way : Way row now₁.cursor now i
  pub reached : Reached cpp row argument lists nesting (rest_due cpp row lists nesting false now₁ argument) after_identifier now i (take (node_width * i) (drop (head + node_width) tree))

pub arguments_begin : {cpp : Bool} {row tree : List ℕ} {lists nesting limit spare : ℕ} {p : TypeSyntaxParser} → ParserReady row p.cursor lists nesting limit spare tree
    → ArgumentsLoop cpp row tree lists nesting p tree p 0
arguments_begin ready = record { long = refl; way = record { forwards = omega arith; within = omega arith; size = omega arith }; reached = begun }

pub nodes_begin : {cpp : Bool} {row tree : List ℕ} {lists nesting head : ℕ} {now : TypeSyntaxParser} → now.cursor ≤ length row
    → NodesLoop cpp row lists nesting head tree now tree now false 0
nodes_begin within = record { long = refl; same = refl; way = record { forwards = omega arith; within = within; size = omega arith }; reached = begun }

-- Where the next node of an argument is written, with m nodes before the argument and i in it.
abbrev pub behind_nodes : (m i : ℕ) → ℕ
behind_nodes m i = node_width * m + node_width + node_width * i

-- An argument ends where the reading stands.
abbrev pub ends_at : List ℕ → (lists : ℕ) → TypeSyntaxParser → Bool
ends_at row lists now = is_angle_close lists (kind_at row now.cursor) now.pending_greater || eqb (kind_at row now.cursor) Comma

-- ---- how the arguments end

-- The list is closed where the reading stands.
pub record Closing (row : List ℕ) (at : ℕ) (o : Limited) (tree : List ℕ) (now : TypeSyntaxParser) (m : ℕ) : Type 0 where
  pub nodes : Nodes
  pub is : o ≡ done nodes (closed_at now.cursor now.pending_greater) (closed_half row now.cursor now.pending_greater) now.left
  pub counted : count nodes ≡ m
  pub written : take (node_width * m) tree ≡ records nodes
  pub forwards : at ≤ now.cursor
  pub here : now.cursor ≤ length row
  pub within : closed_at now.cursor now.pending_greater ≤ length row
  pub size : m + 2 * at ≤ 2 * now.cursor + 1

abbrev pub EndedBy : List ℕ → ℕ → Limited → List ℕ → TypeSyntaxParser → ℕ → ListEnd → Type 0
EndedBy row at o tree now m Closed = Closing row at o tree now m
EndedBy row at o tree now m EmptyArgument = (e : Fault) × (o ≡ denied e now.left)
EndedBy row at o tree now m Unterminated = (e : Fault) × (o ≡ denied e now.left)

pub record Ended (row tree₀ : List ℕ) (at : ℕ) (o : Limited) (tree : List ℕ) (now : TypeSyntaxParser) (m : ℕ) (a : ListEnd) : Type 0 where
  pub long : length tree ≡ length tree₀
  pub by : EndedBy row at o tree now m a

module _ {row tree₀ : List ℕ} {at : ℕ} {o : Limited} {tree tree' : List ℕ} {now now' : TypeSyntaxParser} {m m' : ℕ} {a : ListEnd}
    (e₁ : tree ≡ tree') (e₂ : now ≡ now') (e₃ : m ≡ m') (long : length tree' ≡ length tree₀) where
  pub ended_closed : a ≡ Closed → Closing row at o tree' now' m' → Ended row tree₀ at o tree now m a
  ended_closed e w = record { long = ap length e₁ ∙ long; by = rw (e₁, e₂, e₃, e) w }

  pub ended_empty : a ≡ EmptyArgument → (e : Fault) × (o ≡ denied e now'.left) → Ended row tree₀ at o tree now m a
  ended_empty e w = record { long = ap length e₁ ∙ long; by = rw (e₂, e) w }

  pub ended_unterminated : a ≡ Unterminated → (e : Fault) × (o ≡ denied e now'.left) → Ended row tree₀ at o tree now m a
  ended_unterminated e w = record { long = ap length e₁ ∙ long; by = rw (e₂, e) w }

-- ---- small facts

-- What a function's test says of the token that it was told.
module _ (lists : ℕ) (half : Bool) {k k' : ℕ} {r b : Bool} (ke : k ≡ k') where
  pub closes_so : r ≡ is_angle_close lists k half → r ≡ b → is_angle_close lists k' half ≡ b
  closes_so h e = ap (λ (j : ℕ). is_angle_close lists j half) (sym ke) ∙ sym h ∙ e

  pub ends_so : r ≡ (is_angle_close lists k half || eqb k Comma) → r ≡ b → (is_angle_close lists k' half || eqb k' Comma) ≡ b
  ends_so h e = ap (λ (j : ℕ). is_angle_close lists j half || eqb j Comma) (sym ke) ∙ sym h ∙ e

count_none : (x : Nodes) → count x ≡ 0 → x ≡ none
unfolding count
count_none none e = refl
count_none (node k i b x) e = absurd (omega arith)

closed_later : (at : ℕ) (half : Bool) → at ≤ closed_at at half
unfolding closed_at
closed_later at true = omega arith
closed_later at false = omega arith

-- What closes a list is a token, if no half a `>>` is left.
closer_here : (row : List ℕ) (lists at : ℕ) (half : Bool) → at ≤ length row → (is_angle_close lists (kind_at row at) half || eqb (kind_at row at) Comma) ≡ true → closed_at at half ≤ length row
unfolding closed_at is_angle_close
closer_here row lists at true i e = i
closer_here row lists at false i e = inside row at (λ k. let h = rw k at e in let z : ◌≡◌ {A = ℕ} 0 1 = cc in absurd (omega arith))

-- What an argument that is not empty leads to.
module _ (cpp : Bool) (row : List ℕ) (lists nesting at₁ : ℕ) (half₁ : Bool) where
  argued_comma : (at : ℕ) (half : Bool) (left : ℕ) (y : Nodes) → 0 < count y
      → argued_left cpp row (read cpp row) list lists nesting at₁ half₁ y true at half left ≡ behind a_node at₁ y (reading_within left (read cpp row list lists nesting false (suc at) half))
  unfolding argued_left count
  argued_comma at half left none h = absurd (omega arith)
  argued_comma at half left (node k i b y) h = refl

  argued_closed : (at left : ℕ) (y : Nodes) → 0 < count y → (half : Bool)
      → argued_left cpp row (read cpp row) list lists nesting at₁ half₁ y false at half left ≡ done (node a_node at₁ y none) (closed_at at half) (closed_half row at half) left
  unfolding argued_left count closed_at closed_half
  argued_closed at left none h half = absurd (omega arith)
  argued_closed at left (node k i b y) h true = refl
  argued_closed at left (node k i b y) h false = refl

-- The list is too deep.
pub list_deep : (cpp : Bool) (row : List ℕ) (lists nesting : ℕ) (p : TypeSyntaxParser) → MAX_NESTING_DEPTH < nesting → (e : Fault) × (region_due cpp row list lists nesting p ≡ denied e p.left)
list_deep cpp row lists nesting p h = (refusal NestingLimitExceeded, down_deep cpp row list lists nesting p.left p.cursor p.pending_greater h)

module _ {cpp : Bool} {row : List ℕ} {lists nesting : ℕ} where
  module _ {tree₀ : List ℕ} {p : TypeSyntaxParser} {tree₁ : List ℕ} {now₁ : TypeSyntaxParser} {m : ℕ}
      (outer : ArgumentsLoop cpp row tree₀ lists nesting p tree₁ now₁ m) (shallow : nesting ≤ MAX_NESTING_DEPTH) where
    abbrev whole : Limited
    whole = region_due cpp row list lists nesting p

    abbrev at₁ : ℕ
    at₁ = now₁.cursor

    abbrev half₁ : Bool
    half₁ = now₁.pending_greater

    downs : whole ≡ rest_due cpp row lists nesting false p list
    downs = down_read cpp row list lists nesting p.left p.cursor p.pending_greater shallow

    arguments_denied : (e : Fault) (left : ℕ) → rest_due cpp row lists nesting false now₁ list ≡ denied e left → whole ≡ denied e left
    arguments_denied e left q = downs ∙ reached_denied outer.reached e left q

    -- An argument would begin where the list can end.
    pub empty_first : is_angle_close lists (kind_at row at₁) now₁.pending_greater ≡ true → (e : Fault) × (whole ≡ denied e now₁.left)
    unfolding next
    empty_first t = (
      no_list,
      arguments_denied no_list now₁.left (turned_stops cpp row list lists nesting false at₁ half₁ outer.way.within now₁.left no_list (sym (rw t))),
    )

    module _ (open₁ : is_angle_close lists (kind_at row at₁) now₁.pending_greater ≡ false) where
      abbrev after_nodes : Limited → Limited
      after_nodes o = on_done o (λ x at' half' left'. argued_left cpp row (read cpp row) list lists nesting at₁ half₁ x (eqb (kind_at row at') Comma) at' half' left') (λ e left'. denied e left')

      list_first : rest_due cpp row lists nesting false now₁ list ≡ after_nodes (rest_due cpp row lists nesting false now₁ argument)
      unfolding next
      list_first =
          turned cpp row list lists nesting false at₁ half₁ outer.way.within now₁.left first (sym (rw open₁))
          ∙ limited_first cpp row (read cpp row) list lists nesting at₁ half₁ now₁.left

      module _ {tree : List ℕ} {now : TypeSyntaxParser} {after_identifier : Bool} {i : ℕ} (inv : NodesLoop cpp row lists nesting (node_width * m) tree₁ now₁ tree now after_identifier i) where
        nodes_denied : (e : Fault) (left : ℕ) → rest_due cpp row lists nesting after_identifier now argument ≡ denied e left → whole ≡ denied e left
        unfolding on_done
        nodes_denied e left q = arguments_denied e left (list_first ∙ ap after_nodes (reached_denied inv.reached e left q))

        -- The row ends.
        pub unterminated : ends_at row lists now ≡ false → kind_at row now.cursor ≡ NoToken
            → (e : Fault) × (whole ≡ denied e now.left)
        unfolding next
        unterminated f k = (
          no_list,
          nodes_denied no_list now.left (turned_stops cpp row argument lists nesting after_identifier now.cursor now.pending_greater inv.way.within now.left no_list (sym (rw (f, eq-eqb (kind_at row now.cursor) NoToken k)))),
        )

        module _ (f : ends_at row lists now ≡ false) (k : kind_at row now.cursor ≢ NoToken) where
          at_node : starts cpp after_identifier (kind_at row now.cursor) ≡ next cpp argument lists after_identifier (kind_at row now.cursor) now.cursor now.pending_greater
          unfolding next
          at_node = sym (rw (f, ne_eqb (kind_at row now.cursor) NoToken k))

          nodes_stop : (s : Stop) → Denied (rest_due cpp row lists nesting false now₁ argument) s → (buf : List ℕ) → ListSays row p.cursor (whole) (Err (list_stop_of s)) buf
          unfolding on_done
          nodes_stop (Refused e left) q buf = (refusal e, arguments_denied (refusal e) left (list_first ∙ ap after_nodes q))
          nodes_stop Spent q buf = downs ∙ reached_spent outer.reached (list_first ∙ ap after_nodes q)

          -- A node stops it.
          pub list_node_stops : {s : Stop} {r : Result NodesRead ListStop} {buf buf' : List ℕ} → NodeAnswers cpp row lists nesting after_identifier now (Err s) buf → r ≡ Err (list_stop_of s)
              → ListAnswers row p.cursor (whole) r buf'
          list_node_stops {s} {buf' = buf'} h l = record {
            says = subst (λ (x : Result NodesRead ListStop). ListSays row p.cursor (whole) x buf') (sym l) (nodes_stop s (node_stop inv.reached inv.way.within at_node s h.says) buf');
          }

          -- One node more.
          pub nodes_again : {kd : ℕ} → kd ≡ kind_at row now.cursor → {to : TypeSyntaxParser} {more : ℕ} (ys : List ℕ) → Found cpp row lists nesting after_identifier now to more ys
              → length ys ≡ length (lent (behind_nodes m i) tree)
              → behind_nodes m i ≤ length tree
              → NodesLoop cpp row lists nesting (node_width * m) tree₁ now₁
              (given_back (behind_nodes m i) tree ys) to (eqb kd Identifier) (i + more)
          unfolding count
          nodes_again {kd} ke {to} {more} ys fd kept room =
              let w = inv.way in
              let r = inv.reached in
              let room' : node_width * more ≤ length ys = holds (node fd.kind now.cursor fd.below none) more ys (omega (arith, fd.counted)) fd.written in
              let e : node_width * (i + more) ≡ node_width * i + node_width * more = omega arith in
              let s : ℕ = behind_nodes m i in
              record {
                long = simp (length-append, length-take, length-drop) (omega (arith, inv.long, kept, length-take (length tree - s) (drop s tree), length-drop s tree));
                same = front (node_width * m) s tree (ys ++ drop (length tree - s) (drop s tree)) (omega arith) room ∙ inv.same;
                way = record { forwards = omega arith; within = fd.within; size = omega arith };
                reached = rw ke (node_more r w.within at_node fd (rw e (after tree ys (drop (length tree - s) (drop s tree)) (node_width * m + node_width) (node_width * i) (node_width * more) room room')));
              }

        -- The argument ends here.
        module _ (t : ends_at row lists now ≡ true) where
          argument_done : rest_due cpp row lists nesting false now₁ argument ≡ done inv.reached.nodes now.cursor now.pending_greater now.left
          unfolding next
          argument_done = reached_done inv.reached now.cursor now.pending_greater now.left
              (turned_ends cpp row argument lists nesting after_identifier now.cursor now.pending_greater inv.way.within now.left now.cursor (sym (rw t)))

          -- It is empty.
          pub argument_empty : i ≡ 0 → (e : Fault) × (whole ≡ denied e now.left)
          unfolding on_done argued_left
          argument_empty z = (
            no_list,
            arguments_denied no_list now.left
                (list_first ∙ ap after_nodes (argument_done ∙ ap (λ (x : Nodes). done x now.cursor now.pending_greater now.left) (count_none inv.reached.nodes (inv.reached.counted ∙ z)))),
          )

          -- What is due then, where a comma follows and where none does.
          abbrev argued_so : (comma : Bool) → Limited
          argued_so comma = argued_left cpp row (read cpp row) list lists nesting at₁ half₁ inv.reached.nodes comma now.cursor now.pending_greater now.left

          argument_is : rest_due cpp row lists nesting false now₁ list ≡ argued_so (eqb (kind_at row now.cursor) Comma)
          unfolding on_done
          argument_is = list_first ∙ ap after_nodes argument_done

          -- Its node is written before its nodes.
          module _ (some : 0 < i) (ys zs : List ℕ) (put : ys ≡ 4 ∷ at₁ ∷ (i + 1) ∷ drop node_width (lent (node_width * m) tree))
              (long' : length ys ≡ length (lent (node_width * m) tree)) (room : behind_nodes m i ≤ length tree) where
            abbrev with_argument : Nodes
            with_argument = outer.reached.nodes then node a_node at₁ inv.reached.nodes none

            argument_records : take (node_width * (m + (i + 1))) (take (node_width * m) tree ++ (ys ++ zs)) ≡ records with_argument
            unfolding number
            argument_records =
                argument_written a_node outer.reached.nodes inv.reached.nodes at₁ m i 4 tree ys zs inv.reached.counted refl (inv.same ∙ outer.reached.written) inv.reached.written put
                (long' ∙ simp (length-take, length-drop) (omega arith)) room

            argument_count : count with_argument ≡ m + (i + 1)
            unfolding count
            argument_count = then_count outer.reached.nodes (node a_node at₁ inv.reached.nodes none) ∙ omega (arith, outer.reached.counted, inv.reached.counted)

            -- A comma, and then the next argument.
            pub arguments_again : kind_at row now.cursor ≡ Comma → length (take (node_width * m) tree ++ (ys ++ zs)) ≡ length tree
                → ArgumentsLoop cpp row tree₀ lists nesting p (take (node_width * m) tree ++ (ys ++ zs)) (record { cursor = now.cursor + 1; pending_greater = now.pending_greater; left = now.left }) (m + (i + 1))
            arguments_again k e =
                let w = outer.way in
                let v = inv.way in
                let here : now.cursor < length row = inside row now.cursor (omega arith) in
                let s : suc now.cursor ≡ now.cursor + 1 = omega arith in
                record {
                  long = e ∙ inv.long ∙ outer.long;
                  way = record { forwards = omega arith; within = omega arith; size = omega arith };
                  reached = record {
                    nodes = with_argument;
                    is =
                        outer.reached.is
                        ∙ ap (ahead outer.reached.nodes)
                        (argument_is
                        ∙ ap argued_so (eq-eqb (kind_at row now.cursor) Comma k)
                        ∙ argued_comma cpp row lists nesting at₁ half₁ now.cursor now.pending_greater now.left inv.reached.nodes (omega (arith, inv.reached.counted))
                        ∙ ap (λ (x : ℕ). behind a_node at₁ inv.reached.nodes (reading_within now.left (read cpp row list lists nesting false x now.pending_greater))) s)
                        ∙ ahead_behind outer.reached.nodes a_node at₁ inv.reached.nodes _;
                    counted = argument_count;
                    written = argument_records;
                  };
                }

            -- The list is closed.
            pub arguments_closed : kind_at row now.cursor ≢ Comma → Closing row p.cursor (whole) (take (node_width * m) tree ++ (ys ++ zs)) now (m + (i + 1))
            arguments_closed k =
                let w = outer.way in
                let v = inv.way in
                record {
                  nodes = with_argument;
                  is =
                      downs ∙ outer.reached.is
                      ∙ ap (ahead outer.reached.nodes)
                      (argument_is
                      ∙ ap argued_so (ne_eqb (kind_at row now.cursor) Comma k)
                      ∙ argued_closed cpp row lists nesting at₁ half₁ now.cursor now.left inv.reached.nodes (omega (arith, inv.reached.counted)) now.pending_greater)
                      ∙ ahead_done outer.reached.nodes (node a_node at₁ inv.reached.nodes none) _ _ _;
                  counted = argument_count;
                  written = argument_records;
                  forwards = omega arith;
                  here = v.within;
                  within = closer_here row lists now.cursor now.pending_greater v.within t;
                  size = omega arith;
                }

-- What comes of the list.
pub list_says : {row tree₀ : List ℕ} {at : ℕ} {o : Limited} {tree : List ℕ} {now : TypeSyntaxParser} {m : ℕ} {r : Result NodesRead ListStop} (a : ListEnd) → r ≡ list_ended row now m a
    → Ended row tree₀ at o tree now m a → ListAnswers row at o r tree
list_says {row} {at = at} {o} {tree} {now} {m} {r} a e w = record { says = subst (λ (x : Result NodesRead ListStop). ListSays row at o x tree) (sym e) (by a w.by) }
  where
    by : (a : ListEnd) → EndedBy row at o tree now m a → ListSays row at o (list_ended row now m a) tree
    by Closed w = record {
      nodes = w.nodes;
      is = w.is;
      counted = w.counted;
      written = w.written;
      forwards = omega (arith, w.forwards, closed_later now.cursor now.pending_greater);
      within = w.within;
      size = omega (arith, w.size, closed_later now.cursor now.pending_greater);
    }
    by EmptyArgument w = w
    by Unterminated w = w
