-- What each way through `parse_node` shows, over lists and numbers alone.
-- Assumes nothing.
use Prim.Native.Nat.{ℕ, suc, ◌+◌, ◌-◌, ◌≤◌, ◌<◌}
use Rattle.std.proofs.Math.Path.{◌≡◌, refl, ap, subst}
use Rattle.std.proofs.Common.{sym, ◌∙◌, ne_eqb}
use Rattle.std.specs.Prelude.{◌≢◌, Bool, true, ◌&&◌, List, ◌∷◌, ◌++◌, length, take, drop, leb, eqb, Some, Result, Ok, Err}
use Rattle.std.proofs.Math.Bool.{false}
use native.Mathlib.Omega.{arith}
use Rattle.rows.specs.Kinds.{Identifier, LeftParen, LeftBracket, Less}
use Rattle.rows.specs.Laws.Tests.{by_if}
use Rattle.rows.specs.declared.answer.Delimiter.{Delimiter}
use Rattle.reader.specs.Nodes.{NodeKind, t_node, l_node, Nodes, none, number, count, node_width}
use Rattle.reader.specs.Reading.{Region, list, Fault, Next, token, starts, kind_at, MAX_NESTING_DEPTH, down, go, read}
use Rattle.reader.specs.Tables.{region_of, node_of, started}
use Rattle.reader.specs.ReaderSays.{Told, Denied, GroupAnswers, Found, NodeSays, NodeAnswers, TokenSays, TokenAnswers, ListSays, ListAnswers, region_due, node_due, past}
use Rattle.reader.specs.Allowance.{Limited, done, denied, spent, reading_within, behind}
use Rattle.reader.specs.Laws.Allowance.{on_done, Costs, limited_token, limited_group, limited_angle, none_left}
use Rattle.reader.specs.Laws.Buffer.{node_written, token_written}
use Rattle.reader.specs.declared.tables.Start.{Start}
use Rattle.reader.specs.declared.parser.TypeSyntaxParser.{TypeSyntaxParser}
use Rattle.reader.specs.declared.parser.Stop.{Stop}
use Rattle.reader.specs.declared.parser.Stop.TheVariants.{Refused, Spent}
use Rattle.reader.specs.declared.parser.NodesRead.{NodesRead}
use Rattle.reader.specs.declared.parser.ListStop.{ListStop}

-- ---- why a try of a list came to none

module _ {row : List ℕ} {at : ℕ} {o : Limited} {r : Result NodesRead ListStop} {stop : ListStop} {buf : List ℕ} (e : r ≡ Err stop) (h : ListAnswers row at o r buf) where
  pub list_failed : {left : ℕ} → stop ≡ ListStop.Failed left → (x : Fault) × (o ≡ denied x left)
  list_failed q = subst (λ (x : ListStop). ListSays row at o (Err x) buf) q (subst (λ (x : Result NodesRead ListStop). ListSays row at o x buf) e h.says)

  pub list_spent : stop ≡ ListStop.Spent → o ≡ spent
  list_spent q = subst (λ (x : ListStop). ListSays row at o (Err x) buf) q (subst (λ (x : Result NodesRead ListStop). ListSays row at o x buf) e h.says)

-- ---- how a node begins

starts_costs : (cpp after_identifier : Bool) (k : ℕ) → Costs (starts cpp after_identifier k)
unfolding starts
starts_costs cpp after_identifier k =
    by_if Costs (eqb k LeftParen) (λ _. tt) λ _.
    by_if Costs (eqb k LeftBracket) (λ _. tt) λ _.
    by_if Costs (eqb k Less && cpp && after_identifier) (λ _. tt) λ _. tt

-- What is no identifier token leaves no word.
no_word : (cpp after_identifier : Bool) (k : ℕ) (nx : Next) → nx ≡ starts cpp after_identifier k → nx ≢ token true → false ≡ eqb k Identifier
unfolding starts
no_word cpp after_identifier k nx h f = sym (ne_eqb k Identifier (λ e. f (h ∙ ap (starts cpp after_identifier) e)))

pub started_so : (cpp after_identifier : Bool) {k k' : ℕ} (s : Start) → k ≡ k' → started k s ≡ starts cpp after_identifier k → started k' s ≡ starts cpp after_identifier k'
started_so cpp after_identifier s ke h = subst (λ (j : ℕ). started j s ≡ starts cpp after_identifier j) ke h

pub past_cursor : {b : TypeSyntaxParser} (p : TypeSyntaxParser) (left : ℕ) → b ≡ past p left → b.cursor ≡ p.cursor + 1
past_cursor p left e = ap (λ (x : TypeSyntaxParser). x.cursor) e

-- What `parse_token` read.
pub token_read_so : {p b : TypeSyntaxParser} {x : NodesRead} {before after : List ℕ} → x ≡ record { next = b; nodes = 1 } → p.left ≢ 0 → b ≡ past p (p.left - 1)
    → after ≡ 0 ∷ p.cursor ∷ 1 ∷ drop node_width before → TokenAnswers p (Ok x) before after
unfolding number
token_read_so {p} {before = before} {after} e some entered w =
    record { says = subst (λ (y : NodesRead). TokenSays p (Ok y) before after) (sym e) (some, entered, refl, w) }

module _ (cpp : Bool) (row : List ℕ) (lists nesting : ℕ) (after_identifier : Bool) (p : TypeSyntaxParser) where
  abbrev at : ℕ
  at = p.cursor

  abbrev half : Bool
  half = p.pending_greater

  abbrev kind : ℕ
  kind = kind_at row at

  abbrev gone : Region → ℕ → Next → Limited
  gone l left nx = reading_within left (go cpp row (read cpp row) l lists nesting nx at half)

  -- No step is left.
  pub node_spends : p.left ≡ 0 → (l : Region) → node_due cpp row lists nesting after_identifier p l ≡ spent
  node_spends e l =
      ap (λ (x : ℕ). gone l x (starts cpp after_identifier kind)) e
      ∙ none_left cpp row (read cpp row) l lists nesting at half (starts cpp after_identifier kind) (starts_costs cpp after_identifier kind)

  -- The node is entered at `b`.
  module _ (some : p.left ≢ 0) {b : TypeSyntaxParser} (entered : b ≡ past p (p.left - 1)) where
    enters : (nx : Next) → nx ≡ starts cpp after_identifier kind → (l : Region) → node_due cpp row lists nesting after_identifier p l ≡ gone l (suc (p.left - 1)) nx
    enters nx e l =
        let s : p.left ≡ suc (p.left - 1) = omega arith in
        ap (λ (x : Next). gone l p.left x) (sym e) ∙ ap (λ (x : ℕ). gone l x nx) s

    -- A token by itself.
    pub node_token : {r buf : List ℕ} → started kind Start.Token ≡ starts cpp after_identifier kind → at < length row
        → buf ≡ 0 ∷ at ∷ 1 ∷ r → Found cpp row lists nesting after_identifier p b 1 buf
    unfolding started count number
    node_token {buf = buf} e here w =
        let s : suc at ≡ at + 1 = omega arith in
        subst (λ (x : TypeSyntaxParser). Found cpp row lists nesting after_identifier p x 1 buf) (sym entered) record {
          kind = t_node;
          below = none;
          is = λ l. enters _ e l
              ∙ limited_token cpp row (read cpp row) l lists nesting at half (p.left - 1) (eqb kind Identifier)
              ∙ ap (λ (x : ℕ). behind t_node at none (reading_within (p.left - 1) (read cpp row l lists nesting (eqb kind Identifier) x half))) s;
          counted = refl;
          written = token_written t_node refl w;
          forwards = omega arith;
          within = omega arith;
          size = omega arith;
        }

    -- A group, and a list that is tried, are read one level down.
    below_due : (v : Region) (lists' : ℕ) → reading_within (p.left - 1) (down cpp row (read cpp row) (leb (suc nesting) MAX_NESTING_DEPTH) v lists' (suc nesting) (suc at) half) ≡ region_due cpp row v lists' (nesting + 1) b
    below_due v lists' =
        let s : suc nesting ≡ nesting + 1 = omega arith in
        let t : suc at ≡ at + 1 = omega arith in
        ap (λ (x : ℕ). reading_within (p.left - 1) (down cpp row (read cpp row) (leb x MAX_NESTING_DEPTH) v lists' x (suc at) half)) s
        ∙ ap (λ (x : ℕ). reading_within (p.left - 1) (down cpp row (read cpp row) (leb (nesting + 1) MAX_NESTING_DEPTH) v lists' (nesting + 1) x half)) t
        ∙ ap (region_due cpp row v lists' (nesting + 1)) (sym entered)

    -- The node of what was read one level down.
    module _ (k : NodeKind) {from extra : ℕ} {o : Limited} (not_word : false ≡ eqb kind Identifier)
        (due : (l : Region) (b : Nodes) (at' : ℕ) (half' : Bool) (left' : ℕ) → o ≡ done b at' half' left'
        → node_due cpp row lists nesting after_identifier p l ≡ behind k at b (reading_within left' (read cpp row l lists nesting false at' half'))) where
      node_below : {now : TypeSyntaxParser} {n kn : ℕ} (tree ys zs : List ℕ) {buf : List ℕ} → Told row from extra o now n ys → from ≡ at + 1 → extra ≤ 1
          → node_width ≤ length tree → kn ≡ number k → buf ≡ kn ∷ at ∷ (n + 1) ∷ drop node_width (take node_width tree ++ (ys ++ zs))
          → Found cpp row lists nesting after_identifier p now (n + 1) buf
      node_below {now} {n} tree ys zs told a x room q w = record {
        kind = k;
        below = told.nodes;
        is = λ l. due l told.nodes now.cursor now.pending_greater now.left told.is
            ∙ ap (λ (u : Bool). behind k at told.nodes (reading_within now.left (read cpp row l lists nesting u now.cursor now.pending_greater))) not_word;
        counted = omega (arith, told.counted);
        written = node_written k told.nodes tree ys zs room q told.counted told.written w;
        forwards = omega (arith, told.forwards);
        within = told.within;
        size = omega (arith, told.size);
      }

    -- A group.
    module _ (δ : Delimiter) (e : started kind (Start.Group δ) ≡ starts cpp after_identifier kind) where
      abbrev grouped : Region → Limited → Limited
      grouped l o = on_done o (λ b at' half' left'. behind (node_of δ) at b (reading_within left' (read cpp row l lists nesting false at' half'))) (λ x left'. denied x left')

      group_turn : (l : Region) → node_due cpp row lists nesting after_identifier p l ≡ grouped l (region_due cpp row (region_of (Some δ)) lists (nesting + 1) b)
      unfolding started
      group_turn l =
          enters _ e l
          ∙ limited_group cpp row (read cpp row) l lists nesting at half (p.left - 1) (node_of δ) (region_of (Some δ))
          ∙ ap (grouped l) (below_due (region_of (Some δ)) lists)

      pub node_group : {now : TypeSyntaxParser} {n kn : ℕ} (tree ys zs : List ℕ) {buf : List ℕ} → Told row b.cursor 0 (region_due cpp row (region_of (Some δ)) lists (nesting + 1) b) now n ys
          → kn ≡ number (node_of δ) → buf ≡ kn ∷ at ∷ (n + 1) ∷ drop node_width (take node_width tree ++ (ys ++ zs)) → node_width ≤ length tree
          → Found cpp row lists nesting after_identifier p now (n + 1) buf
      unfolding on_done started
      node_group tree ys zs told q w room =
          node_below (node_of δ) (no_word cpp after_identifier kind _ e (λ x. let z : ◌≡◌ {A = ℕ} 0 1 = cc in absurd (omega arith)))
          (λ l b at' half' left' d. group_turn l ∙ ap (grouped l) d)
          tree ys zs told (past_cursor p _ entered) (omega arith) room q w

      group_denied : (s : Stop) → Denied (region_due cpp row (region_of (Some δ)) lists (nesting + 1) b) s → (l : Region) → Denied (node_due cpp row lists nesting after_identifier p l) s
      unfolding on_done
      group_denied (Refused x left) d l = group_turn l ∙ ap (grouped l) d
      group_denied Spent d l = group_turn l ∙ ap (grouped l) d

      pub node_group_stops : {s : Stop} {from : ℕ} {buf buf' : List ℕ} → GroupAnswers row from (region_due cpp row (region_of (Some δ)) lists (nesting + 1) b) (Err s) buf
          → NodeAnswers cpp row lists nesting after_identifier p (Err s) buf'
      node_group_stops {s} h = record { says = group_denied s h.says }

    -- A list that is tried.
    module _ (e : started kind Start.Angle ≡ starts cpp after_identifier kind) where
      abbrev tried : Region → Limited → Limited
      tried l o = on_done o (λ b at' half' left'. behind l_node at b (reading_within left' (read cpp row l lists nesting false at' half')))
          (λ x left'. behind t_node at none (reading_within left' (read cpp row l lists nesting false (suc at) half)))

      angle_turn : (l : Region) → node_due cpp row lists nesting after_identifier p l ≡ tried l (region_due cpp row list (lists + 1) (nesting + 1) b)
      unfolding started
      angle_turn l =
          let s : suc lists ≡ lists + 1 = omega arith in
          enters _ e l
          ∙ limited_angle cpp row (read cpp row) l lists nesting at half (p.left - 1)
          ∙ ap (tried l) (below_due list (suc lists) ∙ ap (λ (x : ℕ). region_due cpp row list x (nesting + 1) b) s)

      not_word : false ≡ eqb kind Identifier
      unfolding started
      not_word = no_word cpp after_identifier kind _ e (λ x. let z : ◌≡◌ {A = ℕ} 0 1 = cc in absurd (omega arith))

      pub node_list : {now : TypeSyntaxParser} {n : ℕ} (tree ys zs : List ℕ) {buf : List ℕ} → Told row b.cursor 1 (region_due cpp row list (lists + 1) (nesting + 1) b) now n ys
          → buf ≡ 3 ∷ at ∷ (n + 1) ∷ drop node_width (take node_width tree ++ (ys ++ zs)) → node_width ≤ length tree
          → Found cpp row lists nesting after_identifier p now (n + 1) buf
      unfolding on_done number
      node_list tree ys zs told w room =
          node_below l_node not_word (λ l b at' half' left' d. angle_turn l ∙ ap (tried l) d) tree ys zs told (past_cursor p _ entered) (omega arith) room refl w

      pub node_no_list : {left : ℕ} {c : TypeSyntaxParser} {r buf : List ℕ} → c ≡ past p left → (x : Fault) × (region_due cpp row list (lists + 1) (nesting + 1) b ≡ denied x left) → at < length row
          → buf ≡ 0 ∷ at ∷ 1 ∷ r → Found cpp row lists nesting after_identifier p c 1 buf
      unfolding on_done count number
      node_no_list {left} {buf = buf} back d here w =
          let s : suc at ≡ at + 1 = omega arith in
          subst (λ (x : TypeSyntaxParser). Found cpp row lists nesting after_identifier p x 1 buf) (sym back) record {
            kind = t_node;
            below = none;
            is = λ l. angle_turn l ∙ ap (tried l) d.1
                ∙ ap (λ (x : ℕ). behind t_node at none (reading_within left (read cpp row l lists nesting false x half))) s
                ∙ ap (λ (u : Bool). behind t_node at none (reading_within left (read cpp row l lists nesting u (p.cursor + 1) half))) not_word;
            counted = refl;
            written = token_written t_node refl w;
            forwards = omega arith;
            within = omega arith;
            size = omega arith;
          }

      pub node_list_spends : region_due cpp row list (lists + 1) (nesting + 1) b ≡ spent → (l : Region) → node_due cpp row lists nesting after_identifier p l ≡ spent
      unfolding on_done
      node_list_spends d l = angle_turn l ∙ ap (tried l) d

  -- A token by itself, as `parse_token` says it.
  node_token_says : (before buf : List ℕ) → started kind Start.Token ≡ starts cpp after_identifier kind → at < length row
      → (r : Result NodesRead Stop) → TokenSays p r before buf → NodeSays cpp row lists nesting after_identifier p r buf
  unfolding number
  node_token_says before buf e here (Ok r) h =
      subst (λ (x : ℕ). Found cpp row lists nesting after_identifier p r.next x buf) (sym h.2) (node_token h.0 h.1 e here h.3)
  node_token_says before buf e here (Err s) h = λ l. subst (λ (x : Stop). Denied (node_due cpp row lists nesting after_identifier p l) x) (sym h.1) (node_spends h.0 l)

  pub node_by_token : {r : Result NodesRead Stop} {before buf : List ℕ} → started kind Start.Token ≡ starts cpp after_identifier kind → at < length row
      → TokenAnswers p r before buf → NodeAnswers cpp row lists nesting after_identifier p r buf
  node_by_token {r} {before} {buf} e here h = record { says = node_token_says before buf e here r h.says }
