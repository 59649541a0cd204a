-- The loop over a row's parts: the trees taken so far, and what is left. Assumes nothing.
use Rattle.type_list.specs.ListAnswer.{list_accepts, list_refuses}
use Rattle.std.specs.Prelude.{ℕ, suc, ◌+◌, ◌*◌, ◌-◌, ◌≤◌, ◌<◌, ◌≡◌, drop, Ok}
use Rattle.std.proofs.Math.Path.{refl, sym, ap, subst}
use Rattle.std.proofs.Common.{◌∙◌, lt_of_not-le, lt-ltb, le-ltb, length-drop, take_all, drop-drop}
use mathlib.Core.List.{List, [], ◌∷◌, ◌++◌, append_assoc, append-nil}
use native.Mathlib.Omega.{arith}
use Rattle.std.proofs.Math.Decide.{dec_le}
use Rattle.std.proofs.Math.ListN.{length, take, length-append}
use Rattle.rows.specs.Records.{RowToken, kinds_of, words_of}
use Rattle.rows.specs.declared.answer.TypeNameError.{TypeNameError}
use Rattle.rows.specs.declared.head.Head.{Head}
use Rattle.reader.specs.Nodes.{Nodes, count, node_width, records}
use Rattle.type_name.specs.EntrySays.{RowReady}
use Rattle.type_list.specs.Parts.{part_length, parts}
use Rattle.type_list.specs.ListAnswers.{PartsAnswer, accepted, refused, behind, on_part, parts_answer, list_answer_in, nodes_in_all, records_in_all}
use Rattle.type_list.specs.ListSays.{next_length, next_answer, PartReady, TakesPart, parts_from, behind_all, PartsRead, answer_to, TokensOf, ReadsParts, part_refuses}
use Rattle.type_list.specs.Laws.Slices.{kinds_take, kinds_drop, kinds_length, words_take, words_drop}
use Rattle.type_list.specs.Laws.Cuts.{parts_cut, parts_whole}
use Rattle.type_list.specs.declared.parts.Taken.{Taken}

-- ---- the next part and those behind it

module _ (language : ℕ) (ts : List RowToken) where
  pub parts_from_start : parts_from language 0 ts ≡ parts language ts
  parts_from_start = rw (le-ltb (length ts) 0 (omega arith)) refl

  pub parts_from_end : (from : ℕ) → length ts < from → parts_from language from ts ≡ []
  parts_from_end from p = rw (lt-ltb (length ts) from p) refl

  module _ (from : ℕ) (inside : from ≤ length ts) where
    abbrev rest : List RowToken
    rest = drop from ts

    abbrev n : ℕ
    n = part_length language (kinds_of rest)

    abbrev left : length rest ≡ length ts - from
    left = length-drop from ts

    here : parts_from language from ts ≡ parts language rest
    here = rw (le-ltb (length ts) from inside) refl

    pub parts_from_next : parts_from language from ts ≡ take n rest ∷ parts_from language (from + n + 1) ts
    parts_from_next =
        elim (dec_le (length rest) n) [
          | yes p ↦
              let past : length ts < from + n + 1 = omega (arith, p, left, inside) in
              here ∙ parts_whole language rest p ∙ rw (take_all n rest p, lt-ltb (length ts) (from + n + 1) past) refl
          | no p ↦
              let l = lt_of_not-le p in
              let behind : from + n + 1 ≤ length ts = omega (arith, l, left, inside) in
              let sum : from + suc n ≡ from + n + 1 = omega arith in
              let same : drop (suc n) rest ≡ drop (from + n + 1) ts = drop-drop (suc n) from ts ∙ ap (λ (k : ℕ). drop k ts) sum in
              here ∙ parts_cut language rest l ∙ rw (same, le-ltb (length ts) (from + n + 1) behind) refl
        ]

-- ---- the trees taken so far

nodes_append : (xs : List Nodes) (x : Nodes) → nodes_in_all (xs ++ x ∷ []) ≡ nodes_in_all xs + count x
unfolding nodes_in_all
nodes_append [] x = omega arith
nodes_append (y ∷ ys) x = ap (λ (n : ℕ). count y + n) (nodes_append ys x) ∙ omega arith

records_append : (xs : List Nodes) (x : Nodes) → records_in_all (xs ++ x ∷ []) ≡ records_in_all xs ++ records x
unfolding records_in_all
records_append [] x = append-nil (records x)
records_append (y ∷ ys) x = ap (λ (l : List ℕ). records y ++ l) (records_append ys x) ∙ sym (append_assoc (records y) (records_in_all ys) (records x))

-- A tree more was taken.
one_more : (xs : List Nodes) (al left : ℕ) (x : Nodes) (m : ℕ) → m ≤ left → left ≤ al → (o : PartsAnswer)
    → behind_all xs (al - left) (behind x m o) ≡ behind_all (xs ++ x ∷ []) (al - (left - m)) o
unfolding behind
one_more xs al left x m p q (accepted ys n) =
    let steps : al - left + (m + n) ≡ al - (left - m) + n = omega (arith, p, q) in
    rw (steps, append_assoc xs (x ∷ []) ys) refl
one_more xs al left x m p q (refused e n part) =
    let steps : al - left + (m + n) ≡ al - (left - m) + n = omega (arith, p, q) in
    let parts : length xs + suc part ≡ length (xs ++ x ∷ []) + part = omega (arith, length-append xs (x ∷ [])) in
    rw (steps, parts) refl

module _ (h : Head) (ts : List RowToken) where
  -- What the parts from token number `from` on come to, with so much left.
  abbrev rest_answer : (from left : ℕ) → PartsAnswer
  rest_answer from left = parts_answer h.language h.standard h.flag (parts_from h.language from ts) left

  pub record TakenTo (t : Taken) (tree : List ℕ) : Type 0 where
    pub trees : List Nodes
    pub is_parts : t.parts ≡ length trees
    pub is_nodes : t.nodes ≡ nodes_in_all trees
    pub held : take (node_width * t.nodes) tree ≡ records_in_all trees
    pub comes : answer_to h ts ≡ behind_all trees (h.allowance - t.left) (rest_answer t.from t.left)

-- Before a part, or past the last.
pub record PartsLoop (h : Head) (kinds words tree : List ℕ) (t : Taken) : Type 0 where
  pub ready : PartReady h kinds words tree t
  pub taken : (ts : List RowToken) → TokensOf ts kinds words → TakenTo h ts t tree

module _ (h : Head) (kinds words : List ℕ) where
  none_before : (n : ℕ) (o : PartsAnswer) → behind_all [] (n - n) o ≡ o
  none_before n (accepted ys m) = let same : n - n + m ≡ m = omega arith in rw same refl
  none_before n (refused e m part) =
      let same : n - n + m ≡ m = omega arith in
      let first : 0 + part ≡ part = omega arith in
      rw (same, first) refl

  pub parts_begin : {tree : List ℕ} {t : Taken} → RowReady kinds words tree → t.from ≡ 0 → t.parts ≡ 0 → t.nodes ≡ 0 → t.left ≡ h.allowance → PartsLoop h kinds words tree t
  unfolding nodes_in_all records_in_all
  parts_begin {tree} {t} r f p n l =
      record {
        ready = record { few = r.few; worded = r.worded; room = r.room; begun = omega (arith, p); two_each = omega (arith, n); allowed = omega (arith, l) };
        taken = λ ts _.
            record {
              trees = [];
              is_parts = p;
              is_nodes = n;
              held = ap (λ (k : ℕ). take (node_width * k) tree) n;
              comes = sym (rw (f, l, parts_from_start h.language ts) (none_before h.allowance (answer_to h ts)));
            };
      }

  module _ {tree : List ℕ} {t : Taken} (i : PartsLoop h kinds words tree t) where
    module _ (inside : t.from ≤ length kinds) (ts : List RowToken) (of : TokensOf ts kinds words) where
      abbrev behind_them : List RowToken
      behind_them = drop t.from ts

      kinds_left : kinds_of behind_them ≡ drop t.from kinds
      kinds_left = kinds_drop t.from ts ∙ ap (drop t.from) of.have_kinds

      words_left : words_of behind_them ≡ drop t.from words
      words_left = words_drop t.from ts ∙ ap (drop t.from) of.have_words

      abbrev size : ℕ
      size = part_length h.language (kinds_of behind_them)

      is_next : size ≡ next_length h kinds words tree t
      is_next = ap (part_length h.language) kinds_left

      inside_row : t.from ≤ length ts
      inside_row = omega (arith, inside, kinds_length ts, ap length of.have_kinds)

      -- The next part's answer, and then the others'.
      next_comes : rest_answer h ts t.from t.left
          ≡ on_part (next_answer h kinds words tree t) λ m. rest_answer h ts (t.from + next_length h kinds words tree t + 1) (t.left - m)
      unfolding parts_answer
      next_comes =
          ap (λ (ps : List (List RowToken)). parts_answer h.language h.standard h.flag ps t.left) (parts_from_next h.language ts t.from inside_row)
          ∙ rw (kinds_take size behind_them, words_take size behind_them, kinds_left, words_left) refl

    pub parts_refused : t.from ≤ length kinds → {e : TypeNameError} {left : ℕ} {tree' : List ℕ} → TakesPart h kinds words tree t (part_refuses e left) tree'
        → ReadsParts h kinds words (list_refuses e (h.allowance - left) t.parts) tree'
    unfolding on_part list_answer_in
    parts_refused inside {e} {left} {tree'} s =
        let (m, is, l, fits) = s.says in
        record {
          says = λ ts of.
              let k = i.taken ts of in
              let steps : h.allowance - left ≡ h.allowance - t.left + m = omega (arith, l, fits, i.ready.allowed) in
              let part : t.parts ≡ length k.trees + 0 = omega (arith, k.is_parts) in
              let next : rest_answer h ts t.from t.left ≡ refused e m 0 = rw is at (next_comes inside ts of) in
              let comes : answer_to h ts ≡ refused e (h.allowance - left) t.parts =
              k.comes ∙ ap (behind_all k.trees (h.allowance - t.left)) next ∙ rw (← steps, ← part) refl in
              subst (λ (o : PartsAnswer). PartsRead o (list_refuses e (h.allowance - left) t.parts) tree') (sym comes) (record { answered = refl; in_front = tt });
        }

    pub parts_again : t.from ≤ length kinds → {next : Taken} {tree' : List ℕ} → TakesPart h kinds words tree t (Ok next) tree' → PartsLoop h kinds words tree' next
    unfolding on_part
    parts_again inside {next} {tree'} s =
        let a = s.says in
        record {
          ready = a.ready;
          taken = λ ts of.
              let k = i.taken ts of in
              let later = rest_answer h ts (t.from + next_length h kinds words tree t + 1) (t.left - a.steps) in
              let next_one : rest_answer h ts t.from t.left ≡ behind a.nodes a.steps later = rw a.is at (next_comes inside ts of) in
              record {
                trees = k.trees ++ a.nodes ∷ [];
                is_parts = omega (arith, a.counted, k.is_parts, length-append k.trees (a.nodes ∷ []));
                is_nodes = omega (arith, a.nodes_added, k.is_nodes, nodes_append k.trees a.nodes);
                held = a.held ∙ ap (λ (l : List ℕ). l ++ records a.nodes) k.held ∙ sym (records_append k.trees a.nodes);
                comes =
                    k.comes ∙ ap (behind_all k.trees (h.allowance - t.left)) next_one
                    ∙ one_more k.trees h.allowance t.left a.nodes a.steps a.within i.ready.allowed later
                    ∙ rw (a.from, a.steps_taken) refl;
              };
        }

    pub parts_end : length kinds < t.from → ReadsParts h kinds words (list_accepts t.parts t.nodes (h.allowance - t.left)) tree
    unfolding list_answer_in parts_answer
    parts_end past =
        record {
          says = λ ts of.
              let k = i.taken ts of in
              let over : length ts < t.from = omega (arith, past, kinds_length ts, ap length of.have_kinds) in
              let steps : h.allowance - t.left + 0 ≡ h.allowance - t.left = omega arith in
              let comes : answer_to h ts ≡ accepted k.trees (h.allowance - t.left) =
              k.comes ∙ rw (parts_from_end h.language ts t.from over, append-nil k.trees, steps) refl in
              subst (λ (o : PartsAnswer). PartsRead o (list_accepts t.parts t.nodes (h.allowance - t.left)) tree) (sym comes)
              (record { answered = rw (k.is_parts, k.is_nodes) refl; in_front = ap (λ (j : ℕ). take (node_width * j) tree) (sym k.is_nodes) ∙ k.held });
        }
