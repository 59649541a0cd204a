-- The promises follow from the answer and the buffer being the definition's. Assumes nothing.
use Rattle.type_list.specs.ListAnswer.{list_accepts, list_refuses, ListAnswer}
use Prim.Native.Nat.{ℕ, zero, suc, ◌+◌, ◌*◌, ◌-◌, ◌≤◌, ◌<◌}
use Rattle.std.proofs.Math.Path.{◌≡◌, refl, sym, ap, subst}
use Rattle.std.proofs.Common.{◌∙◌, inl, inr, ⊎_elim, lt_of_not-le, get_or-append-add}
use Rattle.std.specs.Prelude.{◌⊎◌, ◌↔◌, take, drop, leb, Err, Ok}
use mathlib.Core.List.{List, [], ◌∷◌, ◌++◌}
use native.Mathlib.Omega.{arith}
use Rattle.std.proofs.Math.Decide.{dec_le}
use Rattle.std.proofs.Math.Nat.{sub-zero}
use Rattle.std.proofs.Math.ListN.{length, get_or, replicate, get_or-append}
use Rattle.rows.specs.Format.{format, head_length, most_tokens}
use Rattle.rows.specs.Records.{RowToken, kinds_of, words_of}
use Rattle.rows.specs.Refusals.{refusal_of}
use Rattle.rows.specs.Laws.Numbered.{Between}
use Rattle.rows.specs.Laws.Tests.{by_if}
use Rattle.rows.specs.Laws.RowFacts.{GoodTokens, good_row}
use Rattle.rows.specs.declared.answer.TypeNameError.{TypeNameError}
use Rattle.rows.specs.declared.answer.TypeNameError.TheVariants.{AllowancePassed}
use Rattle.rows.specs.declared.head.Head.{Head}
use Rattle.prescan.specs.Prescan.{Scanned, passed, prescan}
use Rattle.prescan.specs.Prescan
use Rattle.reader.specs.Nodes.{t_node, Nodes, none, node, number, count, node_width, records, kind_of, token_of}
use Rattle.reader.specs.Laws.NodeNumbers.{three_each}
use Rattle.type_name.specs.FileRow.{HeadRow, Outcome, untouched, passes, on_pass, file_row}
use Rattle.type_name.specs.Answers.{RowAnswer, unlimited, row_steps, answer_within, answer_of, row_answer, outcome, answer_in, answer, filled, buffer_in, final_buffer}
use Rattle.type_name.specs.Answers
use Rattle.type_name.specs.Laws.Fields.{bounds}
use Rattle.type_name.specs.Laws.FileRow.{Comes, file_comes}
use Rattle.type_name.specs.Laws.Total.{PlacedFrom, RowPlaced, Unspent, unlimited_unspent, row_placed, read_placed_from}
use Rattle.type_name.specs.Laws.AcceptedRow.{RowAccepted, RowComes, row_comes, row_stable, accepted_read}
use Rattle.type_name.specs.Laws.Promised.{nested, brackets, written_as}
use Rattle.type_list.specs.Parts.{cut_number, part_length, parts}
use Rattle.type_list.specs.ListAnswers.{PartsAnswer, accepted, refused, behind, on_part, parts_answer, row_parts_answer, list_outcome, list_answer_in, list_answer, nodes_in_all, records_in_all, list_buffer_in, list_buffer}
use Rattle.type_list.specs.ListPromises.{PartTree, parts_of, trees_of, steps_in_all, HoldsAlone, PartRead, EachRead, Begins, AcceptedList, RefusedList, ListPromised}
use Rattle.type_list.specs.Laws.Cuts.{part_whole, part_before, over_parts}
use Rattle.type_list.specs.Laws.Slices.{kinds_length}
use Rattle.type_list.specs.Laws.Commas.{NoCut, scanned_no_cut}
use Rattle.type_list.specs.Laws.PartAnswers.{prescan_answers, steps_allowed}
use Rattle.type_list.specs.Laws.Starts.{Starts, read_starts, starts_there}
use Rattle.type_list.specs.Laws.ListEntry.{three_in_all}

-- Which of the two an answer is, as a number.
abbrev is_refused : PartsAnswer → ℕ
is_refused (accepted xs m) = 0
is_refused (refused e m part) = 1

-- ---- what the parts of a row are

-- Their tokens are good,
abbrev AllGood : List (List RowToken) → Type 0
AllGood [] = Unit {0}
AllGood (p ∷ ps) = GoodTokens p × AllGood ps

good_take : (n : ℕ) (ts : List RowToken) → GoodTokens ts → GoodTokens (take n ts)
good_take zero ts g = tt
good_take (suc n) [] g = tt
good_take (suc n) (t ∷ ts) g = (g.0, good_take n ts g.1)

good_drop : (n : ℕ) (ts : List RowToken) → GoodTokens ts → GoodTokens (drop n ts)
good_drop zero ts g = g
good_drop (suc n) [] g = tt
good_drop (suc n) (t ∷ ts) g = good_drop n ts g.1

-- and none has a cut.
abbrev AllUncut : (language : ℕ) → List (List RowToken) → Type 0
AllUncut language [] = Unit {0}
AllUncut language (p ∷ ps) = NoCut language (prescan language (kinds_of p)) × AllUncut language ps

module _ (language : ℕ) where
  parts_good : (ts : List RowToken) → GoodTokens ts → AllGood (parts language ts)
  parts_good =
      over_parts language (λ ts ps. GoodTokens ts → AllGood ps) (λ ts _ g. (g, tt)) λ ts _ ps f g.
      (good_take (part_length language (kinds_of ts)) ts g, f (good_drop (suc (part_length language (kinds_of ts))) ts g))

  parts_uncut : (ts : List RowToken) → AllUncut language (parts language ts)
  parts_uncut =
      over_parts language (λ ts ps. AllUncut language ps) (λ ts p. ((part_whole language (kinds_of ts) (omega (arith, p, kinds_length ts))).1, tt)) λ ts p ps u.
      let b = part_before language ts p in
      (scanned_no_cut language _ b.ends.state b.ends.scanned, u)

-- ---- a part that was read

module _ (h : Head) (p : PartTree) (good : GoodTokens p.part) (al : ℕ)
    (is : answer_of h.language h.standard h.flag (kinds_of p.part) (words_of p.part) al ≡ Answers.accepted p.tree p.steps) where
  abbrev row_accepted : RowAccepted h.language h.standard h.flag (kinds_of p.part) (words_of p.part) p.tree p.steps
  row_accepted =
      subst (RowComes h.language h.standard h.flag (kinds_of p.part) (words_of p.part)) is
      (row_comes h.language h.standard h.flag (kinds_of p.part) (words_of p.part) al)

  alone : (file' before' : List ℕ) → HoldsAlone h p file' before' → outcome file' (length before') ≡ passes (Answers.accepted p.tree p.steps)
  unfolding outcome on_pass row_answer
  alone file' before' a =
      rw (a.is_row, a.same_kinds, a.same_words, a.same_language, a.same_flag)
      (ap passes (row_stable h.language h.standard a.head_of.standard h.flag (kinds_of p.part) (words_of p.part) a.head_of.allowance p.tree p.steps
      row_accepted a.same_or_later a.enough))

  part_read : PartRead h p
  unfolding answer answer_in final_buffer buffer_in
  part_read =
      record {
        alone = λ file' before' a. (ap answer_in (alone file' before' a), ap (buffer_in before') (alone file' before' a));
        row_alone = λ allowance enough.
            row_stable h.language h.standard h.standard h.flag (kinds_of p.part) (words_of p.part) allowance p.tree p.steps row_accepted (omega arith) enough;
        nested = nested h.language h.standard h.flag p.part p.tree p.steps good row_accepted;
        brackets_paired = brackets h.language h.standard h.flag p.part p.tree p.steps good row_accepted;
        written_out = written_as h.language h.standard h.flag p.part p.tree p.steps good row_accepted;
      }

  tree_starts : Starts p.tree
  tree_starts = read_starts h.language (kinds_of p.part) (accepted_read h.language h.standard h.flag (kinds_of p.part) (words_of p.part) row_accepted)

-- ---- all parts accepted

abbrev trees_in : PartsAnswer → List Nodes
trees_in (accepted xs m) = xs
trees_in (refused e m part) = []

abbrev steps_in : PartsAnswer → ℕ
steps_in (accepted xs m) = m
steps_in (refused e m part) = m

abbrev error_in : TypeNameError → PartsAnswer → TypeNameError
error_in e (accepted xs m) = e
error_in e (refused f m part) = f

abbrev part_in : PartsAnswer → ℕ
part_in (accepted xs m) = 0
part_in (refused e m part) = part

abbrev EachStarts : List Nodes → Type 0
EachStarts [] = Unit {0}
EachStarts (x ∷ xs) = Starts x × EachStarts xs

module _ (h : Head) where
  -- The answer to parts with so much allowed, and to one part.
  abbrev told : List (List RowToken) → (al : ℕ) → PartsAnswer
  told ps al = parts_answer h.language h.standard h.flag ps al

  abbrev pub told_one : List RowToken → (al : ℕ) → RowAnswer
  told_one p al = answer_of h.language h.standard h.flag (kinds_of p) (words_of p) al

  record AllAccepted (ps : List (List RowToken)) (xs : List Nodes) (m : ℕ) : Type 0 where
    read : List PartTree
    are : parts_of read ≡ ps
    trees : trees_of read ≡ xs
    summed : steps_in_all read ≡ m
    each : EachRead h read
    starts : EachStarts xs

  all_accepted : (ps : List (List RowToken)) → AllGood ps → (al : ℕ) (xs : List Nodes) (m : ℕ) → told ps al ≡ accepted xs m → AllAccepted ps xs m
  unfolding parts_answer on_part behind
  all_accepted [] g al xs m q =
      let none_left : [] ≡ xs = ap trees_in q in
      record { read = []; are = refl; trees = none_left; summed = ap steps_in q; each = tt; starts = subst EachStarts none_left tt }
  all_accepted (p ∷ ps) g al xs m q = first (told_one p al) refl q (λ k ys n e. all_accepted ps g.1 (al - k) ys n e)
    where
      second : (x : Nodes) (k : ℕ) → told_one p al ≡ Answers.accepted x k → (r : PartsAnswer) → told ps (al - k) ≡ r → behind x k r ≡ accepted xs m
          → ((ys : List Nodes) (n : ℕ) → told ps (al - k) ≡ accepted ys n → AllAccepted ps ys n) → AllAccepted (p ∷ ps) xs m
      second x k is (refused e n part) t q rest = let clash : ◌≡◌ {A = ℕ} 1 0 = ap is_refused q in absurd (omega (arith, clash))
      second x k is (accepted ys n) t q rest =
          let r = rest ys n t in
          let one : PartTree = record { part = p; tree = x; steps = k } in
          let same : x ∷ ys ≡ xs = ap trees_in q in
          record {
            read = one ∷ r.read;
            are = ap (λ (us : List (List RowToken)). p ∷ us) r.are;
            trees = ap (λ (us : List Nodes). x ∷ us) r.trees ∙ same;
            summed = ap (λ (j : ℕ). k + j) r.summed ∙ ap steps_in q;
            each = (part_read h one g.0 al is, r.each);
            starts = subst EachStarts same (tree_starts h one g.0 al is, r.starts);
          }

      first : (o : RowAnswer) → told_one p al ≡ o → on_part o (λ k. told ps (al - k)) ≡ accepted xs m
          → ((k : ℕ) (ys : List Nodes) (n : ℕ) → told ps (al - k) ≡ accepted ys n → AllAccepted ps ys n) → AllAccepted (p ∷ ps) xs m
      first (Answers.refused e k) is q rest = let clash : ◌≡◌ {A = ℕ} 1 0 = ap is_refused q in absurd (omega (arith, clash))
      first (Answers.accepted x k) is q rest = second x k is (told ps (al - k)) refl q (rest k)

  -- ---- a part refused

  record FirstRefused (ps : List (List RowToken)) (al : ℕ) (e : TypeNameError) (m part : ℕ) : Type 0 where
    read : List PartTree
    each : EachRead h read
    its_tokens : List RowToken
    others : List (List RowToken)
    are : parts_of read ++ its_tokens ∷ others ≡ ps
    is_part : length read ≡ part
    within : steps_in_all read ≤ al
    its_steps : ℕ
    decides : told_one its_tokens (al - steps_in_all read) ≡ Answers.refused e its_steps
    summed : steps_in_all read + its_steps ≡ m

  -- Only an allowance that is passed gives 25, and its steps are the allowance.
  spent_here : (p : List RowToken) (al k : ℕ) → told_one p al ≡ Answers.refused AllowancePassed k → k ≡ al
  unfolding answer_of answer_within
  spent_here p al k =
      by_if (λ (o : RowAnswer). o ≡ Answers.refused AllowancePassed k → k ≡ al) (leb (row_steps (unlimited h.language h.standard h.flag (kinds_of p) (words_of p))) al)
      (λ _ q. absurd (not_spent (subst Unspent q (unlimited_unspent h.language h.standard h.flag (kinds_of p) (words_of p))))) (λ _ q. same q)
    where
      not_spent : Between 10 23 AllowancePassed ⊎ Between 30 40 AllowancePassed → ⊥
      not_spent (inl b) = b
      not_spent (inr b) = b

      same : Answers.refused AllowancePassed al ≡ Answers.refused AllowancePassed k → k ≡ al
      same q = cc

  first_refused : (ps : List (List RowToken)) → AllGood ps → (al : ℕ) (e : TypeNameError) (m part : ℕ) → told ps al ≡ refused e m part → FirstRefused ps al e m part
  unfolding parts_answer on_part behind
  first_refused [] g al e m part q = let clash : ◌≡◌ {A = ℕ} 0 1 = ap is_refused q in absurd (omega (arith, clash))
  first_refused (p ∷ ps) g al e m part q = first (told_one p al) refl q (λ k n j u. first_refused ps g.1 (al - k) e n j u)
    where
      second : (x : Nodes) (k : ℕ) → told_one p al ≡ Answers.accepted x k → (r : PartsAnswer) → told ps (al - k) ≡ r → behind x k r ≡ refused e m part
          → ((n j : ℕ) → told ps (al - k) ≡ refused e n j → FirstRefused ps (al - k) e n j) → FirstRefused (p ∷ ps) al e m part
      second x k is (accepted ys n) t q rest = let clash : ◌≡◌ {A = ℕ} 0 1 = ap is_refused q in absurd (omega (arith, clash))
      second x k is (refused f n j) t q rest =
          let r = rest n j (t ∙ ap (λ (g : TypeNameError). refused g n j) (ap (error_in f) q)) in
          let one : PartTree = record { part = p; tree = x; steps = k } in
          let allowed : k ≤ al = subst (λ (o : RowAnswer). Answers.row_steps o ≤ al) is (steps_allowed h.language h.standard h.flag (kinds_of p) (words_of p) al) in
          let left : al - k - steps_in_all r.read ≡ al - (k + steps_in_all r.read) = omega arith in
          record {
            read = one ∷ r.read;
            each = (part_read h one g.0 al is, r.each);
            its_tokens = r.its_tokens;
            others = r.others;
            are = ap (λ (us : List (List RowToken)). p ∷ us) r.are;
            is_part = ap suc r.is_part ∙ ap part_in q;
            within = omega (arith, allowed, r.within);
            its_steps = r.its_steps;
            decides = rw (← left) r.decides;
            summed = omega (arith, r.summed, ap steps_in q);
          }

      first : (o : RowAnswer) → told_one p al ≡ o → on_part o (λ k. told ps (al - k)) ≡ refused e m part
          → ((k n j : ℕ) → told ps (al - k) ≡ refused e n j → FirstRefused ps (al - k) e n j) → FirstRefused (p ∷ ps) al e m part
      first (Answers.refused f k) is q rest =
          record {
            read = [];
            each = tt;
            its_tokens = p;
            others = ps;
            are = refl;
            is_part = ap part_in q;
            within = omega arith;
            its_steps = k;
            decides = ap (told_one p) (sub-zero al) ∙ is ∙ ap (λ (g : TypeNameError). Answers.refused g k) (ap (error_in f) q);
            summed = omega (arith, ap steps_in q);
          }
      first (Answers.accepted x k) is q rest = second x k is (told ps (al - k)) refl q (rest k)

  -- ---- its number

  abbrev pub RowUncut : RowAnswer → Type 0
  RowUncut (Answers.accepted x m) = Unit {0}
  RowUncut (Answers.refused e m) = (refusal_of e).number ≡ cut_number → ⊥

  later_uncut : (o : RowAnswer) → PlacedFrom 20 o → RowUncut o
  later_uncut (Answers.accepted x m) p = tt
  later_uncut (Answers.refused e m) p = λ q. omega (arith, q, bounds 20 40 e p)

  pub row_uncut : (p : List RowToken) → NoCut h.language (prescan h.language (kinds_of p)) → (al : ℕ) → RowUncut (told_one p al)
  row_uncut p u al = by (prescan h.language (kinds_of p)) refl u
    where
      by : (r : Scanned) → prescan h.language (kinds_of p) ≡ r → NoCut h.language r → RowUncut (told_one p al)
      by (Prescan.refused e) q u = subst RowUncut (sym (prescan_answers h.language h.standard h.flag (kinds_of p) (words_of p) al e q)) u
      by (passed s) q u = later_uncut (told_one p al) (read_placed_from h.language h.standard h.flag (kinds_of p) (words_of p) s q al)

  abbrev PartPlaced : PartsAnswer → Type 0
  PartPlaced (accepted xs m) = Unit {0}
  PartPlaced (refused e m part) = Between 10 40 e × ((refusal_of e).number ≡ cut_number → ⊥)

  behind_placed : (x : Nodes) (m : ℕ) (r : PartsAnswer) → PartPlaced r → PartPlaced (behind x m r)
  unfolding behind
  behind_placed x m (accepted ys n) p = tt
  behind_placed x m (refused e n part) p = p

  on_part_placed : (o : RowAnswer) → RowPlaced o → RowUncut o → (next : ℕ → PartsAnswer) → ((m : ℕ) → PartPlaced (next m)) → PartPlaced (on_part o next)
  unfolding on_part
  on_part_placed (Answers.accepted x m) p u next f = behind_placed x m (next m) (f m)
  on_part_placed (Answers.refused e m) p u next f = (p, u)

  parts_placed : (ps : List (List RowToken)) → AllUncut h.language ps → (al : ℕ) → PartPlaced (told ps al)
  unfolding parts_answer
  parts_placed [] u al = tt
  parts_placed (p ∷ ps) u al =
      on_part_placed (told_one p al) (row_placed h.language h.standard h.flag (kinds_of p) (words_of p) al) (row_uncut p u.0 al) _ (λ m. parts_placed ps u.1 (al - m))

-- ---- where the trees begin

some_node : (x : Nodes) → 0 < count (node t_node 0 none x)
unfolding count
some_node x = omega arith

module _ (at : ℕ) where
  -- A number of a node, in records that stand behind others.
  kind_behind : (x : Nodes) (rest : List ℕ) (n : ℕ) → count x ≤ n → get_or (records x ++ rest) (node_width * n + at) 0 ≡ get_or rest (node_width * (n - count x) + at) 0
  kind_behind x rest n p =
      let there : node_width * n + at ≡ length (records x) + (node_width * (n - count x) + at) = omega (arith, three_each x, p) in
      ap (λ (k : ℕ). get_or (records x ++ rest) k 0) there ∙ get_or-append-add (records x) rest (node_width * (n - count x) + at) 0

  -- In front of other numbers.
  kind_front : (xs rest : List ℕ) (n : ℕ) → node_width * n + at < length xs → get_or (xs ++ rest) (node_width * n + at) 0 ≡ get_or xs (node_width * n + at) 0
  kind_front xs rest n p = get_or-append xs rest 0 (node_width * n + at) p

-- Node number n is a T of token 0.
abbrev FirstToken : (records : List ℕ) (n : ℕ) → Type 0
FirstToken rs n = (kind_of rs n ≡ number t_node) × (token_of rs n ≡ 0)

plus_zero : (n : ℕ) → node_width * n + 0 ≡ node_width * n
plus_zero n = omega arith

-- The same numbers, the same node.
same_first : (rs rs' : List ℕ) (n n' : ℕ) → ((at : ℕ) → at < node_width → get_or rs (node_width * n + at) 0 ≡ get_or rs' (node_width * n' + at) 0) → FirstToken rs n → FirstToken rs' n'
same_first rs rs' n n' f t =
    let kinds : kind_of rs n ≡ kind_of rs' n' =
    ap (λ (k : ℕ). get_or rs k 0) (sym (plus_zero n)) ∙ f 0 (omega arith) ∙ ap (λ (k : ℕ). get_or rs' k 0) (plus_zero n') in
    (sym kinds ∙ t.0, sym (f 1 (omega arith)) ∙ t.1)

begins_exactly : (xs : List Nodes) → EachStarts xs → (n : ℕ) → n < nodes_in_all xs → Begins xs n ↔ FirstToken (records_in_all xs) n
unfolding nodes_in_all records_in_all
begins_exactly [] s n p = absurd (omega arith)
begins_exactly (x ∷ xs) s n p =
    elim (dec_le (count x) n) [
      | yes q ↦
          let rest = begins_exactly xs s.1 (n - count x) (omega (arith, p, q)) in
          let same : (at : ℕ) → at < node_width → get_or (records x ++ records_in_all xs) (node_width * n + at) 0 ≡ get_or (records_in_all xs) (node_width * (n - count x) + at) 0 =
          λ at _. kind_behind at x (records_in_all xs) n q in (
            λ b. ⊎_elim (λ (z : n ≡ 0). absurd (omega (arith, z, q, some x s.0))) (λ c. same_first (records_in_all xs) (records x ++ records_in_all xs) (n - count x) n (λ at l. sym (same at l)) (rest.0 c.1)) b,
            λ t. inr (q, rest.1 (same_first (records x ++ records_in_all xs) (records_in_all xs) n (n - count x) same t)),
          )
      | no q ↦
          let l = lt_of_not-le q in
          let here = starts_there x s.0 n l in
          let same : (at : ℕ) → at < node_width → get_or (records x ++ records_in_all xs) (node_width * n + at) 0 ≡ get_or (records x) (node_width * n + at) 0 =
          λ at a. kind_front at (records x) (records_in_all xs) n (omega (arith, three_each x, l, a)) in (
            λ b. ⊎_elim (λ z. same_first (records x) (records x ++ records_in_all xs) n n (λ at a. sym (same at a)) (here.0 z)) (λ c. absurd (omega (arith, c.0, l))) b,
            λ t. inl (here.1 (same_first (records x ++ records_in_all xs) (records x) n n same t)),
          )
    ]
  where
    some : (x : Nodes) → Starts x → 0 < count x
    some x s = rw s.is (some_node s.others)

-- ---- a file

abbrev code_in : ListAnswer → ℕ
code_in (Ok a) = 0
code_in (Err r) = 1

abbrev parts_told : ListAnswer → ℕ
parts_told (Ok a) = a.parts
parts_told (Err r) = r.part

abbrev nodes_told : ListAnswer → ℕ
nodes_told (Ok a) = a.nodes
nodes_told (Err r) = 0

abbrev steps_told : ListAnswer → ℕ
steps_told (Ok a) = a.steps
steps_told (Err r) = r.steps

abbrev error_told : TypeNameError → ListAnswer → TypeNameError
error_told f (Ok a) = f
error_told f (Err r) = r.error

length-map : (ps : List PartTree) → length (trees_of ps) ≡ length ps
length-map [] = refl
length-map (p ∷ ps) = ap suc (length-map ps)

module _ (file before : List ℕ) where
  abbrev room : ℕ
  room = length before

  module _ (r : HeadRow) (is_row : file_row format file room ≡ passes r) where
    abbrev h : Head
    h = r.the_head

    abbrev row_parts : List (List RowToken)
    row_parts = parts h.language r.tokens

    good : AllGood row_parts
    good = parts_good h.language r.tokens (good_row format file most_tokens head_length r.tokens (subst (Comes file room) is_row (file_comes file room)).row_is)

    accepted_row : (xs : List Nodes) (m : ℕ) → row_parts_answer r ≡ accepted xs m → AcceptedList file before (filled room (records_in_all xs)) (length xs) (nodes_in_all xs) m
    unfolding row_parts_answer filled
    accepted_row xs m q =
        let a = all_accepted h row_parts good h.allowance xs m q in
        record {
          head_of = h;
          tokens = r.tokens;
          is_row = is_row;
          read = a.read;
          are_parts = a.are;
          each_read = a.each;
          counted = sym (length-map a.read) ∙ ap length a.trees;
          nodes_summed = ap nodes_in_all a.trees;
          steps_summed = a.summed;
          held = ap (λ (us : List Nodes). filled room (records_in_all us)) (sym a.trees);
          begins = λ n l.
              let there = begins_exactly xs a.starts n l in
              let zeros : List ℕ = replicate (room - length (records_in_all xs)) 0 in
              let same : (at : ℕ) → at < node_width → get_or (records_in_all xs ++ zeros) (node_width * n + at) 0 ≡ get_or (records_in_all xs) (node_width * n + at) 0 =
              λ at b. kind_front at (records_in_all xs) zeros n (omega (arith, three_in_all xs, l, b)) in (
                λ b. same_first (records_in_all xs) (records_in_all xs ++ zeros) n n (λ at c. sym (same at c)) (there.0 (subst (λ (us : List Nodes). Begins us n) a.trees b)),
                λ t. subst (λ (us : List Nodes). Begins us n) (sym a.trees) (there.1 (same_first (records_in_all xs ++ zeros) (records_in_all xs) n n same t)),
              );
        }

    placed : PartPlaced h (row_parts_answer r)
    unfolding row_parts_answer
    placed = parts_placed h row_parts (parts_uncut h.language r.tokens) h.allowance

    refused_row : (e : TypeNameError) (m part : ℕ) → row_parts_answer r ≡ refused e m part → RefusedList file before (filled room []) e m part
    unfolding row_parts_answer filled
    refused_row e m part q =
        let f = first_refused h row_parts good h.allowance e m part q in
        let p = subst (PartPlaced h) q placed in
        record {
          never_13 = p.1;
          before_any = λ few. absurd (omega (arith, bounds 10 40 e p.0, few));
          in_a_part = λ _. (
            record {
              head_of = h;
              tokens = r.tokens;
              is_row = is_row;
              read = f.read;
              each_read = f.each;
              its_tokens = f.its_tokens;
              others = f.others;
              are_parts = f.are;
              is_part = f.is_part;
              within = f.within;
              its_steps = f.its_steps;
              decides = f.decides;
              steps_summed = f.summed;
              spent = λ is_25.
                  let left = h.allowance - steps_in_all f.read in
                  let whole = spent_here h f.its_tokens left f.its_steps (f.decides ∙ ap (λ (g : TypeNameError). Answers.refused g f.its_steps) is_25) in
                  omega (arith, f.summed, f.within, whole);
            },
            ap (λ (k : ℕ). replicate {A = ℕ} k 0) (sub-zero room),
          );
        }

  -- By what comes of the file's row, and of its parts.
  abbrev Kept : Outcome PartsAnswer → Type 0
  Kept o =
      ((parts_told nodes steps : ℕ) → list_answer_in o ≡ list_accepts parts_told nodes steps → AcceptedList file before (list_buffer_in before o) parts_told nodes steps)
      × ((e : TypeNameError) (steps part : ℕ) → list_answer_in o ≡ list_refuses e steps part → RefusedList file before (list_buffer_in before o) e steps part)

  parts_kept : (r : HeadRow) → file_row format file room ≡ passes r → (o : PartsAnswer) → row_parts_answer r ≡ o → Kept (passes o)
  unfolding list_answer_in list_buffer_in
  parts_kept r is (accepted xs m) q = (
    λ ps ns ss t. rw (← (ap parts_told t), ← (ap nodes_told t), ← (ap steps_told t)) (accepted_row r is xs m q),
    λ e ss p t. let clash : ◌≡◌ {A = ℕ} 0 1 = ap code_in t in absurd (omega (arith, clash)),
  )
  parts_kept r is (refused f m part) q = (
    λ ps ns ss t. let clash : ◌≡◌ {A = ℕ} 1 0 = ap code_in t in absurd (omega (arith, clash)),
    λ e ss p t. rw (← (ap (error_told f) t), ← (ap steps_told t), ← (ap parts_told t)) (refused_row r is f m part q),
  )

  untouched_kept : (f : TypeNameError) → Between 1 6 f → Kept (untouched f)
  unfolding list_answer_in list_buffer_in
  untouched_kept f b = (
    λ ps ns ss t. let clash : ◌≡◌ {A = ℕ} 1 0 = ap code_in t in absurd (omega (arith, clash)),
    λ e ss p t. rw (← (ap (error_told f) t), ← (ap steps_told t), ← (ap parts_told t)) record {
      never_13 = λ q. omega (arith, q, bounds 1 6 f b);
      before_any = λ _. (refl, refl, refl);
      in_a_part = λ l. absurd (omega (arith, l, bounds 1 6 f b));
    },
  )

  row_kept : (o : Outcome HeadRow) → file_row format file room ≡ o → Comes file room o → Kept (on_pass o λ r. passes (row_parts_answer r))
  unfolding on_pass
  row_kept (untouched f) is c = untouched_kept f c
  row_kept (passes r) is c = parts_kept r is (row_parts_answer r) refl

  kept : Kept (list_outcome file room)
  unfolding list_outcome
  kept = row_kept (file_row format file room) refl (file_comes file room)

  pub list_promised : (a : ListAnswer) (after : List ℕ) → a ≡ list_answer file room → after ≡ list_buffer file before → ListPromised file before a after
  unfolding list_answer list_buffer
  list_promised a after answered buffered =
      record {
        answered = answered;
        buffered = buffered;
        accepted_list = λ ps ns ss t. rw buffered (kept.0 ps ns ss (sym answered ∙ t));
        refused_list = λ e ss p t. rw buffered (kept.1 e ss p (sym answered ∙ t));
      }
