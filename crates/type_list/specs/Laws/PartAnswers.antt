-- From what the code answers to a part to the definition's answer to it. Assumes nothing.
use Rattle.rows.specs.Answer.{accepted_with, refused_with, Answer}
use Rattle.std.specs.Prelude.{ℕ, ◌+◌, ◌*◌, ◌-◌, ◌≤◌, List, ◌++◌, length, drop, leb, eqb, Ok, Err}
use Rattle.std.proofs.Math.Path.{◌≡◌, refl, sym, ap}
use Rattle.std.proofs.Common.{◌∙◌, subst, length-drop, take_all, length-take-le}
use native.Mathlib.Omega.{arith}
use borrow.Author.Tests.{le-leb}
use Rattle.std.proofs.Math.ListN.{take}
use Rattle.std.proofs.Math.Dec.{leb→le}
use Rattle.rows.specs.Languages.{Cpp}
use Rattle.rows.specs.Laws.Tests.{by_if}
use Rattle.rows.specs.declared.answer.TypeNameError.{TypeNameError}
use Rattle.rows.specs.declared.answer.TypeNameError.TheVariants.{AllowancePassed, Empty}
use Rattle.rows.specs.declared.head.Head.{Head}
use Rattle.prescan.specs.Prescan.{Scanned, passed, prescan}
use Rattle.prescan.specs.Prescan
use Rattle.reader.specs.Nodes.{Nodes, count, node_width, records}
use Rattle.reader.specs.Laws.Derived.{row_derived}
use Rattle.reader.specs.Laws.Bounds.{two_nodes}
use Rattle.reader.specs.Laws.Buffer.{lent, given_back, after_front}
use Rattle.type_name.specs.FileRow.{passes}
use Rattle.type_name.specs.Answers.{RowAnswer, accepted, refused, on_tree, after_prescan, row_tree, tree_checked, unlimited, row_steps, answer_within, answer_of, answer_in}
use Rattle.type_name.specs.EntrySays.{ReadsRow, RowReady}
use Rattle.type_name.specs.Laws.Fields.{is_refused, nodes_in, steps_in, bounds}
use Rattle.type_name.specs.Laws.Total.{PlacedFrom, read_placed_from}
use Rattle.type_name.specs.Laws.AcceptedRow.{RowComes, row_comes, accepted_read}
use Rattle.type_list.specs.Parts.{first_part, part_length}
use Rattle.type_list.specs.ListSays.{length_by, part_answer, ReadsPart, WithAllowance, PartReady, next_length, next_answer, PartAccepted}
use Rattle.type_list.specs.Laws.Cuts.{no_cut_at, part_within}
use Rattle.type_list.specs.declared.part.Part.{Part}
use Rattle.type_list.specs.declared.parts.Taken.{Taken}

-- ---- a row's answer

module _ (language standard flag : ℕ) (kinds words : List ℕ) (allowance : ℕ) where
  abbrev o : RowAnswer
  o = answer_of language standard flag kinds words allowance

  -- A prescan's refusal is the answer's, whatever the allowance.
  pub prescan_answers : (e : TypeNameError) → prescan language kinds ≡ Prescan.refused e → o ≡ refused e 0
  unfolding answer_of unlimited tree_checked on_tree row_tree after_prescan answer_within row_steps
  prescan_answers e q = rw (q, le-leb 0 allowance (omega arith)) refl

  -- An answer of 13 is the prescan's.
  uncut_later : (a : RowAnswer) → PlacedFrom 20 a → length_by (length kinds) (answer_in (passes a)) ≡ length kinds
  unfolding answer_in
  uncut_later (accepted x m) p = refl
  uncut_later (refused e m) p = no_cut_at (length kinds) e λ q. omega (arith, q, bounds 20 40 e p)

  -- The whole row's answer says how long its first part is.
  pub length_by_answer : length_by (length kinds) (answer_in (passes o)) ≡ part_length language kinds
  unfolding part_length first_part answer_in
  length_by_answer = by (prescan language kinds) refl
    where
      by : (r : Scanned) → prescan language kinds ≡ r → length_by (length kinds) (answer_in (passes (answer_of language standard flag kinds words allowance))) ≡ first_part (length kinds) r
      by (Prescan.refused e) q = ap (λ (a : RowAnswer). length_by (length kinds) (answer_in (passes a))) (prescan_answers e q)
      by (passed s) q = uncut_later (answer_of language standard flag kinds words allowance) (read_placed_from language standard flag kinds words s q allowance)

  -- It takes no more steps than are allowed, and its tree has at most two nodes a token.
  pub steps_allowed : row_steps o ≤ allowance
  unfolding answer_of answer_within row_steps
  steps_allowed =
      by_if (λ (a : RowAnswer). row_steps a ≤ allowance) (leb (row_steps (unlimited language standard flag kinds words)) allowance)
      (λ t. leb→le (row_steps (unlimited language standard flag kinds words)) allowance t) (λ _. spent allowance)
    where
      spent : (n : ℕ) → row_steps (refused AllowancePassed n) ≤ n
      spent n = omega arith

  pub two_each : (x : Nodes) (m : ℕ) → o ≡ accepted x m → count x ≤ 2 * length kinds
  two_each x m q =
      let r = subst (RowComes language standard flag kinds words) q (row_comes language standard flag kinds words allowance) in
      two_nodes kinds (row_derived kinds (eqb language Cpp) (accepted_read language standard flag kinds words r).reads)

-- ---- what the code answers, by its cases

module _ {tree : List ℕ} where
  pub told_accepted : (o : RowAnswer) {n m : ℕ} → ReadsRow o (accepted_with n m) tree → (x : Nodes) × (o ≡ accepted x m) × (count x ≡ n) × (take (node_width * n) tree ≡ records x)
  unfolding answer_in
  told_accepted (accepted x k) r =
      let nodes : count x ≡ _ = sym (ap nodes_in r.answered) in
      let steps : k ≡ _ = sym (ap steps_in r.answered) in
      (x, ap (accepted x) steps, nodes, ap (λ (j : ℕ). take (node_width * j) tree) (sym nodes) ∙ r.in_front)
  told_accepted (refused e k) r = let clash : ◌≡◌ {A = ℕ} 0 1 = ap is_refused r.answered in absurd (omega (arith, clash))

  pub told_refused : (o : RowAnswer) {e : TypeNameError} {m : ℕ} → ReadsRow o (refused_with e m) tree → o ≡ refused e m
  unfolding answer_in
  told_refused (accepted x k) r = let clash : ◌≡◌ {A = ℕ} 1 0 = ap is_refused r.answered in absurd (omega (arith, clash))
  told_refused (refused e k) r = same r.answered
    where
      error_in : Answer → TypeNameError
      error_in (Ok a) = Empty
      error_in (Err r) = r.error

      same : {e' : TypeNameError} {k' : ℕ} → refused_with e' k' ≡ refused_with e k → refused e k ≡ refused e' k'
      same q = let error = ap error_in q in let steps = ap steps_in q in cc

  pub told_steps : (o : RowAnswer) {a : Answer} → ReadsRow o a tree → steps_in a ≡ row_steps o
  unfolding answer_in row_steps
  told_steps (accepted x k) r = ap steps_in r.answered
  told_steps (refused e k) r = ap steps_in r.answered

-- ---- the first part

module _ (h : Head) (kinds words : List ℕ) where
  -- The whole row is its first part,
  pub all_part : {a : Answer} {n : ℕ} {tree : List ℕ} → n ≡ part_length h.language kinds → length kinds ≤ n → length words ≡ length kinds
      → ReadsRow (answer_of h.language h.standard h.flag kinds words h.allowance) a tree → ReadsRow (part_answer h kinds words n h.allowance) a tree
  all_part {n = n} e p w r = rw (take_all n kinds p, take_all n words (omega (arith, p, w))) r

  -- or a shorter one, for which there is room.
  pub part_room : (n : ℕ) {tree tree' : List ℕ} → n ≤ length kinds → RowReady kinds words tree → length tree' ≡ length tree → RowReady (take n kinds) (take n words) tree'
  part_room n p r e =
      let k = length-take-le n kinds p in
      let w = length-take-le n words (omega (arith, p, r.worded)) in
      record { few = omega (arith, k, r.few, p); worded = w ∙ sym k; room = omega (arith, k, r.room, p, e) }

-- ---- a part behind others

-- All that is left of an array.
pub lent_all : (k : ℕ) (xs : List ℕ) → lent k xs ≡ drop k xs
lent_all k xs = take_all (length xs - k) (drop k xs) (simp length-drop (omega arith))

module _ (h : Head) (kinds words tree : List ℕ) (t : Taken) (ready : PartReady h kinds words tree t) (inside : t.from ≤ length kinds) where
  abbrev k : ℕ
  k = node_width * t.nodes

  -- There is room for what is left of the row.
  pub part_ready : RowReady (lent t.from kinds) (lent t.from words) (lent k tree)
  part_ready =
      let ks : length (lent t.from kinds) ≡ length kinds - t.from = ap length (lent_all t.from kinds) ∙ length-drop t.from kinds in
      let ws : length (lent t.from words) ≡ length words - t.from = ap length (lent_all t.from words) ∙ length-drop t.from words in
      let ts : length (lent k tree) ≡ length tree - k = ap length (lent_all k tree) ∙ length-drop k tree in
      record {
        few = omega (arith, ks, ready.few);
        worded = ws ∙ ap (λ (n : ℕ). n - t.from) ready.worded ∙ sym ks;
        room = omega (arith, ks, ts, ready.room, ready.two_each, inside);
      }

  module _ {g : Head} (w : WithAllowance h t.left g) {r : Part} {tail : List ℕ} (told : ReadsPart g (lent t.from kinds) (lent t.from words) r tail) where
    -- It is as long as the definition's part,
    pub is_next : r.length ≡ next_length h kinds words tree t
    is_next = told.is_length ∙ rw (w.same_language, lent_all t.from kinds) refl

    pub next_within : r.length ≤ length kinds - t.from
    next_within = omega (arith, is_next, part_within h.language (drop t.from kinds), length-drop t.from kinds)

    -- and so is its answer the definition's.
    pub next_told : ReadsRow (next_answer h kinds words tree t) r.answer tail
    next_told =
        let same : part_answer g (lent t.from kinds) (lent t.from words) r.length g.allowance ≡ next_answer h kinds words tree t =
        rw (w.same_language, w.same_standard, w.same_flag, w.allows, lent_all t.from kinds, lent_all t.from words, is_next) refl in
        subst (λ (o : RowAnswer). ReadsRow o r.answer tail) same told.reads

    pub next_steps : steps_in r.answer ≤ t.left
    next_steps =
        let n = next_length h kinds words tree t in
        omega (
          arith,
          told_steps (next_answer h kinds words tree t) next_told,
          steps_allowed h.language h.standard h.flag (take n (drop t.from kinds)) (take n (drop t.from words)) t.left,
        )

    module _ {n m : ℕ} (is : r.answer ≡ accepted_with n m) where
      abbrev found : (x : Nodes) × (next_answer h kinds words tree t ≡ accepted x m) × (count x ≡ n) × (take (node_width * n) tail ≡ records x)
      found = told_accepted (next_answer h kinds words tree t) (subst (λ (a : Answer). ReadsRow (next_answer h kinds words tree t) a tail) is next_told)

      pub next_nodes : n ≤ 2 * r.length
      next_nodes =
          let p = next_length h kinds words tree t in
          let few = two_each h.language h.standard h.flag (take p (drop t.from kinds)) (take p (drop t.from words)) t.left found.0 m found.1 in
          let long = length-take-le p (drop t.from kinds) (part_within h.language (drop t.from kinds)) in
          omega (arith, few, long, is_next, found.2)

      pub accepted_next : length tail ≡ length (lent k tree) → {next : Taken} {tree' : List ℕ} → next.from ≡ t.from + r.length + 1 → next.parts ≡ t.parts + 1
          → next.nodes ≡ t.nodes + n → next.left ≡ t.left - m → tree' ≡ given_back k tree tail → length tree' ≡ length tree
          → PartAccepted h kinds words tree t next tree'
      accepted_next long {next} {tree'} f c ns ss e l =
          let lower : length (lent k tree) ≡ length tree - k = ap length (lent_all k tree) ∙ length-drop k tree in
          let (x, o, counted, written) = found in
          let here : node_width * next.nodes ≡ k + node_width * n = omega (arith, ns) in
          let room : k ≤ length tree = omega (arith, ready.room, ready.two_each, inside) in
          let fits : node_width * n ≤ length tail = omega (arith, long, lower, next_nodes, next_within, ready.room, ready.two_each, inside) in
          record {
            nodes = x;
            steps = m;
            is = o;
            from = f ∙ ap (λ (j : ℕ). t.from + j + 1) is_next;
            counted = c;
            nodes_added = ns ∙ ap (λ (j : ℕ). t.nodes + j) (sym counted);
            steps_taken = ss;
            within = omega (arith, ap steps_in is, next_steps);
            held =
                ap (λ (j : ℕ). take j tree') here ∙ ap (take (k + node_width * n)) e ∙ after_front tree tail _ k (node_width * n) room fits
                ∙ ap (λ (l : List ℕ). take k tree ++ l) written;
            ready =
                record {
                  few = ready.few;
                  worded = ready.worded;
                  room = omega (arith, ready.room, l);
                  begun = omega (arith, f, c, ready.begun);
                  two_each = omega (arith, f, ns, next_nodes, ready.two_each);
                  allowed = omega (arith, ss, ready.allowed);
                };
          }
