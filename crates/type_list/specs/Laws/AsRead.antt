-- A list beside the reading of one type name: that gives 13 exactly if the row has a cut, and else the two answer alike. Assumes nothing.
use Rattle.rows.specs.Answer.{refused_with}
use Rattle.std.specs.Prelude.{ℕ, suc, ◌+◌, ◌≤◌, ◌<◌, ◌↔◌, List, [], ◌∷◌, drop}
use Rattle.std.proofs.Math.Path.{◌≡◌, refl, ap, subst}
use Rattle.std.proofs.Common.{sym, ◌∙◌, append-nil}
use native.Mathlib.Omega.{arith}
use Rattle.std.proofs.Math.Decide.{dec_le}
use Rattle.std.proofs.Math.Nat.{lt_of_not-le}
use Rattle.std.proofs.Math.ListN.{length}
use Rattle.rows.specs.Format.{format}
use Rattle.rows.specs.Records.{RowToken, kinds_of, words_of}
use Rattle.rows.specs.Refusals.{refusal_of}
use Rattle.rows.specs.declared.answer.TypeNameError.{TypeNameError}
use Rattle.rows.specs.declared.answer.TypeNameError.TheVariants.{TopLevelComma}
use Rattle.rows.specs.declared.head.Head.{Head}
use Rattle.reader.specs.Nodes.{count, records}
use Rattle.type_name.specs.FileRow.{HeadRow, passes, on_pass, file_row}
use Rattle.type_name.specs.Answers.{RowAnswer, answer_of, row_answer, outcome, answer_in, answer, filled, buffer_in, final_buffer}
use Rattle.type_name.specs.Answers
use Rattle.type_name.specs.Laws.Fields.{is_refused, number_in}
use Rattle.type_list.specs.Parts.{cut_number, part_length, parts}
use Rattle.type_list.specs.ListAnswers.{behind, on_part, parts_answer, row_parts_answer, list_outcome, list_answer_in, list_answer, nodes_in_all, records_in_all, list_buffer_in, list_buffer}
use Rattle.type_list.specs.ListPromises.{as_list, GivesCut}
use Rattle.type_list.specs.Laws.Slices.{kinds_length}
use Rattle.type_list.specs.Laws.Commas.{comma_is_cut}
use Rattle.type_list.specs.Laws.Cuts.{part_cut, part_whole, parts_cut, parts_whole, over_parts}
use Rattle.type_list.specs.Laws.PartAnswers.{prescan_answers}
use Rattle.type_list.specs.Laws.Promised.{RowUncut, row_uncut}

pub some_part : (language : ℕ) (ts : List RowToken) → 0 < length (parts language ts)
some_part language = over_parts language (λ ts ps. 0 < length ps) (λ ts _. omega arith) (λ ts _ ps _. omega arith)

module _ (file : List ℕ) (room : ℕ) (r : HeadRow) (is_row : file_row format file room ≡ passes r) where
  abbrev h : Head
  h = r.the_head

  abbrev ts : List RowToken
  ts = r.tokens

  abbrev n : ℕ
  n = part_length h.language (kinds_of ts)

  cut_parts : n < length ts → 1 < length (parts h.language ts)
  cut_parts l =
      let long : length (parts h.language ts) ≡ suc (length (parts h.language (drop (suc n) ts))) = ap length (parts_cut h.language ts l) in
      omega (arith, long, some_part h.language (drop (suc n) ts))

  whole_parts : length ts ≤ n → parts h.language ts ≡ ts ∷ []
  whole_parts p = parts_whole h.language ts p

  read_is : outcome file room ≡ passes (row_answer r)
  unfolding outcome on_pass
  read_is = rw is_row refl

  list_is : list_outcome file room ≡ passes (row_parts_answer r)
  unfolding list_outcome on_pass
  list_is = rw is_row refl

  not_13 : length ts ≤ n → (o : RowAnswer) → row_answer r ≡ o → (e : TypeNameError) (m : ℕ) → answer_in (passes o) ≡ refused_with e m → (refusal_of e).number ≡ cut_number → ⊥
  unfolding answer_in row_answer
  not_13 p (Answers.accepted x k) q e m t c = let clash : ◌≡◌ {A = ℕ} 0 1 = ap is_refused t in omega (arith, clash)
  not_13 p (Answers.refused f k) q e m t c =
      let u = row_uncut h ts (part_whole h.language (kinds_of ts) (omega (arith, p, kinds_length ts))).1 h.allowance in
      subst (RowUncut h) q u (ap number_in t ∙ c)

  pub read_gives_cut : GivesCut file room ↔ (1 < length (parts h.language ts))
  unfolding answer answer_in row_answer
  read_gives_cut = (
    λ g.
        elim (dec_le (length ts) n) [
          | yes p ↦ absurd (not_13 p (row_answer r) refl g.error g.steps (sym (ap answer_in read_is) ∙ g.is) g.is_13)
          | no p ↦ cut_parts (lt_of_not-le p)
        ],
    λ l.
        elim (dec_le (length ts) n) [
          | yes p ↦ let one : length (parts h.language ts) ≡ 1 = ap length (whole_parts p) in absurd (omega (arith, one, l))
          | no p ↦
              let c = part_cut h.language (kinds_of ts) (omega (arith, lt_of_not-le p, kinds_length ts)) in
              let scanned = comma_is_cut h.language (kinds_of ts) n c in
              let told = prescan_answers h.language h.standard h.flag (kinds_of ts) (words_of ts) h.allowance (TopLevelComma n) scanned in
              record { error = TopLevelComma n; steps = 0; is = ap answer_in (read_is ∙ ap passes told); is_13 = refl }
        ],
  )

  one_alone : (o : RowAnswer) → list_answer_in (passes (on_part o λ m. parts_answer h.language h.standard h.flag [] m)) ≡ as_list (answer_in (passes o))
  unfolding on_part behind parts_answer list_answer_in answer_in nodes_in_all
  one_alone (Answers.accepted x m) =
      let nodes : count x + 0 ≡ count x = omega arith in
      let steps : m + 0 ≡ m = omega arith in
      rw (nodes, steps) refl
  one_alone (Answers.refused e m) = refl

  one_buffer : (before : List ℕ) (o : RowAnswer) → list_buffer_in before (passes (on_part o λ m. parts_answer h.language h.standard h.flag [] m)) ≡ buffer_in before (passes o)
  unfolding on_part behind parts_answer list_buffer_in buffer_in records_in_all
  one_buffer before (Answers.accepted x m) = rw (append-nil (records x)) refl
  one_buffer before (Answers.refused e m) = refl

  only_part : length (parts h.language ts) ≡ 1 → parts h.language ts ≡ ts ∷ []
  only_part one = elim (dec_le (length ts) n) [ yes p ↦ whole_parts p | no p ↦ absurd (omega (arith, one, cut_parts (lt_of_not-le p))) ]

  pub one_part : length (parts h.language ts) ≡ 1 → list_answer file room ≡ as_list (answer file room)
  unfolding list_answer answer row_parts_answer row_answer parts_answer
  one_part one = ap list_answer_in list_is ∙ rw (only_part one) (one_alone (row_answer r)) ∙ ap (λ o. as_list (answer_in o)) (sym read_is)

  pub one_part_buffer : (before : List ℕ) → length before ≡ room → length (parts h.language ts) ≡ 1 → list_buffer file before ≡ final_buffer file before
  unfolding list_buffer final_buffer row_parts_answer row_answer parts_answer
  one_part_buffer before long one =
      rw long (ap (list_buffer_in before) list_is ∙ rw (only_part one) (one_buffer before (row_answer r)) ∙ ap (buffer_in before) (sym read_is))
