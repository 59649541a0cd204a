-- From what the row module says to the answer of a file. Assumes nothing.
use Rattle.type_name.specs.declared.file_row.FileRow.{FileRow}
use Rattle.rows.specs.Answer.{refused_with, Answer}
use Rattle.std.specs.Prelude.{ℕ, suc, ◌≤◌, ◌≡◌, refl, List, [], ◌∷◌, map, take, Err, Ok, Result}
use Rattle.std.proofs.Math.Path.{sym, ap}
use Rattle.std.proofs.Common.{◌∙◌, subst, arith}
use Rattle.std.proofs.Math.ListN.{length}
use Rattle.rows.specs.Format.{format, head_length, most_tokens}
use Rattle.rows.specs.Records.{RowToken, row, records_from, kinds_of, words_of}
use Rattle.rows.specs.Records
use Rattle.rows.specs.RowRead.{Filled, InArrays, RowAnswered, Reads}
use Rattle.rows.specs.RowRead as Rows
use Rattle.rows.specs.Laws.RowFacts.{few_tokens}
use Rattle.rows.specs.declared.answer.TypeNameError.{TypeNameError}
use Rattle.rows.specs.declared.head.Head.{Head}
use Rattle.type_name.specs.FileRow.{untouched, passes, on_pass, file_row}
use Rattle.type_name.specs.Answers.{answer_of, row_answer, outcome, answer_in, answer, buffer_in, final_buffer}
use Rattle.type_name.specs.EntrySays.{FileRowTaken, FileAnswered, ReadsFile, RowReady}
use Rattle.type_name.specs.Promises.{Promised}
use Rattle.type_name.specs.Laws.FileRow.{Has, Comes, file_comes}
use Rattle.type_name.specs.Laws.Promised.{promised}

-- ---- what the code of the layers below answers, by its cases

module _ {file : List ℕ} {begin most : ℕ} {kinds words places kinds' words' places' : List ℕ} {r : Result ℕ TypeNameError} where
  pub records_refused : {e : TypeNameError} → r ≡ Err e → Reads format file begin most kinds words places r kinds' words' places'
      → records_from format file most begin ≡ Records.refused e
  records_refused q h = subst (λ (c : Result ℕ TypeNameError). RowAnswered format file begin most kinds words places c kinds' words' places') q h.answered

  pub records_taken : {count : ℕ} → r ≡ Ok count → Reads format file begin most kinds words places r kinds' words' places'
      → Rows.RowTaken format file begin most kinds words places count kinds' words' places'
  records_taken q h = subst (λ (c : Result ℕ TypeNameError). RowAnswered format file begin most kinds words places c kinds' words' places') q h.answered

pub taken_few : {file : List ℕ} {begin most n : ℕ} {kinds words places kinds' words' places' : List ℕ}
    → Rows.RowTaken format file begin most kinds words places n kinds' words' places' → n ≤ most
taken_few {file} {begin} {most} r = omega (arith, few_tokens format file most begin r.is, r.in_arrays.is_count)

-- A file's head, and how many tokens its row has, as code hands them on.
abbrev pub the_row : Head → (count : ℕ) → Result FileRow TypeNameError
the_row h count = Ok (record { head = h; count = count })

module _ {file : List ℕ} {room : ℕ} {kinds words : List ℕ} {r : Result FileRow TypeNameError} where
  pub file_refused : {e : TypeNameError} → r ≡ Err e → ReadsFile file room r kinds words → file_row format file room ≡ untouched e
  file_refused q h = subst (λ (c : Result FileRow TypeNameError). FileAnswered file room c kinds words) q h.answered

  pub file_taken : {h : Head} {count : ℕ} → r ≡ the_row h count → ReadsFile file room r kinds words → FileRowTaken file room h count kinds words
  file_taken q h = subst (λ (c : Result FileRow TypeNameError). FileAnswered file room c kinds words) q h.answered

-- ---- what is lent of the arrays

as_many : (p : RowToken → ℕ) (ts : List RowToken) → length (map p ts) ≡ length ts
as_many p [] = refl
as_many p (t ∷ ts) = ap suc (as_many p ts)

-- The numbers of the tokens.
filled_front : (p : RowToken → ℕ) (ts : List RowToken) {before after : List ℕ} {n : ℕ} → n ≡ length ts → Filled before (map p ts) after → take n after ≡ map p ts
filled_front p ts {after = after} e f = ap (λ (k : ℕ). take k after) (e ∙ sym (as_many p ts)) ∙ f.front

module _ {ts : List RowToken} {n : ℕ} {kinds words places kinds' words' places' : List ℕ} (a : InArrays ts n kinds words places kinds' words' places') where
  pub kinds_front : take n kinds' ≡ kinds_of ts
  unfolding kinds_of
  kinds_front = filled_front _ ts a.is_count a.kinds_filled

  pub words_front : take n words' ≡ words_of ts
  unfolding words_of
  words_front = filled_front _ ts a.is_count a.words_filled

-- ---- the row that was taken

module _ {file : List ℕ} {room : ℕ} {kinds words : List ℕ} {h : Head} {n : ℕ} (r : FileRowTaken file room h n kinds words) where
  kinds_many : length (take n kinds) ≡ n
  unfolding kinds_of
  kinds_many = ap length r.kinds_in ∙ as_many _ r.taken ∙ sym r.is_count

  words_many : length (take n words) ≡ n
  unfolding words_of
  words_many = ap length r.words_in ∙ as_many _ r.taken ∙ sym r.is_count

  abbrev has : Has file room (record { the_head = h; tokens = r.taken })
  has = subst (Comes file room) r.is (file_comes file room)

  pub counted : n ≤ most_tokens
  counted = omega (arith, few_tokens format file most_tokens head_length has.row_is, r.is_count)

  pub row_ready : {tree : List ℕ} → room ≡ length tree → RowReady (take n kinds) (take n words) tree
  row_ready e =
      record {
        few = omega (arith, kinds_many, counted);
        worded = words_many ∙ sym kinds_many;
        room = omega (arith, kinds_many, has.fits, r.is_count, e);
      }

-- ---- the promises

module _ (file before : List ℕ) where
  pub untouched_told : {e : TypeNameError} → file_row format file (length before) ≡ untouched e → Promised file before (refused_with e 0) before
  unfolding answer answer_in final_buffer buffer_in outcome on_pass
  untouched_told q = promised file before _ before (rw q refl) (rw q refl)

  pub row_told : {h : Head} {n : ℕ} {kinds words after : List ℕ} {a : Answer} → FileRowTaken file (length before) h n kinds words
      → a ≡ answer_in (passes (answer_of h.language h.standard h.flag (take n kinds) (take n words) h.allowance))
      → after ≡ buffer_in before (passes (answer_of h.language h.standard h.flag (take n kinds) (take n words) h.allowance))
      → Promised file before a after
  unfolding answer final_buffer outcome on_pass row_answer
  row_told r e f = promised file before _ _ (rw (r.is, ← r.kinds_in, ← r.words_in) e) (rw (r.is, ← r.kinds_in, ← r.words_in) f)
