-- What a file's head and row come of, and which refusals touch nothing. Assumes nothing.
use Rattle.std.specs.Prelude.{ℕ, ◌*◌, ◌≤◌, ◌<◌, ◌≡◌, Bool, true, false, not, List, get_or, T, ltb, Err, None, Ok, Option, Result, Some}
use Rattle.std.proofs.Math.Path.{refl}
use Rattle.std.proofs.Common.{subst, arith}
use borrow.Author.Tests.{lt-ltb, le-ltb, ltb-false}
use Rattle.std.proofs.Math.ListN.{length}
use Rattle.rows.specs.Format.{format, head_length, at_language, at_standard, most_tokens, meant}
use Rattle.rows.specs.Records.{RowToken, Row, row, head_formed, head_with, head, records_from}
use Rattle.rows.specs.Records
use Rattle.rows.specs.Laws.Tests.{by_if}
use Rattle.rows.specs.Laws.Numbered.{Between, HeadNumbered, head_numbered, RowNumbered, records_numbered}
use Rattle.rows.specs.declared.answer.TypeNameError.{TypeNameError}
use Rattle.rows.specs.declared.answer.TypeNameError.TheVariants.{ShortBuffer}
use Rattle.rows.specs.declared.head.Head.{Head}
use Rattle.reader.specs.Nodes.{numbers_per_token}
use Rattle.type_name.specs.FileRow.{HeadRow, Outcome, untouched, passes, on_pass, head_read, row_read, with_room, file_row}
use Rattle.type_name.specs.EntrySays.{HeadRead}
use Rattle.type_name.specs.Laws.Fields.{wider}

not-true : (b : Bool) → T (not b) → b ≡ false
not-true true t = absurd t
not-true false t = refl

-- ---- a file that has a head is not too long

abbrev Short : List ℕ → Result Head TypeNameError → Type 0
Short file (Ok h) = length file ≤ format.file_limit
Short file (Err e) = Unit {0}

module _ (file : List ℕ) where
  with_short : (m : Option ℕ) → length file ≤ format.file_limit → Short file (head_with format file m)
  unfolding head_with
  with_short None p = tt
  with_short (Some standard) p = p

  short : Short file (head format file)
  unfolding head
  short =
      by_if (Short file) (ltb format.file_limit (length file)) (λ _. tt) λ t.
      by_if (Short file) (not (head_formed format file)) (λ _. tt) λ _.
      with_short (meant format (get_or file at_language 0) (get_or file at_standard 0)) (ltb-false format.file_limit (length file) (not-true (ltb format.file_limit (length file)) t))

pub head_short : {file : List ℕ} {h : Head} → HeadRead file h → length file ≤ format.file_limit
head_short {file} r = subst (Short file) r.is (short file)

-- ---- place by place

module _ (file : List ℕ) (room : ℕ) where
  abbrev rows : Row
  rows = records_from format file most_tokens head_length

  pub head_refused : {e : TypeNameError} → head format file ≡ Err e → file_row format file room ≡ untouched e
  unfolding file_row on_pass head_read
  head_refused q = rw q refl

  module _ (h : Head) (formed : head format file ≡ Ok h) where
    pub row_refused : {e : TypeNameError} → rows ≡ Records.refused e → file_row format file room ≡ untouched e
    unfolding file_row on_pass head_read row_read
    row_refused q = rw (formed, q) refl

    pub row_short : {n : ℕ} {ts : List RowToken} → rows ≡ row ts → n ≡ length ts → room < numbers_per_token * n → file_row format file room ≡ untouched ShortBuffer
    unfolding file_row on_pass head_read row_read with_room
    row_short {ts = ts} q e p = rw (formed, q, lt-ltb room (numbers_per_token * length ts) (omega (arith, e, p))) refl

    pub row_fits : {n : ℕ} {ts : List RowToken} → rows ≡ row ts → n ≡ length ts → numbers_per_token * n ≤ room
        → file_row format file room ≡ passes (record { the_head = h; tokens = ts })
    unfolding file_row on_pass head_read row_read with_room
    row_fits {ts = ts} q e p = rw (formed, q, le-ltb room (numbers_per_token * length ts) (omega (arith, e, p))) refl

  -- ---- and back

  -- The file has this head and this row, and the buffer room for it.
  pub record Has (r : HeadRow) : Type 0 where
    pub formed : head format file ≡ Ok r.the_head
    pub row_is : rows ≡ row r.tokens
    pub fits : numbers_per_token * length r.tokens ≤ room

  -- "Refusals 1 to 6".
  abbrev pub Comes : Outcome HeadRow → Type 0
  Comes (untouched e) = Between 1 6 e
  Comes (passes r) = Has r

  room_comes : (h : Head) → head format file ≡ Ok h → (ts : List RowToken) → rows ≡ row ts → Comes (with_room room h ts)
  unfolding with_room
  room_comes h p ts q =
      by_if Comes (ltb room (numbers_per_token * length ts)) (λ _. tt)
      (λ t. record { formed = p; row_is = q; fits = ltb-false room (numbers_per_token * length ts) (not-true (ltb room (numbers_per_token * length ts)) t) })

  row_comes : (h : Head) → head format file ≡ Ok h → (r : Row) → RowNumbered r → rows ≡ r → Comes (on_pass (row_read r) λ ts. with_room room h ts)
  unfolding on_pass row_read
  row_comes h p (Records.refused e) b q = wider 4 5 1 6 (omega arith) (omega arith) e b
  row_comes h p (row ts) b q = room_comes h p ts q

  head_comes : (g : Result Head TypeNameError) → HeadNumbered g → head format file ≡ g → Comes (on_pass (head_read g) λ h. on_pass (row_read rows) λ ts. with_room room h ts)
  unfolding on_pass head_read
  head_comes (Err e) b p = wider 1 3 1 6 (omega arith) (omega arith) e b
  head_comes (Ok h) b p = row_comes h p rows (records_numbered format file most_tokens head_length) refl

  pub file_comes : Comes (file_row format file room)
  unfolding file_row
  file_comes = head_comes (head format file) (head_numbered format file) refl
