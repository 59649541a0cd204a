-- The loop that writes a file's records in another format.
-- Assumes nothing.
use Rattle.std.specs.Prelude.{ℕ, ◌+◌, ◌≤◌, ◌<◌, ◌≡◌, get_or, Err, Ok}
use Rattle.std.proofs.Math.Path.{refl}
use Rattle.std.proofs.Common.{sym, ap, ◌∙◌, length-append, lt-ltb, le-ltb}
use mathlib.Core.List.{List, [], ◌∷◌, ◌++◌, map, append_assoc, append-nil}
use native.Mathlib.Omega.{arith}
use Rattle.std.proofs.Math.ListN.{length}
use Rattle.rows.specs.Format.{allowance_bytes, at_allowance, at_flag, at_language, head_length, token_length}
use Rattle.rows.specs.declared.format.Format.{Format}
use Rattle.rows.specs.declared.answer.TypeNameError.TheVariants.{ShortBuffer}
use Rattle.rows.specs.Records.{RowToken, little_endian, kind_at, length_at}
use Rattle.rows.specs.Laws.Tokens.{formed_fits}
use Rattle.rows.specs.Laws.RowFacts.{token_there}
use Rattle.text.specs.declared.Text.{Text}
use Rattle.text.specs.Text.{Appended, little_endian_bytes}
use Rattle.text.specs.Puts.{Puts}
use Rattle.text.specs.Laws.Appending.{appended_whole, puts_none, puts_then, puts_as}
use Rattle.type_name.specs.FileRow.{passes}
use Rattle.convert.specs.Fields.{Fields, token_fields, fields_with, fields_of, token_bytes, records_bytes, head_bytes, file_bytes}
use Rattle.convert.specs.Conversions.{with_output, convert_answer, output_in}
use Rattle.convert.specs.ConvertSays.{RecordReady, RecordsReady, FileReady, IsSound, bytes_in, fields_there, records_in}
use Rattle.convert.specs.Laws.Stand.{Stand, StandsAt}
use Rattle.convert.specs.Laws.OneRecord.{token_long}
use Rattle.convert.specs.Laws.Reads.{read_of}

module _ (from to : Format) (file : List ℕ) (output₀ : Text) where
  -- What is to be written.
  abbrev all : List ℕ
  all = records_in to (fields_of from file)

  -- `left`: the tokens whose records stand from byte offset `at` on.
  pub record WriteLoop (at : ℕ) (output : Text) : Type 0 where
    pub left : List RowToken
    pub stand : Stand from file at left
    pub front : List ℕ
    pub so_far : Puts output₀ front output
    pub whole : front ++ records_bytes to (map (token_fields from file) left) ≡ all

  all_of : (c : Fields) (ts : List RowToken) → fields_of from file ≡ passes c → c ≡ fields_with from file ts → [] ++ records_bytes to (map (token_fields from file) ts) ≡ all
  unfolding records_in fields_with
  all_of c ts e q = rw (e, q, records_in) refl

  pub write_begins : IsSound from file → WriteLoop head_length output₀
  write_begins sound =
      let read = read_of from file sound.fields sound.is in
      record {
        left = read.row_tokens;
        stand = read.stand;
        front = [];
        so_far = puts_none output₀;
        whole = all_of sound.fields read.row_tokens sound.is read.fields_are;
      }

  -- The loop is not at the end of the file: a record stands there.
  record Next (at : ℕ) (left : List RowToken) : Type 0 where
    rest : List RowToken
    stands : Stand from file (at + length_at from file at) rest
    there : StandsAt from file at (token_there from file at (kind_at from file at))
    are : left ≡ token_there from file at (kind_at from file at) ∷ rest

  next : (at : ℕ) (left : List RowToken) → Stand from file at left → at < length file → Next at left
  next at [] s p = absurd (omega (arith, s))
  next at (t ∷ ts) s p = record { rest = ts; stands = s.1; there = rw (← s.0.is) s.0; are = rw (← s.0.is) refl }

  module _ {at : ℕ} {output : Text} (l : WriteLoop at output) where
    pub record_inside : at < length file → at + length_at from file at ≤ length file
    record_inside p = (formed_fits from file at (kind_at from file at) (length_at from file at) (next at l.left l.stand p).there.formed).inside

    pub record_some : at < length file → token_length from ≤ length_at from file at
    record_some p = (formed_fits from file at (kind_at from file at) (length_at from file at) (next at l.left l.stand p).there.formed).long

    split : (p : at < length file) → l.front ++ token_bytes to (fields_there from file at) ++ records_bytes to (map (token_fields from file) (next at l.left l.stand p).rest) ≡ all
    unfolding records_bytes token_fields
    split p =
        let n = next at l.left l.stand p in
        append_assoc l.front (token_bytes to (fields_there from file at)) (records_bytes to (map (token_fields from file) n.rest))
        ∙ (rw n.are at l.whole)

    pub record_ready : at < length file → RecordsReady from to file output₀.bytes.now output₀.end → RecordReady from to file at output.bytes.now output.end
    record_ready p ready =
        let n = next at l.left l.stand p in
        let size = token_long to (fields_there from file at) in
        let sum : length l.front + length (token_bytes to (fields_there from file at)) + length (records_bytes to (map (token_fields from file) n.rest)) ≡ length all
        = rw (← length-append l.front (token_bytes to (fields_there from file at)), ← length-append (l.front ++ token_bytes to (fields_there from file at)) (records_bytes to (map (token_fields from file) n.rest))) (ap length (split p)) in
        record { formed = n.there.formed; room = omega (arith, l.so_far.appended.counts, l.so_far.as_long, ready.room, size, sum) }

    pub write_on : at < length file → {output' : Text} → Puts output (token_bytes to (fields_there from file at)) output' → WriteLoop (at + length_at from file at) output'
    write_on p put =
        let n = next at l.left l.stand p in
        record {
          left = n.rest;
          stand = n.stands;
          front = l.front ++ token_bytes to (fields_there from file at);
          so_far = puts_then l.so_far put;
          whole = split p;
        }

    at_end : (left : List RowToken) → Stand from file at left → length file ≤ at → left ≡ []
    at_end [] s p = refl
    at_end (t ∷ ts) s p =
        let fit = formed_fits from file at (kind_at from file at) (length_at from file at) s.0.formed in
        absurd (omega (arith, fit.inside, fit.long, p))

    pub write_ends : length file ≤ at → Puts output₀ all output
    unfolding records_bytes
    write_ends p = puts_as (sym (append-nil l.front) ∙ (rw (at_end l.left l.stand p) at l.whole)) l.so_far

-- ---- the whole file

module _ (from to : Format) (standard : ℕ) (file output₀ : List ℕ) where
  -- What is to be written.
  abbrev whole_file : List ℕ
  whole_file = bytes_in to standard (fields_of from file)

  -- A sound file has a head.
  pub sound_long : IsSound from file → head_length ≤ length file
  sound_long s = (read_of from file s.fields s.is).is_head.long

  file_long : (c : Fields) → fields_of from file ≡ passes c → length whole_file ≡ head_length + length (records_in to (fields_of from file))
  unfolding bytes_in records_in file_bytes little_endian_bytes
  file_long c e = rw (e, bytes_in, records_in) (omega arith)

  -- So has what is written of it.
  pub room_for_head : FileReady from to standard file output₀ → head_length ≤ length output₀
  room_for_head ready = omega (arith, file_long ready.sound.fields ready.sound.is, ready.room)

  -- The head record of the file in the other format.
  abbrev its_head : List ℕ
  its_head = head_bytes to (get_or file at_language 0) standard (get_or file at_flag 0) (little_endian allowance_bytes file at_allowance)

  head_long : length its_head ≡ head_length
  unfolding head_bytes little_endian_bytes
  head_long = refl

  pub records_ready : {empty headed : Text} → (empty.bytes.now ≡ output₀) × (empty.end ≡ 0) → FileReady from to standard file output₀ → Puts empty its_head headed
      → RecordsReady from to file headed.bytes.now headed.end
  records_ready {empty} {headed} e ready put =
      let room₀ : length whole_file ≤ length empty.bytes.now = rw e.0 ready.room in record {
        sound = ready.sound;
        room = omega (arith, e.1, put.as_long, put.appended.counts, head_long, file_long ready.sound.fields ready.sound.is, room₀);
      }

  head_then : (c : Fields) (ts : List RowToken) → fields_of from file ≡ passes c → c ≡ fields_with from file ts → its_head ++ records_in to (fields_of from file) ≡ whole_file
  unfolding bytes_in records_in file_bytes fields_with
  head_then c ts e q = rw (e, q, bytes_in, records_in) refl

  pub file_put : {empty headed full : Text} → IsSound from file → Puts empty its_head headed → Puts headed (records_in to (fields_of from file)) full → Puts empty whole_file full
  file_put sound head rest =
      let read = read_of from file sound.fields sound.is in
      puts_as (head_then sound.fields read.row_tokens sound.is read.fields_are) (puts_then head rest)

  -- ---- the output

  module _ (short : length output₀ < length whole_file) where
    pub short_answer : Err ShortBuffer ≡ convert_answer (with_output (length output₀) whole_file)
    unfolding convert_answer with_output
    short_answer = rw (lt-ltb (length output₀) (length whole_file) short, convert_answer) refl

    pub short_output : output₀ ≡ output_in output₀ (with_output (length output₀) whole_file)
    unfolding output_in with_output
    short_output = rw (lt-ltb (length output₀) (length whole_file) short, output_in) refl

  module _ {r : ℕ} {output : List ℕ} (room : length whole_file ≤ length output₀) (put : Appended output₀ 0 whole_file r output) where
    pub written_answer : Ok r ≡ convert_answer (with_output (length output₀) whole_file)
    unfolding convert_answer with_output
    written_answer = rw (le-ltb (length output₀) (length whole_file) room, convert_answer) (ap Ok (put.counts ∙ omega arith))

    pub written_output : output ≡ output_in output₀ (with_output (length output₀) whole_file)
    unfolding output_in with_output
    written_output =
        let behind : r ≡ length whole_file = put.counts ∙ omega arith in
        rw (le-ltb (length output₀) (length whole_file) room, output_in) (appended_whole put ∙ rw behind refl)
