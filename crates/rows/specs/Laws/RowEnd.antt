-- The row to the file's end, from the records that were read. Assumes nothing.
use Rattle.std.specs.Prelude.{ℕ, ◌≤◌, ◌<◌, ◌≡◌, List, length, Result, Ok, Err}
use Rattle.std.proofs.Math.Path.{ap}
use Rattle.std.proofs.Common.{subst, ◌∙◌, le-leb}
use Rattle.std.proofs.lemmas.Bool.{lt-leb}
use Rattle.rows.specs.declared.format.Format.{Format}
use Rattle.rows.specs.Records.{malformed, tokens_from, refused, to_end, records_from}
use Rattle.rows.specs.RowRead.{RecordsTaken, RowTaken, RecordsAnswered, ReadsRecords}
use Rattle.rows.specs.declared.answer.TypeNameError.TheVariants.{InvalidRecord, TooManyRecords}
use Rattle.rows.specs.declared.row.RecordsRead.{RecordsRead}
use Rattle.rows.specs.declared.row.MalformedRecord.{MalformedRecord}

pub row_malformed : (f : Format) (file : List ℕ) (begin most : ℕ) {offset : ℕ} → tokens_from f file most begin ≡ malformed offset
    → records_from f file most begin ≡ refused (InvalidRecord offset)
unfolding records_from to_end
row_malformed f file begin most e = ap (to_end f file) e

module _ {f : Format} {file : List ℕ} {begin most : ℕ} {kinds words places kinds' words' places' : List ℕ} where
  -- What the code answers, by its cases.
  pub taken_there : {r : Result RecordsRead MalformedRecord} {read : RecordsRead} → r ≡ Ok read → ReadsRecords f file begin most kinds words places r kinds' words' places'
      → RecordsTaken f file begin most kinds words places read.count read.next kinds' words' places'
  taken_there q h = subst (λ (c : Result RecordsRead MalformedRecord). RecordsAnswered f file begin most kinds words places c kinds' words' places') q h.answered

  pub malformed_there : {r : Result RecordsRead MalformedRecord} {e : MalformedRecord} → r ≡ Err e → ReadsRecords f file begin most kinds words places r kinds' words' places'
      → tokens_from f file most begin ≡ malformed e.offset
  malformed_there q h = subst (λ (c : Result RecordsRead MalformedRecord). RecordsAnswered f file begin most kinds words places c kinds' words' places') q h.answered

  module _ {count next : ℕ} (t : RecordsTaken f file begin most kinds words places count next kinds' words' places') where
    pub row_too_long : next < length file → records_from f file most begin ≡ refused TooManyRecords
    unfolding records_from to_end
    row_too_long p = ap (to_end f file) t.is ∙ rw (lt-leb (length file) next p)

    pub row_ends : length file ≤ next → RowTaken f file begin most kinds words places count kinds' words' places'
    unfolding records_from to_end
    row_ends p = record { taken = t.taken; is = ap (to_end f file) t.is ∙ rw (le-leb (length file) next p); in_arrays = t.in_arrays }
