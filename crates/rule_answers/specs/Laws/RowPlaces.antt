-- A row's tokens found again, record by record: the loop is that of the row reader, without its words. Assumes nothing.
use Rattle.std.specs.Prelude.{ℕ, ◌+◌, ◌≤◌, ◌<◌, ◌≡◌, refl, List, length, take, set, replicate, None, Option, Some}
use Rattle.std.proofs.Math.Path.{sym, subst}
use Rattle.std.proofs.Common.{ap, ◌∙◌, arith}
use Rattle.std.proofs.lemmas.List.{length-replicate}
use Rattle.rows.specs.Format.{format, head_length, short_bytes, at_kind, most_tokens}
use Rattle.rows.specs.Records.{Row, row, refused, found, kind_at, length_at, little_endian, records_from, formed}
use Rattle.rows.specs.RowRead.{Room}
use Rattle.rows.specs.Laws.Tokens.{Fits, formed_fits}
use Rattle.rows.specs.Laws.RowLoop.{RowLoop, loop_begins, loop_full, loop_malformed, loop_token, loop_ends}
use Rattle.rows.specs.Laws.RowEnd.{row_malformed, row_too_long, row_ends}
use Rattle.rows.specs.declared.token.TokenRecord.{TokenRecord}
use Rattle.type_name.specs.Laws.Fields.{one_row}
use Rattle.rules.specs.RowSeen.{RowSeen}
use Rattle.rules.specs.Laws.RowsRead.{row_seen}
use Rattle.rule_answers.specs.RowPlaces.{PlacesReady, PlacesRead}

abbrev is_row : Row → ℕ
is_row (row ts) = 1
is_row (refused e) = 0

pub record PlacesLoop (file kinds₀ places₀ kinds places : List ℕ) (at count : ℕ) : Type 0 where
  pub words₀ : List ℕ
  pub words : List ℕ
  pub ready : PlacesReady file kinds₀ places₀
  pub room : Room file most_tokens kinds₀ words₀ places₀
  pub loop : RowLoop format file head_length most_tokens kinds₀ words₀ places₀ kinds words places at count

pub places_begin : {file kinds places : List ℕ} → PlacesReady file kinds places → PlacesLoop file kinds places kinds places head_length 0
places_begin {file} {kinds} {places} r = record {
  words₀ = replicate most_tokens 0;
  words = replicate most_tokens 0;
  ready = r;
  room = record {
    offsets_fit = omega (arith, r.short);
    for_kinds = r.for_kinds;
    for_words = omega (arith, length-replicate {A = ℕ} most_tokens 0);
    for_places = r.for_places;
  };
  loop = loop_begins format file head_length most_tokens kinds (replicate most_tokens 0) places;
}

module _ {file kinds₀ places₀ kinds places : List ℕ} {at count : ℕ} (l : PlacesLoop file kinds₀ places₀ kinds places at count) where
  -- The file has a row, so that no record is refused.
  no_refusal : {e : _} → records_from format file most_tokens head_length ≡ refused e → ⊥
  no_refusal q = let clash : ◌≡◌ {A = ℕ} 1 0 = ap is_row (sym l.ready.row_is ∙ q) in omega (arith, clash)

  pub places_end : length file ≤ at → PlacesRead file count kinds places
  places_end p =
      let t = row_ends (loop_ends l.loop p) p in
      record {
        few = l.loop.few;
        seen = λ ts e.
            subst (RowSeen file (take count kinds) (take count places)) (one_row _ t.taken ts t.is e)
            (row_seen most_tokens head_length t.is t.in_arrays);
      }

  module _ (p : at < length file) where
    pub not_full : count ≡ most_tokens → ⊥
    not_full e = no_refusal (row_too_long (loop_full l.loop e) p)

    -- A record stands there.
    pub record RecordThere : Type 0 where
      pub kind : ℕ
      pub size : ℕ
      pub is : found format file at ≡ formed kind size

    by_record : (r : Option TokenRecord) → found format file at ≡ r → RecordThere
    by_record None e = absurd (no_refusal (row_malformed format file head_length most_tokens (loop_malformed l.loop p not_full e)))
    by_record (Some r) e = record { kind = r.kind; size = r.length; is = e }

    there : RecordThere
    there = by_record (found format file at) refl

    pub record_fits : Fits format file at (little_endian short_bytes file (at + at_kind)) (little_endian short_bytes file at)
    unfolding kind_at length_at
    record_fits =
        let f = formed_fits format file at there.kind there.size there.is in
        subst (λ (k : ℕ). Fits format file at k (little_endian short_bytes file at)) f.is_kind
        (subst (λ (n : ℕ). Fits format file at there.kind n) f.is_length f)

    pub places_again : {k n : ℕ} → k ≡ little_endian short_bytes file (at + at_kind) → n ≡ little_endian short_bytes file at
        → PlacesLoop file kinds₀ places₀ (set kinds count k) (set places count at) (at + n) (count + 1)
    unfolding kind_at length_at
    places_again {k} {n} e g =
        let t = there in
        let f = formed_fits format file at t.kind t.size t.is in
        let same_kind : t.kind ≡ k = f.is_kind ∙ sym e in
        let same_size : t.size ≡ n = f.is_length ∙ sym g in
        subst (λ (m : ℕ). PlacesLoop file kinds₀ places₀ (set kinds count k) (set places count at) (at + m) (count + 1)) same_size
        (subst (λ (m : ℕ). PlacesLoop file kinds₀ places₀ (set kinds count m) (set places count at) (at + t.size) (count + 1)) same_kind
        (record {
          words₀ = l.words₀;
          words = _;
          ready = l.ready;
          room = l.room;
          loop = loop_token l.loop l.room p not_full t.kind t.size t.is _ refl;
        }))
