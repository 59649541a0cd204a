-- What it is to cut a row into parts, said without the walk that `parts` makes: document 02, C-12.
-- Assumes nothing.
use Rattle.std.specs.Prelude.{ℕ, ◌<◌, ◌≡◌, List, [], ◌∷◌, ◌++◌, length, get_or, take}
use Rattle.rows.specs.Kinds.{Comma}
use Rattle.rows.specs.Records.{RowToken, kinds_of}
use Rattle.prescan.specs.Prescan.{Scan, passed, start, scan}

module _ (language : ℕ) where
  -- The tokens, numbered from `at` on, are scanned without a fault and end "outside brackets and angles".
  pub record EndsOutside (at : ℕ) (kinds : List ℕ) (s : Scan) : Type 0 where
    pub state : Scan
    pub scanned : scan language at kinds (passed s) ≡ passed state
    pub outside : state.open_brackets ≡ []
    pub no_angle : state.angle_depth ≡ 0

  -- No comma stands "outside brackets and angles" before the first fault.
  abbrev pub NoCommaOutside : (kinds : List ℕ) → Type 0
  NoCommaOutside kinds = (n : ℕ) → n < length kinds → EndsOutside 0 (take n kinds) start → get_or kinds n 0 ≡ Comma → ⊥

  -- A part, a comma and the tokens behind it are the row; the part is scanned without a fault, ends outside brackets and angles, and has no comma there.
  pub record PartBefore (row part rest : List RowToken) : Type 0 where
    pub comma : RowToken
    pub put_together : row ≡ part ++ comma ∷ rest
    pub is_comma : comma.kind ≡ Comma
    pub ends : EndsOutside 0 (kinds_of part) start
    pub uncut : NoCommaOutside (kinds_of part)

  -- "Parts cut at commas outside brackets and angles", "and the last part then runs to the row's end".
  abbrev pub CutInto : (row : List RowToken) → List (List RowToken) → Type 0
  CutInto row [] = ⊥
  CutInto row (p ∷ []) = (row ≡ p) × NoCommaOutside (kinds_of p)
  CutInto row (p ∷ q ∷ ps) = (rest : List RowToken) × PartBefore row p rest × CutInto rest (q ∷ ps)
