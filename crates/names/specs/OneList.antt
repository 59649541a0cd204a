-- A table is that of one list of names, so that it is the table of some names is a fact with one proof. Assumes nothing.
use Rattle.std.specs.Prelude.{ℕ, ◌≡◌, List, [], length}
use Rattle.std.proofs.Common.{sym, ap, ◌∙◌, arith}
use Rattle.std.proofs.Props.{props}
use Rattle.std.proofs.lemmas.List.{ext_get_or}
use Rattle.std.proofs.lemmas.Option.{same_Some}
use mathlib.Core.HLevel.{is_prop→PathP}
use Rattle.rows.specs.Format.{format}
use Rattle.rows.specs.Records.{found, formed}
use Rattle.rows.specs.declared.token.TokenRecord.{TokenRecord}
use Rattle.names.specs.NamesSay.{SomeRecord, Newest, Linked, Table, SomeTable}

TokenRecord-set : IsSet TokenRecord
TokenRecord-set = hlevel props

SomeRecord-prop : (file : List ℕ) (at : ℕ) → IsProp (SomeRecord file at)
SomeRecord-prop file at x y =
    let e = same_Some {A = TokenRecord} _ _ (sym x.is ∙ y.is) in
    let k : x.kind ≡ y.kind = ap (λ (t : TokenRecord). t.kind) e in
    let n : x.size ≡ y.size = ap (λ (t : TokenRecord). t.length) e in
    let is-prop : (kind size : ℕ) → IsProp (found format file at ≡ formed kind size) = λ kind size. hlevel (props, TokenRecord-set) in
    λ i. record {
      kind = k i;
      size = n i;
      is = is_prop→PathP (λ j. found format file at ≡ formed (k j) (n j)) (λ j. is-prop (k j) (n j)) x.is y.is i;
    }

Newest-prop : (ns : List (List ℕ)) (bucket n newest : ℕ) → IsProp (Newest ns bucket n newest)
Newest-prop ns bucket n newest = hlevel props

Linked-prop : (file : List ℕ) (ns : List (List ℕ)) (links places : List ℕ) → IsProp (Linked file ns links places)
Linked-prop file ns links places = hlevel (props, SomeRecord-prop, Newest-prop)

Table-prop : (file : List ℕ) (ns : List (List ℕ)) (heads links places : List ℕ) → IsProp (Table file ns heads links places)
Table-prop file ns heads links places = hlevel (props, Linked-prop, Newest-prop)

pub SomeTable-prop : (file : List ℕ) (count : ℕ) (heads links places : List ℕ) → IsProp (SomeTable file count heads links places)
SomeTable-prop file count heads links places x y =
    let many : length x.names ≡ length y.names = x.counted ∙ sym y.counted in
    let e : x.names ≡ y.names = ext_get_or [] x.names y.names many (λ i p. sym (x.table.linked.placed i p) ∙ y.table.linked.placed i (omega (arith, many, p))) in
    let counted-prop : (ns : List (List ℕ)) → IsProp (length ns ≡ count) = λ ns. hlevel props in
    λ i. record {
      names = e i;
      table = is_prop→PathP (λ j. Table file (e j) heads links places) (λ j. Table-prop file (e j) heads links places) x.table y.table i;
      counted = is_prop→PathP (λ j. length (e j) ≡ count) (λ j. counted-prop (e j)) x.counted y.counted i;
    }
