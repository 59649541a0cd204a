-- The marks token by token: what the loop of `mark_names` keeps. Assumes nothing.
use Rattle.std.specs.Prelude.{ℕ, suc, ◌+◌, ◌-◌, ◌≤◌, ◌<◌, ◌≡◌, refl, ◌≢◌, Bool, false, List, length, get_or, set}
use Rattle.std.proofs.Common.{sym, ap, ◌∙◌, arith, length-set, get_or-set_same, get_or-set_other}
use Rattle.std.proofs.Math.Decide.{ℕ_discrete}
use Rattle.rows.specs.Kinds.{Less}
use Rattle.names.specs.NameList.{is_name}
use Rattle.names.specs.NamesSay.{word_of, Table, Looks, Marked}

-- The marks of the tokens before i are made, those from there on are as they were.
pub record MarkedTo (file kinds offsets : List ℕ) (ns : List (List ℕ)) (marks₀ marks : List Bool) (i : ℕ) : Type 0 where
  pub marked : (j : ℕ) → suc j < i → get_or kinds (suc j) 0 ≡ Less → get_or marks j false ≡ is_name ns (word_of file (get_or offsets j 0))
  pub others : (j : ℕ) → (suc j < i → get_or kinds (suc j) 0 ≢ Less) → get_or marks j false ≡ get_or marks₀ j false

module _ (file kinds offsets names heads links places : List ℕ) (marks₀ : List Bool) where
  pub record MarkLoop (marks : List Bool) (i : ℕ) : Type 0 where
    pub so_far : (ns : List (List ℕ)) → Table names ns heads links places → MarkedTo file kinds offsets ns marks₀ marks i
    pub kept : length marks ≡ length marks₀
    pub first : 1 ≤ i

  pub marks_begin : MarkLoop marks₀ 1
  marks_begin = record {
    so_far = λ ns t. record { marked = λ j p. absurd (omega arith); others = λ j d. refl };
    kept = refl;
    first = omega arith;
  }

  module _ {marks : List Bool} {i : ℕ} (l : MarkLoop marks i) where
    pub marks_end : length kinds ≤ i → (ns : List (List ℕ)) → Table names ns heads links places → Marked file kinds offsets ns marks₀ marks
    marks_end p ns t =
        let m = l.so_far ns t in
        record { marked = λ j q e. m.marked j (omega arith) e; others = λ j d. m.others j (λ _. d) }

    pub marks_pass : get_or kinds i 0 ≢ Less → MarkLoop marks (i + 1)
    marks_pass d = record {
      so_far = λ ns t.
          let m = l.so_far ns t in
          record {
            marked = λ j p e. elim (ℕ_discrete (suc j) i) [
              | yes q ↦ absurd (d (ap (λ (k : ℕ). get_or kinds k 0) (sym q) ∙ e))
              | no n ↦ m.marked j (omega (arith, n)) e
            ];
            others = λ j n. m.others j (λ p. n (omega arith));
          };
      kept = l.kept;
      first = omega (arith, l.first);
    }

    pub marks_again : i < length kinds → length kinds ≤ length marks₀ → get_or kinds i 0 ≡ Less → {sought : List ℕ} → sought ≡ word_of file (get_or offsets (i - 1) 0) → {r : Bool}
        → Looks names heads links places sought r → MarkLoop (set marks (i - 1) r) (i + 1)
    marks_again p room less {sought} s {r} h = record {
      so_far = λ ns t. made ns t;
      kept = length-set marks (i - 1) r ∙ l.kept;
      first = omega (arith, l.first);
    }
      where
        made : (ns : List (List ℕ)) → Table names ns heads links places → MarkedTo file kinds offsets ns marks₀ (set marks (i - 1) r) (i + 1)
        made ns t =
            let m = l.so_far ns t in
            record {
              marked = λ j q e. elim (ℕ_discrete j (i - 1)) [
                | yes same ↦
                    ap (λ (k : ℕ). get_or (set marks (i - 1) r) k false) same
                    ∙ get_or-set_same marks (i - 1) r false (omega (arith, l.kept, l.first))
                    ∙ h.says ns t
                    ∙ ap (is_name ns) s
                    ∙ ap (λ (k : ℕ). is_name ns (word_of file (get_or offsets k 0))) (sym same)
                | no n ↦ get_or-set_other marks (i - 1) j r false n ∙ m.marked j (omega (arith, n, l.first)) e
              ];
              others = λ j d. elim (ℕ_discrete j (i - 1)) [
                | yes same ↦
                    let here : suc j ≡ i = omega (arith, same, l.first) in
                    absurd (d (omega arith) (ap (λ (k : ℕ). get_or kinds k 0) here ∙ less))
                | no n ↦ get_or-set_other marks (i - 1) j r false n ∙ m.others j (λ q. d (omega arith))
              ];
            }
