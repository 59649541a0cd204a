-- Which answers differ under what 254 and what 255 mean: those of C with a feature that C23 brought, and no others.
-- Assumes nothing.
use Rattle.std.specs.Prelude.{ℕ, ◌≡◌, Bool, true, false, ◌&&◌, ◌⊎◌, List, [], ◌∷◌, T, leb, if◌then◌else◌, None, Option, Some}
use Rattle.std.proofs.Math.Path.{refl, sym}
use Rattle.std.proofs.Common.{◌∙◌, inr, le-ltb, leb→le}
use Rattle.std.proofs.Math.Logic.{inl}
use Rattle.std.proofs.Math.Facts.{and_yes}
use Rattle.rows.specs.Languages.{C, Cpp, Fortran, C18, C23, Cpp17, Cpp23, Fortran2018, Fortran2023}
use Rattle.rows.specs.Laws.Tests.{and_false}
use Rattle.rows.specs.declared.answer.Feature.{Feature}
use Rattle.rows.specs.declared.answer.TypeNameError.TheVariants.{AllowancePassed, NotAvailableInProfile}
use Rattle.profile.specs.Profile.{Since, uses, ignores_case, features, lacking, missing_feature}
use Rattle.reader.specs.Nodes.{Nodes}
use Rattle.type_name.specs.Answers.{RowAnswer, accepted, refused, on_tree, by_structure, structure_of, by_profile, tree_checked, row_tree, unlimited, row_steps, answer_within, answer_of}
use Rattle.convert.specs.NewerStandards.{Is40}

-- ---- standards that lack nothing

-- The standard has all of these features.
abbrev has_all : (standard : ℕ) → List Since → Bool
has_all standard [] = true
has_all standard (s ∷ ss) = leb s.standard standard && has_all standard ss

none_lacking : (i : Bool) (standard : ℕ) (kinds words : List ℕ) (ss : List Since) → T (has_all standard ss) → lacking i standard kinds words ss ≡ None
unfolding lacking
none_lacking i standard kinds words [] t = refl
none_lacking i standard kinds words (s ∷ ss) t =
    let p = and_yes (leb s.standard standard) (has_all standard ss) t in
    rw (le-ltb standard s.standard (leb→le s.standard standard p.0), and_false (uses i kinds words s.feature)) (none_lacking i standard kinds words ss p.1)

lacks_none : (language standard : ℕ) → T (has_all standard (features language)) → (kinds words : List ℕ) → missing_feature language standard kinds words ≡ None
unfolding missing_feature
lacks_none language standard t kinds words = none_lacking (ignores_case language) standard kinds words (features language) t

-- ---- the answers

-- Standards that lack the same get the same answer.
same_lack : (language standard standard' flag : ℕ) (kinds words : List ℕ) (allowance : ℕ) → missing_feature language standard kinds words ≡ missing_feature language standard' kinds words
    → answer_of language standard flag kinds words allowance ≡ answer_of language standard' flag kinds words allowance
unfolding answer_of unlimited tree_checked
same_lack language standard standard' flag kinds words allowance e = rw e refl

module _ (flag : ℕ) (kinds words : List ℕ) (allowance : ℕ) where
  pub alike_in_cpp : answer_of Cpp Cpp23 flag kinds words allowance ≡ answer_of Cpp Cpp17 flag kinds words allowance
  unfolding features
  alike_in_cpp = same_lack Cpp Cpp23 Cpp17 flag kinds words allowance (lacks_none Cpp Cpp23 tt kinds words ∙ sym (lacks_none Cpp Cpp17 tt kinds words))

  pub alike_in_fortran : answer_of Fortran Fortran2023 flag kinds words allowance ≡ answer_of Fortran Fortran2018 flag kinds words allowance
  unfolding features
  alike_in_fortran = same_lack Fortran Fortran2023 Fortran2018 flag kinds words allowance (lacks_none Fortran Fortran2023 tt kinds words ∙ sym (lacks_none Fortran Fortran2018 tt kinds words))

  by_allowance : (x : Nodes) (m : ℕ) (f : Feature) (b : Bool)
      → ◌≡◌ {A = RowAnswer} (if b then accepted x m else refused AllowancePassed allowance) (if b then refused (NotAvailableInProfile f) m else refused AllowancePassed allowance)
      ⊎ Is40 (if b then refused (NotAvailableInProfile f) m else refused AllowancePassed allowance)
  by_allowance x m f true = inr (f, m, refl)
  by_allowance x m f false = inl refl

  by_lack : (a : RowAnswer) (l : Option Feature)
      → (answer_within allowance (on_tree a (λ x m. by_profile x m None)) ≡ answer_within allowance (on_tree a (λ x m. by_profile x m l)))
      ⊎ Is40 (answer_within allowance (on_tree a (λ x m. by_profile x m l)))
  unfolding on_tree by_profile answer_within row_steps
  by_lack (refused e m) l = inl refl
  by_lack (accepted x m) None = inl refl
  by_lack (accepted x m) (Some f) = by_allowance x m f (leb m allowance)

  pub alike_in_c : (answer_of C C23 flag kinds words allowance ≡ answer_of C C18 flag kinds words allowance) ⊎ Is40 (answer_of C C18 flag kinds words allowance)
  unfolding answer_of unlimited tree_checked features
  alike_in_c =
      rw (lacks_none C C23 tt kinds words)
      (by_lack (on_tree (row_tree C kinds) (λ x m. by_structure x m (structure_of C flag kinds words x))) (missing_feature C C18 kinds words))
