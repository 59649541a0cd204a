-- From what the layers below say to the answer of a row. Assumes nothing.
use Rattle.rows.specs.Answer.{accepted_with, refused_with, Answer}
use Rattle.rows.specs.declared.answer.Feature.{Feature}
use Rattle.std.specs.Prelude.{ℕ, ◌+◌, ◌-◌, ◌*◌, ◌≤◌, ◌<◌, ◌≡◌, ◌⊎◌, ◌≢◌, Bool, List, length, leb, eqb, if◌then◌else◌, Err, None, Ok, Option, Result, Some}
use Rattle.std.proofs.Math.Path.{refl, ap, subst}
use Rattle.std.proofs.Common.{sym, ◌∙◌, lt_of_not-le, le-leb, eq-eqb, ne_eqb}
use Rattle.std.proofs.Math.Logic.{⊎_elim}
use Rattle.std.proofs.Math.Bool.{true, false}
use native.Mathlib.Omega.{arith}
use Rattle.std.proofs.Math.Decide.{dec_le}
use Rattle.std.proofs.lemmas.Bool.{lt-leb}
use Rattle.std.proofs.Math.ListN.{take}
use Rattle.rows.specs.Languages.{Cpp}
use Rattle.rows.specs.Format.{asks_structure, most_tokens}
use Rattle.rows.specs.Laws.Tests.{and_false}
use Rattle.rows.specs.declared.answer.TypeNameError.{TypeNameError}
use Rattle.rows.specs.declared.answer.TypeNameError.TheVariants.{UnexpectedTokenAfterTypeName, AllowancePassed, NoTypeName, NotAvailableInProfile}
use Rattle.rows.specs.declared.head.Head.{Head}
use Rattle.prescan.specs.Prescan.{Scan, Scanned, passed, prescan}
use Rattle.prescan.specs.Prescan
use Rattle.prescan.specs.Prescanned.{Same, PrescanSays}
use Rattle.reader.specs.Nodes.{Nodes, count, node_width, records}
use Rattle.reader.specs.Reading.{Got, got, bad, refusal, reading}
use Rattle.reader.specs.ReaderSays.{TreeRead, LeftOver, ParseSays, Parses, refused_unread}
use Rattle.reader.specs.declared.parser.Tree.{Tree}
use Rattle.reader.specs.declared.parser.ParseError.{ParseError}
use Rattle.reader.specs.Allowance.{steps}
use Rattle.reader.specs.Derivation.{RowDerived}
use Rattle.reader.specs.Laws.Derived.{row_derived}
use Rattle.reader.specs.Laws.Bounds.{two_nodes}
use Rattle.reader.specs.Laws.Buffer.{holds as in_buffer}
use Rattle.type_nodes.specs.Stands.{WordedNodes}
use Rattle.structure.specs.Said.{Said, holds, fails, after}
use Rattle.structure.specs.Syntax.{validate_structured_syntax}
use Rattle.structure.specs.Allowance as Steps
use Rattle.structure.specs.VerdictSays as Structure
use Rattle.structure.specs.Laws.Limits.{limited_after}
use Rattle.structure.specs.Laws.Trees.{tree_stands}
use Rattle.structure.specs.Allowance.{Verdict}
use Rattle.structure.specs.declared.moves.Fault.TheVariants.{Fails, Spent}
use Rattle.profile.specs.Profile.{missing_feature}
use Rattle.type_name.specs.FileRow.{passes}
use Rattle.type_name.specs.Answers.{RowAnswer, accepted, refused, on_tree, refusal_of_fault, whole_row, tree_of, after_prescan, row_tree, structure_of, by_structure, by_profile, tree_checked, row_steps, answer_within, answer_in}
use Rattle.type_name.specs.EntrySays.{TreeIn, TreeTold, TreeSays, NodesReady, NodesSay, CheckSays, InFront, ReadsRow, profile_answer, verdict_answer, row_checked}

left_of : (al n : ℕ) → n ≤ al → al - (al - n) ≡ n
left_of al n p = omega arith

add-zero : (m : ℕ) → m + 0 ≡ m
add-zero m = omega arith

-- ---- under an allowance

pub limited_fits : (al : ℕ) (a : RowAnswer) → row_steps a ≤ al → answer_within al a ≡ a
unfolding answer_within
limited_fits al a p = rw (le-leb (row_steps a) al p) refl

pub limited_over : (al : ℕ) (a : RowAnswer) → al < row_steps a → answer_within al a ≡ refused AllowancePassed al
unfolding answer_within
limited_over al a p = rw (lt-leb (row_steps a) al p) refl

-- ---- what the structure check leaves of the allowance

abbrev pub left_in : Verdict → ℕ
left_in (Ok left) = left
left_in (Err (Fails left)) = left
left_in (Err Spent) = 0

left_below : (al : ℕ) (w : Said) → left_in (Steps.verdict_within al w) ≤ al
unfolding Steps.verdict_within
left_below al (holds k) = below_if (leb k al)
  where
    below_if : (b : Bool) → left_in (if b then Ok (al - k) else Err Spent) ≤ al
    below_if true = omega arith
    below_if false = omega arith
left_below al (fails k) = below_if (leb k al)
  where
    below_if : (b : Bool) → left_in (if b then Err (Fails (al - k)) else Err Spent) ≤ al
    below_if true = omega arith
    below_if false = omega arith

pub left_within : {v : Verdict} (al : ℕ) (w : Said) → v ≡ Steps.verdict_within al w → left_in v ≤ al
left_within al w e = rw e (left_below al w)

-- ---- a tree that stands in front of the buffer

module _ {kinds tree : List ℕ} {al n m : ℕ} {x : Nodes} (t : TreeIn kinds al x n m tree) where
  pub tree_ready : {words : List ℕ} → length words ≡ length kinds → length kinds ≤ most_tokens → WordedNodes tree kinds words 0 n
  tree_ready w k = record {
    nodes_stand = record { nodes = x; stands = t.stands; room = in_buffer x n tree t.counted t.written; few = omega (arith, t.few, k) };
    worded = w;
  }

  -- The steps of its check are added to those of the reading.
  pub steps_added : {what : Nodes → Said} {v : Verdict} → Structure.VerdictSays tree kinds 0 n (al - m) what v → v ≡ Steps.verdict_within al (after m (what x))
  steps_added {what} s = s.says x t.stands ∙ sym (limited_after al m (what x) ∙ rw (le-leb m al t.allowed))

-- ---- its checks, under the row's profile, flag and allowance

module _ (l s f al : ℕ) (kinds words : List ℕ) where
  abbrev lack : Option Feature
  lack = missing_feature l s kinds words

  abbrev profiled : RowAnswer → RowAnswer
  profiled a = on_tree a (λ x m. by_profile x m lack)

  -- What the profile says,
  profile_told : (x : Nodes) (n m : ℕ) (k : Option Feature) → count x ≡ n → m ≤ al → profile_answer n m k ≡ answer_in (passes (answer_within al (by_profile x m k)))
  unfolding answer_in by_profile row_steps
  profile_told x n m None c p = rw (limited_fits al (accepted x m) p) (ap (λ (t : ℕ). accepted_with t m) (sym c))
  profile_told x n m (Some g) c p = rw (limited_fits al (refused (NotAvailableInProfile g) m) p) refl

  profile_over : (x : Nodes) (m : ℕ) (k : Option Feature) → al < m → answer_within al (by_profile x m k) ≡ refused AllowancePassed al
  unfolding by_profile row_steps
  profile_over x m None p = limited_over al (accepted x m) p
  profile_over x m (Some g) p = limited_over al (refused (NotAvailableInProfile g) m) p

  -- and the structure check before it.
  structure_told : (x : Nodes) (n m : ℕ) (w : Said) → count x ≡ n
      → verdict_answer n al lack (Steps.verdict_within al (after m w)) ≡ answer_in (passes (answer_within al (profiled (by_structure x m w))))
  unfolding Steps.verdict_within after by_structure on_tree answer_in row_steps
  structure_told x n m (holds k) c =
      elim (dec_le (m + k) al) [
        | yes p ↦ rw (le-leb (m + k) al p) (ap (λ (t : ℕ). profile_answer n t lack) (left_of al (m + k) p) ∙ profile_told x n (m + k) lack c p)
        | no p ↦ rw (lt-leb (m + k) al (lt_of_not-le p)) (ap (λ (o : RowAnswer). answer_in (passes o)) (sym (profile_over x (m + k) lack (lt_of_not-le p))))
      ]
  structure_told x n m (fails k) c =
      elim (dec_le (m + k) al) [
        | yes p ↦ rw (le-leb (m + k) al p, limited_fits al (refused NoTypeName (m + k)) p) (ap (λ (t : ℕ). refused_with NoTypeName t) (left_of al (m + k) p))
        | no p ↦ rw (lt-leb (m + k) al (lt_of_not-le p), limited_over al (refused NoTypeName (m + k)) (lt_of_not-le p)) refl
      ]

  module _ {tree : List ℕ} {n m : ℕ} {x : Nodes} (t : TreeIn kinds al x n m tree) where
    -- Where the flag asks for no structure,
    pub unchecked : asks_structure f ≡ false → profile_answer n m lack ≡ answer_in (passes (answer_within al (tree_checked l s f kinds words (accepted x m))))
    unfolding tree_checked on_tree structure_of by_structure
    unchecked q = rw (q, add-zero m) (profile_told x n m lack t.counted t.allowed)

    -- and where it does: the structure check's verdict.
    pub verdict_told : {v : Verdict} → asks_structure f ≡ true → v ≡ Steps.verdict_within al (after m (validate_structured_syntax l kinds words x))
        → verdict_answer n al lack v ≡ answer_in (passes (answer_within al (tree_checked l s f kinds words (accepted x m))))
    unfolding tree_checked on_tree structure_of
    verdict_told q e = rw (e, q) (structure_told x n m (validate_structured_syntax l kinds words x) t.counted)

  -- ---- the tree stands in front of the buffer

  in_front_limited : (o : RowAnswer) (tree : List ℕ) → InFront o tree → InFront (answer_within al o) tree
  unfolding answer_within
  in_front_limited o tree w = by (leb (row_steps o) al)
    where
      by : (b : Bool) → InFront (if b then o else refused AllowancePassed al) tree
      by true = w
      by false = tt

  in_front_profile : (o : RowAnswer) (tree : List ℕ) → InFront o tree → InFront (profiled o) tree
  unfolding on_tree by_profile
  in_front_profile (accepted x m) tree w = by lack
    where
      by : (k : Option Feature) → InFront (by_profile x m k) tree
      by None = w
      by (Some g) = tt
  in_front_profile (refused e m) tree w = tt

  in_front_structure : (x : Nodes) (m : ℕ) (w : Said) (tree : List ℕ) → InFront (accepted x m) tree → InFront (by_structure x m w) tree
  unfolding by_structure
  in_front_structure x m (holds k) tree w = w
  in_front_structure x m (fails k) tree w = tt

  tree_in_front : {tree : List ℕ} {n m : ℕ} {x : Nodes} → TreeIn kinds al x n m tree → InFront (answer_within al (tree_checked l s f kinds words (accepted x m))) tree
  unfolding tree_checked on_tree
  tree_in_front {tree} {n} {m} {x} t =
      let held : take (node_width * count x) tree ≡ records x = ap (λ (k : ℕ). take (node_width * k) tree) t.counted ∙ t.written in
      let said : RowAnswer = by_structure x m (structure_of l f kinds words x) in
      in_front_limited (profiled said) tree (in_front_profile said tree (in_front_structure x m (structure_of l f kinds words x) tree held))

  -- ---- a reading that was refused, or that passed the allowance

  checked_refused : (e : TypeNameError) (m : ℕ) → tree_checked l s f kinds words (refused e m) ≡ refused e m
  unfolding tree_checked on_tree
  checked_refused e m = refl

  structure_steps : (x : Nodes) (m : ℕ) (w : Said) → m ≤ row_steps (by_structure x m w)
  unfolding by_structure row_steps
  structure_steps x m (holds k) = omega arith
  structure_steps x m (fails k) = omega arith

  profile_steps : (o : RowAnswer) → row_steps o ≤ row_steps (profiled o)
  unfolding on_tree row_steps by_profile
  profile_steps (accepted x m) = by lack
    where
      by : (k : Option Feature) → m ≤ row_steps (by_profile x m k)
      by None = omega arith
      by (Some g) = omega arith
  profile_steps (refused e m) = omega arith

  -- No check takes a step back.
  checked_steps : (o : RowAnswer) → row_steps o ≤ row_steps (tree_checked l s f kinds words o)
  unfolding tree_checked on_tree row_steps
  checked_steps (accepted x m) =
      omega (arith, structure_steps x m (structure_of l f kinds words x), profile_steps (by_structure x m (structure_of l f kinds words x)))
  checked_steps (refused e m) = omega arith

  checked_over : (o : RowAnswer) → al < row_steps o → answer_within al (tree_checked l s f kinds words o) ≡ refused AllowancePassed al
  checked_over o p = limited_over al (tree_checked l s f kinds words o) (omega (arith, p, checked_steps o))

-- ---- what `check_tree` says, by what the reading came to

refusal_told : (h : Head) (kinds words tree : List ℕ) (o : RowAnswer) {e : TypeNameError} {m : ℕ} → row_checked h kinds words o ≡ refused e m
    → ReadsRow (row_checked h kinds words o) (refused_with e m) tree
unfolding answer_in
refusal_told h kinds words tree o {e} {m} q = subst (λ (a : RowAnswer). ReadsRow a (refused_with e m) tree) (sym q) (record { answered = refl; in_front = tt })

module _ (h : Head) (kinds words : List ℕ) {p : Result Tree ParseError} {tree : List ℕ} where
  abbrev told : {o : RowAnswer} {q : Result Tree ParseError} → p ≡ q → TreeSays kinds h.allowance o p tree → TreeTold kinds h.allowance o q tree
  told {o} e t = subst (λ (c : Result Tree ParseError). TreeTold kinds h.allowance o c tree) e t.says

  pub says_tree : {t : Tree} {r : Answer} → p ≡ Ok t → NodesSay h kinds words t.nodes t.steps tree r → CheckSays h kinds words p tree r
  says_tree {r = r} e c =
      record {
        says = λ o t.
            let (x, is, t') = told e t in
            subst (λ (a : RowAnswer). ReadsRow (row_checked h kinds words a) r tree) (sym is)
            (record { answered = c.says x t'; in_front = tree_in_front h.language h.standard h.flag h.allowance kinds words t' });
      }

  pub says_refused : {e : TypeNameError} {m : ℕ} → p ≡ Err (ParseError.Refused e m) → CheckSays h kinds words p tree (refused_with e m)
  unfolding row_steps
  says_refused {e} {m} q =
      record {
        says = λ o t.
            let (fits, is) = told q t in
            refusal_told h kinds words tree o (ap (row_checked h kinds words) is ∙ ap (answer_within h.allowance) (checked_refused h.language h.standard h.flag h.allowance kinds words e m)
            ∙ limited_fits h.allowance (refused e m) fits);
      }

  pub says_over : p ≡ Err ParseError.AllowancePassed → CheckSays h kinds words p tree (refused_with AllowancePassed h.allowance)
  says_over q = record { says = λ o t. refusal_told h kinds words tree o (checked_over h.language h.standard h.flag h.allowance kinds words o (told q t)) }

-- A tree of the reading that the checks are asked of.
pub nodes_ready : {kinds words tree : List ℕ} {al : ℕ} {o : RowAnswer} {p : Result Tree ParseError} {read : Tree} → p ≡ Ok read → length kinds ≤ most_tokens → length words ≡ length kinds
    → TreeSays kinds al o p tree → NodesReady kinds words al read.nodes read.steps tree
nodes_ready {kinds} {words} {tree} {al} {o = o} e k w t =
    let (x, is, t') = subst (λ (c : Result Tree ParseError). TreeTold kinds al o c tree) e t.says in
    record { few = k; worded = w; nodes = x; tree_in = t' }

-- ---- what the code of the layers below answers, by its cases

module _ {d : Scanned} where
  pub scan_refused : {r : Result (Unit {0}) TypeNameError} {e : TypeNameError} → r ≡ Err e → PrescanSays r d → d ≡ Prescan.refused e
  scan_refused q h = subst (λ (c : Result (Unit {0}) TypeNameError). Same c d) q h.same

  pub scan_passed : {r : Result (Unit {0}) TypeNameError} → r ≡ Ok tt → PrescanSays r d → (t : Scan) × (d ≡ passed t)
  scan_passed q h = subst (λ (c : Result (Unit {0}) TypeNameError). Same c d) q h.same

-- ---- the tree of a row, from what its reading came to, however it was read

at_end : (kinds : List ℕ) → whole_row kinds (length kinds) false ≡ true
unfolding whole_row
at_end kinds = rw (eq-eqb (length kinds) (length kinds) refl) refl

not_at_end : (kinds : List ℕ) (at : ℕ) (half : Bool) → (at ≢ length kinds) ⊎ (half ≡ true) → whole_row kinds at half ≡ false
unfolding whole_row
not_at_end kinds at half c = ⊎_elim (λ (q : at ≢ length kinds). rw (ne_eqb at (length kinds) q) refl) (λ (q : half ≡ true). rw q (and_false (eqb at (length kinds)))) c

-- What a reading accepts is derived.
abbrev pub GotDerived : (kinds : List ℕ) (inner : ℕ → ℕ) → Got → Type 0
GotDerived kinds inner g = (x : Nodes) (a : ℕ) (h : Bool) (m : ℕ) → g ≡ got x a h m → RowDerived kinds inner x

module _ (al : ℕ) (kinds : List ℕ) (g : Got) {inner : ℕ → ℕ} (sound : GotDerived kinds inner g) where
  tree_told : {n m : ℕ} {tree : List ℕ} → TreeRead kinds al g n m tree → TreeTold kinds al (tree_of kinds g) (Ok (record { nodes = n; steps = m })) tree
  unfolding tree_of
  tree_told r = (
    r.nodes,
    rw (r.is, at_end kinds) refl,
    record {
      allowed = r.allowed;
      counted = r.counted;
      few = omega (arith, two_nodes kinds (sound r.nodes (length kinds) false _ r.is), r.counted);
      written = r.written;
      stands = tree_stands r (sound r.nodes (length kinds) false _ r.is);
    },
  )

  refused_told : {e : TypeNameError} {m : ℕ} → (g ≡ bad (refusal e) m) ⊎ LeftOver kinds g e m → tree_of kinds g ≡ refused e m
  unfolding tree_of refusal_of_fault
  refused_told c =
      ⊎_elim (λ q. rw q refl) (λ (o : LeftOver kinds g _ _). rw (o.is, o.error, not_at_end kinds o.at o.half o.over) refl) c

  over_told : (d : Got) → al < steps d → al < row_steps (tree_of kinds d)
  unfolding tree_of steps row_steps
  over_told (bad e m) p = p
  over_told (got x at half m) p = by (whole_row kinds at half)
    where
      by : (b : Bool) → al < row_steps (if b then accepted x m else refused UnexpectedTokenAfterTypeName m)
      by true = p
      by false = p

  says_by : (r : Result Tree ParseError) (tree : List ℕ) → ParseSays kinds al g r tree → TreeTold kinds al (tree_of kinds g) r tree
  says_by (Ok t) tree h = tree_told h
  says_by (Err (ParseError.Refused e m)) tree h = (h.0, refused_told h.1)
  says_by (Err ParseError.AllowancePassed) tree h = over_told g h

  pub parsed_tree : {r : Result Tree ParseError} {tree : List ℕ} → Parses kinds al g r tree → TreeSays kinds al (tree_of kinds g) r tree
  parsed_tree {r} {tree} h = record { says = says_by r tree h.says }

-- ---- the tree of a row behind the prescan

module _ (l al : ℕ) (kinds : List ℕ) (g : Got) where
  pub tree_refused : {e : TypeNameError} {tree : List ℕ} → prescan l kinds ≡ Prescan.refused e → TreeSays kinds al (after_prescan kinds g (prescan l kinds)) (Err (refused_unread e)) tree
  unfolding after_prescan
  tree_refused q = record { says = (omega arith, ap (after_prescan kinds g) q) }

  pub tree_parsed : {inner : ℕ → ℕ} → GotDerived kinds inner g → (t : Scan) × (prescan l kinds ≡ passed t) → {r : Result Tree ParseError} {tree : List ℕ} → Parses kinds al g r tree
      → TreeSays kinds al (after_prescan kinds g (prescan l kinds)) r tree
  unfolding after_prescan
  tree_parsed sound t {r} {tree} h = subst (λ (o : RowAnswer). TreeSays kinds al o r tree) (sym (ap (after_prescan kinds g) t.1)) (parsed_tree al kinds g sound h)

-- ---- the tree of a row, by document 01's reading

module _ (l al : ℕ) (kinds : List ℕ) where
  pub row_tree_refused : {e : TypeNameError} {tree : List ℕ} → prescan l kinds ≡ Prescan.refused e → TreeSays kinds al (row_tree l kinds) (Err (refused_unread e)) tree
  unfolding row_tree
  row_tree_refused q = tree_refused l al kinds (reading (eqb l Cpp) kinds) q

  pub row_tree_parsed : (t : Scan) × (prescan l kinds ≡ passed t) → {r : Result Tree ParseError} {tree : List ℕ} → Parses kinds al (reading (eqb l Cpp) kinds) r tree → TreeSays kinds al (row_tree l kinds) r tree
  unfolding row_tree
  row_tree_parsed t h = tree_parsed l al kinds (reading (eqb l Cpp) kinds) (λ x a k m e. row_derived kinds (eqb l Cpp) e) t h
