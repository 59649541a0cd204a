-- The walks over the parts between commas and over the arguments of a list: `every` of them, `whole` the check of the whole list.
-- Assumes nothing.
use Rattle.std.specs.Prelude.{ℕ, suc, ◌+◌, ◌≤◌, ◌<◌, ◌≡◌, refl, true, false, List, [], ◌∷◌, length, Ok}
use Rattle.std.proofs.Common.{sym, ap, ◌∙◌, subst, true≢false, arith}
use Rattle.reader.specs.Nodes.{Nodes, none, node, count}
use Rattle.type_nodes.specs.Nodes.{empty, next, arguments_of}
use Rattle.type_nodes.specs.SplitOnCommas.{split_on_commas}
use Rattle.type_nodes.specs.Stands.{first_element, from_comma, Stands, NodesStand, WordedNodes, Of, below}
use Rattle.type_nodes.specs.Laws.Siblings.{first, nothing_left, stands_count}
use Rattle.type_nodes.specs.Laws.Elements.{others, split_first, others_next, others_none, element_stands, comma_stands}
use Rattle.structure.specs.Said.{Said, both, plain, every}
use Rattle.structure.specs.VerdictSays.{VerdictSays}
use Rattle.structure.specs.Laws.Limits.{limited_yes}
use Rattle.structure.specs.Laws.Walks.{Walk, Turn, walk_element, walk_ends, walk_on, after_it, below_it, walk_further}

every_end : (f : Nodes → Said) → every f [] ≡ plain true
unfolding every plain
every_end f = refl

every_one : (f : Nodes → Said) (x : Nodes) (xs : List Nodes) → every f (x ∷ xs) ≡ both (f x) (λ _. every f xs)
unfolding every
every_one f x xs = refl

arguments_next : (x : Nodes) → empty x ≡ false → arguments_of x ≡ below x ∷ arguments_of (next x)
unfolding arguments_of empty below next
arguments_next none h = absurd (true≢false h)
arguments_next (node k i b x) h = refl

arguments_none : (x : Nodes) → x ≡ none → arguments_of x ≡ []
unfolding arguments_of
arguments_none x e = rw e

module _ (f whole : Nodes → Said) (tree kinds : List ℕ) (from to allowed left : ℕ) where
  abbrev pub InElements : (at : ℕ) → Type 0
  InElements at = Walk tree kinds whole from to allowed left (λ y. every f (split_on_commas kinds y)) at

  -- At the comma after a part, or at the end.
  abbrev pub AtComma : (at : ℕ) → Type 0
  AtComma at = Walk tree kinds whole from to allowed left (λ y. every f (others kinds y)) at

  abbrev pub InArguments : (at : ℕ) → Type 0
  InArguments at = Walk tree kinds whole from to allowed left (λ y. every f (arguments_of y)) at

module _ (f : Nodes → Said) {whole : Nodes → Said} {tree kinds : List ℕ} {from to allowed left at : ℕ} where
  module _ (lp : InElements f whole tree kinds from to allowed left at) {e : ℕ} (en : Of tree kinds at to (λ x. e ≡ at + count (first_element kinds x))) where
    the_end : e ≡ at + count (first_element kinds lp.rest)
    the_end = en lp.rest lp.stands

    element_there : Stands tree kinds at e (first_element kinds lp.rest)
    element_there = subst (λ (m : ℕ). Stands tree kinds at m (first_element kinds lp.rest)) (sym the_end) (element_stands lp.stands)

    comma_there : Stands tree kinds e to (from_comma kinds lp.rest)
    comma_there = subst (λ (m : ℕ). Stands tree kinds m to (from_comma kinds lp.rest)) (sym the_end) (comma_stands lp.stands)

    pub elements_past : at ≤ e
    elements_past = omega (arith, the_end)

    pub elements_fit : e ≤ to
    elements_fit = omega (arith, stands_count comma_there)

    pub elements_ready : {words : List ℕ} → length words ≡ length kinds → WordedNodes tree kinds words at e
    elements_ready k = walk_element lp element_there elements_fit k

    pub elements_comma : NodesStand tree kinds e to
    elements_comma = record { nodes = _; stands = comma_there; room = lp.room; few = lp.few }

    pub elements_turn : Turn tree kinds (λ y. every f (split_on_commas kinds y)) f (λ y. every f (others kinds y)) to lp.rest at at e e
    elements_turn = record {
      element = _;
      element_stands = element_there;
      after = _;
      after_stands = comma_there;
      further = elements_past;
      is = ap (every f) (split_first kinds lp.rest) ∙ every_one f _ _;
    }

  module _ (lp : AtComma f whole tree kinds from to allowed left at) where
    pub elements_last : at ≡ to → VerdictSays tree kinds from to allowed whole (Ok left)
    elements_last h =
        walk_ends lp true (ap (every f) (others_none kinds lp.rest (nothing_left lp.stands (omega arith))) ∙ every_end f) (sym (limited_yes left))

    pub elements_next : {e : ℕ} → at < to → Of tree kinds at to (λ x. e ≡ suc (at + count (below x))) → InElements f whole tree kinds from to allowed left e
    elements_next h en =
        walk_on lp _ (ap (every f) (others_next kinds lp.rest (first lp.stands h).full)) (after_it lp h en) (omega (arith, walk_further lp h en))

  module _ (lp : InArguments f whole tree kinds from to allowed left at) where
    pub arguments_end : to ≤ at → VerdictSays tree kinds from to allowed whole (Ok left)
    arguments_end h = walk_ends lp true (ap (every f) (arguments_none lp.rest (nothing_left lp.stands h)) ∙ every_end f) (sym (limited_yes left))

    pub arguments_turn : {e : ℕ} → at < to → Of tree kinds at to (λ x. e ≡ suc (at + count (below x)))
        → Turn tree kinds (λ y. every f (arguments_of y)) f (λ y. every f (arguments_of y)) to lp.rest at (at + 1) e e
    arguments_turn h en = record {
      element = _;
      element_stands = below_it lp h en;
      after = _;
      after_stands = after_it lp h en;
      further = omega (arith, walk_further lp h en);
      is = ap (every f) (arguments_next lp.rest (first lp.stands h).full) ∙ every_one f _ _;
    }
