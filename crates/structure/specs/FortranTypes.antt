-- A Fortran type name: `validate_fortran_type`, its head, and what its loop does at a node. Document 01, "Node record" and "Steps". Words are compared
-- with case ignored.
-- Assumes nothing.
use Rattle.std.specs.Prelude.{ℕ, Bool, true, ◌&&◌, not, List, eqb, if◌then◌else◌}
use Rattle.std.proofs.Math.Bool.{false}
use Rattle.rows.specs.Notation.{◌is_one_of◌}
use Rattle.rows.specs.Kinds.{Identifier, Integer, Star}
use Rattle.rows.specs.Words.{no_word, double, ignoring_case}
use Rattle.reader.specs.Nodes.{Nodes}
use Rattle.type_nodes.specs.Shapes.{NoNode, Parenthesized}
use Rattle.type_nodes.specs.Nodes.{empty, next, shape, node_identifier, caseless_word, is_single_token}
use Rattle.type_nodes.specs.Sets.{derived_type_words, words_after_double}
use Rattle.type_nodes.specs.Moves.{selectors, Move, stop, on, inside}
use Rattle.structure.specs.Said.{Said, Job, after, both, plain}
use Rattle.structure.specs.Checks.{loop}

-- s and w: shape and word of the first node, `right` and rw: those of the second.
unfoldable pub fortran_head : (s w right rw : ℕ) → Bool
unfolding ◌is_one_of◌ derived_type_words words_after_double
fortran_head s w right rw =
    if not (eqb s Identifier) then false
    else if w is_one_of derived_type_words then eqb right Parenthesized
    else if eqb w double then rw is_one_of words_after_double
    else not (eqb right Identifier)

-- `validate_fortran_type_head`
unfoldable pub validate_fortran_type_head : (kinds words : List ℕ) → Nodes → Bool
unfolding fortran_head shape next node_identifier ignoring_case
validate_fortran_type_head kinds words x =
    fortran_head (shape kinds x) (caseless_word kinds words x) (shape kinds (next x)) (caseless_word kinds words (next x))

-- The variables of `validate_fortran_type`.
pub data FortranState : Type 0 where
  fortran_state : (saw_word saw_selector : Bool) → FortranState

-- What `validate_fortran_type` returns after its loop.
unfoldable pub fortran_end : FortranState → Bool
fortran_end (fortran_state saw_word saw_selector) = saw_word

-- `validate_fortran_type` at a node of shape s; `last_integer`: one node follows, an integer.
unfoldable pub fortran_node : (s : ℕ) (last_integer : Bool) → FortranState → Move FortranState
fortran_node s last_integer (fortran_state saw_word saw_selector) =
    if eqb s Identifier then on (fortran_state true saw_selector)
    else if eqb s Parenthesized && saw_word && not saw_selector then inside selectors (fortran_state saw_word true)
    else if eqb s Star && saw_word && last_integer then stop true
    else stop false

module _ (lang : ℕ) (kinds words : List ℕ) where
  -- `validate_fortran_type` at the first of the nodes x.
  abbrev pub fortran_move : (left lw : ℕ) → Nodes → FortranState → Move FortranState
  fortran_move left lw x st = fortran_node (shape kinds x) (is_single_token kinds Integer (next x)) st

  module _ (check : Job → Nodes → Said) where
    -- `validate_fortran_type`; `check`: the counted checks of the nodes below.
    unfoldable pub validate_fortran_type : Nodes → Said
    unfolding empty next is_single_token validate_fortran_type_head loop fortran_end fortran_node
    validate_fortran_type x =
        after 1 (both (plain (not (empty x) && validate_fortran_type_head kinds words x))
        (λ _. loop lang kinds words check FortranState fortran_move fortran_end x NoNode no_word (fortran_state false false)))
