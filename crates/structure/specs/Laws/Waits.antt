-- The moves that the code makes if a condition holds, by what they stand for; and what bounds the open `?` of a move. Assumes nothing.
use Rattle.std.specs.Prelude.{ℕ, ◌≤◌, ◌≡◌, refl, Bool, true, false}
use Rattle.std.proofs.Common.{sym, ap, ◌∙◌, subst}
use Rattle.type_nodes.specs.Moves.{Test, Move, on_if, inside_if}
use Rattle.structure.specs.Expressions.{ExpressionState}
use Rattle.structure.specs.RepresentedMoves.{test_of, goes_on_if, goes_inside_if, move_of, expression_state_of, ExpressionMove, Waits, Moves}
use Rattle.structure.specs.declared.moves.Inner.{Inner}
use Rattle.structure.specs.declared.moves.ExpressionLoop.{ExpressionLoop}
use Rattle.structure.specs.declared.moves.Move as Code

module _ {S I T : Type 0} (state : S → T) (test : I → Test) where
  on_stands : (ok : Bool) (next : S) → move_of state test (goes_on_if ok next) ≡ on_if ok (state next)
  unfolding goes_on_if on_if
  on_stands true next = refl
  on_stands false next = refl

  inside_stands : (ok : Bool) (inner : I) (next : S) → move_of state test (goes_inside_if ok inner next) ≡ inside_if ok (test inner) (state next)
  unfolding goes_inside_if inside_if
  inside_stands true inner next = refl
  inside_stands false inner next = refl

  module _ (ok : Bool) (next : S) {r : Code.Move S I} {m : Move T} where
    pub goes_on : r ≡ goes_on_if ok next → on_if ok (state next) ≡ m → move_of state test r ≡ m
    goes_on e q = ap (move_of state test) e ∙ on_stands ok next ∙ q

    pub goes_inside : (inner : I) → r ≡ goes_inside_if ok inner next → inside_if ok (test inner) (state next) ≡ m → move_of state test r ≡ m
    goes_inside inner e q = ap (move_of state test) e ∙ inside_stands ok inner next ∙ q

-- The moves of an expression.
module _ {n : ℕ} where
  waits_on : (ok : Bool) (next : ExpressionLoop) → next.conditional_depth ≤ n → Waits n (goes_on_if ok next)
  unfolding goes_on_if
  waits_on true next h = h
  waits_on false next h = tt

  waits_inside : (ok : Bool) (inner : Inner) (next : ExpressionLoop) → next.conditional_depth ≤ n → Waits n (goes_inside_if ok inner next)
  unfolding goes_inside_if
  waits_inside true inner next h = h
  waits_inside false inner next h = tt

  module _ (ok : Bool) (next : ExpressionLoop) {r : ExpressionMove} {m : Move ExpressionState} where
    pub moves_on : r ≡ goes_on_if ok next → next.conditional_depth ≤ n → on_if ok (expression_state_of next) ≡ m → Moves n r m
    moves_on e h q = record {
      is = goes_on expression_state_of test_of ok next e q;
      waits = subst (λ (u : ExpressionMove). Waits n u) (sym e) (waits_on ok next h);
    }

    pub moves_inside : (inner : Inner) → r ≡ goes_inside_if ok inner next → next.conditional_depth ≤ n
        → inside_if ok (test_of inner) (expression_state_of next) ≡ m → Moves n r m
    moves_inside inner e h q = record {
      is = goes_inside expression_state_of test_of ok next inner e q;
      waits = subst (λ (u : ExpressionMove). Waits n u) (sym e) (waits_inside ok inner next h);
    }
