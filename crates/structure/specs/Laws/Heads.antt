-- The head of a Fortran type name, from the lookup of its first node. Assumes nothing.
use Rattle.std.specs.Prelude.{ℕ, ◌≡◌, refl, Bool, false, List, Some}
use Rattle.std.proofs.Common.{sym, subst}
use Rattle.rows.specs.Words.{ignoring_case}
use Rattle.reader.specs.Nodes.{Nodes, none}
use Rattle.type_nodes.specs.Nodes.{next, shape, node_identifier}
use Rattle.type_nodes.specs.Stands.{Stands, NodesStand, Finds}
use Rattle.type_nodes.specs.Laws.Siblings.{first, there}
use Rattle.type_nodes.specs.declared.nodes.Node.{Node}
use Rattle.structure.specs.FortranTypes.{fortran_head, validate_fortran_type_head}

pub no_head : (kinds words : List ℕ) (x : Nodes) → x ≡ none → false ≡ validate_fortran_type_head kinds words x
unfolding validate_fortran_type_head fortran_head shape
no_head kinds words x e = sym (rw (e) refl)

module _ {tree kinds : List ℕ} {at to : ℕ} {d : Node} where
  -- What stands after the node that was found.
  pub after_found : (x : Nodes) → Stands tree kinds at to x → Finds kinds at (Some d) x → Stands tree kinds d.next to (next x)
  after_found x s f = subst (λ (u : ℕ). Stands tree kinds u to (next x)) (sym f.3) (first s (there s f.0)).rest

  pub formed_after : (f : NodesStand tree kinds at to) → Finds kinds at (Some d) f.nodes → NodesStand tree kinds d.next to
  formed_after f g = record { nodes = next f.nodes; stands = after_found f.nodes f.stands g; room = f.room; few = f.few }

pub head_there : (kinds words : List ℕ) (x : Nodes) {s w r v a b : ℕ} {h : Bool} → h ≡ fortran_head s w r v → s ≡ shape kinds x → w ≡ ignoring_case a
    → a ≡ node_identifier kinds words x → r ≡ shape kinds (next x) → v ≡ ignoring_case b → b ≡ node_identifier kinds words (next x)
    → h ≡ validate_fortran_type_head kinds words x
unfolding validate_fortran_type_head
head_there kinds words x h s w a r v b = rw (h, s, w, a, r, v, b)
