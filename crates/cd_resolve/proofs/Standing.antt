-- A node stands for the type whose equations it has, in a graph that solves them.
use Rattle.std.proofs.Common.{ℕ, ◌<◌, List, length, refl, arith}
use Rattle.cd_sets.specs.declared.node_id.NodeId.{NodeId}
use Rattle.cd_syntax.specs.Name.{Name}
use Rattle.cd_syntax.specs.TypeTree.{Tree}
use Rattle.cd_model.specs.Formula.{Graph}
use Rattle.cd_model.specs.Guarded.{NamesAreGuarded}
use Rattle.cd_model.specs.Scope.{Scope, names_seen}
use Rattle.cd_model.specs.StandsFor.{StandsFor}
use Rattle.cd_model.specs.Written.{Written, kind_of, number_of_names}
use Rattle.cd_model.proofs.NamesAlike.{IsOfType, all_seen}
use Rattle.cd_resolve.specs.Inner.Names.{node_of}
use Rattle.cd_shared.specs.Equation.{Equations}
use Rattle.cd_resolve.specs.Inner.Equates.{Equates, AllEquated}
use Rattle.cd_resolve.specs.Inner.ScopeLevels.{ScopeLevels, scope_of}
use Rattle.cd_resolve.specs.Inner.Solves.{Solves}
use Rattle.cd_resolve.proofs.BuiltInNodes.{Begins}
use Rattle.cd_resolve.proofs.FormsOfNodes.{forms}
use Rattle.cd_resolve.proofs.KnownNames.{IsGiven}
use Rattle.cd_resolve.proofs.NodesOfTypes.{of_tree, Stands, placed}
use Rattle.cd_model.proofs.Resolved.{stands_by_forms}

module _ (first : ℕ) (names : List (Name × NodeId)) (equations : Equations) (base : Scope) (levels : ScopeLevels)
    (is : Tree) (root : NodeId) (around : AllEquated first equations names levels)
    (equates : Equates first equations names levels is root) where
  abbrev pub type : Written
  type = record { scope = scope_of base levels; tree = is }

  -- where each name is given a node, or is not declared outside of the lists
  pub stands : NamesAreGuarded type → (graph : Graph) → Begins graph → root.0 < length graph
      → Solves graph first equations
      → ((name : Name) → IsGiven graph (number_of_names type) base name (node_of names name))
      → StandsFor graph root type
  stands guarded graph begins is_node solves given = stands_by_forms graph
      (Stands first equations names base (IsOfType type)) (number_of_names type)
      (forms graph first equations names base (IsOfType type) (λ is seen. seen.0) (names_seen type.scope type.tree)
      (λ is seen. seen.1) (number_of_names type) (omega arith) solves begins given)
      root type refl (placed levels (kind_of is) root
      (record {
        around = around;
        equates = of_tree first equations names levels is root equates;
        covered = (all_seen type guarded).covered;
      }))
      is_node begins
