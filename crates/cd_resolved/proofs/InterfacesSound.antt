-- The interface of a function of the code, that it is written well, and that its arrows are between nodes.
use Rattle.std.proofs.Common.{◌≡◌, List, [], ◌∷◌, inl, inr, refl, sym, ap, subst}
use Rattle.cd_sets.specs.declared.node_id.NodeId.{NodeId}
use Rattle.cd_syntax.specs.TypeTree.{Tree, Declarations}
use Rattle.cd_syntax.specs.WellMadePattern.{IsWellMadePattern}
use Rattle.cd_model.specs.AllOf.{AllOf}
use Rattle.cd_model.specs.Formula.{Graph}
use Rattle.cd_model.specs.Scope.{Scope}
use Rattle.cd_program.specs.Expr.{Signature, function}
use Rattle.cd_program.specs.PlainExpr.{plain_function, plain_branches, plain_interface}
use Rattle.cd_program.specs.PlainExpr.{kind_layer, item_layer, tail_layer, branch_layer, branches_layer, expr_layer, exprs_layer}
use Rattle.cd_program.specs.PlainExpr.{field_layer, fields_layer, function_layer, items_layer, tails_layer}
use Rattle.cd_program.specs.WellMade.{AreWellMadeSignatures}
use Rattle.cd_program.specs.declared.expr.FunctionTree.{FunctionTree as CodeFunction, fold_out-FunctionTree}
use Rattle.cd_program.specs.declared.expr.ExprKind.TheViews.{out-FunctionTree}
use Rattle.cd_resolve.specs.Faults.{Fault, IsFaultOfType}
use Rattle.cd_resolve.proofs.TypesArePatterns.{type_is_pattern}
use Rattle.cd_variables.specs.VariableFaults.{IsOneIn}
use Rattle.cd_names.specs.Arrows.{AreArrows}
use Rattle.cd_names.specs.ProgramFaults.{arrow_types, function_types}
use Rattle.cd_evaluation.specs.ProgramInterfaces.{interface_of}
use Rattle.cd_meet.specs.Meets.{AreNodes}
use Rattle.cd_resolved.specs.Inner.SoundInterfaces.{HasSoundInterface}

-- the types of a sound interface
module _ (types : Declarations) where
  abbrev IsFaultless : Tree → Type 0
  IsFaultless is = (fault : Fault) → IsFaultOfType types is fault → ⊥

  each_faultless : (all : List Tree) → ((t : Tree) (fault : Fault) → IsOneIn t all → IsFaultOfType types t fault → ⊥)
      → AllOf IsFaultless all
  each_faultless [] none = tt
  each_faultless (t ∷ all) none =
      (λ fault is. none t fault (inl refl) is, each_faultless all (λ other fault one is. none other fault (inr one) is))

types_made : (interface : List Signature) → AreWellMadeSignatures interface → AllOf IsWellMadePattern (arrow_types interface)
types_made [] made = tt
types_made (one ∷ rest) made = (type_is_pattern one.takes made.0, (type_is_pattern one.gives made.1, types_made rest made.2))

function_is : (one : CodeFunction) → plain_function one ≡ function (out-FunctionTree one).at (out-FunctionTree one).name
    (out-FunctionTree one).name_at (plain_interface (out-FunctionTree one).interface) (plain_branches (out-FunctionTree one).branches)
function_is = fold_out-FunctionTree _ _ _ _ _ _ _ _ _ _ _ _
    kind_layer item_layer tail_layer branch_layer branches_layer expr_layer exprs_layer field_layer fields_layer
    function_layer items_layer tails_layer

interface_is : (one : CodeFunction) → interface_of (plain_function one) ≡ plain_interface (out-FunctionTree one).interface
interface_is one = ap interface_of (function_is one)

module _ (types : Declarations) (one : CodeFunction) (sound : HasSoundInterface types (plain_function one)) where
  pub well_made : AllOf IsWellMadePattern (arrow_types (plain_interface (out-FunctionTree one).interface))
  well_made = types_made (plain_interface (out-FunctionTree one).interface)
      (subst AreWellMadeSignatures (interface_is one) sound.well_made)

  pub faultless : AllOf (IsFaultless types) (arrow_types (plain_interface (out-FunctionTree one).interface))
  faultless = each_faultless types (arrow_types (plain_interface (out-FunctionTree one).interface))
      (subst (λ all. (t : Tree) (fault : Fault) → IsOneIn t all → IsFaultOfType types t fault → ⊥)
      (ap function_types (function_is one)) sound.sound)

-- and its arrows, in an equal graph
pub arrows_of_function : (scope : Scope) (one : CodeFunction) (graph new : Graph) → new ≡ graph → (arrows : List (NodeId × NodeId))
    → AreArrows scope graph (plain_interface (out-FunctionTree one).interface) arrows
    → AreArrows scope new (interface_of (plain_function one)) arrows
arrows_of_function scope one graph new same arrows are =
    subst (λ interface. AreArrows scope new interface arrows) (sym (interface_is one))
    (subst (λ g. AreArrows scope g (plain_interface (out-FunctionTree one).interface) arrows) (sym same) are)

-- arrows that stand for those of an interface are between nodes
pub written_are_nodes : (scope : Scope) (graph : Graph) (interface : List Signature) (arrows : List (NodeId × NodeId))
    → AreArrows scope graph interface arrows → AreNodes graph arrows
written_are_nodes scope graph [] [] are = tt
written_are_nodes scope graph [] (arrow ∷ arrows) are = absurd are
written_are_nodes scope graph (one ∷ rest) [] are = absurd are
written_are_nodes scope graph (one ∷ rest) (arrow ∷ arrows) are =
    ((are.0.is_node, are.1.is_node), written_are_nodes scope graph rest arrows are.2)
