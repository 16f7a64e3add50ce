-- Functions whose arrows are types: those whose arrows are nodes of a sound graph, those whose written arrows agree with such nodes, and
-- those whose written arrows stand for types.
use Rattle.std.proofs.Common.{◌≡◌, ◌<◌, ◌≤◌, ℕ, List, [], ◌∷◌, ◌++◌, map, length}
use Rattle.cd_sets.specs.declared.node_id.NodeId.{NodeId}
use Rattle.cd_syntax.specs.TypeTree.{Tree}
use Rattle.cd_model.specs.AllOf.{AllOf}
use Rattle.cd_model.specs.BuiltIns.{built_ins}
use Rattle.cd_model.specs.Formula.{Graph, IsGraph, nodes}
use Rattle.cd_model.specs.Guarded.{NamesAreGuarded}
use Rattle.cd_model.specs.Interfaces.{ArrowOf, Interfaces, OfNodes, OfWritten, ArrowsAgree}
use Rattle.cd_model.specs.Scope.{Scope}
use Rattle.cd_model.specs.Thing.{Thing}
use Rattle.cd_model.specs.Written.{WrittenType, type_of, number_of_names, written}
use Rattle.cd_model.proofs.BothWays.{itself, turned, through}
use Rattle.cd_model.proofs.Closures.{every_closure}
use Rattle.cd_model.proofs.NamesAlike.{enough_for_elements}
use Rattle.cd_matching.specs.WrittenPattern.{in_scope}
use Rattle.cd_program.specs.Expr.{Signature}
use Rattle.cd_evaluation.specs.ProgramInterfaces.{written_arrow}
use Rattle.cd_typing.specs.Interfaces.{Arrow, IsWritten, AreWritten}
use Rattle.cd_typing.specs.Typ.{Typ, typ, IsType}
use Rattle.cd_safety.specs.OfInterface.{SameElements, AreArrowsAt, HasArrows, HaveArrows}

-- where each function has arrows, each closure does
pub all_have_arrows : (interfaces : Interfaces) → ((function : ℕ) → HasArrows interfaces function) → (v : Thing) → HaveArrows interfaces v
all_have_arrows interfaces each v = every_closure (HasArrows interfaces) each v

module _ (graph more : Graph) (begins : graph ≡ built_ins ++ more) (sound : IsGraph graph) where
  abbrev AreNodes : List (ArrowOf NodeId) → Type 0
  AreNodes ids = AllOf (λ arrow. (arrow.argument.0 < length graph) × (arrow.result.0 < length graph)) ids

  abbrev arrow_of : ArrowOf NodeId → Arrow
  arrow_of ids = record { argument = typ graph ids.argument; result = typ graph ids.result }

  node_is : (id : NodeId) → id.0 < length graph → IsType (typ graph id)
  node_is id below = record { more = more; begins = begins; sound = sound; is_node = below }

  arrows_of_nodes : (ids : List (ArrowOf NodeId)) → AreNodes ids → AreArrowsAt (nodes graph) ids (map arrow_of ids)
  arrows_of_nodes [] are = tt
  arrows_of_nodes (arrow ∷ ids) are = (
    record {
      argument_is = node_is arrow.argument are.0.0;
      result_is = node_is arrow.result are.0.1;
      argument = λ e answer element. itself;
      result = λ e answer element. itself;
    },
    arrows_of_nodes ids are.1,
  )

  pub nodes_have_arrows : (arrows : ℕ → List (ArrowOf NodeId)) (function : ℕ) → AreNodes (arrows function)
      → HasArrows (OfNodes graph arrows) function
  nodes_have_arrows arrows function are = (map arrow_of (arrows function), arrows_of_nodes (arrows function) are)

  arrows_agree : (count : ℕ) (ids : List (ArrowOf NodeId)) (others : List (ArrowOf WrittenType)) → AreNodes ids
      → ArrowsAgree graph count ids others → AreArrowsAt (written count) others (map arrow_of ids)
  arrows_agree count [] [] are agree = tt
  arrows_agree count [] (other ∷ others) are agree = absurd agree
  arrows_agree count (arrow ∷ ids) [] are agree = absurd agree
  arrows_agree count (arrow ∷ ids) (other ∷ others) are agree = (
    record {
      argument_is = node_is arrow.argument are.0.0;
      result_is = node_is arrow.result are.0.1;
      argument = λ e answer element. turned (agree.0 e answer element);
      result = λ e answer element. turned (agree.1 e answer element);
    },
    arrows_agree count ids others are.1 agree.2,
  )

  pub agreeing_have_arrows : (count : ℕ) (arrows : ℕ → List (ArrowOf NodeId)) (others : ℕ → List (ArrowOf WrittenType)) (function : ℕ)
      → AreNodes (arrows function) → ArrowsAgree graph count (arrows function) (others function)
      → HasArrows (OfWritten count others) function
  agreeing_have_arrows count arrows others function are agree =
      (map arrow_of (arrows function), arrows_agree count (arrows function) (others function) are agree)

-- written arrows in a scope
module _ (scope : Scope) (count : ℕ) where
  -- names of a written type are guarded, and no more than can be used up
  abbrev IsEnough : Tree → Type 0
  IsEnough is = NamesAreGuarded (in_scope scope is) × (number_of_names (in_scope scope is) ≤ count)

  abbrev pub AreEnough : List Signature → Type 0
  AreEnough signatures = AllOf (λ signature. IsEnough signature.takes × IsEnough signature.gives) signatures

  same_elements : (is : Tree) (t : Typ) → IsEnough is → IsWritten scope is t → SameElements (written count) (type_of (in_scope scope is)) t
  same_elements is t enough stands e answer element =
      through (turned (enough_for_elements (in_scope scope is) enough.0 count e answer enough.1))
      (turned (stands.1.elements e answer element))

  pub written_arrows : (signatures : List Signature) (arrows : List Arrow) → AreEnough signatures → AreWritten scope signatures arrows
      → AreArrowsAt (written count) (map (written_arrow scope) signatures) arrows
  written_arrows [] [] enough are = tt
  written_arrows [] (arrow ∷ arrows) enough are = absurd are
  written_arrows (signature ∷ signatures) [] enough are = absurd are
  written_arrows (signature ∷ signatures) (arrow ∷ arrows) enough are = (
    record {
      argument_is = are.0.0;
      result_is = are.1.0;
      argument = same_elements signature.takes arrow.argument enough.0.0 are.0;
      result = same_elements signature.gives arrow.result enough.0.1 are.1;
    },
    written_arrows signatures arrows enough.1 are.2,
  )
