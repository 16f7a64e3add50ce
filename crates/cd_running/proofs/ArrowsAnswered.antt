-- What is answered of the arrows of an interface, one after the other.
use Rattle.std.proofs.Common.{◌≡◌, ◌<◌, length, Bool, true, false, List, ◌∷◌, [], inl, inr, sym, subst}
use Rattle.cd_sets.specs.declared.node_id.NodeId.{NodeId}
use Rattle.cd_model.specs.AllOf.{AllOf, AnyOf}
use Rattle.cd_model.specs.Formula.{Graph}
use Rattle.cd_model.specs.Scope.{Scope}
use Rattle.cd_model.specs.Thing.{Thing}
use Rattle.cd_model.specs.Written.{in_written}
use Rattle.cd_matching.specs.WrittenPattern.{in_scope}
use Rattle.cd_program.specs.Expr.{Signature, FunctionTree, Program}
use Rattle.cd_names.specs.Arrows.{AreArrows}
use Rattle.cd_typing.specs.Typed.{scope_of}
use Rattle.cd_evaluation.specs.ProgramInterfaces.{interface_of}
use Rattle.cd_safety.specs.SafeProgram.{IsDocument}
use Rattle.cd_running.specs.Inner.ArrowsLeft.{AreLeft}
use Rattle.cd_running.specs.Inner.Inputs.{AnswersAt, AnswersAtArguments, AnswersAsInput, TakeNodes}
use Rattle.cd_running.proofs.DocumentsIn.{in_type}

module _ (graph : Graph) (d : Thing) where
  pub all_left : (all : List (NodeId × NodeId)) → TakeNodes graph all → AreLeft graph d all all
  all_left all are = record { nodes = are; yes = λ is. is; no = λ is. is }

  module _ (all left : List (NodeId × NodeId)) (are : AreLeft graph d all left) where
    module _ (one : NodeId × NodeId) (rest : List (NodeId × NodeId)) (is : left ≡ one ∷ rest) where
      pub first_node : one.0.0 < length graph
      first_node = (subst (TakeNodes graph) is are.nodes).0

      pub first_answers : AnswersAt graph d one.0 true → AnswersAtArguments graph d all true
      first_answers inside = are.yes (subst (λ arrows. AnswersAtArguments graph d arrows true) (sym is) (inl inside))

      pub rest_left : AnswersAt graph d one.0 false → AreLeft graph d all rest
      rest_left outside = record {
        nodes = (subst (TakeNodes graph) is are.nodes).1;
        yes = λ inside. are.yes (subst (λ arrows. AnswersAtArguments graph d arrows true) (sym is) (inr inside));
        no = λ others. are.no (subst (λ arrows. AnswersAtArguments graph d arrows false) (sym is) (outside, others));
      }

    -- none is left
    pub none_left : left ≡ [] → AnswersAtArguments graph d all false
    none_left is = are.no (subst (λ arrows. AnswersAtArguments graph d arrows false) (sym is) tt)

-- what the arrows of an interface take are nodes
pub arrows_take_nodes : (scope : Scope) (graph : Graph) (interface : List Signature) (arrows : List (NodeId × NodeId))
    → AreArrows scope graph interface arrows → TakeNodes graph arrows
arrows_take_nodes scope graph [] [] are = tt
arrows_take_nodes scope graph [] (arrow ∷ arrows) are = absurd are
arrows_take_nodes scope graph (one ∷ rest) [] are = absurd are
arrows_take_nodes scope graph (one ∷ rest) (arrow ∷ arrows) are = (are.0.is_node, arrows_take_nodes scope graph rest arrows are.2)

-- a document is in the arguments of an interface as it is in the nodes that stand for them
module _ (scope : Scope) (graph : Graph) (d : Thing) (is : IsDocument d) where
  inside : (interface : List Signature) (arrows : List (NodeId × NodeId)) → AreArrows scope graph interface arrows
      → AnyOf (λ arrow. AnswersAt graph d arrow.0 true) arrows → AnyOf (λ arrow. in_written d (in_scope scope arrow.takes) true) interface
  inside [] [] are there = absurd there
  inside [] (arrow ∷ arrows) are there = absurd are
  inside (one ∷ rest) [] are there = absurd there
  inside (one ∷ rest) (arrow ∷ arrows) are (inl answers) = inl (in_type graph arrow.0 (in_scope scope one.takes) d is are.0 true answers)
  inside (one ∷ rest) (arrow ∷ arrows) are (inr there) = inr (inside rest arrows are.2 there)

  outside : (interface : List Signature) (arrows : List (NodeId × NodeId)) → AreArrows scope graph interface arrows
      → AllOf (λ arrow. AnswersAt graph d arrow.0 false) arrows → AllOf (λ arrow. in_written d (in_scope scope arrow.takes) false) interface
  outside [] [] are none = tt
  outside [] (arrow ∷ arrows) are none = absurd are
  outside (one ∷ rest) [] are none = absurd are
  outside (one ∷ rest) (arrow ∷ arrows) are none =
      (in_type graph arrow.0 (in_scope scope one.takes) d is are.0 false none.0, outside rest arrows are.2 none.1)

-- an answer at the arrows of a function is one of the program whose `main` it is
pub as_input : (program : Program) (graph : Graph) (d : Thing) → IsDocument d → (f main : FunctionTree) → f ≡ main
    → (arrows : List (NodeId × NodeId)) → AreArrows (scope_of program) graph (interface_of f) arrows → (answer : Bool)
    → AnswersAtArguments graph d arrows answer → AnswersAsInput program main d answer
as_input program graph d is f main same arrows are true there =
    subst (λ m. AnswersAsInput program m d true) same (inside (scope_of program) graph d is (interface_of f) arrows are there)
as_input program graph d is f main same arrows are false none =
    subst (λ m. AnswersAsInput program m d false) same (outside (scope_of program) graph d is (interface_of f) arrows are none)
