-- Whether a document is in the argument of an arrow of `main`: what the parts of the code answer.
use Rattle.std.specs.Prelude.{Bool, true, false, ◌<◌, List, length}
use Rattle.cd_sets.specs.declared.node_id.NodeId.{NodeId}
use Rattle.cd_model.specs.AllOf.{AllOf, AnyOf}
use Rattle.cd_model.specs.Formula.{Graph}
use Rattle.cd_model.specs.Interfaces.{Interfaces, value_in_node}
use Rattle.cd_model.specs.Thing.{Thing}
use Rattle.cd_program.specs.Expr.{FunctionTree, Program}
use Rattle.cd_running.specs.Input.{IsInput, IsNoInput}

-- what each arrow takes is a node
abbrev pub TakeNodes : Graph → List (NodeId × NodeId) → Type 0
TakeNodes graph arrows = AllOf (λ arrow. arrow.0.0 < length graph) arrows

-- what a document answers at a node, whatever the interfaces of functions are
abbrev pub AnswersAt : Graph → Thing → NodeId → Bool → Type 0
AnswersAt graph document id answer =
    (interfaces : Interfaces) → value_in_node graph interfaces document id answer

-- yes only where it is in what one of these takes, and no only where it is in what none takes
abbrev pub AnswersAtArguments : Graph → Thing → List (NodeId × NodeId) → Bool → Type 0
AnswersAtArguments graph document arrows true =
    AnyOf (λ arrow. AnswersAt graph document arrow.0 true) arrows
AnswersAtArguments graph document arrows false =
    AllOf (λ arrow. AnswersAt graph document arrow.0 false) arrows

abbrev pub AnswersAsInput : Program → (main : FunctionTree) → Thing → Bool → Type 0
AnswersAsInput program main document true = IsInput program main document
AnswersAsInput program main document false = IsNoInput program main document
