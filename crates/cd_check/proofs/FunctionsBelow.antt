-- What is in all arrows of a function is within each type that the function has.
use Rattle.std.proofs.Common.{List}
use Rattle.cd_sets.specs.declared.node_id.NodeId.{NodeId}
use Rattle.cd_model.specs.Formula.{Graph, IsGraph}
use Rattle.cd_model.specs.Scope.{Scope}
use Rattle.cd_program.specs.Expr.{FunctionTree, function, Function}
use Rattle.cd_typing.specs.Later.{IsLater}
use Rattle.cd_typing.specs.Typ.{typ}
use Rattle.cd_typing.specs.Typing.{KindHas}
use Rattle.cd_least.proofs.LeastForms.{function_least}
use Rattle.cd_check.specs.Inner.Environment.{Nodes}
use Rattle.cd_check.specs.Inner.Known.{IsBelow}
use Rattle.cd_check.specs.Inner.Promises.{arrows_in, HasPromise}
use Rattle.cd_check.proofs.PromisesKept.{promise_later}

-- the interface is read in a first graph, and the node is asked for in a last one
pub function_below : (scope : Scope) (old : Graph) (nodes : Nodes) (first last : Graph) → IsLater first last → IsGraph first → (f : FunctionTree)
    → (arrows : List (NodeId × NodeId)) (whole : NodeId) → HasPromise scope first f arrows whole
    → IsBelow old nodes last (λ types t. KindHas scope types (Function f) t) whole
function_below scope old nodes first last is sound (function here name name_at interface branches) arrows whole promise types of t is_type has =
    let later = promise_later first last is sound scope interface arrows whole promise in
    function_least scope types here name name_at interface branches (arrows_in last arrows) (typ last whole) later.written later.is_whole t has
