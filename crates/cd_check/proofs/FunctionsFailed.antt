-- What the check of a function of the code reports is a fault of it.
use Rattle.std.proofs.Common.{◌≡◌, ◌<◌, ℕ, List, length, get_or, sym, subst}
use Rattle.cd_sets.specs.declared.node_id.NodeId.{NodeId}
use Rattle.cd_model.specs.Formula.{Graph}
use Rattle.cd_model.specs.Thing.{Thing}
use Rattle.cd_program.specs.Expr.{FunctionTree}
use Rattle.cd_program.specs.PlainExpr.{plain_branches, plain_function, plain_interface}
use Rattle.cd_program.specs.declared.expr.FunctionTree.{FunctionTree as CodeFunction}
use Rattle.cd_program.specs.declared.expr.ExprKind.TheViews.{out-FunctionTree}
use Rattle.cd_typing.specs.Later.{IsLater}
use Rattle.cd_resolved.specs.declared.function_nodes.FunctionNodes.{FunctionNodes}
use Rattle.cd_check.specs.declared.base.Base.{Base}
use Rattle.cd_check.specs.declared.fault.CheckError.{CheckError}
use Rattle.cd_check.specs.Inner.Environment.{Nodes, with_node}
use Rattle.cd_check.specs.Inner.Failing.{ArrowFails, PromiseFails}
use Rattle.cd_check.specs.Inner.Known.{Fails}
use Rattle.cd_check.specs.Inner.Promises.{HasPromise}
use Rattle.cd_check.specs.Inner.Ready.{IsReady, scope_of, seen_by}
use Rattle.cd_check.proofs.FunctionFaults.{ArrowFault, arrow_at_fault}
use Rattle.cd_check.proofs.FunctionsKept.{seen_named}
use Rattle.cd_check.proofs.ProgramViews.{function_is}

-- of its branches for one of its arrows, where they see its own name
pub promise_failed : (base : Base) (old later : Graph) → IsLater old later → (locals : Nodes) → IsReady base old locals → (inner : Nodes)
    → (one : CodeFunction) (promise : FunctionNodes) → inner ≡ with_node (out-FunctionTree one).name promise.whole locals
    → HasPromise (scope_of base) old (plain_function one) promise.arrows.items promise.whole
    → (items : List (NodeId × NodeId)) → items ≡ promise.arrows.items → (index : ℕ) (arrow : NodeId × NodeId)
    → arrow ≡ get_or items index arrow → index < length items → (table : List Thing) (error : CheckError)
    → ArrowFails base later inner table (out-FunctionTree one).at (plain_branches (out-FunctionTree one).branches) arrow error
    → PromiseFails base old locals table (plain_function one) error
promise_failed base old later is locals ready inner one promise same has items are index arrow at more table error fails =
    let f = out-FunctionTree one in
    subst (λ (tree : FunctionTree). PromiseFails base old locals table tree error) (sym (function_is one))
    (arrow_at_fault (scope_of base) old later is ready.sound (seen_by base locals) ready.nodes table f.at f.name f.name_at
    (plain_interface f.interface) (plain_branches f.branches) items promise.whole
    (subst (λ (tree : FunctionTree). HasPromise (scope_of base) old tree items promise.whole) (function_is one)
    (subst (λ (arrows : List (NodeId × NodeId)). HasPromise (scope_of base) old (plain_function one) arrows promise.whole) (sym are) has))
    index arrow at more error
    (subst (λ (nodes : Nodes). Fails later nodes table (ArrowFault (scope_of base) later f.at (plain_branches f.branches) arrow) error)
    (seen_named base locals f.name promise.whole inner same) fails))
