use Rattle.std.proofs.Common.{◌≡◌, ◌∙◌, List, map, ap, sym, subst}
use Rattle.cd_model.specs.AllOf.{AllOf}
use Rattle.cd_program.specs.Expr.{FunctionTree}
use Rattle.cd_program.specs.PlainExpr.{plain_function}
use Rattle.cd_evaluation.specs.ProgramFunctions.{all_functions}
use Rattle.cd_resolved.specs.Resolved.{function_of}
use Rattle.cd_resolved.specs.declared.function_nodes.FunctionNodes.{FunctionNodes}
use Rattle.cd_check.specs.Inner.Promises.{IsPromised, HasPromise}
use Rattle.cd_check.specs.Inner.Ready.{program_of}
use Rattle.cd_check.proofs.AtNumbers.{is_within, gives}
use Rattle.cd_check.proofs.NextOne.{one_at}
use Rattle.cd_check.proofs.nodes.nodes_of.Goals as goal
use Rattle.cd_check.proofs.nodes.nodes_of.Goals.{After-interfaces-all}

-- the functions that have nodes are all functions
functions_are : (c : After-interfaces-all) → map function_of c.interfaces-all.result.now ≡ all_functions (program_of c.args.base.now)
functions_are c = ap (λ (all : List FunctionNodes). map function_of all) c.interfaces-all.ensures ∙ c.requires.resolved.functions

pub returns : goal.returns
returns c = λ scope graph promised.
    let one = c.index-all-number.result in
    let are = functions_are (goal.at.returns c).After-interfaces-all in
    subst (λ (f : FunctionTree). HasPromise scope graph f one.arrows.items one.whole)
    (gives function_of c.interfaces-all.result.now (all_functions (program_of c.args.base.now)) are c.function_number-number.result
    (plain_function c.args.function.now) c.function_number-number.ensures one c.index-all-number.is)
    (one_at (IsPromised scope graph) c.interfaces-all.result.now c.function_number-number.result one c.index-all-number.is
    (is_within function_of c.interfaces-all.result.now (all_functions (program_of c.args.base.now)) are c.function_number-number.result
    (plain_function c.args.function.now) c.function_number-number.ensures)
    (subst (λ (all : List FunctionNodes). AllOf (IsPromised scope graph) all) (sym c.interfaces-all.ensures) promised))
