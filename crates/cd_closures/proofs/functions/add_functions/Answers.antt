use Rattle.std.proofs.Common.{◌∙◌, ◌+◌, ◌<◌, ◌∷◌, drop, length, map, subst, sym}
use Rattle.cd_model.specs.AllOf.{AllOf}
use Rattle.cd_model.specs.Formula.{Graph}
use Rattle.cd_empty.specs.Seen.{graph_of}
use Rattle.cd_empty.proofs.GrowingWorlds.{and_further}
use Rattle.cd_resolved.specs.Resolved.{function_of}
use Rattle.cd_closures.specs.Inner.Asked.{IsAsked}
use Rattle.cd_closures.specs.Inner.Ready.{AddsFunctions}
use Rattle.cd_closures.specs.Inner.Wholes.{HasWhole}
use Rattle.cd_closures.proofs.FunctionsAdded.{of_item, functions_further, functions_end}
use Rattle.cd_closures.proofs.functions.add_functions.Goals as goal

pub add_function-requires-clause-asked : goal.add_function-requires-clause-asked
add_function-requires-clause-asked c =
    subst (λ (g : Graph). AllOf (IsAsked g) c.args.asked.now) (sym c.loop-function.invariant.graph) c.requires.asked

pub add_function-requires-clause-whole : goal.add_function-requires-clause-whole
add_function-requires-clause-whole c = subst (λ (g : Graph). c.function-item.result.whole.0 < length g) (sym c.loop-function.invariant.graph)
    (of_item (λ one. one.whole.0 < length (graph_of c.args.world.now)) c.args.functions.now c.loop-function.function-index c.function-item.result
    c.loop-function-test.true c.function-item.is c.requires.wholes)

pub loop-function-preserved : goal.loop-function-preserved
loop-function-preserved c =
    let before = c.loop-function.invariant in
    let made = c.in_ok-add_function.ensures in
    let functions = c.args.functions.now in
    let index = c.loop-function.function-index in
    let one = c.function-item.result in
    let left = map function_of (drop (index + 1) functions) in record {
      table = λ scope wholes. functions_further (graph_of c.args.world.now) scope c.args.asked.now functions c.args.maps.now index one
          c.loop-function-test.true c.function-item.is c.loop-function.maps c.add_function.new.maps (before.table scope wholes)
          (subst (λ (g : Graph). AddsFunctions g scope c.args.asked.now (function_of one ∷ left) left c.loop-function.maps c.add_function.new.maps)
          before.graph (made.table scope left (subst (λ (g : Graph). HasWhole scope g one) (sym before.graph)
          (of_item (HasWhole scope (graph_of c.args.world.now)) functions index one c.loop-function-test.true c.function-item.is wholes))));
      none = made.none;
      graph = made.graph ∙ before.graph;
      grows = and_further c.args.world.now c.loop-function.world c.add_function.new.world before.grows made.grows;
    }

pub returns-clause-table : goal.returns-clause-table
returns-clause-table c = λ scope wholes. functions_end (graph_of c.args.world.now) scope c.args.asked.now c.args.functions.now c.args.maps.now
    c.loop-function.function-index c.loop-function-test.false c.loop-function.maps (c.loop-function.invariant.table scope wholes)
