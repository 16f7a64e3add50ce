use Rattle.std.proofs.Common.{List, [], map, sym, subst}
use Rattle.cd_model.specs.AllOf.{AllOf}
use Rattle.cd_model.specs.BuiltIns.{ARROW}
use Rattle.cd_model.specs.Formula.{Graph}
use Rattle.cd_typing.specs.Typed.{scope_of}
use Rattle.cd_empty.specs.Seen.{graph_of}
use Rattle.cd_empty.proofs.GrowingWorlds.{and_further}
use Rattle.cd_resolved.specs.Resolved.{program_of, asked_graph, function_nodes, function_of}
use Rattle.cd_resolved.specs.declared.function_nodes.FunctionNodes.{FunctionNodes}
use Rattle.cd_closures.specs.Inner.Ready.{AddsFunctions}
use Rattle.cd_closures.specs.Inner.Wholes.{HasWhole}
use Rattle.cd_closures.proofs.MapsMade.{asked_grown, table_made}
use Rattle.cd_closures.proofs.WholesHold.{none_is_whole}
use Rattle.cd_closures.proofs.WholesKnown.{wholes_of_program}
use Rattle.cd_closures.proofs.maps.maps_by.Goals as goal

pub returns-in_err-add_functions-clause-grows : goal.returns-in_err-add_functions-clause-grows
returns-in_err-add_functions-clause-grows c = and_further c.args.world.now c.add_entries.new.world c.add_functions.new.world
    c.in_ok-add_entries.ensures.grows c.add_functions.ensures.grows

pub returns-clause-grows : goal.returns-clause-grows
returns-clause-grows c = and_further c.args.world.now c.add_entries.new.world c.add_functions.new.world
    c.in_ok-add_entries.ensures.grows c.in_ok-add_functions.ensures.grows

pub returns-clause-right : goal.returns-clause-right
returns-clause-right c =
    let program = c.args.program.now in
    let before = graph_of c.args.world.now in
    let extends = c.requires.begins in
    table_made (asked_graph program) before c.requires.resolved.asked_sound (asked_grown program c.requires.resolved before extends)
    c.args.asked.now c.requires.arrows (program_of program) ARROW
    (none_is_whole (scope_of (program_of program)) before c.graph.ensures.built_in.0 c.graph.ensures.built_in.1)
    c.new-maps.result c.add_entries.new.maps c.add_functions.new.maps c.new-maps.ensures c.in_ok-add_entries.ensures.added
    (map function_of (function_nodes program)) c.requires.resolved.functions
    (subst (λ (g : Graph). AddsFunctions g (scope_of (program_of program)) c.args.asked.now (map function_of (function_nodes program)) []
    c.add_entries.new.maps c.add_functions.new.maps) c.in_ok-add_entries.ensures.graph
    (subst (λ (all : List FunctionNodes). AddsFunctions (graph_of c.add_entries.new.world) (scope_of (program_of program)) c.args.asked.now (map function_of all) []
    c.add_entries.new.maps c.add_functions.new.maps) c.interfaces.ensures
    (c.in_ok-add_functions.ensures.table (scope_of (program_of program))
    (subst (λ (g : Graph). AllOf (HasWhole (scope_of (program_of program)) g) c.interfaces.result.now) (sym c.in_ok-add_entries.ensures.graph)
    (subst (λ (all : List FunctionNodes). AllOf (HasWhole (scope_of (program_of program)) before) all) (sym c.interfaces.ensures)
    (wholes_of_program program c.requires.resolved before extends c.graph.ensures.built_in.0 c.graph.ensures.built_in.1))))))
