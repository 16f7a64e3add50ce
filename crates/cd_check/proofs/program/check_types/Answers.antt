use Rattle.std.proofs.Common.{◌≡◌, ◌∙◌, List, map, ap, sym, subst}
use Rattle.std.proofs.lemmas.Result.{err_from_is_err_and}
use Rattle.cd_syntax.specs.TypeTree.{Tree}
use Rattle.cd_sets.specs.declared.node_id.NodeId.{NodeId}
use Rattle.cd_model.specs.AllOf.{AllOf}
use Rattle.cd_model.specs.Formula.{Graph}
use Rattle.cd_program.specs.Expr.{Program}
use Rattle.cd_empty.specs.Seen.{graph_of, table_of}
use Rattle.cd_empty.proofs.GrowingWorlds.{and_further}
use Rattle.cd_typing.specs.Typed.{scope_of as scope_of_program}
use Rattle.cd_typing.proofs.Later.{later_still}
use Rattle.cd_typing.proofs.TypesKept.{typed_within}
use Rattle.cd_matched.specs.Accepted.{AreAccepted}
use Rattle.cd_placed.specs.Patterns.{all_patterns}
use Rattle.cd_resolved.specs.Resolved.{Extends, function_nodes, program_of as program_in}
use Rattle.cd_check.specs.declared.base.Base.{Base}
use Rattle.cd_check.specs.declared.sites.Sited.{Sited}
use Rattle.cd_check.specs.Inner.Divided.{AreSited, sited_pattern, accepted_root}
use Rattle.cd_check.proofs.Divided.{all_sited_later}
use Rattle.cd_check.proofs.PatternsAccepted.{all_accepted}
use Rattle.cd_check.specs.Inner.Environment.{AreNodes}
use Rattle.cd_check.specs.Inner.FunctionNames.{function_names}
use Rattle.cd_check.specs.Inner.Promises.{IsPromised}
use Rattle.cd_check.specs.Inner.Ready.{scope_of}
use Rattle.cd_check.proofs.FunctionsPromised.{nodes_declared, wholes_below, whole_of, first_promised, have_arrows, all_sound, checked_typed}
use Rattle.cd_check.proofs.ProgramFails.{functions_fail, main_fails}
use Rattle.cd_check.proofs.ProgramReady.{promised_in, first_of_promised, extends_later}
use Rattle.cd_check.proofs.ReadyLater.{later_of, promised_later}
use Rattle.cd_check.proofs.program.check_types.Goals as goal
use Rattle.cd_check.proofs.program.check_types.Goals.{After-as_slice-2}

-- what the functions of the program promise, in the graph with the sites
promised : (c : After-as_slice-2) → AllOf (IsPromised (scope_of_program (program_in c.args.program.now)) (graph_of c.sites_of.new.world))
    (function_nodes c.args.program.now)
promised c =
    let program = c.args.program.now in
    let start = graph_of c.args.world.now in
    promised_later start (graph_of c.sites_of.new.world)
    (later_of c.args.world.now c.sites_of.new.world c.in_ok-sites.ensures.grows c.in_ok-sites.ensures.sound)
    c.graph.ensures.sound (scope_of_program (program_in program)) (function_nodes program)
    (promised_in program c.requires.resolved start c.graph.ensures.built_in.0 c.graph.ensures.built_in.1 c.graph.ensures.sound c.requires.begins)

pub base_of-requires-clause-nodes : goal.base_of-requires-clause-nodes
base_of-requires-clause-nodes c =
    let program = c.args.program.now in
    let graph = graph_of c.sites_of.new.world in
    let first = c.declared_nodes-functions.ensures.first in
    nodes_declared graph c.in_ok-declared.declared c.as_slice-2.result.now
    (subst (λ (ids : List NodeId). AreNodes graph ids) (sym (c.as_slice-2.ensures.value ∙ c.in_ok-interfaces.ensures))
    (wholes_below (scope_of_program (program_in program)) graph c.declared_nodes-functions.result.now
    (first_of_promised program graph c.declared_nodes-functions.result.now first.0 first.1
    (promised c))))

pub base_of-requires-clause-patterns : goal.base_of-requires-clause-patterns
base_of-requires-clause-patterns c =
    ap (λ (all : List Sited). map sited_pattern all) c.as_slice.ensures.value ∙ c.in_ok-sites.ensures.patterns

pub base_of-requires-clause-sited : goal.base_of-requires-clause-sited
base_of-requires-clause-sited c = subst
    (λ (all : List Sited). AreSited (graph_of c.sites_of.new.world) (scope_of_program (program_in c.args.program.now)) all)
    (sym c.as_slice.ensures.value) c.in_ok-sites.ensures.sited

pub base_of-requires-clause-promised : goal.base_of-requires-clause-promised
base_of-requires-clause-promised c = promised c

-- what the check of functions goes by
same_names : (c : After-as_slice-2) (base : Base) → base.functions.now ≡ c.in_ok-declared.declared
    → base.functions.now ≡ function_names (program_in c.args.program.now).functions
same_names c base same = same ∙ c.in_ok-declared.ensures
    ∙ ap function_names (c.items.ensures ∙ ap (λ (program : Program). program.functions) c.program.ensures)

same_ids : (c : After-as_slice-2) (base : Base) → base.interfaces.now ≡ c.as_slice-2.result.now
    → base.interfaces.now ≡ map whole_of c.declared_nodes-functions.result.now
same_ids c base same = same ∙ c.as_slice-2.ensures.value ∙ c.in_ok-interfaces.ensures

first_ones : (c : After-as_slice-2) (base : Base) → base.resolved.now ≡ c.args.program.now → (graph : Graph)
    → AllOf (IsPromised (scope_of base) graph) (function_nodes base.resolved.now)
    → AllOf (IsPromised (scope_of base) graph) c.declared_nodes-functions.result.now
first_ones c base same graph all = first_promised base graph all c.args.program.now same
    c.declared_nodes-functions.result.now c.declared_nodes-functions.ensures.first.0 c.declared_nodes-functions.ensures.first.1

pub check_functions-requires-clause-promised : goal.check_functions-requires-clause-promised
check_functions-requires-clause-promised c =
    let base = c.in_ok-base in
    first_ones (goal.at.check_functions-requires-clause-promised c).After-as_slice-2 base.base base.ensures.resolved
    (graph_of c.base_of.new.world) base.ensures.ready.promised

pub check_functions-requires-clause-sound : goal.check_functions-requires-clause-sound
check_functions-requires-clause-sound c =
    let base = c.in_ok-base in
    let known = (goal.at.check_functions-requires-clause-sound c).After-as_slice-2 in
    all_sound (program_in c.args.program.now) base.base (ap program_in base.ensures.resolved) c.declared_nodes-functions.result.now
    c.declared_nodes-functions.ensures.functions (same_names known base.base base.ensures.functions)
    (same_ids known base.base base.ensures.interfaces) c.requires.resolved.well_made c.requires.resolved.sound

pub check_main-requires : goal.check_main-requires
check_main-requires c =
    let base = c.in_ok-base in
    let after = c.in_ok-check_functions.ensures.after in
    let last = graph_of c.check_functions.new.world in
    have_arrows (scope_of base.base) last after.ready.sound c.declared_nodes-functions.result.now
    (first_ones (goal.at.check_main-requires c).After-as_slice-2 base.base base.ensures.resolved last after.ready.promised)

pub returns-clause-typed : goal.returns-clause-typed
returns-clause-typed c =
    let base = c.in_ok-base in
    let ready = base.ensures.ready in
    let checked = c.in_ok-check_functions.ensures in
    let based = graph_of c.base_of.new.world in
    let known = (goal.at.returns-clause-typed c).After-as_slice-2 in
    checked_typed (program_in c.args.program.now) base.base (ap program_in base.ensures.resolved) c.declared_nodes-functions.result.now
    c.declared_nodes-functions.ensures.functions (same_names known base.base base.ensures.functions)
    (same_ids known base.base base.ensures.interfaces) c.requires.resolved.well_made based
    (graph_of c.check_functions.new.world) ready.more ready.begins ready.sound checked.after.later
    (first_ones known base.base base.ensures.resolved based ready.promised) checked.kept c.in_ok-check_main.ensures.main

-- a node of what each pattern takes, in the graph after the checks
pub matched_nodes-requires-clause-accepted : goal.matched_nodes-requires-clause-accepted
matched_nodes-requires-clause-accepted c =
    let program = program_in c.args.program.now in
    let scope = scope_of_program program in
    let sited = graph_of c.sites_of.new.world in
    let based = graph_of c.base_of.new.world in
    let last = graph_of c.check_functions.new.world in
    let sites = c.in_ok-sites.sites.items in
    let later = later_still sited based last
    (later_of c.sites_of.new.world c.base_of.new.world c.in_ok-base.ensures.grows c.in_ok-base.ensures.sound)
    c.in_ok-check_functions.ensures.after.later in
    subst (λ (graph : Graph). AreAccepted scope graph (all_patterns program) c.as_slice-4.result.now) (sym c.in_ok-check_main.ensures.graph)
    (subst (λ (ids : List NodeId). AreAccepted scope last (all_patterns program) ids)
    (sym (c.as_slice-4.ensures.value ∙ c.in_ok-accepted.ensures ∙ ap (λ (all : List Sited). map accepted_root all) c.as_slice-3.ensures.value))
    (subst (λ (patterns : List Tree). AreAccepted scope last patterns (map accepted_root sites)) c.in_ok-sites.ensures.patterns
    (all_accepted scope last sites (all_sited_later sited last later scope sites c.in_ok-sites.ensures.sited))))

pub returns-clause-checked : goal.returns-clause-checked
returns-clause-checked c = let program = program_in c.args.program.now in record {
  matched = c.in_ok-matched.ensures.matched;
  within = typed_within program (graph_of c.matched_nodes.new.world) c.in_ok-matched.matched.items c.in_ok-matched.ensures.matched
      (returns-clause-typed c);
}

pub returns-clause-begins : goal.returns-clause-begins
returns-clause-begins c =
    let start = graph_of c.args.world.now in
    let sited = graph_of c.sites_of.new.world in
    let based = graph_of c.base_of.new.world in
    let last = graph_of c.check_functions.new.world in
    extends_later c.args.program.now (graph_of c.check_main.new.world) (graph_of c.matched_nodes.new.world)
    (subst (λ (graph : Graph). Extends c.args.program.now graph) (sym c.in_ok-check_main.ensures.graph)
    (extends_later c.args.program.now start last c.requires.begins (later_still start sited last
    (later_of c.args.world.now c.sites_of.new.world c.in_ok-sites.ensures.grows c.in_ok-sites.ensures.sound)
    (later_still sited based last
    (later_of c.sites_of.new.world c.base_of.new.world c.in_ok-base.ensures.grows c.in_ok-base.ensures.sound)
    c.in_ok-check_functions.ensures.after.later))))
    (later_of c.check_main.new.world c.matched_nodes.new.world c.in_ok-matched.ensures.grows c.in_ok-matched.ensures.sound)

-- what the checks report is a fault of the program
pub returns-in_err-check_functions-clause-fault : goal.returns-in_err-check_functions-clause-fault
returns-in_err-check_functions-clause-fault c =
    let is = err_from_is_err_and c.from_residual-in_err-check_functions.result c.from_residual-in_err-check_functions.ensures.1 in
    let base = c.in_ok-base in
    let ready = base.ensures.ready in
    let based = graph_of c.base_of.new.world in
    let known = (goal.at.returns-in_err-check_functions-clause-fault c).After-as_slice-2 in
    rw (is.1, is.2) (functions_fail (program_in c.args.program.now) base.base (ap program_in base.ensures.resolved)
    c.declared_nodes-functions.result.now c.declared_nodes-functions.ensures.functions (same_names known base.base base.ensures.functions)
    (same_ids known base.base base.ensures.interfaces) c.requires.resolved.well_made based ready.more ready.begins ready.sound
    (first_ones known base.base base.ensures.resolved based ready.promised) (table_of c.check_functions.new.world)
    c.in_err-check_functions.field-0.0 c.in_err-check_functions.ensures.fault)

pub returns-in_err-check_main-clause-fault : goal.returns-in_err-check_main-clause-fault
returns-in_err-check_main-clause-fault c =
    let is = err_from_is_err_and c.from_residual-in_err-check_main.result c.from_residual-in_err-check_main.ensures.1 in
    let base = c.in_ok-base in
    let after = c.in_ok-check_functions.ensures.after in
    let last = graph_of c.check_functions.new.world in
    let known = (goal.at.returns-in_err-check_main-clause-fault c).After-as_slice-2 in
    rw (is.1, is.2) (main_fails (program_in c.args.program.now) base.base (ap program_in base.ensures.resolved)
    c.declared_nodes-functions.result.now c.declared_nodes-functions.ensures.functions (same_names known base.base base.ensures.functions)
    (same_ids known base.base base.ensures.interfaces) c.requires.resolved.well_made last after.ready.more after.ready.begins after.ready.sound
    (first_ones known base.base base.ensures.resolved last after.ready.promised) (table_of c.check_main.new.world)
    c.in_err-check_main.field-0.0 c.in_err-check_main.ensures.fault)

-- each step leaves a world that grew
pub returns-in_err-base-clause-grows : goal.returns-in_err-base-clause-grows
returns-in_err-base-clause-grows c = and_further c.args.world.now c.sites_of.new.world c.base_of.new.world c.sites_of.ensures.grows
    c.base_of.ensures.grows

pub returns-in_err-check_functions-clause-grows : goal.returns-in_err-check_functions-clause-grows
returns-in_err-check_functions-clause-grows c =
    let start = c.args.world.now in
    let first = and_further start c.sites_of.new.world c.base_of.new.world c.sites_of.ensures.grows c.base_of.ensures.grows in
    and_further start c.base_of.new.world c.check_functions.new.world first c.check_functions.ensures.after.grows

pub returns-in_err-check_main-clause-grows : goal.returns-in_err-check_main-clause-grows
returns-in_err-check_main-clause-grows c =
    let start = c.args.world.now in
    let first = and_further start c.sites_of.new.world c.base_of.new.world c.sites_of.ensures.grows c.base_of.ensures.grows in
    let second = and_further start c.base_of.new.world c.check_functions.new.world first c.check_functions.ensures.after.grows in
    and_further start c.check_functions.new.world c.check_main.new.world second c.check_main.ensures.grows

pub returns-in_err-accepted-clause-grows : goal.returns-in_err-accepted-clause-grows
returns-in_err-accepted-clause-grows c =
    let start = c.args.world.now in
    let first = and_further start c.sites_of.new.world c.base_of.new.world c.sites_of.ensures.grows c.base_of.ensures.grows in
    let second = and_further start c.base_of.new.world c.check_functions.new.world first c.check_functions.ensures.after.grows in
    and_further start c.check_functions.new.world c.check_main.new.world second c.check_main.ensures.grows

pub returns-in_err-matched-clause-grows : goal.returns-in_err-matched-clause-grows
returns-in_err-matched-clause-grows c =
    let start = c.args.world.now in
    let first = and_further start c.sites_of.new.world c.base_of.new.world c.sites_of.ensures.grows c.base_of.ensures.grows in
    let second = and_further start c.base_of.new.world c.check_functions.new.world first c.check_functions.ensures.after.grows in
    let third = and_further start c.check_functions.new.world c.check_main.new.world second c.check_main.ensures.grows in
    and_further start c.check_main.new.world c.matched_nodes.new.world third c.matched_nodes.ensures.grows

pub returns-clause-grows : goal.returns-clause-grows
returns-clause-grows c =
    let start = c.args.world.now in
    let first = and_further start c.sites_of.new.world c.base_of.new.world c.sites_of.ensures.grows c.base_of.ensures.grows in
    let second = and_further start c.base_of.new.world c.check_functions.new.world first c.check_functions.ensures.after.grows in
    let third = and_further start c.check_functions.new.world c.check_main.new.world second c.check_main.ensures.grows in
    and_further start c.check_main.new.world c.matched_nodes.new.world third c.matched_nodes.ensures.grows
