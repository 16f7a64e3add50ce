use Rattle.std.proofs.Common.{List, subst, sym}
use Rattle.std.proofs.lemmas.Result.{IfOk-weaker}
use Rattle.cd_syntax.specs.PlainTree.{plain}
use Rattle.cd_graph.specs.Nodes.{nodes}
use Rattle.cd_matching.specs.PlainKernel.{plain_kernel}
use Rattle.cd_cells.specs.Cells.{thing_at}
use Rattle.cd_cells.specs.Table.{table, names}
use Rattle.cd_typing.specs.Typed.{scope_of}
use Rattle.cd_evaluation.specs.ProgramInterfaces.{interfaces_of}
use Rattle.cd_evaluation.specs.ProgramCode.{TakesAs}
use Rattle.cd_asking.proofs.Members.{at_index}
use Rattle.cd_resolved.specs.Resolved.{HasKernel}
use Rattle.cd_code.specs.Compiled.{program_of, env_of, if_taken}
use Rattle.cd_code.specs.Inner.Bindings.{all_named, AreBindingsOf, HaveLabels}
use Rattle.cd_code.specs.Inner.Taking.{TakesWith}
use Rattle.cd_code.specs.declared.binding.Binding.{Binding}
use Rattle.cd_code.proofs.CodeTakes.{code_takes}
use Rattle.cd_code.proofs.PatternsNumbered.{bindings_within, pattern_there, kernel_there, bindings_there}
use Rattle.cd_code.proofs.ReadyStays.{ready_after}
use Rattle.cd_code.proofs.code.Code.take.Goals as goal
use Rattle.cd_code.proofs.code.Code.take.Goals.{After-knows}

has_kernel : (c : After-knows) → HasKernel (scope_of (program_of c.args.self.now)) (nodes c.args.self.now.tests.graph) c.index-kernels-number.result
has_kernel c = kernel_there (names c.args.values.now) c.args.self.now c.requires.ready (plain c.args.pattern.now) c.pattern_number-number.result
    c.pattern_number-number.ensures c.kernels.result.now c.kernels.ensures c.index-kernels-number.result c.index-kernels-number.is

are_bindings : (c : After-knows) → AreBindingsOf (names c.args.values.now) c.index-kernels-number.result c.index-as_slice-number.result
are_bindings c = bindings_there (names c.args.values.now) c.args.self.now c.requires.ready (plain c.args.pattern.now) c.pattern_number-number.result
    c.pattern_number-number.ensures c.kernels.result.now c.kernels.ensures c.index-kernels-number.result c.index-kernels-number.is
    c.as_slice.result.now c.as_slice.ensures.value c.index-as_slice-number.result c.index-as_slice-number.is

pub bounds-as_slice-number : goal.bounds-as_slice-number
bounds-as_slice-number c = bindings_within (names c.args.values.now) c.args.self.now c.requires.ready (plain c.args.pattern.now)
    c.pattern_number-number.result c.pattern_number-number.ensures c.as_slice.result.now c.as_slice.ensures.value

pub take-requires-clause-kernel : goal.take-requires-clause-kernel
take-requires-clause-kernel c = (has_kernel (goal.at.take-requires-clause-kernel c).After-knows).sound

pub take-requires-clause-labels : goal.take-requires-clause-labels
take-requires-clause-labels c = subst (HaveLabels (names c.args.values.now)) (sym c.as_slice-2.ensures.value)
    (are_bindings (goal.at.take-requires-clause-labels c).After-knows).labels

pub returns-clause-taken : goal.returns-clause-taken
returns-clause-taken c =
    let before = (goal.at.returns-clause-taken c).After-knows in
    let program = program_of c.args.self.now in
    let graph = nodes c.args.self.now.tests.graph in
    let labels = names c.args.values.now in
    let one = c.index-kernels-number.result in
    let v = thing_at (table c.args.values.now) c.args.id.0 in
    let env = env_of c.take.new.values c.take.new.parts.items in
    IfOk-weaker c.take.result _ _
    (λ takes with. subst (λ pattern. TakesAs (interfaces_of program) (scope_of program) pattern v (if_taken takes env))
    (pattern_there labels c.args.self.now c.requires.ready (plain c.args.pattern.now) c.pattern_number-number.result
    c.pattern_number-number.ensures c.kernels.result.now c.kernels.ensures one c.index-kernels-number.is)
    (code_takes graph (interfaces_of program) c.args.self.now.tests.maps c.requires.ready.tested
    (scope_of program) labels one c.index-as_slice-number.result (has_kernel before) (are_bindings before) v
    (at_index _ (table c.args.values.now) c.args.id.0 _ c.knows.ensures.sound c.requires.value) takes env
    (subst (λ (all : List Binding). TakesWith graph c.args.self.now.tests.maps (plain_kernel one.kernel) v (all_named labels all) takes env)
    c.as_slice-2.ensures.value with)))
    c.take.ensures.taken

pub returns-clause-ready : goal.returns-clause-ready
returns-clause-ready c =
    ready_after c.args.values.now c.take.new.values c.args.self.now c.take.new.tests c.take.new.taker c.take.new.parts c.requires.ready
    c.take.ensures.grows c.take.ensures.graph c.take.ensures.maps c.take.ensures.knows
