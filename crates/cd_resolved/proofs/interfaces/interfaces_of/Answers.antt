use Rattle.std.proofs.Common.{[], ◌∷◌, ap}
use Rattle.cd_program.specs.PlainExpr.{plain_function}
use Rattle.cd_graph.specs.Nodes.{nodes}
use Rattle.cd_resolve.specs.Named.{plain_names, declared_by}
use Rattle.cd_resolved.specs.Resolved.{HasNodes, function_of}
use Rattle.cd_resolved.specs.Inner.PlainParts.{functions_of}
use Rattle.cd_resolved.specs.Inner.SoundInterfaces.{HasSoundInterface}
use Rattle.cd_resolved.proofs.GraphsGrow.{further, names_grown, interfaces_grown}
use Rattle.cd_resolved.proofs.PartsListed.{goes_on, next_has, one_more}
use Rattle.cd_resolved.proofs.interfaces.interfaces_of.Goals as goal

pub interface_of-requires-clause-interface : goal.interface_of-requires-clause-interface
interface_of-requires-clause-interface c = (next_has (λ f. plain_function f.now) c.args.functions.now c.loop-function.function-index
    c.function-item.result c.loop-function-test.true c.function-item.is (HasSoundInterface (declared_by c.args.names.now))
    c.loop-function.invariant.left).0

pub loop-function-preserved : goal.loop-function-preserved
loop-function-preserved c =
    let types = declared_by c.args.names.now in
    let functions = c.args.functions.now in
    let index = c.loop-function.function-index in
    let one = c.function-item.result in
    let before = c.loop-function.invariant in
    let made = c.in_ok-interface_of.ensures in
    let old = nodes c.loop-function.graph in
    let new = nodes c.interface_of.new.graph in record {
      interfaces = one_more (HasNodes (types ∷ []) new) c.loop-function.all.items c.push.new.self.items c.in_ok-interface_of.field-0
          c.in_ok-push.ensures.items
          (interfaces_grown (types ∷ []) old new before.sound made.grows c.loop-function.all.items before.interfaces) made.nodes;
      functions = goes_on (λ f. plain_function f.now) functions index one c.loop-function-test.true c.function-item.is function_of
          c.loop-function.all.items c.push.new.self.items c.in_ok-interface_of.field-0 c.in_ok-push.ensures.items
          (ap plain_function made.function) (functions_of functions) before.functions;
      left = (next_has (λ f. plain_function f.now) functions index one c.loop-function-test.true c.function-item.is
          (HasSoundInterface types) before.left).1;
      sound = made.sound;
      named = names_grown old new (plain_names c.args.names.now) before.sound made.grows before.named;
      grows = further (nodes c.args.graph.now) old new before.grows made.grows;
    }
