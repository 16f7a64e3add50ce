use Rattle.std.proofs.Common.{[], ◌∷◌, refl}
use Rattle.cd_syntax.specs.PlainTree.{plain as plain_tree}
use Rattle.cd_graph.specs.Nodes.{nodes}
use Rattle.cd_graph.specs.PlainFormula.{plain_list}
use Rattle.cd_resolve.specs.Named.{declared_by}
use Rattle.cd_matching.specs.PlainKernel.{plain_kernel}
use Rattle.cd_matching.specs.PlainPattern.{plain}
use Rattle.cd_resolved.proofs.KernelsMade.{is_kernel}
use Rattle.cd_resolved.proofs.pattern.kernel_of.Goals as goal

pub resolve_pattern-requires-clause-variables : goal.resolve_pattern-requires-clause-variables
resolve_pattern-requires-clause-variables c =
    c.sound_patterns_are_named.ensures (declared_by c.args.names.now) (declared_by c.args.names.now ∷ []) (plain_tree c.args.pattern.now)
    c.requires.pattern.sound

pub returns-clause-kernel : goal.returns-clause-kernel
returns-clause-kernel c =
    is_kernel (nodes c.args.graph.now) (nodes c.args.graph.now) (nodes c.extend.new.self)
    (plain_list c.in_ok-batch.batch.formulas) refl c.in_ok-extend.ensures.added
    (plain c.in_ok-batch.batch.pattern) (plain_kernel c.in_ok-kernel.kernel) c.knows.ensures.built_in c.in_ok-kernel.ensures.sound
    c.in_ok-batch.ensures.made (declared_by c.args.names.now ∷ []) (plain_tree c.args.pattern.now) c.in_ok-batch.ensures.resolved
    (c.sound_patterns_are_named.ensures (declared_by c.args.names.now) (declared_by c.args.names.now ∷ [])
    (plain_tree c.args.pattern.now) c.requires.pattern.sound)
    c.in_ok-kernel.ensures.takes
