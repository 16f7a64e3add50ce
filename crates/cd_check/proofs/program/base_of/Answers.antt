use Rattle.std.proofs.Common.{ap, true, false, codes}
use Rattle.std.specs.Str.{chars}
use Rattle.cd_syntax.specs.Name.{Name}
use Rattle.cd_model.specs.Thing.{Atom}
use Rattle.cd_empty.specs.Seen.{graph_of}
use Rattle.cd_check.proofs.BaseReady.{base_ready, truth_of, true_characters, false_characters, true_label, false_label}
use Rattle.cd_check.proofs.ReadyLater.{later_of}
use Rattle.cd_check.proofs.program.base_of.Goals as goal

pub truth-requires : goal.truth-requires
truth-requires c = record { label = true_label }

pub truth-requires-2 : goal.truth-requires-2
truth-requires-2 c = record { label = false_label }

pub returns-clause-ready : goal.returns-clause-ready
returns-clause-ready c =
    let tools = c.in_ok-tools.ensures in
    let yes = c.in_ok-yes.ensures in
    let no = c.in_ok-no.ensures in
    base_ready _ (graph_of c.args.world.now) (graph_of c.put_tools.new.world) (graph_of c.truth.new.world) (graph_of c.truth-2.new.world)
    c.graph.ensures.sound (later_of c.args.world.now c.put_tools.new.world tools.grows tools.sound)
    (later_of c.put_tools.new.world c.truth.new.world yes.grows yes.sound)
    (later_of c.truth.new.world c.truth-2.new.world no.grows no.sound)
    c.graph.ensures.built_in.0 c.graph.ensures.built_in.1 c.requires.nodes c.requires.resolved c.requires.patterns
    c.requires.sited c.requires.promised tools.tools
    (truth_of (graph_of c.truth.new.world) true (chars (codes "true")) c.in_ok-yes.yes (ap (λ (name : Name). Atom name) true_characters)
    yes.node yes.atom)
    (truth_of (graph_of c.truth-2.new.world) false (chars (codes "false")) c.in_ok-no.no (ap (λ (name : Name). Atom name) false_characters)
    no.node no.atom)
