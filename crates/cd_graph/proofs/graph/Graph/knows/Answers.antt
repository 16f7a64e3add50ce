use Rattle.cd_graph.proofs.Sound.{sound, begins, with_others}
use Rattle.cd_graph.proofs.graph.Graph.knows.Goals as goal

pub returns-clause-sound : goal.returns-clause-sound
returns-clause-sound c = sound _ c.args.self.now.sound

pub returns-clause-built_in : goal.returns-clause-built_in
returns-clause-built_in c = with_others _ (begins _ c.args.self.now.built_in)
