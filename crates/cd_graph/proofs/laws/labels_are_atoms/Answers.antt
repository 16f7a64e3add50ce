use Rattle.cd_graph.proofs.Labels.{same_names, same_texts}
use Rattle.cd_graph.proofs.laws.labels_are_atoms.Goals as goal

pub returns-clause-same : goal.returns-clause-same
returns-clause-same c = same_names

pub returns-clause-texts : goal.returns-clause-texts
returns-clause-texts c = same_texts
