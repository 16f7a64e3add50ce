use Rattle.cd_sets.specs.declared.node_id.NodeId.{NodeId}
use Rattle.cd_kernel.proofs.RunsWhole.{runs_first}
use Rattle.cd_kernel.proofs.laws.automata_are_exact.Goals as goal

pub returns : goal.returns
returns c = λ test r things apart. runs_first NodeId test r things apart
