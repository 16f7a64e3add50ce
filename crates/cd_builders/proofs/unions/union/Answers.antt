use Rattle.cd_empty.specs.Seen.{graph_of}
use Rattle.cd_builders.proofs.UnionNodes.{union_by_form}
use Rattle.cd_builders.proofs.unions.union.Goals as goal

pub returns-in-Some-clause-union : goal.returns-in-Some-clause-union
returns-in-Some-clause-union c = union_by_form (graph_of c.args.world.now)
    c.graph.ensures.built_in.0 c.graph.ensures.built_in.1 c.args.questions.now c.requires
    c.in-Some.id c.in-Some.ensures
