use Rattle.std.proofs.lemmas.Result.{IfOk-weaker}
use Rattle.cd_graph.specs.Nodes.{nodes}
use Rattle.cd_normal.proofs.ClausesOfKinds.{sound, complete}
use Rattle.cd_normal.proofs.normal.clauses.Goals as goal

pub returns-clause-sound : goal.returns-clause-sound
returns-clause-sound c = IfOk-weaker c.clauses_by_kind.result _ _
    (λ clauses all. sound (nodes c.args.graph.now) c.args.question.now clauses.items all) c.clauses_by_kind.ensures

pub returns-clause-complete : goal.returns-clause-complete
returns-clause-complete c = IfOk-weaker c.clauses_by_kind.result _ _
    (λ clauses all. complete (nodes c.args.graph.now) c.args.question.now clauses.items all) c.clauses_by_kind.ensures
