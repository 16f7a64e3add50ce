use Rattle.std.proofs.lemmas.Result.{IfOk-weaker}
use Rattle.cd_empty.specs.Seen.{graph_of}
use Rattle.cd_sites.proofs.LeftElements.{left, all_left}
use Rattle.cd_sites.proofs.remain.remaining.Goals as goal

pub returns-clause-left : goal.returns-clause-left
returns-clause-left c = IfOk-weaker c.difference.result _ _
    (λ id is_left. left (graph_of c.args.world.now) (graph_of c.difference.new.world)
    c.args.site.now c.args.matched id is_left) c.difference.ensures.difference

pub returns-clause-all_left : goal.returns-clause-all_left
returns-clause-all_left c = IfOk-weaker c.difference.result _ _
    (λ id is_left. all_left (graph_of c.args.world.now) (graph_of c.difference.new.world)
    c.args.site.now c.args.matched id is_left) c.difference.ensures.difference
