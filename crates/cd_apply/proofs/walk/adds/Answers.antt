use Rattle.std.proofs.Common.{sym, ◌∙◌}
use Rattle.cd_empty.specs.Seen.{graph_of}
use Rattle.cd_apply.proofs.SubsumedQuestions.{is_subsuming}
use Rattle.cd_apply.proofs.WalkedArrows.{in_subsuming}
use Rattle.cd_apply.proofs.walk.adds.Goals as goal

pub returns-then-is_subsumed-clause-seen : goal.returns-then-is_subsumed-clause-seen
returns-then-is_subsumed-clause-seen c arrows to is =
    in_subsuming (graph_of c.args.world.now) c.args.results.now c.args.questions.now
    (is_subsuming c.args.results.now c.args.questions.now
    (sym c.is_subsumed.ensures ∙ c.if-is_subsumed.true)) to is.1
