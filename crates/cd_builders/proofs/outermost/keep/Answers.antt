use Rattle.std.proofs.Common.{◌∷◌, List, ap, subst, ◌∙◌}
use Rattle.cd_sets.specs.declared.question.Question.{Question}
use Rattle.cd_empty.specs.Seen.{graph_of}
use Rattle.cd_builders.specs.Inner.Outermost.{IsWithinOne}
use Rattle.cd_builders.proofs.OutermostQuestions.{is_left_out, is_put_first}
use Rattle.cd_builders.proofs.outermost.keep.Goals as goal

pub returns-then-branch-clause-kept : goal.returns-then-branch-clause-kept
returns-then-branch-clause-kept c =
    let graph = graph_of c.args.world.now in
    is_left_out graph c.args.question.now c.args.kept.now.items c.requires.kept
    (subst (λ (all : List Question). IsWithinOne graph c.args.question.now all)
    c.as_slice.ensures.value (c.in_ok-is_within_one.ensures.within c.if-branch.true))

pub returns-clause-kept : goal.returns-clause-kept
returns-clause-kept c = is_put_first (graph_of c.args.world.now) c.args.question.now
    c.args.kept.now.items c.insert.new.self.items c.requires.kept c.requires.question
    (c.in_ok-insert.ensures.items
    ∙ ap (λ (one : Question). one ∷ c.args.kept.now.items) c.in_ok-copy.ensures)
