use Rattle.std.proofs.Common.{rules, List, length, sym, subst, ◌∙◌, arith}
use Rattle.std.proofs.lemmas.Result.{on_ok_weaker}
use Rattle.cd_sets.specs.declared.question.Question.{Question}
use Rattle.cd_rules.specs.Family.{AsksNodes}
use Rattle.cd_products.specs.QuestionBoxes.{within_node}
use Rattle.cd_empty.specs.Seen.{graph_of}
use Rattle.cd_empty.proofs.GrowingWorlds.{and_further}
use Rattle.cd_apply.specs.Inner.Found.{AddsResults, IsSeenToAdd}
use Rattle.cd_apply.proofs.QuestionsNarrowed.{within_asks, without_asks}
use Rattle.cd_apply.proofs.TakenThings.{first_and_rest, nothing_there}
use Rattle.cd_apply.proofs.WalkedArrows.{adds_nothing, rest_added, both_added}
use Rattle.cd_apply.proofs.walk.+walk.Goals as goal

pub walk-returns-then-not-branch-clause-exact : goal.walk-returns-then-not-branch-clause-exact
walk-returns-then-not-branch-clause-exact t c to =
    let graph = graph_of c.args.world.now in
    adds_nothing graph c.args.arguments.now c.args.results.now c.args.questions.now.items
    c.in_ok-adds.field-0
    (subst (λ (all : List Question).
    IsSeenToAdd graph c.args.arguments.now c.args.results.now all c.in_ok-adds.field-0)
    c.as_slice.ensures.value c.in_ok-adds.ensures.seen) c.if-not-branch.true c.args.arrows.now to

pub walk-returns-in_ok-push-in-empty-clause-exact
    : goal.walk-returns-in_ok-push-in-empty-clause-exact
walk-returns-in_ok-push-in-empty-clause-exact t c to =
    rest_added (graph_of c.args.world.now) c.args.arrows.now
    (nothing_there c.args.arrows.now (omega (arith, c.in-empty.len_below))) c.args.arguments.now
    c.args.results.now c.in_ok-adds.field-0 c.as_slice.result.now c.in_ok-adds.ensures.seen
    c.if-not-branch.false c.in_ok-copy-in-empty.field-0 c.in_ok-copy-in-empty.ensures
    c.args.questions.now.items c.push.new.self.items c.in_ok-push-in-empty.ensures.items to

pub walk-returns-in_ok-walk_beyond-in-len1-up-clause-exact
    : goal.walk-returns-in_ok-walk_beyond-in-len1-up-clause-exact
walk-returns-in_ok-walk_beyond-in-len1-up-clause-exact t c =
    let first = c.in_ok-adds.ensures.graph in
    let beyond = c.in_ok-walk_beyond-in-len1-up.ensures in
    on_ok_weaker c.walk_inside.result
    (λ inside. both_added (graph_of c.args.world.now) c.args.arrows.now _ _
    (first_and_rest c.args.arrows.now _ (omega (arith, c.in-len1-up.len_at_least)))
    c.args.arguments.now c.args.results.now (graph_of c.adds.new.world)
    (graph_of c.walk_beyond.new.world) first (beyond.graph ∙ first) c.args.questions.now.items
    c.walk_beyond.new.questions.items c.walk_inside.new.questions.items beyond.exact inside)
    c.walk_inside.ensures.exact

pub walk-returns-in_ok-walk_beyond-in-len1-up-clause-grows
    : goal.walk-returns-in_ok-walk_beyond-in-len1-up-clause-grows
walk-returns-in_ok-walk_beyond-in-len1-up-clause-grows t c =
    and_further _ _ _ c.in_ok-adds.ensures.grows
    (and_further _ _ _ c.in_ok-walk_beyond-in-len1-up.ensures.grows c.walk_inside.ensures.grows)

pub walk_beyond-walk-requires : goal.walk_beyond-walk-requires
walk_beyond-walk-requires t c =
    let count = length (graph_of c.args.world.now) in (
      search (rules, c.decreases),
      (
        c.requires.rest,
        (
          subst (AsksNodes count) (sym c.in_ok-outside.ensures)
              (without_asks count c.args.argument c.args.arguments.now c.requires.argument
              c.requires.arguments),
          (c.requires.results, c.requires.questions),
        ),
      ),
    )

pub walk_beyond-returns-clause-exact : goal.walk_beyond-returns-clause-exact
walk_beyond-returns-clause-exact t c = on_ok_weaker c.walk.result
    (λ adds. subst (λ (q : Question). AddsResults (graph_of c.args.world.now) q c.args.rest.now
    c.args.results.now c.args.questions.now.items c.walk.new.questions.items)
    c.in_ok-outside.ensures adds)
    c.walk.ensures.exact

pub walk_inside-walk-requires : goal.walk_inside-walk-requires
walk_inside-walk-requires t c =
    let count = length (graph_of c.args.world.now) in (
      search (rules, c.decreases),
      (
        c.requires.rest,
        (
          subst (AsksNodes count) (sym c.in_ok-inside.ensures)
              (within_asks count c.args.arrow.0 c.args.arguments.now c.requires.arrow.0
              c.requires.arguments),
          (
            subst (AsksNodes count) (sym c.in_ok-mapped.ensures)
                (within_asks count c.args.arrow.1 c.args.results.now c.requires.arrow.1
                c.requires.results),
            c.requires.questions,
          ),
        ),
      ),
    )

pub walk_inside-returns-clause-exact : goal.walk_inside-returns-clause-exact
walk_inside-returns-clause-exact t c =
    let graph = graph_of c.args.world.now in
    let before = c.args.questions.now.items in
    let after = c.walk.new.questions.items in
    on_ok_weaker c.walk.result
    (λ adds. subst (λ (q : Question). AddsResults graph q c.args.rest.now
    (within_node c.args.arrow.1 c.args.results.now) before after) c.in_ok-inside.ensures
    (subst (λ (q : Question). AddsResults graph c.in_ok-inside.inside c.args.rest.now q before
    after) c.in_ok-mapped.ensures adds))
    c.walk.ensures.exact
