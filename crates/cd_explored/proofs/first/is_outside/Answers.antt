use Rattle.std.proofs.Common.{sym, subst, ◌∙◌}
use Rattle.std.proofs.lemmas.Result.{IfOk-weaker}
use Rattle.cd_empty.specs.Seen.{graph_of}
use Rattle.cd_explored.specs.Inner.Choices.{HasNothing}
use Rattle.cd_explored.proofs.ChoicesNarrowed.{untaken_narrowed, apart_narrowed}
use Rattle.cd_explored.proofs.first.is_outside.Goals as goal

-- nothing is taken
pub returns-then-not-contains-clause-outside : goal.returns-then-not-contains-clause-outside
returns-then-not-contains-clause-outside c =
    IfOk-weaker c.has_nothing.result _ _
    (λ answer none is. untaken_narrowed (graph_of c.args.world.now) c.args.choice.own c.args.choice.first
    c.args.choice.second c.requires.choice c.args.question.now c.requires.asks c.args.rest.now c.requires.rest
    c.graph.ensures.built_in.0 c.graph.ensures.built_in.1 c.args.taken.now c.requires.taken (none is))
    c.has_nothing.ensures.nothing

-- the two nodes have nothing in common
pub returns-then-branch-clause-outside : goal.returns-then-branch-clause-outside
returns-then-branch-clause-outside c = λ is.
    apart_narrowed (graph_of c.args.world.now) c.args.choice.own c.args.choice.first
    c.args.choice.second c.requires.choice c.args.question.now c.requires.asks c.args.rest.now
    c.requires.rest c.graph.ensures.built_in.0 c.graph.ensures.built_in.1
    (sym c.contains.ensures ∙ c.if-not-contains.false)
    ((rw c.if-branch.true at c.in_ok-are_apart.ensures.apart) is)

pub returns-clause-outside : goal.returns-clause-outside
returns-clause-outside c =
    IfOk-weaker c.has_nothing-2.result _ _
    (λ answer none is. untaken_narrowed (graph_of c.args.world.now) c.args.choice.own c.args.choice.first
    c.args.choice.second c.requires.choice c.args.question.now c.requires.asks c.args.rest.now c.requires.rest
    c.graph.ensures.built_in.0 c.graph.ensures.built_in.1 c.args.taken.now c.requires.taken
    (subst (λ g. HasNothing g c.args.taken.now) c.are_apart.ensures.graph (none is)))
    c.has_nothing-2.ensures.nothing
