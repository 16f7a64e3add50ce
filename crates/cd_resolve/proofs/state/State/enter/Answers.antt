use Rattle.std.proofs.Common.{◌≡◌, ◌∙◌, ◌++◌, ap, ◌∷◌, [], None, length, arith}
use Rattle.std.specs.Option.{option_map}
use Rattle.std.proofs.lemmas.List.{map_push}
use Rattle.cd_syntax.specs.PlainTree.{plain_declarations}
use Rattle.cd_resolve.specs.Inner.Walk.{unread}
use Rattle.cd_shared.specs.Equation.{plain_equation, plain_equations}
use Rattle.cd_resolve.proofs.Entering.{enters_more, enters_all}
use Rattle.cd_resolve.proofs.state.State.enter.Goals as goal

-- one name more
pub loop-count-preserved : goal.loop-count-preserved
loop-count-preserved c = ap plain_equations c.in_ok-push.ensures.items
    ∙ map_push (option_map plain_equation) c.loop-count.self.equations.items None
    ∙ ap (λ s. s ++ None ∷ []) c.loop-count.invariant
    ∙ enters_more (plain_equations c.args.self.now.equations.items) c.loop-count._count

-- and in the end all
pub returns : goal.returns
returns c =
    let many : c.loop-count._count ≡ length c.items-count-end.result.now =
    omega (arith, c.loop-count.auto._count-end, c.loop-count-test.false) in
    c.loop-count.invariant ∙ ap (λ count. plain_equations c.args.self.now.equations.items ++ unread count) many
    ∙ enters_all (plain_equations c.args.self.now.equations.items) c.items-count-end.result.now
    (plain_declarations c.args.declarations.now) c.items-count-end.ensures
