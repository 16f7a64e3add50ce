use Rattle.std.proofs.Common.{◌≡◌, List, ◌∷◌, ap, ◌∙◌}
use Rattle.cd_graph.specs.PlainFormula.{plain}
use Rattle.cd_rules.specs.PartialConjuncts.{Partial, Signed, partial}
use Rattle.cd_normal.specs.Inner.PlainConjunct.{plain_conjunct}
use Rattle.cd_normal.specs.Inner.PlainKind.{plain_kind}
use Rattle.cd_normal.specs.Inner.PlainPartial.{signed, plain_left, plain_partial, plain_partials}
use Rattle.cd_normal.proofs.NextConjuncts.{top_goes_on}
use Rattle.cd_normal.proofs.Stacks.{top_put}
use Rattle.cd_normal.proofs.going_on.go_on_with.Goals as goal

-- the conjunct goes on by the formula that was taken off
pub returns : goal.returns
returns c =
    let top = c.args.top in
    let next = c.in-Some.next in
    let rest = plain_partials c.args.conjuncts.now.items in
    let before : List Signed → Partial = λ left. partial (plain_kind top.kind) (plain_conjunct top.conjunct.items) left in
    let left : plain_left top.left.items ≡ signed next ∷ plain_left c.pop.new.self.items =
    ap plain_left c.in-Some.ensures.items ∙ top_put signed c.pop.new.self.items next in
    top_goes_on (plain_partial top ∷ rest) rest (plain_partials c.meet.new.conjuncts.items) (before (plain_left c.pop.new.self.items))
    (plain next.formula.now) next.wanted (ap (λ left. before left ∷ rest) left) c.in_ok-meet-in-Some.ensures
