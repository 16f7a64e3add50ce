use Rattle.std.proofs.Common.{true, sym, subst}
use Rattle.cd_graph.specs.Nodes.{nodes}
use Rattle.cd_model.specs.Membership.{asked, answers}
use Rattle.cd_model.specs.Thing.{Thing, IsElement}
use Rattle.cd_elements.specs.Elements.{table}
use Rattle.cd_normal.proofs.BasicsOfQuestions.{nothing_in}
use Rattle.cd_members.proofs.Basics.{shape_in}
use Rattle.cd_members.proofs.basic.basic_element.Goals as goal

-- the element is in the question
pub returns-in-Some-clause-found : goal.returns-in-Some-clause-found
returns-in-Some-clause-found c =
    let graph = nodes c.args.graph.now in
    let question = c.args.question.now in
    let exact = c.in_ok-sets.ensures in
    let is = shape_in graph question c.in_ok-sets.sets (exact.integers, exact.characters, exact.atoms) (table c.args.elements.now)
    c.in-Some.shape (rw c.in-Some.is at c.in_ok-shape.ensures) in
    let made = c.in_ok-make-in-Some.ensures.made in (
      made.0,
      subst IsElement (sym made.1) is.1,
      subst (λ (e : Thing). asked (answers graph e) question true) (sym made.1) is.2,
    )

-- there is none
pub returns-clause-found : goal.returns-clause-found
returns-clause-found c =
    let exact = c.in_ok-sets.ensures in
    nothing_in (nodes c.args.graph.now) c.args.question.now c.in_ok-sets.sets (exact.integers, exact.characters, exact.atoms)
    (rw c.in-None.is at c.in_ok-shape.ensures)
