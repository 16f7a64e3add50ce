use Rattle.std.proofs.Common.{List, length, Some, sym, subst, ap, ◌∙◌}
use Rattle.std.proofs.lemmas.Result.{IfOk-weaker}
use Rattle.cd_model.specs.AllOf.{AllOf}
use Rattle.cd_model.specs.Formula.{Graph, Formula, IsFormula, formula_at}
use Rattle.cd_graph.specs.PlainFormula.{plain}
use Rattle.cd_empty.specs.Seen.{graph_of}
use Rattle.cd_sites.specs.Inner.Differences.{IsRest, IsLeftOver}
use Rattle.cd_sites.specs.Inner.Members.{members_of}
use Rattle.cd_sites.proofs.DifferencesMade as made
use Rattle.cd_sites.proofs.MembersOfUnions.{members_sound}
use Rattle.cd_sites.proofs.difference.new_difference.Goals as goal

pub left_of_members-requires-clause-members : goal.left_of_members-requires-clause-members
left_of_members-requires-clause-members c =
    subst (AllOf (IsFormula (length (graph_of c.args.world.now)))) (sym c.in_ok-members.ensures)
    (members_sound (length (graph_of c.args.world.now)) (plain c.formula.result.now)
    (subst (λ (g : Graph). IsFormula (length g) (plain c.formula.result.now))
    c.graph.ensures.graph c.formula.ensures.sound))

pub returns-then-len-lt2-clause-difference : goal.returns-then-len-lt2-clause-difference
returns-then-len-lt2-clause-difference c =
    made.made (graph_of c.args.world.now) c.args.one c.args.other c.graph.ensures.sound
    (plain c.in_ok-formula.formula)
    (subst (λ (g : Graph). IsRest g c.args.one c.args.other (Some (plain c.in_ok-formula.formula)))
    c.graph-then-len-lt2.ensures.graph c.in_ok-formula.ensures) (graph_of c.put.new.world)
    c.in_ok-put.ensures.added c.in_ok-put.field-0 c.in_ok-put.ensures.last

pub returns-clause-difference : goal.returns-clause-difference
returns-clause-difference c =
    let old = graph_of c.args.world.now in
    IfOk-weaker c.left_of_members.result _ _
    (λ id left. made.of_members old c.args.one c.args.other (graph_of c.left_of_members.new.world)
    id (subst (λ (all : List Formula). IsLeftOver old all c.args.other
    (graph_of c.left_of_members.new.world) id)
    (c.in_ok-members.ensures ∙ ap members_of (c.formula.ensures.formula
    ∙ ap (λ (g : Graph). formula_at g c.args.one) c.graph.ensures.graph)) left))
    c.left_of_members.ensures.left
