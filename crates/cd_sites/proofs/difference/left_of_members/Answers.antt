use Rattle.std.proofs.Common.{List, length, map, sym, subst, ap, ◌∙◌}
use Rattle.cd_model.specs.AllOf.{AllOf}
use Rattle.cd_model.specs.Formula as formula
use Rattle.cd_model.specs.Formula.{Graph, Formula, IsFormula, formulas_of}
use Rattle.cd_model.proofs.FormulasAmongMore.{are_formulas}
use Rattle.cd_graph.specs.PlainFormula.{plain, plain_list}
use Rattle.cd_empty.specs.Seen.{graph_of}
use Rattle.cd_sites.proofs.MembersLeft.{as_put}
use Rattle.cd_sites.proofs.RestsMade.{may_be_put}
use Rattle.cd_sites.proofs.difference.left_of_members.Goals as goal

pub extend-requires : goal.extend-requires
extend-requires c = may_be_put (length (graph_of c.args.world.now))
    (map plain c.args.members.items) (plain_list c.in_ok-of.field-0) c.in_ok-of.ensures
    c.requires.members

pub put-requires : goal.put-requires
put-requires c =
    let left = map plain c.in_ok-left.left.items in
    let after = graph_of c.left_of_each.new.world in
    subst (IsFormula (length after))
    (sym (c.or.ensures ∙ ap (λ (all : List Formula). formula.Or (formulas_of all))
    c.in_ok-of-2.ensures))
    (are_formulas (length after) left (subst (λ (g : Graph). AllOf (IsFormula (length g)) left)
    (sym c.in_ok-left.ensures.graph) c.in_ok-left.ensures.left.sound))

pub returns-clause-left : goal.returns-clause-left
returns-clause-left c =
    as_put (graph_of c.args.world.now) c.graph.ensures.sound c.args.other c.requires.other
    (map plain c.args.members.items) c.requires.members (graph_of c.extend.new.self)
    (plain_list c.in_ok-of.field-0) c.in_ok-first.ensures.added c.in_ok-of.ensures
    c.in_ok-first.ensures.sound c.in_ok-first.first.0 c.in_ok-first.ensures.first
    (map plain c.in_ok-left.left.items) c.in_ok-left.ensures.left
    (graph_of c.left_of_each.new.world) c.in_ok-left.ensures.graph (plain c.or.result)
    (c.or.ensures ∙ ap (λ (all : List Formula). formula.Or (formulas_of all))
    c.in_ok-of-2.ensures) (graph_of c.put.new.world) c.in_ok-put.ensures.added
    c.in_ok-put.field-0 c.in_ok-put.ensures.last
