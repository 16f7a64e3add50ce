use Rattle.std.proofs.Common.{length, sym, subst}
use Rattle.cd_rules.specs.Family.{AsksNodes}
use Rattle.cd_empty.specs.Seen.{graph_of, table_of}
use Rattle.cd_apply.proofs.QuestionsNarrowed.{within_asks, says_disjoint}
use Rattle.cd_apply.proofs.found.is_disjoint.Goals as goal

pub element_in-requires : goal.element_in-requires
element_in-requires c = let count = length (graph_of c.args.world.now) in
    subst (AsksNodes count) (sym c.in_ok-common.ensures)
    (within_asks count c.args.id c.args.question.now c.requires.id c.requires.question)

pub returns-clause-disjoint : goal.returns-clause-disjoint
returns-clause-disjoint c = says_disjoint (graph_of c.args.world.now)
    (table_of c.element_in.new.world) c.args.id c.args.question.now c.in_ok-common.common
    c.in_ok-common.ensures c.in_ok-element_in.field-0 c.is_none.result c.is_none.ensures
    c.in_ok-element_in.ensures.found
