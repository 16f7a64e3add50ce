use Rattle.std.proofs.Common.{length, sym, subst}
use Rattle.cd_rules.specs.Family.{AsksNodes}
use Rattle.cd_empty.specs.Seen.{graph_of, table_of}
use Rattle.cd_apply.proofs.QuestionsNarrowed.{without_asks, says_inside}
use Rattle.cd_apply.proofs.found.is_inside.Goals as goal

pub element_in-requires : goal.element_in-requires
element_in-requires c = let count = length (graph_of c.args.world.now) in
    subst (AsksNodes count) (sym c.in_ok-outside.ensures)
    (without_asks count c.args.id c.args.question.now c.requires.id c.requires.question)

pub returns-clause-inside : goal.returns-clause-inside
returns-clause-inside c = says_inside (graph_of c.args.world.now)
    (table_of c.element_in.new.world) c.args.id c.args.question.now c.in_ok-outside.outside
    c.in_ok-outside.ensures c.in_ok-element_in.field-0 c.is_none.result c.is_none.ensures
    c.in_ok-element_in.ensures.found
