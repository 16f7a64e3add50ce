use Rattle.std.proofs.Common.{subst, lit<}
use Rattle.cd_model.specs.BuiltIns.{RECORD}
use Rattle.cd_model.specs.Formula.{Graph}
use Rattle.cd_meaning.specs.Sets.{◌⊆◌, elements_of}
use Rattle.cd_typing.specs.Typ.{BuiltIn}
use Rattle.cd_empty.specs.Seen.{graph_of, table_of}
use Rattle.cd_operators.specs.Misfits.{Misses}
use Rattle.cd_operators.proofs.BuiltInNodes.{in_type, type_in_node}
use Rattle.cd_operators.proofs.Outcomes.{nothing_found, something_found}
use Rattle.cd_operators.proofs.Refused.{not_within}
use Rattle.cd_operators.proofs.operators.are_records.Goals as goal

pub returns-in_ok-outside-in-None-clause-within : goal.returns-in_ok-outside-in-None-clause-within
returns-in_ok-outside-in-None-clause-within c are =
    let graph = graph_of c.args.world.now in
    let begins = c.graph.ensures.built_in in
    let second = nothing_found c.in_ok-outside-in-None.field-0 _ c.is_none.result c.is_none.ensures
    are c.in_ok-outside-in-None.ensures.found in (
      in_type graph begins RECORD (lit< tt) (elements_of graph c.args.first)
          (rw c.in-None.is at c.in_ok-outside.ensures.found),
      in_type graph begins RECORD (lit< tt) (elements_of graph c.args.second)
          (subst (λ (g : Graph). elements_of g c.args.second ⊆ elements_of g RECORD)
          c.in_ok-outside.ensures.graph second),
    )

-- what was found shows that not both are records
pub returns-in_ok-outside-in-None-clause-not_within : goal.returns-in_ok-outside-in-None-clause-not_within
returns-in_ok-outside-in-None-clause-not_within c is are =
    let graph = graph_of c.args.world.now in
    let table = table_of c.outside-in-None.new.world in
    let one = something_found _ c.in_ok-outside-in-None.field-0 _ c.is_none.result c.is_none.ensures is
    c.in_ok-outside-in-None.ensures.found in
    not_within graph table (elements_of graph RECORD) c.args.second one.0 (BuiltIn RECORD)
    (type_in_node graph c.graph.ensures.built_in RECORD (lit< tt))
    (subst (λ (g : Graph). Misses g table c.args.second (elements_of g RECORD) one.0)
    c.in_ok-outside.ensures.graph one.1) are.1

pub returns-in-Some-clause-not_within : goal.returns-in-Some-clause-not_within
returns-in-Some-clause-not_within c is are =
    let graph = graph_of c.args.world.now in
    not_within graph (table_of c.outside.new.world) (elements_of graph RECORD) c.args.first
    c.in-Some.field-0 (BuiltIn RECORD) (type_in_node graph c.graph.ensures.built_in RECORD (lit< tt))
    (rw c.in-Some.is at c.in_ok-outside.ensures.found) are.0
