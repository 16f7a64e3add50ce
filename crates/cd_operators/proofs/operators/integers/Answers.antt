use Rattle.std.proofs.Common.{lit<}
use Rattle.std.proofs.lemmas.Result.{IfErr-weaker}
use Rattle.cd_model.specs.BuiltIns.{INT}
use Rattle.cd_meaning.specs.Sets.{elements_of}
use Rattle.cd_typing.specs.Typ.{BuiltIn}
use Rattle.cd_typing.specs.declared.rule.Rule.TheVariants as rule
use Rattle.cd_empty.specs.Seen.{graph_of, table_of}
use Rattle.cd_operators.proofs.BuiltInNodes.{type_in_node, node_in_type}
use Rattle.cd_operators.specs.Misfits.{IsMisfitOfBoth}
use Rattle.cd_operators.proofs.Refused.{misfit_of_both}
use Rattle.cd_operators.proofs.operators.integers.Goals as goal

pub returns-clause-misfit : goal.returns-clause-misfit
returns-clause-misfit c =
    let graph = graph_of c.args.world.now in
    let table = table_of c.need_both.new.world in
    let begins = c.graph.ensures.built_in in
    let first = c.args.first in
    let second = c.args.second in
    IfErr-weaker c.need_both.result
    (IsMisfitOfBoth graph table first second (elements_of graph INT) rule.Operand)
    (IsMisfitOfBoth graph table first second (BuiltIn INT) rule.Operand)
    (misfit_of_both graph table (elements_of graph INT) first second (BuiltIn INT) rule.Operand
    (type_in_node graph begins INT (lit< tt)) (node_in_type graph begins INT (lit< tt)))
    c.need_both.ensures.misfit
