use Rattle.std.proofs.Common.{lit<}
use Rattle.std.proofs.lemmas.Result.{err_from_is_err_and}
use Rattle.cd_model.specs.BuiltIns.{BOOL, DATA}
use Rattle.cd_meaning.specs.Sets.{elements_of}
use Rattle.cd_typing.specs.Typ.{BuiltIn, In}
use Rattle.cd_empty.specs.Seen.{graph_of, table_of}
use Rattle.cd_typing.specs.declared.rule.Rule.TheVariants as rule
use Rattle.cd_operators.proofs.BuiltInNodes.{in_type, type_in_node, type_stays}
use Rattle.cd_operators.proofs.BuiltInNodes.{node_in_type, node_within}
use Rattle.cd_operators.proofs.Refused.{misfit_of_both}
use Rattle.cd_operators.proofs.operators.compare.Goals as goal

pub returns-in_err-need_both-clause-misfit : goal.returns-in_err-need_both-clause-misfit
returns-in_err-need_both-clause-misfit c =
    let graph = graph_of c.args.world.now in
    let begins = c.graph.ensures.built_in in
    let is = err_from_is_err_and c.from_residual.result c.from_residual.ensures.1 in
    rw (is.1, is.2)
    (misfit_of_both graph (table_of c.need_both.new.world) (elements_of graph DATA) c.args.first
    c.args.second (BuiltIn DATA) rule.Comparison (type_in_node graph begins DATA (lit< tt))
    (node_in_type graph begins DATA (lit< tt)) c.in_err-need_both.field-0.0 c.in_err-need_both.ensures.misfit)

pub returns-clause-least : goal.returns-clause-least
returns-clause-least c =
    let graph = graph_of c.args.world.now in
    let begins = c.graph.ensures.built_in in record {
      gives = (
        in_type graph begins DATA (lit< tt) (elements_of graph c.args.first)
            c.in_ok-need_both.ensures.first,
        in_type graph begins DATA (lit< tt) (elements_of graph c.args.second)
            c.in_ok-need_both.ensures.second,
        type_stays graph begins BOOL (lit< tt) (graph_of c.need_both.new.world)
            c.in_ok-need_both.ensures.graph,
      );
      within = λ wider other result first second gives. node_within graph begins BOOL (lit< tt)
          (graph_of c.need_both.new.world) c.in_ok-need_both.ensures.graph (In result) gives.2;
    }
