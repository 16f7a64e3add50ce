use Rattle.std.proofs.Common.{subst, lit<}
use Rattle.std.proofs.lemmas.Result.{err_from_is_err_and}
use Rattle.cd_model.specs.BuiltIns.{RECORD}
use Rattle.cd_model.specs.Formula.{Graph}
use Rattle.cd_meaning.specs.Records.{IsRestOf}
use Rattle.cd_meaning.specs.Sets.{◌⊆◌, elements_of}
use Rattle.cd_typing.specs.Typ.{BuiltIn}
use Rattle.cd_typing.proofs.Subsets.{itself}
use Rattle.cd_empty.specs.Seen.{graph_of, table_of}
use Rattle.cd_operators.specs.declared.misfit.Side.TheVariants.{First}
use Rattle.cd_typing.specs.declared.rule.Rule.TheVariants as rule
use Rattle.cd_operators.proofs.BuiltInNodes.{in_type, type_in_node}
use Rattle.cd_operators.proofs.Refused.{misfit_before}
use Rattle.cd_operators.proofs.select.drop_field.Goals as goal

pub returns-in_err-need-clause-misfit : goal.returns-in_err-need-clause-misfit
returns-in_err-need-clause-misfit c =
    let graph = graph_of c.args.world.now in
    let is = err_from_is_err_and c.from_residual.result c.from_residual.ensures.1 in
    rw (is.1, is.2)
    (misfit_before graph graph (table_of c.need.new.world) First c.args.records
    (elements_of graph RECORD) (BuiltIn RECORD) rule.Record
    (itself (elements_of graph c.args.records))
    (type_in_node graph c.graph.ensures.built_in RECORD (lit< tt)) c.in_err-need.field-0.0
    c.in_err-need.ensures.misfit)

pub returns-clause-records : goal.returns-clause-records
returns-clause-records c =
    let graph = graph_of c.args.world.now in
    in_type graph c.graph.ensures.built_in RECORD (lit< tt) (elements_of graph c.args.records)
    c.in_ok-need.ensures.within

pub returns-clause-gives : goal.returns-clause-gives
returns-clause-gives c = subst (λ (g : Graph). IsRestOf c.args.label.now
    (elements_of g c.args.records)
    ⊆ elements_of (graph_of c.without.new.world) c.in_ok-without.field-0)
    c.in_ok-need.ensures.graph c.in_ok-without.ensures.has

pub returns-clause-only : goal.returns-clause-only
returns-clause-only c = subst (λ (g : Graph). elements_of (graph_of c.without.new.world) c.in_ok-without.field-0
    ⊆ IsRestOf c.args.label.now (elements_of g c.args.records))
    c.in_ok-need.ensures.graph c.in_ok-without.ensures.only
