use Rattle.cd_model.specs.Formula as formula
use Rattle.cd_graph.specs.PlainFormula.{plain}
use Rattle.cd_meaning.specs.Sets.{elements_of}
use Rattle.cd_typing.specs.Results.{IsXmlOf}
use Rattle.cd_empty.specs.Seen.{graph_of}
use Rattle.cd_forms.proofs.PutHolds.{put_has, put_only}
use Rattle.cd_model.proofs.ReadHeads.{xml_holds}
use Rattle.cd_model.specs.Types.{no_closure}
use Rattle.cd_forms.proofs.xmls.xml.Goals as goal

pub returns-clause-has : goal.returns-clause-has
returns-clause-has c =
    let graph = graph_of c.args.world.now in
    put_has graph (graph_of c.put.new.world) (plain c.xml.result)
    (formula.Xml c.args.tag c.args.attributes c.args.content) c.xml.ensures c.put.result
    c.put.ensures.holds
    (IsXmlOf (elements_of graph c.args.tag) (elements_of graph c.args.attributes)
    (elements_of graph c.args.content))
    (λ e element is. (xml_holds graph no_closure c.args.tag c.args.attributes c.args.content e).1 is)

pub returns-clause-only : goal.returns-clause-only
returns-clause-only c =
    let graph = graph_of c.args.world.now in
    put_only graph (graph_of c.put.new.world) (plain c.xml.result)
    (formula.Xml c.args.tag c.args.attributes c.args.content) c.xml.ensures c.put.result
    c.put.ensures.holds
    (IsXmlOf (elements_of graph c.args.tag) (elements_of graph c.args.attributes)
    (elements_of graph c.args.content))
    (λ e element is. (xml_holds graph no_closure c.args.tag c.args.attributes c.args.content e).0 is)
