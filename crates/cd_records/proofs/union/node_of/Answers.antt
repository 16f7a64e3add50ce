use Rattle.std.proofs.Common.{◌≡◌, List, length, map, sym, subst, ◌∙◌}
use Rattle.cd_sets.specs.declared.question.Question.{Question}
use Rattle.cd_model.specs.AllOf.{AllOf}
use Rattle.cd_builders.specs.Unions.{IsFormulaOfUnion}
use Rattle.cd_graph.specs.Nodes.{nodes}
use Rattle.cd_graph.specs.PlainFormula.{plain}
use Rattle.cd_rules.specs.Family.{AsksNodes}
use Rattle.cd_records.specs.Inner.Plain.{plain_questions}
use Rattle.cd_records.proofs.NodesStand.{adds_none}
use Rattle.cd_records.proofs.UnionNodes.{known_holds, union_put, adds_union}
use Rattle.cd_records.proofs.union.node_of.Goals as goal

-- a node that is there already
pub returns-in-Some-clause-holding : goal.returns-in-Some-clause-holding
returns-in-Some-clause-holding c =
    let known = c.knows.ensures in
    let graph = nodes c.args.graph.now in
    let asked = plain_questions c.args.questions.now in
    let same = c.as_slice.ensures.value ∙ c.in_ok-asked.ensures in
    known_holds graph known.built_in.0 known.built_in.1 known.sound
    (map plain c.args.batch.now.items) c.as_slice.result.now
    (subst (AllOf (AsksNodes (length graph))) (sym same) c.requires) c.in-Some.id
    c.in-Some.ensures asked same

pub returns-in-Some-clause-adds : goal.returns-in-Some-clause-adds
returns-in-Some-clause-adds c = adds_none (nodes c.args.graph.now)
    (map plain c.args.batch.now.items)

-- and a new one
pub union_formula-requires : goal.union_formula-requires
union_formula-requires c = subst (AllOf (AsksNodes (length (nodes c.args.graph.now))))
    (sym (c.as_slice-in-None.ensures.value ∙ c.in_ok-asked.ensures)) c.requires

pub returns-clause-holding : goal.returns-clause-holding
returns-clause-holding c =
    let graph = nodes c.args.graph.now in
    let union = plain c.in_ok-union-in-None.union in
    union_put graph c.knows.ensures.sound (map plain c.args.batch.now.items)
    (map plain c.put.new.batch.items) c.in_ok-put-in-None.field-0
    c.in_ok-put-in-None.ensures.number (plain_questions c.args.questions.now) union
    (subst (λ (all : List Question). IsFormulaOfUnion graph all union)
    (c.as_slice-in-None.ensures.value ∙ c.in_ok-asked.ensures) c.in_ok-union-in-None.ensures)
    c.in_ok-put-in-None.ensures.added
