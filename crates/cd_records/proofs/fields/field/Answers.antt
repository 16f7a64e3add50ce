use Rattle.std.proofs.Common.{◌≡◌, [], List, length, map, ap, sym, subst, ◌∙◌}
use Rattle.std.proofs.lemmas.Result.{IfOk-weaker}
use Rattle.cd_sets.specs.declared.node_id.NodeId.{NodeId}
use Rattle.cd_sets.specs.declared.question.Question.{Question}
use Rattle.cd_model.specs.AllOf.{AllOf}
use Rattle.cd_model.specs.Formula.{Graph}
use Rattle.cd_needs.specs.RecordTypes.{plain_row}
use Rattle.cd_rules.specs.Family.{AsksNodes}
use Rattle.cd_rules.specs.Rows.{Row}
use Rattle.cd_builders.specs.Unions.{HoldsUnion}
use Rattle.cd_empty.specs.Seen.{graph_of}
use Rattle.cd_records.specs.Inner.Plain.{plain_questions}
use Rattle.cd_records.specs.Inner.Saying.{asked_by, with_questions}
use Rattle.cd_records.proofs.AskNodes.{asked_once_ask}
use Rattle.cd_records.proofs.FieldNodes.{has_field, only_field}
use Rattle.cd_records.proofs.fields.field.Goals.{In_ok-questions, After-union}
use Rattle.cd_records.proofs.fields.field.Goals as goal

abbrev rows_in : In_ok-questions → List Row
rows_in c = map plain_row c.in_ok-rows.rows.items

abbrev asked_in : In_ok-questions → List Question
asked_in c = with_questions (asked_by (rows_in c) c.args.label.now) []

-- what the rows ask at the label
are_asked : (c : In_ok-questions) → plain_questions c.add_asked.new.questions.items ≡ asked_in c
are_asked c = c.in_ok-add_asked.ensures
    ∙ (ap (λ rows. with_questions (asked_by (map plain_row rows) c.args.label.now)
    (plain_questions c.new-asked.result.items)) c.as_slice.ensures.value
    ∙ ap (λ questions. with_questions (asked_by (rows_in c) c.args.label.now)
    (plain_questions questions)) c.new-asked.ensures.items)

copied : (c : In_ok-questions) → c.in_ok-questions.questions.items ≡ asked_in c
copied c = c.in_ok-questions.ensures ∙ ap plain_questions c.as_slice-2.ensures.value ∙ are_asked c

pub union-requires : goal.union-requires
union-requires c =
    let at = (goal.at.union-requires c).In_ok-questions in
    subst (λ (g : Graph). AllOf (AsksNodes (length g)) c.as_slice-3.result.now)
    (sym c.in_ok-rows.ensures.graph)
    (subst (AllOf (AsksNodes (length (graph_of c.args.world.now))))
    (sym (c.as_slice-3.ensures.value ∙ copied at))
    (asked_once_ask (length (graph_of c.args.world.now)) (rows_in at) c.args.label.now
    c.in_ok-rows.ensures.asks))

-- the node for it
node_in : (c : After-union) (id : NodeId)
    → HoldsUnion (graph_of c.rows_of.new.world) c.as_slice-3.result.now
    (graph_of c.union.new.world) id
    → HoldsUnion (graph_of c.args.world.now) (asked_in (goal.at.After-union c).In_ok-questions)
    (graph_of c.union.new.world) id
node_in c id node =
    let at = (goal.at.After-union c).In_ok-questions in
    subst (λ (questions : List Question). HoldsUnion (graph_of c.args.world.now) questions
    (graph_of c.union.new.world) id) (c.as_slice-3.ensures.value ∙ copied at)
    (subst (λ (g : Graph). HoldsUnion g c.as_slice-3.result.now (graph_of c.union.new.world) id)
    c.in_ok-rows.ensures.graph node)

pub returns-clause-has : goal.returns-clause-has
returns-clause-has c =
    let end = (goal.at.returns-clause-has c).After-union in
    let at = (goal.at.After-union end).In_ok-questions in
    let known = c.graph.ensures in
    IfOk-weaker c.union.result _ _
    (λ id node. has_field (graph_of c.args.world.now) known.built_in.0 known.built_in.1
    c.args.records (rows_in at) c.in_ok-rows.ensures.rows c.args.label.now c.requires.label
    (graph_of c.union.new.world) id (node_in end id node)) c.union.ensures.union

pub returns-clause-only : goal.returns-clause-only
returns-clause-only c =
    let end = (goal.at.returns-clause-only c).After-union in
    let at = (goal.at.After-union end).In_ok-questions in
    let known = c.graph.ensures in
    IfOk-weaker c.union.result _ _
    (λ id node. only_field (graph_of c.args.world.now) known.built_in.0 known.built_in.1
    c.args.records (rows_in at) c.in_ok-rows.ensures.rows c.args.label.now c.requires.label
    (graph_of c.union.new.world) id (node_in end id node)) c.union.ensures.union
