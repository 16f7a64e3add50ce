use Rattle.std.proofs.Common.{sym, subst, length}
use Rattle.cd_sets.specs.declared.question.Question.{Question}
use Rattle.cd_rules.specs.Family.{AsksNodes}
use Rattle.cd_empty.specs.Seen.{graph_of, table_of}
use Rattle.cd_verdicts.specs.Verdicts.{IsExact}
use Rattle.cd_products.specs.QuestionBoxes.{within_node}
use Rattle.cd_model.specs.BuiltIns.{NIL}
use Rattle.cd_forms.proofs.NilAsked.{nil_asks, nil_outside, nil_inside}
use Rattle.cd_forms.proofs.VerdictsRead.{none_there, one_there}
use Rattle.cd_forms.proofs.of_sequences.asking.has_nil.Goals as goal
use Rattle.cd_forms.proofs.of_sequences.asking.has_nil.Goals.{In_ok-decide}

pub decide-requires : goal.decide-requires
decide-requires c =
    let graph = graph_of c.args.world.now in
    subst (AsksNodes (length graph)) (sym c.in_ok-nil.ensures)
    (nil_asks graph c.graph.ensures.built_in c.args.question.now c.requires)

-- the verdict is exact for the question with `nil`
exact : (c : In_ok-decide) → IsExact (graph_of c.args.world.now) (table_of c.decide.new.self)
    (within_node NIL c.args.question.now) c.in_ok-decide.field-0
exact c = subst (λ (q : Question). IsExact (graph_of c.args.world.now)
    (table_of c.decide.new.self) q c.in_ok-decide.field-0) c.in_ok-nil.ensures
    c.in_ok-decide.ensures.exact

pub returns-in-Empty-clause-nil : goal.returns-in-Empty-clause-nil
returns-in-Empty-clause-nil c =
    let graph = graph_of c.args.world.now in
    nil_outside graph c.graph.ensures.built_in c.args.question.now
    (none_there graph (table_of c.decide.new.self) (within_node NIL c.args.question.now)
    c.in_ok-decide.field-0 (exact (goal.at.returns-in-Empty-clause-nil c).In_ok-decide)
    c.in-Empty.is)

pub returns-clause-nil : goal.returns-clause-nil
returns-clause-nil c =
    let graph = graph_of c.args.world.now in
    let one = one_there graph (table_of c.decide.new.self) (within_node NIL c.args.question.now)
    c.in_ok-decide.field-0 (exact (goal.at.returns-clause-nil c).In_ok-decide)
    c.in-Inhabited.field-0 c.in-Inhabited.is in
    nil_inside graph c.graph.ensures.built_in c.args.question.now one.0 one.1 one.2
