use Rattle.std.proofs.Common.{List, sym, subst, length}
use Rattle.cd_sets.specs.declared.question.Question.{Question}
use Rattle.cd_model.specs.AllOf.{AllOf}
use Rattle.cd_model.specs.Formula.{Graph}
use Rattle.cd_program.specs.PlainExpr.{plain_branches}
use Rattle.cd_graph.specs.Nodes.{nodes}
use Rattle.cd_graph.specs.PlainFormula.{plain}
use Rattle.cd_rules.specs.Family.{AsksNodes}
use Rattle.cd_empty.specs.Seen.{graph_of}
use Rattle.cd_typing.specs.Branches.{patterns_of}
use Rattle.cd_typing.specs.Typed.{scope_of}
use Rattle.cd_placed.specs.Patterns.{all_patterns}
use Rattle.cd_resolved.specs.Resolved.{program_of}
use Rattle.cd_builders.specs.Unions.{IsFormulaOfUnion}
use Rattle.cd_matched.specs.Inner.AsksTaken.{AskTaken}
use Rattle.cd_matched.proofs.SitesMatched.{as_many, all_ask_nodes, union_matched}
use Rattle.cd_matched.proofs.matched.put_union.Goals as goal
use Rattle.cd_matched.proofs.matched.put_union.Goals.{After-as_slice}

pub questions_of-requires-clause-count : goal.questions_of-requires-clause-count
questions_of-requires-clause-count c = let program = program_of c.args.program.now in
    as_many (scope_of program) (graph_of c.args.world.now) (all_patterns program) c.args.accepted.now c.requires.accepted

-- what the questions ask for, in the graph at hand
asked : (c : After-as_slice) → AskTaken (scope_of (program_of c.args.program.now)) (nodes c.graph-2.result.now)
    (patterns_of (plain_branches c.args.branches.now)) c.as_slice.result.now
asked c = let scope = scope_of (program_of c.args.program.now) in
    let patterns = patterns_of (plain_branches c.args.branches.now) in
    subst (λ (all : List Question). AskTaken scope (nodes c.graph-2.result.now) patterns all) (sym c.as_slice.ensures.value)
    (subst (λ (graph : Graph). AskTaken scope graph patterns c.in_ok-questions.questions.items) (sym c.graph-2.ensures.graph)
    (c.in_ok-questions.ensures scope (graph_of c.args.world.now) c.requires.accepted))

pub union_formula-requires : goal.union_formula-requires
union_formula-requires c = all_ask_nodes (scope_of (program_of c.args.program.now)) (nodes c.graph-2.result.now)
    (patterns_of (plain_branches c.args.branches.now)) c.as_slice.result.now (asked c)

pub returns-clause-matched : goal.returns-clause-matched
returns-clause-matched c =
    let scope = scope_of (program_of c.args.program.now) in
    let world = graph_of c.args.world.now in
    let patterns = patterns_of (plain_branches c.args.branches.now) in
    let questions = c.as_slice.result.now in
    let known = (goal.at.returns-clause-matched c).After-as_slice in
    union_matched scope world patterns questions
    (subst (λ (graph : Graph). AskTaken scope graph patterns questions) c.graph-2.ensures.graph (asked known))
    (plain c.in_ok-formula.formula)
    (subst (λ (graph : Graph). IsFormulaOfUnion graph questions (plain c.in_ok-formula.formula)) c.graph-2.ensures.graph c.in_ok-formula.ensures)
    (graph_of c.put.new.world) c.in_ok-id.id c.in_ok-id.ensures.node c.in_ok-id.ensures.holds
