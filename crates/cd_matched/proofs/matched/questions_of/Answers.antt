use Rattle.std.proofs.Common.{◌++◌, ◌+◌, [], ◌∷◌, List, drop, append-nil, append_assoc, ap, sym, subst, ◌∙◌, arith}
use Rattle.std.proofs.lemmas.List.{at_drop_all}
use Rattle.cd_sets.specs.declared.question.Question.{Question}
use Rattle.cd_syntax.specs.TypeTree.{Tree}
use Rattle.cd_model.specs.AllOf.{AllOf}
use Rattle.cd_program.specs.Expr.{Branches}
use Rattle.cd_program.specs.PlainExpr.{plain_branch, plain_branches}
use Rattle.cd_typing.specs.Branches.{patterns_of}
use Rattle.cd_resolved.specs.Parts.{IsPatternOf}
use Rattle.cd_resolved.specs.Resolved.{program_of}
use Rattle.cd_matched.specs.Accepted.{IsAccepted}
use Rattle.cd_matched.specs.Inner.AsksTaken.{AskTaken}
use Rattle.cd_matched.proofs.BranchPatterns.{branch_pattern, patterns_in, pattern_in, patterns_left}
use Rattle.cd_matched.proofs.SitesMatched.{asks_taken}
use Rattle.cd_matched.proofs.matched.questions_of.Goals as goal

pub accepted_at-id-requires-clause-pattern : goal.accepted_at-id-requires-clause-pattern
accepted_at-id-requires-clause-pattern c = let program = program_of c.args.program.now in
    pattern_in (IsPatternOf program) c.items-branch-items.result.now c.loop-branch.branch-index c.branch-item.result c.branch-item.is
    c.loop-branch-test.true
    (subst (λ (branches : Branches). AllOf (IsPatternOf program) (patterns_of branches)) (sym c.items-branch-items.ensures) c.requires.patterns)

pub loop-branch-preserved : goal.loop-branch-preserved
loop-branch-preserved c = λ scope graph are rest ask.
    let items = c.items-branch-items.result.now in
    let index = c.loop-branch.branch-index in
    let one = c.branch-item.result in
    let asked = c.in_ok-question.field-0 in
    let questions = c.loop-branch.questions.items in
    let pattern = (plain_branch one).pattern in
    let left = patterns_in (drop (index + 1) items) in
    let here = asks_taken scope graph pattern c.accepted_at-id.result
    (subst (λ (tree : Tree). IsAccepted scope graph tree c.accepted_at-id.result) (sym (branch_pattern one))
    (c.accepted_at-id.ensures scope graph are)) asked c.in_ok-question.ensures in
    subst (λ (all : List Question). AskTaken scope graph (patterns_of (plain_branches c.args.branches.now)) all)
    (sym (ap (λ (all : List Question). all ++ rest) c.in_ok-push.ensures.items ∙ append_assoc questions (asked ∷ []) rest))
    (c.loop-branch.invariant scope graph are (asked ∷ rest)
    (subst (λ (patterns : List Tree). AskTaken scope graph patterns (asked ∷ rest))
    (sym (patterns_left items index one c.branch-item.is c.loop-branch-test.true)) (here, ask)))

pub returns : goal.returns
returns c = λ scope graph are.
    let items = c.items-branch-items.result.now in
    let index = c.loop-branch.branch-index in
    subst (λ (all : List Question). AskTaken scope graph (patterns_of (plain_branches c.args.branches.now)) all)
    (append-nil c.loop-branch.questions.items)
    (c.loop-branch.invariant scope graph are []
    (subst (λ (patterns : List Tree). AskTaken scope graph patterns [])
    (sym (at_drop_all patterns_in items index (omega (arith, c.loop-branch-test.false)))) tt))
