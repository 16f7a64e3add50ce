use Rattle.std.proofs.Common.{List, ◌++◌, drop}
use Rattle.cd_sets.specs.declared.question.Question.{Question}
use Rattle.cd_model.specs.Formula.{Graph}
use Rattle.cd_model.specs.Scope.{Scope}
use Rattle.cd_program.specs.PlainExpr.{plain_branches}
use Rattle.cd_typing.specs.Branches.{patterns_of}
use Rattle.cd_placed.specs.Patterns.{all_patterns}
use Rattle.cd_resolved.specs.Resolved.{program_of}
use Rattle.cd_matched.specs.Accepted.{AreAccepted}
use Rattle.cd_matched.specs.Inner.AsksTaken.{AskTaken}
use Rattle.cd_matched.proofs.BranchPatterns.{patterns_in}
use Rattle.cd_matched.proofs.matched.questions_of.Given as goal

-- with questions for the patterns that are left there are questions for all
abbrev pub invariant-loop-branch : goal.invariant-loop-branch
invariant-loop-branch l = (scope : Scope) (graph : Graph) → AreAccepted scope graph (all_patterns (program_of l.program)) l.accepted
    → (rest : List Question) → AskTaken scope graph (patterns_in (drop l.branch-index l.branch-items)) rest
    → AskTaken scope graph (patterns_of (plain_branches l.branches)) (l.questions.items ++ rest)
