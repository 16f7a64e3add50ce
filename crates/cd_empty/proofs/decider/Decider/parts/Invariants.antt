use Rattle.std.proofs.Common.{take}
use Rattle.cd_empty.specs.Inner.Looking.{HaveElements}
use Rattle.cd_empty.proofs.decider.Decider.parts.Given as goal

abbrev pub invariant-loop-question : goal.invariant-loop-question
invariant-loop-question l = HaveElements l.self l.ids.items (take l.question-index l.questions)
