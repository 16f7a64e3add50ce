use Rattle.cd_asking.proofs.Cases.{no_parts}
use Rattle.cd_asking.proofs.step.ask_some.Goals as goal

pub answer_leaf-requires-clause-parts : goal.answer_leaf-requires-clause-parts
answer_leaf-requires-clause-parts c = no_parts c.look.result c.in_default.not-Pair c.in_default.not-Xml c.in_default.not-Record
