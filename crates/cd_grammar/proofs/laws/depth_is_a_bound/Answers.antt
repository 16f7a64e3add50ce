use Rattle.cd_grammar.proofs.WrittenDeeper.{tree_deeper, declared_deeper, program_deeper}
use Rattle.cd_grammar.proofs.laws.depth_is_a_bound.Goals as goal

pub returns-clause-tree : goal.returns-clause-tree
returns-clause-tree c = tree_deeper

pub returns-clause-declared : goal.returns-clause-declared
returns-clause-declared c = declared_deeper

pub returns-clause-program : goal.returns-clause-program
returns-clause-program c = program_deeper
