use Rattle.cd_grammar.proofs.OneReading.{one_tree, one_declared, one_program}
use Rattle.cd_grammar.proofs.laws.tree_is_one.Goals as goal

pub returns-clause-tree : goal.returns-clause-tree
returns-clause-tree c = one_tree

pub returns-clause-declared : goal.returns-clause-declared
returns-clause-declared c = one_declared

pub returns-clause-program : goal.returns-clause-program
returns-clause-program c = one_program
