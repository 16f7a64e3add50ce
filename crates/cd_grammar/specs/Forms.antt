-- The forms that texts may be of.
use Rattle.cd_syntax.specs.TypeTree.{Tree, Declarations}
use Rattle.cd_syntax.specs.SyntaxFaults.{Form}
use Rattle.cd_grammar.specs.declared.goal.Goal.TheVariants as goal
use Rattle.cd_program.specs.Expr.{Program}
use Rattle.cd_grammar.specs.Language.{IsTree, AreDeclared, IsProgram, Begins}

abbrev pub AType : Form
AType = record {
  Writes = λ depth tokens. (is : Tree) × IsTree depth tokens is;
  Begins = Begins goal.TypeText;
}

abbrev pub SomeDeclarations : Form
SomeDeclarations = record {
  Writes = λ depth tokens. (declarations : Declarations) × AreDeclared depth tokens declarations;
  Begins = Begins goal.TypeFile;
}

abbrev pub AProgram : Form
AProgram = record {
  Writes = λ depth tokens. (program : Program) × IsProgram depth tokens program;
  Begins = Begins goal.ProgramText;
}
