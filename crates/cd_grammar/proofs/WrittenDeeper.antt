-- What is written at a depth is written at each greater one.
use Rattle.std.proofs.Common.{ℕ, List, ◌∷◌, map}
use Rattle.std.specs.Prelude.{◌≤◌}
use Rattle.cd_syntax.specs.declared.tokens.Token.{Token}
use Rattle.cd_syntax.specs.TypeTree.{Tree, Declarations}
use Rattle.cd_program.specs.Expr.{Program}
use Rattle.cd_lr.specs.Grammar.{Nonterminal}
use Rattle.cd_lr.proofs.Depths.{deeper}
use Rattle.cd_grammar.specs.declared.goal.Goal.{Goal}
use Rattle.cd_grammar.specs.declared.goal.Goal.TheVariants as goal
use Rattle.cd_grammar.specs.Parts.{Part, ATree, AFile, AProgram}
use Rattle.cd_grammar.specs.Language.{To, Read, cduce_grammar, Writes, IsTree, AreDeclared, IsProgram}

pub written_deeper : (goal : Goal) (depth more : ℕ) (tokens : List Token) (part : Part) → depth ≤ more
    → Writes goal depth tokens part → Writes goal more tokens part
written_deeper goal depth more tokens part less (place, is) = (
  place,
  deeper cduce_grammar depth more (Nonterminal cduce_grammar.start) (To goal ∷ map Read tokens) (place, part) less is,
)

pub tree_deeper : (depth more : ℕ) (tokens : List Token) (is : Tree) → depth ≤ more → IsTree depth tokens is
    → IsTree more tokens is
tree_deeper depth more tokens is = written_deeper goal.TypeText depth more tokens (ATree is)

pub declared_deeper : (depth more : ℕ) (tokens : List Token) (declarations : Declarations) → depth ≤ more
    → AreDeclared depth tokens declarations → AreDeclared more tokens declarations
declared_deeper depth more tokens declarations = written_deeper goal.TypeFile depth more tokens (AFile declarations)

pub program_deeper : (depth more : ℕ) (tokens : List Token) (program : Program) → depth ≤ more
    → IsProgram depth tokens program → IsProgram more tokens program
program_deeper depth more tokens program less (types, same, writes) =
    (types, same, written_deeper goal.ProgramText depth more tokens (AProgram types program.functions) less writes)
