-- What the tokens of a text write is well made.
use Rattle.std.proofs.Common.{sym, subst, ℕ, Bool, true, false, List, map}
use Rattle.cd_syntax.specs.declared.tokens.Token.{Token}
use Rattle.cd_syntax.specs.Tokens.{Lexes}
use Rattle.cd_syntax.specs.TypeTree.{Tree, Declaration, Declarations, declarations_of}
use Rattle.cd_syntax.specs.WellMade.{IsWellMade, AreWellMadeDeclarations}
use Rattle.cd_program.specs.Expr.{FunctionTree, Program}
use Rattle.cd_program.specs.WellMade.{IsWellMadeProgram, AreWellMadeFunctions}
use Rattle.cd_grammar.specs.declared.goal.Goal.{Goal}
use Rattle.cd_grammar.specs.declared.goal.Goal.TheVariants as goal
use Rattle.cd_grammar.specs.Parts.{Part, ATree, AFile, AProgram}
use Rattle.cd_grammar.specs.Language.{Read, Writes, IsTree, AreDeclared, IsProgram}
use Rattle.cd_grammar.proofs.Sorts.{OfTree, OfFile, OfProgram}
use Rattle.cd_grammar.proofs.SortedParts.{AreKept, TreesAreKept, Fits, one_tree, one_file, one_program}
use Rattle.cd_grammar.proofs.SortedWholes.{sort_of_goal, whole_fits}
use Rattle.cd_grammar.proofs.SpelledTokens.{tokens_are_proper}
use Rattle.cd_grammar.proofs.WellMadeFacts.{well_made}
use Rattle.cd_grammar.proofs.WellMadeTypes.{types_kept, declarations_made}
use Rattle.cd_grammar.proofs.WellMadePatterns.{pattern_trees_kept, patterns_kept}
use Rattle.cd_grammar.proofs.WellMadeExprs.{exprs_kept, hidden_kept, functions_made}

-- rules keep it
each_kept : (pattern : Bool) → TreesAreKept well_made pattern
each_kept false = types_kept
each_kept true = pattern_trees_kept

well_made_kept : AreKept well_made
well_made_kept = record {
  trees_kept = each_kept;
  patterns_kept = patterns_kept;
  exprs_kept = exprs_kept;
  hidden_kept = hidden_kept;
  file = declarations_made;
}

written_fits : (is : Goal) (source : List ℕ) (tokens : List Token) (depth : ℕ) (part : Part)
    → Lexes false 0 source tokens → Writes is depth tokens part → Fits well_made (sort_of_goal is) part
written_fits is source tokens depth part lexes written =
    whole_fits well_made well_made_kept is depth (map Read tokens) (written.0, part)
    (tokens_are_proper false 0 source tokens lexes) written.1

well_made_tree : (is : Tree) → Fits well_made (OfTree false) (ATree is) → IsWellMade is
well_made_tree is (one_tree _ so) = so

well_made_file : (is : Declarations) → Fits well_made OfFile (AFile is) → AreWellMadeDeclarations is
well_made_file is (one_file _ so) = so

well_made_program : (types : List Declaration) (functions : List FunctionTree)
    → Fits well_made OfProgram (AProgram types functions)
    → AreWellMadeDeclarations (declarations_of types) × AreWellMadeFunctions functions
well_made_program types functions (one_program _ _ are so) =
    (declarations_made types are, functions_made functions so)

-- a type that the tokens of a text write is well made
pub text_makes_type : (text : List ℕ) (tokens : List Token) (depth : ℕ) (is : Tree) → Lexes false 0 text tokens
    → IsTree depth tokens is → IsWellMade is
text_makes_type text tokens depth is lexes written =
    well_made_tree is (written_fits goal.TypeText text tokens depth (ATree is) lexes written)

-- and so are the declarations of a file
pub text_makes_declarations : (text : List ℕ) (tokens : List Token) (depth : ℕ) (declarations : Declarations)
    → Lexes false 0 text tokens
    → AreDeclared depth tokens declarations → AreWellMadeDeclarations declarations
text_makes_declarations text tokens depth declarations lexes written =
    well_made_file declarations (written_fits goal.TypeFile text tokens depth (AFile declarations) lexes written)

-- and so is a program
pub text_makes_program : (text : List ℕ) (tokens : List Token) (depth : ℕ) (program : Program)
    → Lexes false 0 text tokens → IsProgram depth tokens program → IsWellMadeProgram program
text_makes_program text tokens depth program lexes (types, same, written) =
    let part = AProgram types program.functions in
    let made = well_made_program types program.functions
    (written_fits goal.ProgramText text tokens depth part lexes written) in
    (subst AreWellMadeDeclarations (sym same) made.0, made.1)
