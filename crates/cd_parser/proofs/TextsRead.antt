-- What is read of the tokens of a text, as what is said of them.
use Rattle.std.proofs.Common.{◌≡◌, ℕ, List, subst}
use Rattle.cd_syntax.specs.declared.tokens.Token.{Token}
use Rattle.cd_syntax.specs.SyntaxFaults.{place_of, IsSyntaxFault, IsDepthFault}
use Rattle.cd_syntax.specs.TypeTree.{Tree, Declaration, Declarations, declarations_of}
use Rattle.cd_program.specs.Expr.{FunctionTree, Program}
use Rattle.cd_lr.specs.Grammar.{Whole}
use Rattle.cd_lr.specs.Reading as answer
use Rattle.cd_lr.specs.Reading.{IsAnswer}
use Rattle.cd_grammar.specs.declared.goal.Goal.{Goal}
use Rattle.cd_grammar.specs.declared.goal.Goal.TheVariants as goal
use Rattle.cd_grammar.specs.Parts.{ATree, AFile, AProgram as APart}
use Rattle.cd_grammar.specs.Language.{Placed, cduce_grammar, Writes, IsTree, AreDeclared, IsProgram}
use Rattle.cd_grammar.specs.Forms.{AType, SomeDeclarations, AProgram}
use Rattle.cd_grammar.proofs.FormsOfTexts.{type_syntax, type_depth, declarations_syntax, declarations_depth}
use Rattle.cd_grammar.proofs.FormsOfTexts.{program_syntax, program_depth}
use Rattle.cd_grammar.proofs.WhatIsWritten.{writes_type, writes_file, writes_program}
use Rattle.cd_parser.specs.PlainParts.{plain_part}
use Rattle.cd_parser.specs.Reading.{entries, plain_answer, IsRead}
use Rattle.cd_parser.specs.declared.part.Part.{Part as CodePart}
use Rattle.cd_parser.specs.declared.reading.Reading.{Reading}
use Rattle.cd_parser.specs.declared.reading.Reading.TheVariants as reading

as_whole : (most : ℕ) (is : Goal) (tokens : List Token) (part : Placed) → IsAnswer cduce_grammar most (entries is tokens) (answer.Read part)
    → Whole cduce_grammar most (entries is tokens) part
as_whole most is tokens _ (answer.whole part whole) = whole

module _ (is : Goal) (tokens : List Token) (read : Reading CodePart) (so : IsRead plain_part is 1000 tokens read) where
  answered : (other : Reading CodePart) → read ≡ other → IsAnswer cduce_grammar 1000 (entries is tokens) (plain_answer plain_part so.0 other)
  answered other same = subst (λ one. IsAnswer cduce_grammar 1000 (entries is tokens) (plain_answer plain_part so.0 one)) same so.1

  -- the part that all of them write
  pub written : (part : CodePart) → read ≡ reading.Whole part → Writes is 1000 tokens (plain_part part)
  written part same = (so.0, as_whole 1000 is tokens (so.0, plain_part part) (answered (reading.Whole part) same))

module _ (tokens : List Token) (end : ℕ) (read : Reading CodePart) where
  pub type_read : (part : CodePart) → IsRead plain_part goal.TypeText 1000 tokens read → read ≡ reading.Whole part → (is : Tree) × (plain_part part ≡ ATree is)
  type_read part so same = writes_type 1000 tokens (plain_part part) (written goal.TypeText tokens read so part same)

  pub type_of : (part : CodePart) (is : Tree) → IsRead plain_part goal.TypeText 1000 tokens read → read ≡ reading.Whole part → ATree is ≡ plain_part part
      → IsTree 1000 tokens is
  type_of part is so same tree = rw tree (written goal.TypeText tokens read so part same)

  pub type_wrong : (index : ℕ) → IsRead plain_part goal.TypeText 1000 tokens read → read ≡ reading.Wrong index
      → IsSyntaxFault AType 1000 tokens end (place_of tokens end index)
  type_wrong index so same = type_syntax 1000 tokens end index (answered goal.TypeText tokens read so (reading.Wrong index) same)

  pub type_deep : (index : ℕ) → IsRead plain_part goal.TypeText 1000 tokens read → read ≡ reading.TooDeep index
      → IsDepthFault AType 1000 tokens end (place_of tokens end index)
  type_deep index so same = type_depth 1000 tokens end index (answered goal.TypeText tokens read so (reading.TooDeep index) same)

  pub file_read : (part : CodePart) → IsRead plain_part goal.TypeFile 1000 tokens read → read ≡ reading.Whole part
      → (is : Declarations) × (plain_part part ≡ AFile is)
  file_read part so same = writes_file 1000 tokens (plain_part part) (written goal.TypeFile tokens read so part same)

  pub file_of : (part : CodePart) (is : Declarations) → IsRead plain_part goal.TypeFile 1000 tokens read → read ≡ reading.Whole part → AFile is ≡ plain_part part
      → AreDeclared 1000 tokens is
  file_of part is so same file = rw file (written goal.TypeFile tokens read so part same)

  pub file_wrong : (index : ℕ) → IsRead plain_part goal.TypeFile 1000 tokens read → read ≡ reading.Wrong index
      → IsSyntaxFault SomeDeclarations 1000 tokens end (place_of tokens end index)
  file_wrong index so same = declarations_syntax 1000 tokens end index (answered goal.TypeFile tokens read so (reading.Wrong index) same)

  pub file_deep : (index : ℕ) → IsRead plain_part goal.TypeFile 1000 tokens read → read ≡ reading.TooDeep index
      → IsDepthFault SomeDeclarations 1000 tokens end (place_of tokens end index)
  file_deep index so same = declarations_depth 1000 tokens end index (answered goal.TypeFile tokens read so (reading.TooDeep index) same)

  pub program_read : (part : CodePart) → IsRead plain_part goal.ProgramText 1000 tokens read → read ≡ reading.Whole part
      → (types : List Declaration) × (functions : List FunctionTree) × (plain_part part ≡ APart types functions)
  program_read part so same =
      writes_program 1000 tokens (plain_part part) (written goal.ProgramText tokens read so part same)

  pub program_of : (part : CodePart) (types : List Declaration) (is : Program)
      → IsRead plain_part goal.ProgramText 1000 tokens read → read ≡ reading.Whole part → is.types ≡ declarations_of types
      → APart types is.functions ≡ plain_part part → IsProgram 1000 tokens is
  program_of part types is so same all program =
      (types, all, rw program (written goal.ProgramText tokens read so part same))

  pub program_wrong : (index : ℕ) → IsRead plain_part goal.ProgramText 1000 tokens read → read ≡ reading.Wrong index
      → IsSyntaxFault AProgram 1000 tokens end (place_of tokens end index)
  program_wrong index so same =
      program_syntax 1000 tokens end index (answered goal.ProgramText tokens read so (reading.Wrong index) same)

  pub program_deep : (index : ℕ) → IsRead plain_part goal.ProgramText 1000 tokens read → read ≡ reading.TooDeep index
      → IsDepthFault AProgram 1000 tokens end (place_of tokens end index)
  program_deep index so same =
      program_depth 1000 tokens end index (answered goal.ProgramText tokens read so (reading.TooDeep index) same)
