-- Types, files of declarations and programs are forms, and what is answered of their entries says where their faults
-- are.
use Rattle.std.proofs.Common.{◌≡◌, ℕ, suc, List, ◌∷◌, map}
use Rattle.cd_syntax.specs.declared.tokens.Token.{Token}
use Rattle.cd_syntax.specs.TypeTree.{Tree, Declarations}
use Rattle.cd_syntax.specs.SyntaxFaults.{IsForm, place_of, IsSyntaxFault, IsDepthFault}
use Rattle.cd_lr.specs.Grammar.{Whole}
use Rattle.cd_lr.specs.Reading.{Syntax, TooDeep, IsAnswer}
use Rattle.cd_grammar.specs.declared.goal.Goal.TheVariants as goal
use Rattle.cd_grammar.specs.Parts.{ATree, AFile}
use Rattle.cd_grammar.specs.Language.{Entry, To, Read, Placed, cduce_grammar}
use Rattle.cd_grammar.specs.Forms.{AType, SomeDeclarations, AProgram}
use Rattle.cd_grammar.proofs.TextAnswers.{form_law, syntax_at, deep_at}
use Rattle.cd_grammar.proofs.SameForms.{same_form, same_syntax_fault, same_depth_fault}
use Rattle.cd_grammar.proofs.ProgramForm.{Declared, declared_part, declared_form, declared_within, program_within}
use Rattle.cd_grammar.proofs.WhatIsWritten.{whole_type, whole_file, whole_program}

-- what is written as a type is a tree, what is written as a file is one, and as a program types and functions
a_tree : (depth : ℕ) (rest : List Entry) (part : Placed) → Whole cduce_grammar depth (To goal.TypeText ∷ rest) part
    → (is : Tree) × (part.1 ≡ ATree is)
a_tree depth rest part = whole_type depth rest part.0 part.1

a_file : (depth : ℕ) (rest : List Entry) (part : Placed) → Whole cduce_grammar depth (To goal.TypeFile ∷ rest) part
    → (is : Declarations) × (part.1 ≡ AFile is)
a_file depth rest part = whole_file depth rest part.0 part.1

a_program : (depth : ℕ) (rest : List Entry) (part : Placed)
    → Whole cduce_grammar depth (To goal.ProgramText ∷ rest) part → (both : Declared) × (part.1 ≡ declared_part both)
a_program depth rest part derived =
    let (types, functions, same) = whole_program depth rest part.0 part.1 derived in ((types, functions), same)

pub type_form : IsForm AType
type_form = form_law ATree goal.TypeText a_tree

pub declarations_form : IsForm SomeDeclarations
declarations_form = form_law AFile goal.TypeFile a_file

pub program_form : IsForm AProgram
program_form =
    same_form declared_form AProgram declared_within program_within
    (form_law declared_part goal.ProgramText a_program)

-- a fault of syntax, and one of depth, of each form
module _ (most : ℕ) (tokens : List Token) (end index : ℕ) where
  pub type_syntax : IsAnswer cduce_grammar most (To goal.TypeText ∷ map Read tokens) (Syntax (suc index))
      → IsSyntaxFault AType most tokens end (place_of tokens end index)
  type_syntax = syntax_at ATree goal.TypeText a_tree most tokens end index

  pub type_depth : IsAnswer cduce_grammar most (To goal.TypeText ∷ map Read tokens) (TooDeep (suc index))
      → IsDepthFault AType most tokens end (place_of tokens end index)
  type_depth = deep_at ATree goal.TypeText a_tree most tokens end index

  pub declarations_syntax : IsAnswer cduce_grammar most (To goal.TypeFile ∷ map Read tokens) (Syntax (suc index))
      → IsSyntaxFault SomeDeclarations most tokens end (place_of tokens end index)
  declarations_syntax = syntax_at AFile goal.TypeFile a_file most tokens end index

  pub declarations_depth : IsAnswer cduce_grammar most (To goal.TypeFile ∷ map Read tokens) (TooDeep (suc index))
      → IsDepthFault SomeDeclarations most tokens end (place_of tokens end index)
  declarations_depth = deep_at AFile goal.TypeFile a_file most tokens end index

  pub program_syntax : IsAnswer cduce_grammar most (To goal.ProgramText ∷ map Read tokens) (Syntax (suc index))
      → IsSyntaxFault AProgram most tokens end (place_of tokens end index)
  program_syntax answer =
      same_syntax_fault declared_form AProgram declared_within program_within most tokens end
      (place_of tokens end index) (syntax_at declared_part goal.ProgramText a_program most tokens end index answer)

  pub program_depth : IsAnswer cduce_grammar most (To goal.ProgramText ∷ map Read tokens) (TooDeep (suc index))
      → IsDepthFault AProgram most tokens end (place_of tokens end index)
  program_depth answer =
      same_depth_fault declared_form AProgram declared_within program_within most tokens end
      (place_of tokens end index) (deep_at declared_part goal.ProgramText a_program most tokens end index answer)
