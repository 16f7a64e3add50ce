-- A program is written exactly where its types and functions are.
use Rattle.std.proofs.Common.{refl, List}
use Rattle.cd_syntax.specs.TypeTree.{Declaration, declarations_of}
use Rattle.cd_syntax.specs.SyntaxFaults.{Form}
use Rattle.cd_program.specs.Expr.{FunctionTree}
use Rattle.cd_grammar.specs.declared.goal.Goal.TheVariants as goal
use Rattle.cd_grammar.specs.Parts as parts
use Rattle.cd_grammar.specs.Parts.{Part}
use Rattle.cd_grammar.specs.Forms.{AProgram}
use Rattle.cd_grammar.proofs.TokenFaults.{form}
use Rattle.cd_grammar.proofs.SameForms.{IsWithin}

-- the types and the functions of a program, and the part that they are
abbrev pub Declared : Type 0
Declared = List Declaration × List FunctionTree

abbrev pub declared_part : Declared → Part
declared_part both = parts.AProgram both.0 both.1

abbrev pub declared_form : Form
declared_form = form declared_part goal.ProgramText

pub declared_within : IsWithin declared_form AProgram
declared_within = record {
  writes = λ depth tokens writes. (
    record { types = declarations_of writes.0.0; functions = writes.0.1; end = 0 },
    (writes.0.0, refl, writes.1),
  );
  begins = λ depth tokens begins. begins;
}

pub program_within : IsWithin AProgram declared_form
program_within = record {
  writes = λ depth tokens writes. ((writes.1.0, writes.0.functions), writes.1.2);
  begins = λ depth tokens begins. begins;
}
