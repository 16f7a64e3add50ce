-- Runs in which each pattern is asked only of values that are in a type that is kept for it.
use Rattle.std.specs.Prelude.{◌≡◌, ℕ, true}
use Rattle.cd_syntax.specs.TypeTree.{Tree}
use Rattle.cd_model.specs.AllOf.{AllOf, AnyOf}
use Rattle.cd_model.specs.Interfaces.{Interfaces}
use Rattle.cd_model.specs.Thing.{Thing, Closure, NoField}
use Rattle.cd_model.specs.Written.{in_written}
use Rattle.cd_matching.specs.WrittenPattern.{in_scope}
use Rattle.cd_program.specs.Expr.{Signature, FunctionTree, Program}
use Rattle.cd_typing.specs.Kept.{Kept, Anything, Only}
use Rattle.cd_typing.specs.Typ.{IsType}
use Rattle.cd_typing.specs.Typed.{scope_of}
use Rattle.cd_evaluation.specs.Code.{Code, place_of}
use Rattle.cd_evaluation.specs.Meaning.{Meaning}
use Rattle.cd_evaluation.specs.ProgramCode.{code_of}
use Rattle.cd_evaluation.specs.ProgramInterfaces.{interface_of, interfaces_of}
use Rattle.cd_evaluation.specs.Runs.{Result}
use Rattle.cd_safety.specs.SafeProgram.{IsDocument, IsMain, ComesTo}
use Rattle.cd_safety.specs.ValueIn.{ValueIn}

-- all that is kept are types
abbrev pub KeepsTypes : Kept → Type 0
KeepsTypes Anything = Unit {0}
KeepsTypes (Only sites) = AllOf (λ site. IsType site.matched) sites

module _ (interfaces : Interfaces) where
  -- the value may come to the pattern: it is in a type that is kept for a match with this pattern
  abbrev pub IsExpected : Kept → (pattern : Tree) → Thing → Type 0
  IsExpected Anything pattern v = Unit {0}
  IsExpected (Only sites) pattern v = AnyOf (λ site.
      AnyOf (λ one. one ≡ pattern) site.patterns × ValueIn interfaces site.matched v) sites

  -- the same code, whose patterns answer only for values that are expected
  abbrev pub code_within : Kept → Code → Code
  code_within kept code = record {
    function = code.function;
    declared = code.declared;
    take = λ pattern v answer. IsExpected kept pattern v × code.take pattern v answer;
  }

-- what a program may come to on a document, with so many units, where its patterns answer only for
-- values that are expected
abbrev pub ComesWithin : Kept → Program → (main : FunctionTree) → (document : Thing) → ℕ → Result
    → Type 0
ComesWithin kept program main document units result =
    Meaning (code_within (interfaces_of program) kept (code_of program))
    (Closure (place_of main) NoField) document units result

-- All that a program comes to it comes to within what is kept: for each arrow that is written of
-- its function `main`, on each document in the argument of the arrow
abbrev pub StaysWithin : Kept → Program → Type 0
StaysWithin kept program = (main : FunctionTree) → IsMain program main
    → (signature : Signature) → AnyOf (λ one. one ≡ signature) (interface_of main)
    → (document : Thing) → IsDocument document
    → in_written document (in_scope (scope_of program) signature.takes) true
    → (units : ℕ) (result : Result) → ComesTo program main document units result
    → ComesWithin kept program main document units result
