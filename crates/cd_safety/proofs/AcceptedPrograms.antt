-- A program with types, whose names have no fault, is accepted where the types of its patterns are nodes of a graph.
use Rattle.std.proofs.Common.{◌≡◌, List, [], ◌∷◌, inl, inr, refl}
use Rattle.cd_syntax.specs.Name.{Name}
use Rattle.cd_syntax.specs.TypeTree.{Tree, Declarations}
use Rattle.cd_model.specs.AllOf.{AllOf}
use Rattle.cd_model.specs.Guarded.{NamesAreGuarded}
use Rattle.cd_model.specs.Scope.{Scope}
use Rattle.cd_matching.specs.Variables.{binds}
use Rattle.cd_matching.specs.WrittenPattern.{in_scope, pattern_of}
use Rattle.cd_resolve.specs.Faults.{Fault, IsFaultOfType}
use Rattle.cd_resolve.proofs.GuardedNames.{names_are_guarded}
use Rattle.cd_variables.specs.Occurrences.{has, bound}
use Rattle.cd_program.specs.Expr.{Signature, FunctionTree, function, Program}
use Rattle.cd_program.specs.WellMade.{IsWellMadeProgram}
use Rattle.cd_names.specs.ProgramFaults as faults
use Rattle.cd_names.specs.ProgramFaults.{IsFaultOfPattern, IsFaultOfProgram, arrow_types, function_types}
use Rattle.cd_names.proofs.FreeOfFaults.{TypesAreFree}
use Rattle.cd_typing.specs.Typed.{IsTyped, scope_of}
use Rattle.cd_evaluation.specs.ProgramFunctions.{all_functions, PlacesDiffer}
use Rattle.cd_safety.specs.Accepted.{IsAccepted}
use Rattle.cd_safety.specs.GoodInterface.{HasGuardedInterface}
use Rattle.cd_safety.specs.KindsIn.{KindsOfFunction}
use Rattle.cd_safety.specs.PatternsIn.{EachOfFunction}
use Rattle.cd_safety.specs.PatternTypes.{IsTypedPattern}
use Rattle.cd_safety.specs.TypedClosure.{CapturesItsNames}
use Rattle.cd_safety.specs.WellWritten.{InRange, HasLabelsOnce, IsSoundKind}
use Rattle.cd_safety.proofs.KindsTogether.{of_functions as kinds_sound}
use Rattle.cd_safety.proofs.PartsShown.{IsShown, AreShown, of_functions}
use Rattle.cd_safety.proofs.SoundKinds.{labels_once, sound_kind}

-- what the law of captured names says
abbrev pub CapturedAreBound : Type 0
CapturedAreBound = (types : Declarations) (scope : Scope) (pattern : Tree)
    → ((fault : Fault) → IsFaultOfPattern types pattern fault → ⊥) → (name : Name)
    → binds (pattern_of scope pattern) name ≡ has (bound pattern) name

module _ (program : Program) (none : (fault : Fault) → IsFaultOfProgram program fault → ⊥) where
  abbrev scope : Scope
  scope = scope_of program

  -- no name in a type without a fault leads back to itself
  type_guarded : (t : Tree) → ((fault : Fault) → IsFaultOfType program.types t fault → ⊥) → NamesAreGuarded (in_scope scope t)
  type_guarded = names_are_guarded program.types
      (λ fault is. none fault (faults.IsFaultOfProgram.in_types fault is))

  arrows_guarded : (signatures : List Signature) → TypesAreFree program.types (arrow_types signatures)
      → AllOf (λ signature. NamesAreGuarded (in_scope scope signature.takes) × NamesAreGuarded (in_scope scope signature.gives))
      signatures
  arrows_guarded [] free = tt
  arrows_guarded (one ∷ rest) free = (
    (type_guarded one.takes (free one.takes (inl refl)), type_guarded one.gives (free one.gives (inr (inl refl)))),
    arrows_guarded rest (λ t is. free t (inr (inr is))),
  )

  interface_guarded : (f : FunctionTree) → TypesAreFree program.types (function_types f) → HasGuardedInterface scope f
  interface_guarded (function at name name_at interface branches) free = arrows_guarded interface free

  module _ (captured : CapturedAreBound) where
    shown : IsShown program.types HasLabelsOnce (CapturesItsNames scope) (HasGuardedInterface scope)
    shown = record {
      of_kind = labels_once program.types;
      of_pattern = captured program.types scope;
      of_function = interface_guarded;
    }

    parts_shown : IsWellMadeProgram program
        → AreShown program.types HasLabelsOnce (CapturesItsNames scope) (HasGuardedInterface scope)
        (AllOf (KindsOfFunction HasLabelsOnce) program.functions)
        (AllOf (EachOfFunction (CapturesItsNames scope)) program.functions) (all_functions program)
    parts_shown made = of_functions program.types HasLabelsOnce (CapturesItsNames scope) (HasGuardedInterface scope) shown
        (faults.all_functions program) program.functions made.1
        (λ f is fault has. none fault (faults.IsFaultOfProgram.in_function f fault is has))

    pub program_accepted : IsTyped program → IsWellMadeProgram program → AllOf (KindsOfFunction InRange) program.functions
        → PlacesDiffer (all_functions program) → AllOf (EachOfFunction (IsTypedPattern scope)) program.functions → IsAccepted program
    program_accepted typed made within places patterns = let parts = parts_shown made in record {
      typed = typed;
      well_made = made;
      kinds = kinds_sound InRange HasLabelsOnce IsSoundKind sound_kind program.functions within parts.kinds_are;
      patterns = patterns;
      names = parts.patterns_are;
      guarded = parts.functions_are;
      places = places;
    }
