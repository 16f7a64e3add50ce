-- The node that a program has for a function holds just the functions in all arrows of its interface, in each graph that begins with the program's nodes.
use Rattle.std.proofs.Common.{◌≡◌, ◌<◌, List, [], ◌∷◌, ◌++◌, inl, inr, refl, sym, subst, map, length}
use Rattle.cd_syntax.specs.TypeTree.{Tree, Declarations}
use Rattle.cd_model.specs.AllOf.{AllOf}
use Rattle.cd_model.specs.BuiltIns.{built_ins}
use Rattle.cd_model.specs.Formula.{Graph}
use Rattle.cd_model.proofs.Ones.{each_weaker}
use Rattle.cd_program.specs.Expr.{Signature, FunctionTree, function}
use Rattle.cd_resolve.specs.Faults.{Fault, IsFaultOfType, IsFaultOfDeclarations}
use Rattle.cd_resolve.proofs.GuardedNames.{names_are_guarded}
use Rattle.cd_variables.specs.VariableFaults.{IsOneIn}
use Rattle.cd_names.specs.ProgramFaults.{arrow_types}
use Rattle.cd_typing.specs.Typed.{scope_of}
use Rattle.cd_evaluation.specs.ProgramInterfaces.{interface_of}
use Rattle.cd_resolved.specs.Resolved.{program_of, program_graph, function_nodes, function_of, HasNodes, IsResolved, Extends}
use Rattle.cd_resolved.specs.Inner.SoundInterfaces.{HasSoundInterface}
use Rattle.cd_resolved.specs.declared.function_nodes.FunctionNodes.{FunctionNodes}
use Rattle.cd_resolved.specs.declared.resolved.Resolved.{Resolved}
use Rattle.cd_resolved.proofs.GraphsGrow.{interfaces_grown}
use Rattle.cd_resolved.proofs.SoundParts.{sound_interfaces, declarations_sound}
use Rattle.cd_closures.specs.Inner.Wholes.{HasWhole}
use Rattle.cd_closures.proofs.WholesHold.{AreGuarded, meet_is_whole}

module _ (types : Declarations) where
  abbrev AreFaultless : List Tree → Type 0
  AreFaultless all = (t : Tree) (fault : Fault) → IsOneIn t all → IsFaultOfType types t fault → ⊥

  -- the names of types without a fault are guarded
  guarded : ((fault : Fault) → IsFaultOfDeclarations types fault → ⊥) → (interface : List Signature) → AreFaultless (arrow_types interface)
      → AreGuarded (types ∷ []) interface
  guarded none [] faultless = tt
  guarded none (one ∷ rest) faultless = (
    (
      names_are_guarded types none one.takes (λ fault is. faultless one.takes fault (inl refl) is),
      names_are_guarded types none one.gives (λ fault is. faultless one.gives fault (inr (inl refl)) is),
    ),
    guarded none rest (λ t fault is. faultless t fault (inr (inr is))),
  )

  interface_faultless : (f : FunctionTree) → HasSoundInterface types f → AreFaultless (arrow_types (interface_of f))
  interface_faultless (function at name name_at interface branches) is = is.sound

module _ (longer more : Graph) (begins : longer ≡ built_ins ++ more) (types : Declarations)
    (none : (fault : Fault) → IsFaultOfDeclarations types fault → ⊥) where
  one_whole : (one : FunctionNodes) → HasSoundInterface types (function_of one) → HasNodes (types ∷ []) longer one
      → HasWhole (types ∷ []) longer one
  one_whole one interface has = meet_is_whole (types ∷ []) longer more begins (interface_of (function_of one)) one.arrows.items
      (guarded types none (interface_of (function_of one)) (interface_faultless types (function_of one) interface))
      has.arrows_stand one.whole has.is_meet

  each_whole : (all : List FunctionNodes) → AllOf (HasSoundInterface types) (map function_of all)
      → AllOf (HasNodes (types ∷ []) longer) all → AllOf (HasWhole (types ∷ []) longer) all
  each_whole [] interfaces have = tt
  each_whole (one ∷ rest) interfaces have = (one_whole one interfaces.0 have.0, each_whole rest interfaces.1 have.1)

-- of the functions of a program
module _ (program : Resolved) (is : IsResolved program) (longer : Graph) (extends : Extends program longer) (more : Graph)
    (begins : longer ≡ built_ins ++ more) where
  pub wholes_of_program : AllOf (HasWhole (scope_of (program_of program)) longer) (function_nodes program)
  wholes_of_program = each_whole longer more begins (program_of program).types
      (declarations_sound (program_of program) is.well_made is.sound) (function_nodes program)
      (subst (AllOf (HasSoundInterface (program_of program).types)) (sym is.functions)
      (sound_interfaces (program_of program) is.well_made is.sound))
      (interfaces_grown (scope_of (program_of program)) (program_graph program) longer is.graph_sound extends (function_nodes program) is.interfaces)

  pub wholes_are_nodes : AllOf (λ one. one.whole.0 < length longer) (function_nodes program)
  wholes_are_nodes = each_weaker (HasWhole (scope_of (program_of program)) longer) (λ one. one.whole.0 < length longer)
      (λ one has. has.is_node) (function_nodes program) wholes_of_program
