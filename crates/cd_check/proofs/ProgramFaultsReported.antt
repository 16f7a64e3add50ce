-- What the checks of the functions of a program report is a fault of the program.
use Rattle.std.proofs.Common.{◌≡◌, ◌++◌, ◌⊎◌, inl, inr, ap, sym, subst, ℕ, true, List, [], ◌∷◌, map, codes, Some, None, lit<}
use Rattle.std.proofs.lemmas.Bool.{true≢false}
use Rattle.std.proofs.lemmas.Slice.Eq.{bytes_eq-Decides}
use Rattle.cd_sets.specs.declared.node_id.NodeId.{NodeId}
use Rattle.cd_syntax.specs.TypeTree.{Declarations}
use Rattle.cd_model.specs.AllOf.{AllOf, AnyOf}
use Rattle.cd_model.specs.BuiltIns.{DATA, built_ins}
use Rattle.cd_model.specs.Formula.{Graph, IsGraph}
use Rattle.cd_model.specs.Thing.{Thing}
use Rattle.cd_program.specs.Expr.{FunctionTree, function, Program}
use Rattle.cd_program.specs.WellMade.{HasName}
use Rattle.cd_typing.specs.Interfaces.{Arrow, AreWritten}
use Rattle.cd_typing.specs.Typ.{In, Types}
use Rattle.cd_typing.specs.Typed.{AreDeclared}
use Rattle.cd_typing.specs.declared.rule.Rule.{Rule}
use Rattle.cd_typing.proofs.BuiltInSets.{built_in_within}
use Rattle.cd_least.specs.Faults.{FunctionFault}
use Rattle.cd_least.specs.ProgramFaults.{MainFault, ProgramFault}
use Rattle.cd_check.specs.declared.fault.CheckError.{CheckError}
use Rattle.cd_check.specs.Faults.{Reports}
use Rattle.cd_check.specs.Inner.Environment.{Nodes, AreOfTypes, declared}
use Rattle.cd_check.specs.Inner.FunctionNames.{function_names, begins_at, is_main}
use Rattle.cd_check.specs.Inner.Known.{Fails}
use Rattle.cd_check.specs.Inner.Programs.{ResultsFault}
use Rattle.cd_check.specs.Inner.Promises.{arrow_in, arrows_in}
use Rattle.cd_check.proofs.KnownTypes.{reports_more}
use Rattle.cd_check.proofs.OneOfAll.{any_more, any_where, any_of_map}
use Rattle.cd_check.proofs.ProgramTyped.{IsPromisedBy, types_by, of_types, all_declared}

-- of the function `main`
module _ (program : Program) (graph more : Graph) (begins : graph ≡ built_ins ++ more) where
  pub main_fault : (declarations : Declarations) → declarations ≡ program.types → (f : FunctionTree)
      → (arrows : List (NodeId × NodeId)) (whole : NodeId) → IsPromisedBy (declarations ∷ []) graph f arrows whole
      → is_main f ≡ true → (at : ℕ) (reported : Rule) (d : Thing)
      → ResultsFault graph (begins_at f) arrows at reported d → MainFault program f at reported d
  main_fault declarations same (function here None name_at interface branches) arrows whole promise main at reported d fault =
      absurd (true≢false (sym main))
  main_fault declarations same (function here (Some name) name_at interface branches) arrows whole promise main at reported d fault = (
    ap Some ((bytes_eq-Decides name (codes "main")).0 main),
    fault.1,
    fault.0,
    fault.2,
    λ inside. fault.3 (built_in_within graph more begins DATA (lit< tt) d fault.2 inside),
    arrows_in graph arrows,
    subst (λ (types : Declarations). AreWritten (types ∷ []) interface (arrows_in graph arrows)) same promise.written,
    any_of_map (arrow_in graph) (λ (arrow : Arrow). In arrow.result d) arrows fault.4,
  )

-- functions with arrows and types, however they are kept
module _ {P : Type 0} (function_of : P → FunctionTree) (arrows_of : P → List (NodeId × NodeId)) (whole_of : P → NodeId) (declarations : Declarations)
    (graph more : Graph) (begins : graph ≡ built_ins ++ more) (sound : IsGraph graph) (program : Program) (same : declarations ≡ program.types)
    (all : List P) (are : map function_of all ≡ program.functions) (named : AllOf (λ one. HasName (function_of one)) all)
    (promised : AllOf (λ one. IsPromisedBy (declarations ∷ []) graph (function_of one) (arrows_of one) (whole_of one)) all) where
  -- those of their interfaces
  abbrev their_types : Types
  their_types = types_by function_of arrows_of whole_of declarations graph more begins sound all

  abbrev OneFault : Declarations → (at : ℕ) → Rule → Thing → FunctionTree → Type 0
  OneFault types at reported d f = FunctionFault (types ∷ []) their_types f at reported d ⊎ MainFault program f at reported d

  one_reported : (at : ℕ) (reported : Rule) (d : Thing) → AnyOf (λ one. OneFault declarations at reported d (function_of one)) all
      → ProgramFault program at reported d
  one_reported at reported d any = (
    their_types,
    subst (λ types. AreDeclared (types ∷ []) program.functions their_types) same
        (subst (λ functions. AreDeclared (declarations ∷ []) functions their_types) are
        (all_declared function_of arrows_of whole_of declarations graph more begins sound all named promised)),
    subst (λ types. AnyOf (OneFault types at reported d) program.functions) same
        (subst (λ functions. AnyOf (OneFault declarations at reported d) functions) are
        (any_of_map function_of (OneFault declarations at reported d) all any)),
  )

  -- of one of the functions, whatever types the nodes of their names are of
  pub reported_by_functions : (nodes : Nodes) → nodes ≡ declared (function_names (map function_of all)) (map whole_of all) → (table : List Thing)
      → (error : CheckError)
      → Fails graph nodes table (λ types at reported d. AnyOf (λ one. FunctionFault (declarations ∷ []) types (function_of one) at reported d) all) error
      → Reports table (ProgramFault program) error
  reported_by_functions nodes are_nodes table = reports_more table
      (λ at reported d. (types : Types) → AreOfTypes graph nodes types
      → AnyOf (λ one. FunctionFault (declarations ∷ []) types (function_of one) at reported d) all)
      (ProgramFault program)
      (λ at reported d fault. one_reported at reported d (any_more (λ one. FunctionFault (declarations ∷ []) their_types (function_of one) at reported d)
      (λ one. OneFault declarations at reported d (function_of one)) (λ one is. inl is) all (fault their_types
      (subst (λ (known : Nodes). AreOfTypes graph known their_types) (sym are_nodes)
      (of_types function_of arrows_of whole_of declarations graph more begins sound all named)))))

  -- of `main`
  abbrev pub MainsResult : (at : ℕ) → Rule → Thing → Type 0
  MainsResult at reported d = AnyOf (λ one. (is_main (function_of one) ≡ true)
      × ResultsFault graph (begins_at (function_of one)) (arrows_of one) at reported d) all

  pub reported_by_main : (table : List Thing) (error : CheckError) → Reports table MainsResult error → Reports table (ProgramFault program) error
  reported_by_main table = reports_more table MainsResult (ProgramFault program)
      (λ at reported d any. one_reported at reported d (any_where
      (λ one. (is_main (function_of one) ≡ true) × ResultsFault graph (begins_at (function_of one)) (arrows_of one) at reported d)
      (λ one. IsPromisedBy (declarations ∷ []) graph (function_of one) (arrows_of one) (whole_of one))
      (λ one. OneFault declarations at reported d (function_of one))
      (λ one promise is. inr (main_fault program graph more begins declarations same (function_of one) (arrows_of one) (whole_of one) promise
      is.0 at reported d is.1)) all promised any))
