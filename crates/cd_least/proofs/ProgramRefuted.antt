-- A program with a fault has no types.
use Rattle.std.proofs.Common.{◌≡◌, ◌⊎◌, inl, inr, sym, subst, ◌∙◌, ℕ, List, [], ◌∷◌, Some}
use Rattle.cd_syntax.specs.Name.{Name}
use Rattle.cd_model.specs.AllOf.{AllOf, AnyOf}
use Rattle.cd_model.specs.BuiltIns.{DATA}
use Rattle.cd_model.specs.Scope.{Scope}
use Rattle.cd_model.specs.Thing.{Thing, IsElement}
use Rattle.cd_program.specs.Expr.{FunctionTree, function, Function, Signature, Program}
use Rattle.cd_meaning.specs.Sets.{◌⊆◌}
use Rattle.cd_typing.specs.declared.rule.Rule.{Rule}
use Rattle.cd_typing.specs.Interfaces.{Arrow, AreWritten}
use Rattle.cd_typing.specs.Typ.{In, BuiltIn, Types, AreNarrower}
use Rattle.cd_typing.specs.Kept.{Anything}
use Rattle.cd_typing.specs.Typed.{scope_of, AreDeclared, HasOwnType, GivesData, IsTyped}
use Rattle.cd_typing.proofs.Narrowing.{below_itself, below_one, narrow_kind}
use Rattle.cd_least.specs.Faults.{FunctionFault}
use Rattle.cd_least.specs.ProgramFaults.{MainFault, ProgramFault}
use Rattle.cd_least.proofs.ArrowsAlike.{written_within, intersection_within}
use Rattle.cd_least.proofs.Refuted.{refuted_function}

module _ (scope : Scope) where
  -- a name that is declared has the same elements in any types of the interfaces
  declared_within : (functions : List FunctionTree) (types others : Types) → AreDeclared scope functions types
      → AreDeclared scope functions others → AreNarrower types others
  declared_within [] [] [] one other = below_itself []
  declared_within [] [] (last ∷ others) one other = absurd other
  declared_within [] (first ∷ types) others one other = absurd one
  declared_within (f ∷ functions) [] others one other = absurd (no_first f one)
    where
      no_first : (f : FunctionTree) → AreDeclared scope (f ∷ functions) [] → ⊥
      no_first (function at name name_at interface branches) none = none
  declared_within (f ∷ functions) (first ∷ types) [] one other = absurd (no_first f other)
    where
      no_first : (f : FunctionTree) → AreDeclared scope (f ∷ functions) [] → ⊥
      no_first (function at name name_at interface branches) none = none
  declared_within (function at name name_at interface branches ∷ functions) (first ∷ types) (last ∷ others) one other =
      subst (λ (label : Name). AreNarrower (first ∷ types) ((label, last.1) ∷ others)) (same first.0 last.0 (sym one.0 ∙ other.0))
      (below_one types others (declared_within functions types others one.2 other.2) first.0 first.1 last.1
      (intersection_within scope interface one.1.0 other.1.0 one.1.1 other.1.1 first.1 last.1 one.1.2 other.1.2))
    where
      same : (a b : Name) → Some a ≡ Some b → a ≡ b
      same a b is = cc

  -- an arrow's result is within data
  main_none : (signatures : List Signature) (arrows others : List Arrow) → AreWritten scope signatures arrows
      → AreWritten scope signatures others → (d : Thing) → IsElement d → (BuiltIn DATA d → ⊥)
      → AnyOf (λ arrow. In arrow.result d) arrows → AllOf (λ arrow. In arrow.result ⊆ BuiltIn DATA) others → ⊥
  main_none [] [] others one other d element outside among all = among
  main_none [] (first ∷ arrows) others one other d element outside among all = one
  main_none (signature ∷ signatures) [] others one other d element outside among all = one
  main_none (signature ∷ signatures) (first ∷ arrows) [] one other d element outside among all = other
  main_none (signature ∷ signatures) (first ∷ arrows) (last ∷ others) one other d element outside (inl inside) all =
      outside (all.0 d element (written_within scope signature.gives first.result last.result one.1 other.1 d element inside))
  main_none (signature ∷ signatures) (first ∷ arrows) (last ∷ others) one other d element outside (inr later) all =
      main_none signatures arrows others one.2 other.2 d element outside later all.1

module _ (program : Program) where
  functions_none : (types others : Types) → AreNarrower types others → (functions : List FunctionTree) (at : ℕ) (reported : Rule) (d : Thing)
      → AnyOf (λ f. FunctionFault (scope_of program) types f at reported d ⊎ MainFault program f at reported d) functions
      → AllOf (HasOwnType (scope_of program) Anything others) functions → AllOf (GivesData (scope_of program)) functions → ⊥
  functions_none types others below [] at reported d fault all data_all = fault
  functions_none types others below (f ∷ functions) at reported d (inl (inl fault)) all data_all =
      refuted_function (scope_of program) f types at reported d fault all.0.0
      (narrow_kind (scope_of program) (Function f) types others below all.0.0 all.0.2)
  functions_none types others below (function here name name_at interface branches ∷ functions) at reported d (inl (inr fault)) all data_all =
      let given = data_all.0 fault.0 in
      main_none (scope_of program) interface fault.5 given.0 fault.6 given.1 d fault.3 fault.4 fault.7 given.2
  functions_none types others below (f ∷ functions) at reported d (inr later) all data_all =
      functions_none types others below functions at reported d later all.1 data_all.1

  pub program_refuted : (at : ℕ) (reported : Rule) (d : Thing) → ProgramFault program at reported d → IsTyped program → ⊥
  program_refuted at reported d fault typed =
      functions_none fault.0 typed.types
      (declared_within (scope_of program) program.functions fault.0 typed.types fault.1 typed.declared)
      program.functions at reported d fault.2 typed.functions typed.main
