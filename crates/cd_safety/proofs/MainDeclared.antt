-- A program with types, whose names have no fault, declares `main`, each of whose arrows gives data.
use Rattle.std.proofs.Common.{◌≡◌, Bool, true, false, ℕ, List, [], ◌∷◌, ◌⊎◌, inl, inr, Some, None, refl, sym, ap, ◌∙◌}
use Rattle.std.proofs.Common.{map, codes, bytes_eq, if◌then◌else◌}
use Rattle.std.proofs.lemmas.Bool.{true≢false, cases_Bool, or_cases}
use Rattle.std.proofs.lemmas.Slice.Eq.{bytes_eq-Decides}
use Rattle.cd_syntax.specs.Name.{Name}
use Rattle.cd_model.specs.AllOf.{AllOf}
use Rattle.cd_model.specs.Scope.{Scope}
use Rattle.cd_model.proofs.Covered.{each_parts}
use Rattle.cd_resolve.specs.Faults.{Fault}
use Rattle.cd_resolve.specs.declared.fault.NameFault.TheVariants.{NoMain}
use Rattle.cd_program.specs.Expr.{FunctionTree, function, Program}
use Rattle.cd_names.specs.ProgramFaults as faults
use Rattle.cd_names.specs.ProgramFaults.{IsFaultOfProgram, is_seen, declared_names}
use Rattle.cd_typing.specs.Typed.{IsTyped, scope_of, GivesData}
use Rattle.cd_evaluation.specs.Code.{place_of}
use Rattle.cd_evaluation.specs.ProgramFunctions.{all_functions, within_all, function_at, has_name, first_named, PlacesDiffer}
use Rattle.cd_evaluation.proofs.FunctionsFound.{functions_found}
use Rattle.cd_safety.specs.SafeProgram.{IsMain}
use Rattle.cd_safety.specs.TypedMain.{ArrowsGiveData}
use Rattle.cd_safety.proofs.FunctionsNamed.{of_named}

-- a function of the name `main` gives data
pub gives_data : (scope : Scope) (f : FunctionTree) → has_name (codes "main") f ≡ true → GivesData scope f → ArrowsGiveData scope f
gives_data scope (function at None name_at interface branches) has_its_name gives = absurd cc
gives_data scope (function at (Some own) name_at interface branches) has_its_name gives =
    let given = gives (ap Some ((bytes_eq-Decides own (codes "main")).0 has_its_name)) in
    record { arrows = given.0; are_written = given.1; give_data = given.2 }

-- a name that is declared is that of a function
named_first : (functions : List FunctionTree) (name : Name)
    → is_seen (map (λ occurrence. occurrence.name) (declared_names functions)) name ≡ true
    → (place : ℕ) × (first_named functions name ≡ Some place)
named_first [] name seen = absurd (true≢false (sym seen))
named_first (function at None name_at interface branches ∷ rest) name seen = named_first rest name seen
named_first (function at (Some own) name_at interface branches ∷ rest) name seen =
    by_name (bytes_eq own name) refl (named_first rest name)
  where
    by_name : (c : Bool) → bytes_eq own name ≡ c
        → (is_seen (map (λ occurrence. occurrence.name) (declared_names rest)) name ≡ true
        → (place : ℕ) × (first_named rest name ≡ Some place))
        → (place : ℕ) × ((if c then Some at else first_named rest name) ≡ Some place)
    by_name true same later = (at, refl)
    by_name false differ later = later (by_seen (or_cases (bytes_eq name own)
        (is_seen (map (λ occurrence. occurrence.name) (declared_names rest)) name) seen))
      where
        by_seen : (bytes_eq name own ≡ true)
            ⊎ (is_seen (map (λ occurrence. occurrence.name) (declared_names rest)) name ≡ true)
            → is_seen (map (λ occurrence. occurrence.name) (declared_names rest)) name ≡ true
        by_seen (inl here) = absurd (true≢false
            (sym ((bytes_eq-Decides own name).1 (sym ((bytes_eq-Decides name own).0 here))) ∙ differ))
        by_seen (inr there) = there

module _ (program : Program) (none : (fault : Fault) → IsFaultOfProgram program fault → ⊥) where
  main_is_seen : is_seen (faults.all_functions program) (codes "main") ≡ true
  main_is_seen = by_cases (cases_Bool (is_seen (faults.all_functions program) (codes "main")))
    where
      by_cases : (is_seen (faults.all_functions program) (codes "main") ≡ true)
          ⊎ (is_seen (faults.all_functions program) (codes "main") ≡ false)
          → is_seen (faults.all_functions program) (codes "main") ≡ true
      by_cases (inl seen) = seen
      by_cases (inr unseen) = absurd (none (record { fault = NoMain; name = []; at = program.end })
          (faults.IsFaultOfProgram.no_main unseen))

  -- what is known of each declared function
  record IsKnown (f : FunctionTree) : Type 0 where
    found : function_at program (place_of f) ≡ Some f
    gives : GivesData (scope_of program) f

  all_known : (functions : List FunctionTree) → AllOf (λ f. function_at program (place_of f) ≡ Some f) functions
      → AllOf (GivesData (scope_of program)) functions → AllOf IsKnown functions
  all_known [] found gives = tt
  all_known (f ∷ rest) found gives = (record { found = found.0; gives = gives.0 }, all_known rest found.1 gives.1)

  pub has_main : IsTyped program → PlacesDiffer (all_functions program)
      → (main : FunctionTree) × IsMain program main × ArrowsGiveData (scope_of program) main
  has_main typed places =
      let first = named_first program.functions (codes "main") main_is_seen in
      let found = each_parts (λ f. function_at program (place_of f) ≡ Some f) program.functions (within_all program.functions)
      (functions_found program places) in
      let known = of_named IsKnown program.functions (all_known program.functions found.0 typed.main) (codes "main") first.0 first.1 in (
        known.f,
        record { declared = first.1 ∙ sym (ap Some known.at_place); found = known.is.found },
        gives_data (scope_of program) known.f known.has_its_name known.is.gives,
      )
