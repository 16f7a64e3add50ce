-- An accepted program is safe: on a document in the argument of an arrow of `main` its runs are never stuck, they end with data in the
-- result of the arrow, and they raise data alone.
use Rattle.std.proofs.Common.{◌≡◌, ℕ, true, List, [], ◌∷◌, inl, inr, Some, sym, subst, ◌∙◌, codes}
use Rattle.std.proofs.lemmas.Option.{same_Some}
use Rattle.cd_model.specs.AllOf.{AllOf, AnyOf}
use Rattle.cd_model.specs.BuiltIns.{DATA}
use Rattle.cd_model.specs.Interfaces.{Interfaces, value_in_written}
use Rattle.cd_model.specs.Scope.{Scope}
use Rattle.cd_model.specs.Thing.{Thing, Function, Closure, Fields, NoField, Pairs, IsElement}
use Rattle.cd_model.specs.Written.{Written, in_written}
use Rattle.cd_model.proofs.Closures.{data_are_elements}
use Rattle.cd_matching.specs.WrittenPattern.{in_scope}
use Rattle.cd_program.specs.Expr.{Signature, FunctionTree, Program}
use Rattle.cd_meaning.specs.Functions.{IsFunction, MapsInto, HasFunction, AllMapInto}
use Rattle.cd_meaning.specs.Sets.{◌⊆◌}
use Rattle.cd_typing.specs.Interfaces.{Arrow, IsWritten, AreWritten, IsIntersection}
use Rattle.cd_typing.specs.Kept.{Kept, Anything}
use Rattle.cd_typing.specs.Typ.{Typ, In, BuiltIn}
use Rattle.cd_typing.specs.Typed.{scope_of, IsTypedWithin}
use Rattle.cd_evaluation.specs.Code.{Code, place_of}
use Rattle.cd_evaluation.specs.Meaning.{calls}
use Rattle.cd_evaluation.specs.ProgramCode.{code_of}
use Rattle.cd_evaluation.specs.ProgramFunctions.{function_at, has_name}
use Rattle.cd_evaluation.specs.ProgramInterfaces.{interface_of, interfaces_of}
use Rattle.cd_evaluation.specs.Runs.{Result, Run, ticked}
use Rattle.cd_safety.specs.Accepted.{IsAccepted}
use Rattle.cd_safety.specs.ComesWithin.{KeepsTypes, ComesWithin, StaysWithin}
use Rattle.cd_safety.specs.SafeProgram.{IsDocument, IsMain, ComesTo, RunsSafely, IsSafeProgram}
use Rattle.cd_safety.specs.Sound.{data_type, IsGood, IsFine}
use Rattle.cd_safety.specs.ValueIn.{ValueIn, IsTypedValue}
use Rattle.cd_safety.specs.Ways.{Way, code_by}
use Rattle.cd_safety.proofs.DataInTypes.{data_is_good, data_stands, value_is_data}
use Rattle.cd_safety.proofs.FunctionsNamed.{of_named}
use Rattle.cd_safety.proofs.MainDeclared.{gives_data}
use Rattle.cd_safety.proofs.OperandsStandIn.{data_is_type}
use Rattle.cd_safety.proofs.ProgramGiven.{HasInterface, interface_is, IsDeclaredFunction, all_declared, declared_in}
use Rattle.cd_safety.proofs.ProgramGiven.{declared_good, safe_code}
use Rattle.cd_safety.proofs.SafeCalls.{calls_safe}
use Rattle.cd_safety.proofs.SafeParts.{SafeIn}
use Rattle.cd_safety.proofs.SafeNames.{Fact}
use Rattle.cd_safety.proofs.SafeRuns.{tick_safe}
use Rattle.cd_safety.proofs.StandInsAgree.{agree}
use Rattle.cd_safety.proofs.ValuesWithin.{value_within}

-- the arrow that is written by a signature, with a fact of each arrow
record HasArrowFor (scope : Scope) (fact : Arrow → Type 0) (signature : Signature) : Type 0 where
  arrow : Arrow
  takes : IsWritten scope signature.takes arrow.argument
  gives : IsWritten scope signature.gives arrow.result
  is : fact arrow

arrow_for : (scope : Scope) (fact : Arrow → Type 0) (signatures : List Signature) (arrows : List Arrow) → AreWritten scope signatures arrows
    → AllOf fact arrows → (signature : Signature) → AnyOf (λ one. one ≡ signature) signatures → HasArrowFor scope fact signature
arrow_for scope fact [] arrows are each signature none = absurd none
arrow_for scope fact (one ∷ signatures) [] are each signature among = absurd are
arrow_for scope fact (one ∷ signatures) (arrow ∷ arrows) are each signature (inl same) = record {
  arrow = arrow;
  takes = subst (λ s. IsWritten scope s.takes arrow.argument) same are.0;
  gives = subst (λ s. IsWritten scope s.gives arrow.result) same are.1;
  is = each.0;
}
arrow_for scope fact (one ∷ signatures) (arrow ∷ arrows) are each signature (inr later) =
    arrow_for scope fact signatures arrows are.2 each.1 signature later

-- all functions of an intersection of arrows map as each arrow says
module _ (arrows : List Arrow) (t : Typ) (is : IsIntersection arrows t) where
  abbrev AreMapped : Pairs → List Arrow → Type 0
  AreMapped pairs some = AllOf (λ arrow. MapsInto pairs (In arrow.argument) (In arrow.result)) some

  functions_alone : (e : Thing) → IsElement e → In t e → IsFunction e
  functions_alone e element inside = let found = is.within e element inside in subst IsFunction (sym found.1) tt

  in_arrows : (pairs : Pairs) → HasFunction (In t) pairs → AreMapped pairs arrows
  in_arrows pairs has =
      let found = is.within (Function pairs) has.0 has.1 in
      let same : found.0 ≡ pairs = let equal = found.1 in cc in
      subst (λ own. AreMapped own arrows) same found.2

  each_maps : (some : List Arrow) → ((pairs : Pairs) → HasFunction (In t) pairs → AreMapped pairs some)
      → AllOf (λ arrow. AllMapInto (In t) (In arrow.argument) (In arrow.result)) some
  each_maps [] maps = tt
  each_maps (arrow ∷ some) maps = (
    record { functions_alone = functions_alone; into = λ pairs has. (maps pairs has).0 },
    each_maps some (λ pairs has. (maps pairs has).1),
  )

module _ (program : Program) (accepted : IsAccepted program) (kept : Kept) (keeps : KeepsTypes kept)
    (typing : IsTypedWithin kept program) where
  abbrev scope : Scope
  scope = scope_of program

  abbrev code : Code
  code = code_of program

  abbrev interfaces : Interfaces
  interfaces = interfaces_of program

  abbrev fact : ℕ → Fields → Type 0
  fact = Fact kept scope code interfaces

  abbrev IsDeclared : FunctionTree → Type 0
  IsDeclared = IsDeclaredFunction program accepted kept typing

  -- `main` is declared
  main_is_declared : (main : FunctionTree) → IsMain program main
      → (has_name (codes "main") main ≡ true) × IsDeclared main
  main_is_declared main is =
      let known = of_named IsDeclared program.functions (all_declared program accepted kept typing)
      (codes "main") (place_of main) is.declared in
      let at_main = subst (λ at. function_at program at ≡ Some known.f)
      known.at_place known.is.good.found in
      let same : known.f ≡ main = same_Some known.f main (sym at_main ∙ is.found) in
      (subst (λ f. has_name (codes "main") f ≡ true) same known.has_its_name, subst IsDeclared same known.is)

  -- a value that is data is an element of each type that it is in
  data_in : (v : Thing) → IsTypedValue interfaces v → ValueIn interfaces data_type v → IsDocument v
  data_in v typed inside =
      let plain = value_is_data interfaces v typed.is_value inside in
      record { element = data_are_elements v typed.is_value plain; plain = plain }

  module _ (main : FunctionTree) (declared : IsDeclared main) (signature : Signature)
      (document : Thing) (is_document : IsDocument document)
      (inside : in_written document (in_scope scope signature.takes) true) where
    abbrev result_type : Written
    result_type = in_scope scope signature.gives

    abbrev Maps : Typ → Arrow → Type 0
    Maps self arrow = AllMapInto (In self) (In arrow.argument) (In arrow.result)

    module _ (own : HasInterface scope main declared.typed.0) (found : HasArrowFor scope (Maps declared.typed.0) signature)
        (of_data : HasArrowFor scope (λ arrow. In arrow.result ⊆ BuiltIn DATA) signature) where
      document_in : ValueIn interfaces found.arrow.argument document
      document_in = let t = found.arrow.argument in
          (agree t.graph interfaces document document (data_stands t.graph interfaces document is_document.plain) t.id true).1
          ((found.takes.1.elements document true is_document.element).1 inside)

      abbrev run : (units : ℕ) → Way → Run
      run units way = ticked (calls (code_by interfaces kept code way) units (Closure (place_of main) NoField) document)

      runs_are_safe : (units : ℕ) → SafeIn kept scope code interfaces found.arrow.result (run units)
      runs_are_safe units =
          let self = declared.typed.0 in
          let v = Closure (place_of main) NoField in
          tick_safe fact interfaces (ValueIn interfaces found.arrow.result)
          (calls_safe kept scope code interfaces (safe_code program accepted kept typing keeps) units self found.arrow.argument
          found.arrow.result (record {
            self_is = own.whole.is_type;
            s_is = found.takes.0;
            result_is = found.gives.0;
            all_map = found.is;
          }) v document (
            declared_good program accepted kept typing main declared,
            declared_in program accepted kept typing main declared self declared.typed.1,
          )
          (data_is_good fact interfaces document is_document.element is_document.plain, document_in))

      each_fine : (units : ℕ) (result : Result) → ComesTo program main document units result
          → IsFine fact interfaces (ValueIn interfaces found.arrow.result) result.outcome
      each_fine units result h = (runs_are_safe units).fine units result h

      output_is : (v : Thing) → IsGood fact interfaces v → ValueIn interfaces found.arrow.result v
          → IsDocument v × in_written v result_type true
      output_is v good v_in =
          let is_value = good.typed.is_value in
          let as_written : value_in_written interfaces v result_type true =
          (found.gives.1.values interfaces v true is_value).0 v_in in
          let r = of_data.arrow.result in
          let in_r : ValueIn interfaces r v = (of_data.gives.1.values interfaces v true is_value).1 as_written in
          let d = data_in v good.typed (value_within interfaces v good.typed r data_type of_data.gives.0 data_is_type of_data.is in_r) in (
            d,
            (of_data.gives.1.elements v true d.element).0
                ((agree r.graph interfaces v v (data_stands r.graph interfaces v d.plain) r.id true).0 in_r),
          )

      runs_safely : RunsSafely program main document result_type
      runs_safely = record {
        never_stuck = λ units result h stuck.
            subst (λ o. IsFine fact interfaces (ValueIn interfaces found.arrow.result) o) stuck (each_fine units result h);
        output = λ units result h v same.
            let fine = subst (λ o. IsFine fact interfaces (ValueIn interfaces found.arrow.result) o) same (each_fine units result h) in
            output_is v fine.0 fine.1;
        raised = λ units result h v same.
            let fine = subst (λ o. IsFine fact interfaces (ValueIn interfaces found.arrow.result) o) same (each_fine units result h) in
            data_in v fine.0.typed fine.1;
      }

      runs_within : (units : ℕ) (result : Result) → ComesTo program main document units result
          → ComesWithin kept program main document units result
      runs_within units result h = (runs_are_safe units).within units result h

      both : RunsSafely program main document result_type × ((units : ℕ) (result : Result) → ComesTo program main document units result
          → ComesWithin kept program main document units result)
      both = (runs_safely, runs_within)

  -- its runs are safe, and all that they come to they come to within what is kept
  each_run : (main : FunctionTree) → IsMain program main → (signature : Signature) → AnyOf (λ one. one ≡ signature) (interface_of main)
      → (document : Thing) → IsDocument document → in_written document (in_scope scope signature.takes) true
      → RunsSafely program main document (in_scope scope signature.gives)
      × ((units : ℕ) (result : Result) → ComesTo program main document units result → ComesWithin kept program main document units result)
  each_run main is signature among document is_document inside =
      let known = main_is_declared main is in
      let self = known.1.typed.0 in
      let own = interface_is scope main self known.1.typed.1 in
      let gives = gives_data scope main known.0 known.1.gives_data in
      both main known.1 signature document is_document inside own
      (arrow_for scope (Maps main known.1 signature document is_document inside self) (interface_of main) own.arrows own.are_written
      (each_maps own.arrows self own.whole own.arrows (in_arrows own.arrows self own.whole)) signature among)
      (arrow_for scope (λ arrow. In arrow.result ⊆ BuiltIn DATA) (interface_of main) gives.arrows gives.are_written gives.give_data
      signature among)

pub program_safe : (program : Program) → IsAccepted program → IsSafeProgram program
program_safe program accepted main is signature among document is_document inside =
    (each_run program accepted Anything tt accepted.typed main is signature among document is_document inside).0

pub stays_within : (kept : Kept) (program : Program) → KeepsTypes kept → IsAccepted program → IsTypedWithin kept program
    → StaysWithin kept program
stays_within kept program keeps accepted typing main is signature among document is_document inside =
    (each_run program accepted kept keeps typing main is signature among document is_document inside).1
